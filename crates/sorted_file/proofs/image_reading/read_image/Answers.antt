use Rattle.std.proofs.Common.{ℕ, List, sym, ap, ◌∙◌, arith}
use Rattle.std.proofs.lemmas.Result.{err_from_is_err_and}
use Rattle.byte_fields.specs.Answers.{unread_of}
use Rattle.sorted_file.specs.Reading.{footer_at}
use Rattle.sorted_file.specs.declared.image_reading.Body.{Body}
use Rattle.sorted_file.specs.declared.image_reading.Contents.{Contents}
use Rattle.byte_fields.proofs.Fields.{IsBytes, all_bytes}
use Rattle.sorted_file.proofs.Opening.{refused, head_fault, head_is, body_refused, body_found, footer_fault, footer_found, IsTold, told}
use Rattle.sorted_file.proofs.image_reading.read_image.Goals as goal
use Rattle.sorted_file.proofs.image_reading.read_image.Goals.{In_ok-take_footer}

pub returns-in_err-version-clause-shape : goal.returns-in_err-version-clause-shape
returns-in_err-version-clause-shape c = refused _ c.from_residual.result c.in_err-version.field-0.0 _ c.from_residual.ensures.1 (head_fault c.args.bytes.now c.in_err-version.field-0.0 c.in_err-version.ensures)

pub take_body-requires-clause-few : goal.take_body-requires-clause-few
take_body-requires-clause-few c = (head_is c.args.bytes.now c.in_ok-version.version (unread_of c.in_ok-version.input) (λ i. omega (arith, c.type_inv.bytes i)) c.in_ok-version.ensures).0

pub take_body-requires-clause-bytes : goal.take_body-requires-clause-bytes
take_body-requires-clause-bytes c = all_bytes c.in_ok-version.input.rest.now (head_is c.args.bytes.now c.in_ok-version.version (unread_of c.in_ok-version.input) (λ i. omega (arith, c.type_inv.bytes i)) c.in_ok-version.ensures).1

pub returns-in_err-places-clause-shape : goal.returns-in_err-places-clause-shape
returns-in_err-places-clause-shape c =
    let p = err_from_is_err_and c.from_residual-in_err-places.result c.from_residual-in_err-places.ensures.1 in
    rw (p.1, p.2) (body_refused {X = Body} {Y = Contents} (λ body. (body.places.items, body.count, unread_of body.rest)) (λ contents. (contents.version, contents.count)) c.args.bytes.now c.in_ok-version.version (unread_of c.in_ok-version.input) c.in_err-places.field-0.0 c.in_ok-version.ensures c.in_err-places.ensures)

pub returns-in_err-take_footer-clause-shape : goal.returns-in_err-take_footer-clause-shape
returns-in_err-take_footer-clause-shape c =
    let v = c.in_ok-version.version in
    let u = unread_of c.in_ok-version.input in
    let b = c.in_ok-places.field-0 in
    let head = head_is c.args.bytes.now v u (λ i. omega (arith, c.type_inv.bytes i)) c.in_ok-version.ensures in
    refused _ c.from_residual-in_err-take_footer.result c.in_err-take_footer.field-0.0 _ c.from_residual-in_err-take_footer.ensures.1
    (footer_fault c.args.bytes.now v u b.places.items b.count (unread_of b.rest) c.in_err-take_footer.field-0.0 c.in_ok-version.ensures (body_found c.args.bytes.now v u b.places.items b.count (unread_of b.rest) head.2 c.in_ok-places.ensures)
    (ap (λ (p : List ℕ). footer_at p b.count (unread_of b.rest)) (sym c.as_slice.ensures.value) ∙ c.in_err-take_footer.ensures))

is_told : (c : In_ok-take_footer) → IsBytes c.args.bytes.now → IsTold c.args.bytes.now c.in_ok-version.version c.in_ok-places.field-0.places.items c.in_ok-places.field-0.count
is_told c fits =
    let v = c.in_ok-version.version in
    let u = unread_of c.in_ok-version.input in
    let b = c.in_ok-places.field-0 in
    let head = head_is c.args.bytes.now v u fits c.in_ok-version.ensures in
    let body = body_found c.args.bytes.now v u b.places.items b.count (unread_of b.rest) head.2 c.in_ok-places.ensures in
    told c.args.bytes.now v u b.places.items b.count (unread_of b.rest) fits body
    (footer_found c.args.bytes.now v u b.places.items b.count (unread_of b.rest) (unread_of c.in_ok-take_footer.field-0) c.in_ok-version.ensures body
    (ap (λ (p : List ℕ). footer_at p b.count (unread_of b.rest)) (sym c.as_slice.ensures.value) ∙ c.in_ok-take_footer.ensures))

pub returns-clause-shape : goal.returns-clause-shape
returns-clause-shape c = (is_told c (λ i. omega (arith, c.type_inv.bytes i))).shape

pub returns-clause-image : goal.returns-clause-image
returns-clause-image c = (is_told c (λ i. omega (arith, c.type_inv.bytes i))).image

pub returns-clause-list : goal.returns-clause-list
returns-clause-list c = (is_told c (λ i. omega (arith, c.type_inv.bytes i))).list

pub returns-clause-blocks : goal.returns-clause-blocks
returns-clause-blocks c = (is_told c (λ i. omega (arith, c.type_inv.bytes i))).blocks_are
