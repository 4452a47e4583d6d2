use Rattle.std.proofs.Common.{ℕ, ◌+◌, List, drop, Result, sym, ap, ◌∙◌}
use Rattle.std.proofs.lemmas.Result.{err_from_is_err_and}
use Rattle.byte_fields.specs.Answers.{unread_of}
use Rattle.byte_fields.specs.Fields.{◌>>=◌, Unread}
use Rattle.sorted_file.specs.Reading.{expected_at, index_at}
use Rattle.sorted_file.specs.declared.fault.Fault.{Fault}
use Rattle.sorted_file.specs.declared.fault.ImageCause.TheVariants.{Index}
use Rattle.sorted_file.proofs.Loops.{index_next, index_done}
use Rattle.sorted_file.proofs.image_reading.take_index.Goals as goal

pub returns-in_err-rest : goal.returns-in_err-rest
returns-in_err-rest c =
    let p = err_from_is_err_and c.from_residual.result c.from_residual.ensures.1 in
    let next = index_next c.args.places.now c.loop-place.place-index (unread_of c.loop-place.rest) c.loop-place-test.true in
    rw (p.1, p.2) (sym c.loop-place.invariant ∙ next ∙ ap (λ (r : Result Unread Fault). r >>= index_at (drop (c.loop-place.place-index + 1) c.args.places.now)) (ap (λ (b : List ℕ). expected_at Index b (unread_of c.loop-place.rest)) (sym c.u64_bytes.ensures) ∙ c.in_err-rest.ensures))

pub loop-place-preserved : goal.loop-place-preserved
loop-place-preserved c =
    let next = index_next c.args.places.now c.loop-place.place-index (unread_of c.loop-place.rest) c.loop-place-test.true in
    sym (next ∙ ap (λ (r : Result Unread Fault). r >>= index_at (drop (c.loop-place.place-index + 1) c.args.places.now)) (ap (λ (b : List ℕ). expected_at Index b (unread_of c.loop-place.rest)) (sym c.u64_bytes.ensures) ∙ c.in_ok-rest.ensures)) ∙ c.loop-place.invariant

pub returns : goal.returns
returns c = sym c.loop-place.invariant ∙ index_done c.args.places.now c.loop-place.place-index (unread_of c.loop-place.rest) c.loop-place-test.false
