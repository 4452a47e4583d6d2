use Rattle.std.proofs.Common.{◌≡◌, true, false, sym, ap, ◌∙◌}
use Rattle.std.specs.Arc.{arc_value}
use Rattle.tablet_model.specs.Cuts.{is_before}
use Rattle.tablet_model.specs.Sorted.{first}
use Rattle.cell_key.specs.Views.{key_of}
use Rattle.intersecting.specs.Documents.{document_key}
use Rattle.intersecting.specs.Searches.{place}
use Rattle.intersecting.proofs.Lefts.{top_shown, left_of, place_key, same_entry}
use Rattle.intersecting.proofs.steps.intersect_top.Goals as goal

pub returns-then-lies_before : goal.returns-then-lies_before
returns-then-lies_before c = λ sources cells up fits.
    let stage = c.args.stage.now in
    let terms = arc_value stage.terms in
    let without = arc_value stage.without in
    let k = place stage.column in
    let held : stage.is_held ≡ true = c.if-not-stage.false in
    let key : key_of c.document_key-key.result ≡ document_key k.key = c.document_key-key.ensures ∙ ap document_key (place_key stage.column (key_of c.key.result) c.key.ensures) in
    let before : true ≡ is_before stage.range.end (document_key k.key) = sym c.if-lies_before.true ∙ c.lies_before.ensures ∙ ap (λ s. is_before s.end (key_of c.document_key-key.result)) c.range-range.ensures ∙ ap (is_before stage.range.end) key in
    same_entry (key_of c.document_key-key.result) (document_key k.key) key
    ∙ top_shown terms without cells up fits.0 k (fits.2 held).1 stage.range.end true before
    ∙ ap (λ held. first (left_of terms without cells held k stage.range.end)) (sym held)

pub returns-else-lies_before : goal.returns-else-lies_before
returns-else-lies_before c = λ sources cells up fits.
    let stage = c.args.stage.now in
    let terms = arc_value stage.terms in
    let without = arc_value stage.without in
    let k = place stage.column in
    let held : stage.is_held ≡ true = c.if-not-stage.false in
    let key : key_of c.document_key-key.result ≡ document_key k.key = c.document_key-key.ensures ∙ ap document_key (place_key stage.column (key_of c.key.result) c.key.ensures) in
    let before : false ≡ is_before stage.range.end (document_key k.key) = sym c.if-lies_before.false ∙ c.lies_before.ensures ∙ ap (λ s. is_before s.end (key_of c.document_key-key.result)) c.range-range.ensures ∙ ap (is_before stage.range.end) key in
    top_shown terms without cells up fits.0 k (fits.2 held).1 stage.range.end false before
    ∙ ap (λ held. first (left_of terms without cells held k stage.range.end)) (sym held)
