use Rattle.std.proofs.Common.{◌∷◌, ◌++◌, [], map, sym, ap, ◌∙◌}
use Rattle.std.proofs.lemmas.List.{map-append}
use Rattle.tablet_model.specs.Store.{has_id, files_without}
use Rattle.tablet_view.specs.FileParts.{file_of}
use Rattle.tablet_view.proofs.OtherFiles.{unnamed_skips, unnamed_takes}
use Rattle.tablet_view.proofs.files.other_files.Goals as goal

pub loop-stored-init : goal.loop-stored-init
unfolding files_without
loop-stored-init c = ap (map file_of) c.new-others.ensures.items

pub loop-stored-preserved : goal.loop-stored-preserved
unfolding has_id
loop-stored-preserved c =
    ap (map file_of) c.in_ok-push.ensures.items
    ∙ map-append file_of c.loop-stored.others.items (c.in_ok-share.field-0 ∷ [])
    ∙ (λ i. c.loop-stored.invariant i ++ c.in_ok-share.ensures i ∷ [])
    ∙ sym (unnamed_takes file_of c.args.ids.now c.args.files.now c.loop-stored.stored-index c.stored-item.result c.loop-stored-test.true c.stored-item.is (sym c.has.ensures ∙ c.if-has.false))

pub loop-stored-preserved-then-has : goal.loop-stored-preserved-then-has
unfolding has_id
loop-stored-preserved-then-has c =
    c.loop-stored.invariant
    ∙ sym (unnamed_skips file_of c.args.ids.now c.args.files.now c.loop-stored.stored-index c.stored-item.result c.loop-stored-test.true c.stored-item.is (sym c.has.ensures ∙ c.if-has.true))
