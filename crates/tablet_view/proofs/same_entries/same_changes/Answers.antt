use Rattle.std.proofs.Common.{◌≡◌, ◌<◌, true, false, length, refl, sym, ap, ◌∙◌, arith}
use Rattle.tablet_view.specs.LogParts.{change_in}
use Rattle.tablet_view.proofs.RunLists.{images_more, images_same}
use Rattle.tablet_view.proofs.same_entries.same_changes.Goals as goal

pub loop-i-preserved : goal.loop-i-preserved
loop-i-preserved c =
    let here : c.loop-i.i < length c.args.a.now = c.loop-i-test.true in
    let there : c.loop-i.i < length c.args.b.now = omega (arith, here, c.if-a-b.false) in
    let same = ap (change_in c.args.config.now) (sym c.entry.ensures.entry) ∙ c.if-not-same_change.ensures.0 refl ∙ ap (change_in c.args.config.now) c.entry-in-loop-i.ensures.entry in
    images_more (change_in c.args.config.now) c.args.a.now c.args.b.now c.loop-i.i c.index-a-i.result c.index-b-i.result here there c.index-a-i.is c.index-b-i.is same c.loop-i.invariant

pub returns-then-not-same_change : goal.returns-then-not-same_change
returns-then-not-same_change c =
    let here : c.loop-i.i < length c.args.a.now = c.loop-i-test.true in
    let there : c.loop-i.i < length c.args.b.now = omega (arith, here, c.if-a-b.false) in (
      λ t. absurd (let never : false ≡ true = t in cc),
      λ h. c.if-not-same_change.ensures.1 (ap (change_in c.args.config.now) c.entry.ensures.entry
          ∙ images_same (change_in c.args.config.now) c.args.a.now c.args.b.now c.loop-i.i c.index-a-i.result c.index-b-i.result here there c.index-a-i.is c.index-b-i.is h
          ∙ ap (change_in c.args.config.now) (sym c.entry-in-loop-i.ensures.entry)),
    )
