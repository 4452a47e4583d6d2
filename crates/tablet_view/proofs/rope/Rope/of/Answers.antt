use Rattle.std.proofs.Common.{◌≡◌, ◌∷◌, [], length, sym, ap, ◌∙◌, arith}
use Rattle.tablet_view.proofs.RunLists.{only_one}
use Rattle.tablet_view.proofs.rope.Rope.of.Goals as goal

pub returns-in_ok-share-clause-mutations : goal.returns-in_ok-share-clause-mutations
returns-in_ok-share-clause-mutations c =
    let one : length c.args.entries ≡ 1 = omega (arith, c.len.ensures.length, c.if-len-eq1.true) in
    let all = only_one c.args.entries c.get.result.now one c.get.ensures in
    ap (λ e. (e ∷ []) ∷ []) c.in_ok-share.ensures ∙ ap (λ l. l ∷ []) (sym all)
