use Rattle.std.proofs.Common.{◌*◌, ◌≤◌, ◌∷◌, ◌++◌, [], length, length-append, sym, ◌∙◌, ap, subst, arith}
use Rattle.tablet_view.specs.LogParts.{all_in}
use Rattle.tablet_model.specs.Runs.{AreHalving}
use Rattle.tablet_model.proofs.Runs.{halving_front, halving_pair}
use Rattle.tablet_view.proofs.RunLists.{end_fits, end_joined}
use Rattle.tablet_view.proofs.log.push_joined.Goals as goal

pub returns-then-len-clause-halving : goal.returns-then-len-clause-halving
returns-then-len-clause-halving c =
    let older = c.pop.new.self.items in
    let before = c.in-Some.before in
    let last = c.loop-before.last in
    let were = c.in-Some.ensures.items in
    let enough : 2 * length last ≤ length before = omega (arith, c.if-len.true, c.len.ensures, c.len-in-Some.ensures) in
    subst (AreHalving (λ run. length run)) (ap (λ l. l ++ last ∷ []) (sym c.in_ok-push.ensures.items) ∙ sym c.in_ok-push-2.ensures.items)
    (halving_pair (λ run. length run) older before last (subst (AreHalving (λ run. length run)) were c.loop-before.invariant.1) c.loop-before.invariant.2 enough)

pub join-requires : goal.join-requires
join-requires c =
    let older = c.pop.new.self.items in
    let before = c.in-Some.before in
    let last = c.loop-before.last in
    let whole = ap (λ l. all_in l ++ last) (sym c.in-Some.ensures.items) ∙ c.loop-before.invariant.0 in
    let fits = end_fits older before last (all_in c.args.runs.now.items ++ c.args.last) whole in
    omega (arith, fits, length-append (all_in c.args.runs.now.items) c.args.last, c.requires.fits)

pub loop-before-preserved : goal.loop-before-preserved
loop-before-preserved c =
    let older = c.pop.new.self.items in
    let before = c.in-Some.before in
    let last = c.loop-before.last in
    let were = c.in-Some.ensures.items in (
      ap (λ l. all_in older ++ l) c.in_ok-last.ensures ∙ sym (end_joined older before last) ∙ ap (λ l. all_in l ++ last) (sym were) ∙ c.loop-before.invariant.0,
      halving_front (λ run. length run) older (before ∷ []) (subst (AreHalving (λ run. length run)) were c.loop-before.invariant.1),
      omega (arith, ap length c.in_ok-last.ensures, length-append before last, c.loop-before.invariant.2),
    )
