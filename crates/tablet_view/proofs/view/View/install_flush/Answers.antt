use Rattle.std.proofs.Common.{◌≡◌, rules, subst, sym, ap, ◌∙◌}
use Rattle.tablet_model.specs.Store.{files_without}
use Rattle.compactor.specs.Compacted.{entries_made}
use Rattle.tablet_view.specs.Snapshot.{IsStanding}
use Rattle.tablet_view.proofs.OtherFiles.{none_named}
use Rattle.tablet_view.proofs.Standing.{standing_flushed}
use Rattle.tablet_view.proofs.view.View.install_flush.Goals as goal

pub returns : goal.returns
returns c =
    let others : files_without c.new.result c.deref.result.now ≡ c.deref.result.now = ap (λ ids. files_without ids c.deref.result.now) c.new.ensures ∙ none_named c.deref.result.now in
    search (rules, others)

pub invariant_of-result : goal.invariant_of-result
invariant_of-result c = subst IsStanding (sym (returns c)) (standing_flushed c.args.self.now c.args.id (entries_made c.args.done.now) c.requires.above c.requires.made (subst IsStanding c.self.view_is c.self.invariant))
