use Rattle.std.proofs.Common.{[], ◌++◌, ◌∷◌, ◌≡◌, ap, subst, ◌∙◌}
use Rattle.compactor.specs.PartCells.{part_cells, union_of}
use Rattle.std.specs.Arc.{arc_value}
use Rattle.tablet_view.specs.Snapshot.{IsStanding}
use Rattle.tablet_core.proofs.Flushes.{flush_is, flush_storable}
use Rattle.tablet_core.proofs.core_state.Core.flush_job.Goals as goal

pub new-requires-clause-storable : goal.new-requires-clause-storable
new-requires-clause-storable c =
    let v : c.deref-3.result.now ≡ c.args.self.now.view = c.deref-3.ensures ∙ ap (λ k. k.view) c.self.view_is in
    flush_storable c.args.self.now.view (arc_value c.in_ok-config.config) (part_cells c.in_ok-frozen_cursor.field-0) (union_of c.push.new.self.items)
    (subst IsStanding v c.config.ensures.stands)
    (c.in_ok-frozen_cursor.ensures.cells ∙ ap (λ w. w.frozen) (c.deref-2.ensures ∙ ap (λ k. k.view) c.self.view_is))
    (c.in_ok-config.ensures ∙ c.config.ensures.config ∙ ap (λ w. w.config) v)
    (ap (λ l. union_of l) (c.in_ok-push.ensures.items ∙ ap (λ l. l ++ c.in_ok-frozen_cursor.field-0 ∷ []) c.new-parts.ensures.items))

pub returns-clause-job : goal.returns-clause-job
returns-clause-job c =
    let v : c.deref-3.result.now ≡ c.args.self.now.view = c.deref-3.ensures ∙ ap (λ k. k.view) c.self.view_is in
    flush_is c.args.self.now.view (arc_value c.in_ok-config.config) (part_cells c.in_ok-frozen_cursor.field-0) (union_of c.push.new.self.items) c.in_ok-new.field-0
    (subst IsStanding v c.config.ensures.stands)
    (c.in_ok-frozen_cursor.ensures.cells ∙ ap (λ w. w.frozen) (c.deref-2.ensures ∙ ap (λ k. k.view) c.self.view_is))
    (c.in_ok-config.ensures ∙ c.config.ensures.config ∙ ap (λ w. w.config) v)
    (ap (λ l. union_of l) (c.in_ok-push.ensures.items ∙ ap (λ l. l ++ c.in_ok-frozen_cursor.field-0 ∷ []) c.new-parts.ensures.items))
    c.in_ok-new.ensures
