use Rattle.std.proofs.Common.{◌≡◌, ◌++◌, ℕ, List, IfOk, length, refl, subst, ◌∙◌}
use Rattle.tablet_model.specs.Cell.{Cell}
use Rattle.tablet_model.specs.Cuts.{within}
use Rattle.tablet_model.specs.Families.{in_families}
use Rattle.tablet_model.specs.Places.{Place}
use Rattle.cell_key.specs.Ranges.{span_of, place_of}
use Rattle.iter_stack.specs.Usages.{usage_cells}
use Rattle.iter_stack.specs.declared.usage.Usage.TheVariants.{Scan}
use Rattle.tablet_view.specs.Snapshot.{Snapshot, entries_in}
use Rattle.tablet_view.specs.Sources.{source_cells}
use Rattle.scan_session.specs.Runs.{place_behind}
use Rattle.scan_session.specs.Sessions.{SessionState, answer_over, left_of}
use Rattle.scan_session.specs.Takes.{mode_of, place_after, take_together}
use Rattle.scan_session.specs.Walks.{end_of, fetch_pieces}
use Rattle.scan_session.proofs.Seeking.{sought_behind}
use Rattle.scan_session.proofs.session.Session.fetched.Goals as goal

pub returns-clause-pieces : goal.returns-clause-pieces
returns-clause-pieces c =
    let view : Snapshot = c.args.view.now in
    let s : SessionState = record { view = (c.args.view.now); range = c.self.inside.range; families = c.self.inside.families; mode = mode_of c.self.inside.isolated; place = place_of c.self.inside.position } in
    let config : c.deref.result.now ≡ view.config = c.deref.ensures ∙ c.config.ensures.config in
    let cells : List Cell = usage_cells c.deref.result.now Scan (source_cells c.in_ok-source.source) in
    let left : within (span_of c.after-left.result) cells ≡ left_of (record s { view = view }) =
    sought_behind (span_of c.after-left.result) (span_of c.range.result) s.range s.place cells (usage_cells view.config Scan (in_families s.families (entries_in view))) (answer_over s view.log)
    (within (span_of c.after-left.result) cells) refl c.after-left.ensures c.range.ensures
    (λ i. usage_cells (config i) Scan (c.in_ok-source.ensures.source.same_cells i)) (c.in_ok-source.ensures.answers s.range) in
    subst (λ (t : SessionState). IfOk c.fetched_in.result (λ given. given.0.pieces ≡ fetch_pieces t.mode c.args.count (length view.log) (left_of (record t { view = view })))) c.self.view_is
    (subst (λ (l : List Cell). IfOk c.fetched_in.result (λ given. given.0.pieces ≡ fetch_pieces s.mode c.args.count (length view.log) l)) left
    (subst (λ (n : ℕ). IfOk c.fetched_in.result (λ given. given.0.pieces ≡ fetch_pieces s.mode c.args.count n (within (span_of c.after-left.result) cells))) c.mutations.ensures c.fetched_in.ensures.pieces))

pub returns-clause-place : goal.returns-clause-place
returns-clause-place c =
    let view : Snapshot = c.args.view.now in
    let s : SessionState = record { view = (c.args.view.now); range = c.self.inside.range; families = c.self.inside.families; mode = mode_of c.self.inside.isolated; place = place_of c.self.inside.position } in
    let config : c.deref.result.now ≡ view.config = c.deref.ensures ∙ c.config.ensures.config in
    let cells : List Cell = usage_cells c.deref.result.now Scan (source_cells c.in_ok-source.source) in
    let left : within (span_of c.after-left.result) cells ≡ left_of (record s { view = view }) =
    sought_behind (span_of c.after-left.result) (span_of c.range.result) s.range s.place cells (usage_cells view.config Scan (in_families s.families (entries_in view))) (answer_over s view.log)
    (within (span_of c.after-left.result) cells) refl c.after-left.ensures c.range.ensures
    (λ i. usage_cells (config i) Scan (c.in_ok-source.ensures.source.same_cells i)) (c.in_ok-source.ensures.answers s.range) in
    subst (λ (t : SessionState). IfOk c.fetched_in.result (λ given. (old : Place) → place_behind given.1 old ≡ place_after t.mode old (take_together t.mode c.args.count (left_of (record t { view = view }))))) c.self.view_is
    (subst (λ (l : List Cell). IfOk c.fetched_in.result (λ given. (old : Place) → place_behind given.1 old ≡ place_after s.mode old (take_together s.mode c.args.count l))) left c.fetched_in.ensures.place)

pub returns-clause-ended : goal.returns-clause-ended
returns-clause-ended c =
    let view : Snapshot = c.args.view.now in
    let s : SessionState = record { view = (c.args.view.now); range = c.self.inside.range; families = c.self.inside.families; mode = mode_of c.self.inside.isolated; place = place_of c.self.inside.position } in
    let config : c.deref.result.now ≡ view.config = c.deref.ensures ∙ c.config.ensures.config in
    let cells : List Cell = usage_cells c.deref.result.now Scan (source_cells c.in_ok-source.source) in
    let left : within (span_of c.after-left.result) cells ≡ left_of (record s { view = view }) =
    sought_behind (span_of c.after-left.result) (span_of c.range.result) s.range s.place cells (usage_cells view.config Scan (in_families s.families (entries_in view))) (answer_over s view.log)
    (within (span_of c.after-left.result) cells) refl c.after-left.ensures c.range.ensures
    (λ i. usage_cells (config i) Scan (c.in_ok-source.ensures.source.same_cells i)) (c.in_ok-source.ensures.answers s.range) in
    subst (λ (t : SessionState). IfOk c.fetched_in.result (λ given. (rest : List Cell) → left_of (record t { view = view }) ≡ take_together t.mode c.args.count (left_of (record t { view = view })) ++ rest → given.0.ended ≡ end_of (length view.log) rest)) c.self.view_is
    (subst (λ (l : List Cell). IfOk c.fetched_in.result (λ given. (rest : List Cell) → l ≡ take_together s.mode c.args.count l ++ rest → given.0.ended ≡ end_of (length view.log) rest)) left
    (subst (λ (n : ℕ). IfOk c.fetched_in.result (λ given. (rest : List Cell) → within (span_of c.after-left.result) cells ≡ take_together s.mode c.args.count (within (span_of c.after-left.result) cells) ++ rest → given.0.ended ≡ end_of n rest)) c.mutations.ensures c.fetched_in.ensures.ended))
