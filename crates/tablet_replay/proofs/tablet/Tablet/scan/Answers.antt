use Rattle.std.proofs.Common.{◌≡◌, ◌++◌, length, sym, ap, ◌∙◌, subst}
use Rattle.std.specs.Arc.{arc_value}
use Rattle.tablet_model.specs.Cuts.{within}
use Rattle.cell_key.specs.Ranges.{span_of}
use Rattle.iter_stack.specs.Usages.{usage_cells}
use Rattle.iter_stack.specs.declared.usage.Usage.TheVariants.{Scan}
use Rattle.script_text.specs.Answers.{scan_text}
use Rattle.tablet_view.specs.Snapshot.{Snapshot}
use Rattle.tablet_view.specs.Sources.{source_cells}
use Rattle.tablet_io.proofs.Pieces.{none_taken}
use Rattle.tablet_replay.specs.Replies.{Sends}
use Rattle.tablet_replay.specs.Sessions.{scan_answer}
use Rattle.tablet_replay.specs.TabletParts.{TabletState, replayed_by}
use Rattle.tablet_replay.proofs.Sends.{failed}
use Rattle.tablet_replay.proofs.tablet.Tablet.scan.Goals as goal

pub returns-clause-bytes : goal.returns-clause-bytes
returns-clause-bytes g c =
    let sink = g.O.Sink in
    let v = c.args.self.now.core.view in
    let view : arc_value c.view-view.result.now ≡ v = c.view-view.ensures.view ∙ ap (λ (t : TabletState). t.core.view) c.self.view_is in
    let first : c.deref.result.now ≡ v = c.deref.ensures ∙ view in
    let second : c.deref-2.result.now ≡ v = c.deref-2.ensures ∙ view in
    let config : c.deref-3.result.now ≡ c.deref.result.now.config =
    c.deref-3.ensures ∙ c.config.ensures.config ∙ ap (λ (s : Snapshot). s.config) (second ∙ sym first) in
    let n : c.mutations.result ≡ length v.log = c.mutations.ensures ∙ ap (λ (s : Snapshot). length s.log) (c.deref-4.ensures ∙ view) in
    let found : within (span_of c.range.result) (usage_cells c.deref-3.result.now Scan (source_cells c.in_ok-source.source)) ≡ scan_answer v.config c.args.range.now c.args.families.now v.log =
    (λ i. within (c.range.ensures i) (usage_cells (config i) Scan (c.in_ok-source.ensures.source.same_cells i)))
    ∙ c.in_ok-source.ensures.answers c.args.range.now
    ∙ ap (λ (s : Snapshot). scan_answer s.config c.args.range.now c.args.families.now s.log) first in
    subst (λ l. Sends (c.args.text.now ++ l) (sink.taken c.args.output.now) (sink.taken c.send_scan.new.output) c.send_scan.new.text c.send_scan.result)
    (λ i. scan_text (n i) (found i)) c.send_scan.ensures.bytes

pub returns-in_err-source-clause-bytes : goal.returns-in_err-source-clause-bytes
returns-in_err-source-clause-bytes g c =
    let r = replayed_by c.args.self.now in
    let text = c.args.text.now ++ scan_text (length r.log) (scan_answer r.config c.args.range.now c.args.families.now r.log) in
    let a = g.O.Sink.taken c.args.output.now in
    failed text c.args.text.now a a c.from_residual.result c.from_residual.ensures.0 (none_taken text a)
