use Rattle.std.proofs.Common.{◌≡◌, ◌&&◌, ◌+◌, true, false, drop, sym, ap, ◌∙◌, arith}
use Rattle.std.proofs.lemmas.List.{at_drop_all}
use Rattle.tablet_model.specs.Steps.{takes_all}
use Rattle.tablet_model.specs.Store.{has_id}
use Rattle.tablet_core.proofs.FilesAt.{FileAt, file_at, takes_at}
use Rattle.tablet_core.proofs.core_state.starting.takes_all.Goals as goal

pub returns-then-not-has : goal.returns-then-not-has
unfolding has_id
returns-then-not-has c =
    let here : FileAt c.args.view.now.files c.loop-i.i c.file_at.result.0 = file_at c.args.view.now.files c.loop-i.i c.file_at.result.0 (omega arith) c.file_at.ensures.id in
    let out : c.has.result ≡ false = grind arith in
    sym (takes_at c.args.view.now.files c.loop-i.i c.file_at.result.0 c.args.files.now here ∙ ap (λ b. b && takes_all c.args.files.now (drop (c.loop-i.i + 1) c.args.view.now.files)) (sym c.has.ensures ∙ out)) ∙ c.loop-i.invariant

pub loop-i-preserved : goal.loop-i-preserved
unfolding has_id
loop-i-preserved c =
    let here : FileAt c.args.view.now.files c.loop-i.i c.file_at.result.0 = file_at c.args.view.now.files c.loop-i.i c.file_at.result.0 (omega arith) c.file_at.ensures.id in
    let within : c.has.result ≡ true = grind arith in
    sym (takes_at c.args.view.now.files c.loop-i.i c.file_at.result.0 c.args.files.now here ∙ ap (λ b. b && takes_all c.args.files.now (drop (c.loop-i.i + 1) c.args.view.now.files)) (sym c.has.ensures ∙ within)) ∙ c.loop-i.invariant

pub returns : goal.returns
unfolding takes_all
returns c = sym (at_drop_all (takes_all c.args.files.now) c.args.view.now.files c.loop-i.i (omega arith)) ∙ c.loop-i.invariant
