use Rattle.std.proofs.Common.{◌≡◌, ap, false, is_some, length, refl, sym, true, ◌∙◌}
use Rattle.tablet_model.specs.Steps.{is_empty}
use Rattle.tablet_core.proofs.Freezes.{freeze_reason, is_frozen}
use Rattle.tablet_core.proofs.Starts.{no_length, some_length}
use Rattle.tablet_core.proofs.core_state.Core.freeze_refusal.Goals as goal

pub returns-then-is_some : goal.returns-then-is_some
returns-then-is_some c =
    let v : c.deref.result.now ≡ c.args.self.now.view = c.deref.ensures ∙ ap (λ k. k.view) c.self.view_is in
    let there : is_some c.args.self.now.view.frozen ≡ true = ap (λ v. is_some v.frozen) (sym v) ∙ is_frozen c.deref.result.now.frozen c.frozen_count.result c.is_some.result c.frozen_count.ensures c.is_some.ensures ∙ c.if-is_some.true in
    sym (freeze_reason c.args.self.now true (is_empty c.args.self.now.view.memory) there refl)

pub returns-then-memory_count-eq0 : goal.returns-then-memory_count-eq0
returns-then-memory_count-eq0 c =
    let v : c.deref.result.now ≡ c.args.self.now.view = c.deref.ensures ∙ ap (λ k. k.view) c.self.view_is in
    let w : c.deref-2.result.now ≡ c.args.self.now.view = c.deref-2.ensures ∙ ap (λ k. k.view) c.self.view_is in
    let gone : is_some c.args.self.now.view.frozen ≡ false = ap (λ v. is_some v.frozen) (sym v) ∙ is_frozen c.deref.result.now.frozen c.frozen_count.result c.is_some.result c.frozen_count.ensures c.is_some.ensures ∙ c.if-is_some.false in
    sym (freeze_reason c.args.self.now false true gone (no_length c.args.self.now.view.memory (ap (λ v. length v.memory) (sym w) ∙ sym c.memory_count.ensures ∙ c.if-memory_count-eq0.true)))

pub returns : goal.returns
returns c =
    let v : c.deref.result.now ≡ c.args.self.now.view = c.deref.ensures ∙ ap (λ k. k.view) c.self.view_is in
    let w : c.deref-2.result.now ≡ c.args.self.now.view = c.deref-2.ensures ∙ ap (λ k. k.view) c.self.view_is in
    let gone : is_some c.args.self.now.view.frozen ≡ false = ap (λ v. is_some v.frozen) (sym v) ∙ is_frozen c.deref.result.now.frozen c.frozen_count.result c.is_some.result c.frozen_count.ensures c.is_some.ensures ∙ c.if-is_some.false in
    freeze_reason c.args.self.now false false gone (some_length c.args.self.now.view.memory (λ e. c.if-memory_count-eq0.false (c.memory_count.ensures ∙ ap (λ v. length v.memory) w ∙ e)))
