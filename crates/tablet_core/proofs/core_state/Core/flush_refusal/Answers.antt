use Rattle.std.proofs.Common.{◌<◌, ◌≡◌, ◌≤◌, ap, false, is_some, length, nat_lt, refl, subst, sym, true, ◌∙◌}
use Rattle.tablet_core.proofs.Flushes.{flush_reason, is_less, is_more}
use Rattle.tablet_core.proofs.Freezes.{is_frozen}
use Rattle.tablet_core.proofs.core_state.Core.flush_refusal.Goals as goal

pub returns-then-is_none : goal.returns-then-is_none
returns-then-is_none c =
    let v : c.deref.result.now ≡ c.args.self.now.view = c.deref.ensures ∙ ap (λ k. k.view) c.self.view_is in
    let gone : is_some c.args.self.now.view.frozen ≡ false = ap (λ v. is_some v.frozen) (sym v) ∙ is_frozen c.deref.result.now.frozen c.frozen_count.result false c.frozen_count.ensures (sym c.if-is_none.ensures) in
    sym (flush_reason c.args.self.now false (nat_lt (length c.args.self.now.view.files) 64) gone refl)

pub returns-then-file_count-ge-MAX_FILES : goal.returns-then-file_count-ge-MAX_FILES
returns-then-file_count-ge-MAX_FILES c =
    let v : c.deref.result.now ≡ c.args.self.now.view = c.deref.ensures ∙ ap (λ k. k.view) c.self.view_is in
    let w : c.deref-2.result.now ≡ c.args.self.now.view = c.deref-2.ensures ∙ ap (λ k. k.view) c.self.view_is in
    let there : is_some c.args.self.now.view.frozen ≡ true = ap (λ v. is_some v.frozen) (sym v) ∙ is_frozen c.deref.result.now.frozen c.frozen_count.result true c.frozen_count.ensures (sym c.if-is_none.ensures) in
    sym (flush_reason c.args.self.now true false there (is_more (length c.args.self.now.view.files) 64 (subst (λ n. 64 ≤ n) (c.file_count.ensures ∙ ap (λ v. length v.files) w) c.if-file_count-ge-MAX_FILES.true)))

pub returns : goal.returns
returns c =
    let v : c.deref.result.now ≡ c.args.self.now.view = c.deref.ensures ∙ ap (λ k. k.view) c.self.view_is in
    let w : c.deref-2.result.now ≡ c.args.self.now.view = c.deref-2.ensures ∙ ap (λ k. k.view) c.self.view_is in
    let there : is_some c.args.self.now.view.frozen ≡ true = ap (λ v. is_some v.frozen) (sym v) ∙ is_frozen c.deref.result.now.frozen c.frozen_count.result true c.frozen_count.ensures (sym c.if-is_none.ensures) in
    flush_reason c.args.self.now true true there (is_less (length c.args.self.now.view.files) 64 (subst (λ n. n < 64) (c.file_count.ensures ∙ ap (λ v. length v.files) w) c.if-file_count-ge-MAX_FILES.false))
