-- Calls to a session, one after another.
use Rattle.std.proofs.Common.{◌≡◌, ◌+◌, ℕ, List, [], ◌∷◌, ◌++◌, length, refl, sym, ap, ◌∙◌, subst, append_assoc, append-nil, length-append, ◌⊎◌, inl, inr}
use Rattle.std.specs.Prelude.{All, Bool, false, Option, Some, None, Result, Ok, Err, OnErr, slice_index_or}
use Rattle.std.specs.Arc.{arc_value}
use Rattle.tablet_model.specs.Cell.{Cell}
use Rattle.tablet_view.specs.Extending.{BeginsWith, Extends}
use Rattle.tablet_view.specs.Snapshot.{Snapshot}
use Rattle.tablet_view.proofs.Orders.{extends_refl, extends_trans}
use Rattle.scan_session.specs.Looks.{IsLater, Leads}
use Rattle.scan_session.specs.ScanCalls.{EndsAs, IsLed, all_pieces}
use Rattle.scan_session.specs.Sessions.{SessionState, HasWalked, IsEndOf, IsSameScan, answers_of, left_of, number_of}
use Rattle.scan_session.specs.Walks.{Walks, end_of}
use Rattle.scan_session.specs.declared.piece.Fetched.{Fetched}
use Rattle.scan_session.specs.declared.piece.Piece.{Piece}
use Rattle.scan_session.specs.declared.scanner.ScanCall.{ScanCall}
use Rattle.scan_session.specs.declared.scanner.ScanCall.TheVariants.{Fetch, Renew, RenewTo, DropStack}
use Rattle.scan_session.proofs.SessionWalks.{going_on, renewing, staying}

-- what a fetch ensures is that the session has walked
pub fetch_has_walked : (new old : SessionState) (pieces : List Piece) → IsSameScan new old → Extends new.view old.view
    → (l : ℕ) × Walks (answers_of new) (number_of new) new.mode old.place (number_of old) pieces new.place l → HasWalked new old pieces
fetch_has_walked new old pieces same extends walk = record { same = same; log = extends.log; last = walk.0; walk = walk.1 }

end_of_is : (n k : ℕ) (left : List Cell) → end_of n left ≡ Some k → (k ≡ n) × (left ≡ [])
end_of_is n k [] h = (cc, refl)
end_of_is n k (e ∷ es) h = absurd (cc)

pub told_end : (s : SessionState) (ended : Option ℕ) → ended ≡ end_of (number_of s) (left_of s) → IsEndOf s ended
told_end s ended e k h = end_of_is (number_of s) k (left_of s) (sym e ∙ h)

pub no_end : (s : SessionState) (ended : Option ℕ) → ended ≡ None → IsEndOf s ended
no_end s ended e k h = absurd (cc)

-- a call that gives nothing
pub nothing_given : (new old : SessionState) (pieces : List Piece) → pieces ≡ [] → HasWalked new old [] → HasWalked new old pieces
nothing_given new old pieces e h = subst (HasWalked new old) (sym e) h

pub stays : (new old : SessionState) → new ≡ old → HasWalked new old []
stays new old e = subst (λ s. HasWalked s old []) (sym e) (staying old)

pub renews : (new old : SessionState) (view : Snapshot) → new ≡ record old { view = view } → Extends view old.view → HasWalked new old []
renews new old view e x = subst (λ s. HasWalked s old []) (sym e) (renewing old view x.config x.log)

pub renews_to : (new old : SessionState) (view : Snapshot) → new ≡ record old { view = view } → view.config ≡ old.view.config
    → BeginsWith view.log old.view.log → HasWalked new old []
renews_to new old view e config log = subst (λ s. HasWalked s old []) (sym e) (renewing old view config log)

-- one call more
all_pushed : (fs : List Fetched) (f : Fetched) → all_pieces (fs ++ f ∷ []) ≡ all_pieces fs ++ f.pieces
all_pushed [] f = append-nil f.pieces
all_pushed (g ∷ fs) f = ap (λ l. g.pieces ++ l) (all_pushed fs f) ∙ sym (append_assoc g.pieces (all_pieces fs) f.pieces)

pub walked_on : (new between old : SessionState) (fs gs : List Fetched) (f : Fetched) → gs ≡ fs ++ f ∷ [] → HasWalked between old (all_pieces fs)
    → HasWalked new between f.pieces → HasWalked new old (all_pieces gs)
walked_on new between old fs gs f e was more =
    subst (HasWalked new old) (sym (ap all_pieces e ∙ all_pushed fs f)) (going_on new between old (all_pieces fs) f.pieces was more)

pub one_longer : (fs gs : List Fetched) (f : Fetched) (n : ℕ) → gs ≡ fs ++ f ∷ [] → length fs ≡ n → length gs ≡ n + 1
one_longer fs gs f n e h = ap (λ l. length l) e ∙ length-append fs (f ∷ []) ∙ ap (λ k. k + 1) h

pub ends_as : (s : SessionState) (fs gs : List Fetched) (f : Fetched) → gs ≡ fs ++ f ∷ [] → IsEndOf s f.ended → EndsAs s gs
ends_as s fs gs f e h = subst (EndsAs s) (sym e) (pushed fs)
  where
    pushed : (fs : List Fetched) → EndsAs s (fs ++ f ∷ [])
    pushed [] = h
    pushed (x ∷ []) = h
    pushed (x ∷ y ∷ ys) = pushed (y ∷ ys)

-- what is said of an error
pub on_err : {A E : Type 0} (r : Result A E) {P : Type 0} → P → OnErr r P
on_err (Ok a) h = tt
on_err (Err e) h = h

-- what is lost
pub lost_after : (new between old : SessionState) (fs : List Fetched) (f : Fetched) → HasWalked between old (all_pieces fs) → HasWalked new between f.pieces
    → (lost : List Piece) × HasWalked new old lost
lost_after new between old fs f was more = (all_pieces (fs ++ f ∷ []), walked_on new between old fs (fs ++ f ∷ []) f refl was more)

-- newer views lead what older ones led
pub leads_later : (looks : Bool) (before after : Option Snapshot) (s : Snapshot) → IsLater looks before after → Leads looks before s → Leads looks after s
leads_later looks before after s later leads h =
    let led = leads h in
    let now = later h led.0 led.1 in
    (now.0, now.1, extends_trans now.0 led.0 s now.2 led.2)

pub later_trans : (looks : Bool) (before between after : Option Snapshot) → IsLater looks before between → IsLater looks between after → IsLater looks before after
later_trans looks before between after a b h u e =
    let first = a h u e in
    let second = b h first.0 first.1 in
    (second.0, second.1, extends_trans second.0 first.0 u second.2 first.2)

pub later_refl : (looks : Bool) (newest : Option Snapshot) → IsLater looks newest newest
later_refl looks newest h u e = (u, e, extends_refl u)

pub led_later : (looks : Bool) (before after : Option Snapshot) (call : ScanCall) → IsLater looks before after → IsLed looks before call → IsLed looks after call
led_later looks before after (Fetch count) later led = tt
led_later looks before after Renew later led = tt
led_later looks before after (RenewTo view) later led = leads_later looks before after (arc_value view) later led
led_later looks before after DropStack later led = tt

pub all_led : (looks : Bool) (before after : Option Snapshot) (calls : List ScanCall) → IsLater looks before after → All (IsLed looks before) calls
    → All (IsLed looks after) calls
all_led looks before after calls later led = λ k d h. led_later looks before after _ later (led k d h)

-- a session that stays or goes on over a view that is led is led
pub one_led : (looks : Bool) (newest : Option Snapshot) (now old given : Snapshot) → (now ≡ old) ⊎ (now ≡ given) → Leads looks newest old
    → Leads looks newest given → Leads looks newest now
one_led looks newest now old given (inl e) a b = subst (Leads looks newest) (sym e) a
one_led looks newest now old given (inr e) a b = subst (Leads looks newest) (sym e) b

-- where no views are looked at, any may be given
blind : (newest : Option Snapshot) (call : ScanCall) → IsLed false newest call
blind newest (Fetch count) = tt
blind newest Renew = tt
blind newest (RenewTo view) = λ h. absurd (cc)
blind newest DropStack = tt

pub all_blind : (newest : Option Snapshot) (calls : List ScanCall) → All (IsLed false newest) calls
all_blind newest calls = λ k d h. blind newest (slice_index_or calls k d)
