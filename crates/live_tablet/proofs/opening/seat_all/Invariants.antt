use Rattle.std.proofs.Common.{◌≡◌, All, vec_len}
use Rattle.live_tablet.specs.States.{IsNew}
use Rattle.live_tablet.proofs.opening.seat_all.Given as goal

abbrev pub invariant-loop : goal.invariant-loop
invariant-loop l = (l.loader ≡ l.fn.loader) × All (IsNew l.fn.loader.tablet l.fn.loader.published) l.waiting.items × (vec_len l.waiting ≡ l.counter)
