-- Plain facts of truth values, numbers and orders. Laws of a crate's own stages stand in specs/, where no tactic may be,
-- and cite these.
use Rattle.std.proofs.Common.{◌≡◌, ℕ, ◌+◌, ◌<◌, ◌≤◌, min, Bool, true, false, cond, arith}
use Rattle.tablet_model.specs.Cell.{Cell}
use Rattle.tablet_model.specs.Order.{above}
use Rattle.tablet_model.proofs.Orders.{above_exact}

pub clash : (b : Bool) → b ≡ true → b ≡ false → ⊥
clash b s t = grind arith

-- an entry doesn't stand above itself
pub not_above_itself : (e : Cell) → above e e ≡ false
not_above_itself e = grind (arith, above_exact.either)

-- a number, up to a most
module _ (most : ℕ) where
  pub none_up_to : (b : Bool) → 0 ≡ min (cond b 0 0) most
  none_up_to b = grind arith

  pub same_up_to : (n : ℕ) → min n most ≡ min (0 + n) most
  same_up_to n = omega arith

  pub below_most : (m n : ℕ) → m ≡ min n most → n < most → m < most
  below_most m n h l = omega (arith, h)

  pub one_more : (m n : ℕ) → m ≡ min n most → n < most → m + 1 ≡ min (1 + n) most
  one_more m n h l = omega (arith, h)

  pub at_most : (m n : ℕ) → m ≡ min n most → most ≤ n → most ≤ m
  at_most m n h l = omega (arith, h)

  pub stays_at_most : (n : ℕ) → most ≤ n → min n most ≡ min (1 + n) most
  stays_at_most n l = omega arith
