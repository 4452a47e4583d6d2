-- Plain truth values.
use Rattle.std.proofs.Common.{◌≡◌, not, ◌&&◌, ◌||◌, Bool, true, false, refl}

pub both-of-and : (a b : Bool) → (a && b) ≡ true → (a ≡ true) × (b ≡ true)
both-of-and true b h = (refl, h)
both-of-and false b h = absurd (let k : false ≡ true = h in cc)

pub false-of-not : (b : Bool) → not b ≡ true → b ≡ false
false-of-not true h = absurd (let k : false ≡ true = h in cc)
false-of-not false h = refl

pub and-of-both : (a b : Bool) → a ≡ true → b ≡ true → (a && b) ≡ true
and-of-both true b h k = k
and-of-both false b h k = h

pub neither-of-or : (a b : Bool) → (a || b) ≡ false → (a ≡ false) × (b ≡ false)
neither-of-or true b h = absurd (let k : true ≡ false = h in cc)
neither-of-or false b h = (refl, h)

pub true-of-not : (b : Bool) → not b ≡ false → b ≡ true
true-of-not true h = refl
true-of-not false h = absurd (let k : true ≡ false = h in cc)

pub never-both : {A : Type 0} (b : Bool) → b ≡ true → b ≡ false → A
never-both true h k = absurd (let t : true ≡ false = k in cc)
never-both false h k = absurd (let t : false ≡ true = h in cc)
