-- Parts that an entry shares with its neighbour: how many they are, and how they are written and read.
use Rattle.std.proofs.Common.{◌≡◌, ℕ, ◌+◌, ◌≤◌, Bool, true, false, cond, ltb, List, [], ◌∷◌, get_or, Option, Some, None, option_map, Result, Ok, Err, refl, ap, subst, ◌∙◌, arith}
use Rattle.std.specs.Str.{bytes_eq}
use Rattle.std.proofs.lemmas.Bool.{ltb-true, ltb-false, le-ltb}
use Rattle.std.proofs.lemmas.Slice.Eq.{bytes_eq-Decides}
use Rattle.tablet_model.specs.Cell.{CellKey, Cell}
use Rattle.tablet_model.specs.Bounds.{IsEntry}
use Rattle.byte_fields.specs.Fields.{Unread, bytes_at}
use Rattle.byte_fields.proofs.Fields.{bind_ok, else_ok, ok_is, IsBytes, spot, Takes, Again, bytes_again}
use Rattle.sorted_file.specs.Image.{part_bytes, equal_parts, neighbour, shared_parts, own_bytes}
use Rattle.sorted_file.specs.Versions.{same_bytes, has_neighbour}
use Rattle.sorted_file.specs.Reading.{fault, whole_field, most_shared, same_at, sharer, shared_or}
use Rattle.sorted_file.specs.declared.fault.Fault.{Fault}
use Rattle.sorted_file.specs.declared.fault.ImageCause.TheVariants.{Bound}
use Rattle.sorted_file.specs.declared.version.Version.{Version}
use Rattle.sorted_file.specs.declared.version.Version.TheVariants.{One, Two}
use Rattle.sorted_file.proofs.Parts.{byte_take}

-- ---- how many they are

-- as many as the first of four tests that fails says
abbrev first_unequal : Bool → Bool → Bool → Bool → ℕ
first_unequal row family qualifier visibility = cond row (cond family (cond qualifier (cond visibility 4 3) 2) 1) 0

four : (p q r s : Bool) → first_unequal p q r s ≤ 4
four false q r s = omega arith
four true false r s = omega arith
four true true false s = omega arith
four true true true false = omega arith
four true true true true = omega arith

pub shared_few : (near : Option Cell) (e : Cell) → shared_parts near e ≤ most_shared near
unfolding equal_parts
shared_few None e = omega arith
shared_few (Some b) e = four (bytes_eq b.key.row e.key.row) (bytes_eq b.key.family e.key.family) (bytes_eq b.key.qualifier e.key.qualifier) (bytes_eq b.key.visibility e.key.visibility)

row_equal : (p q r s : Bool) → ltb 0 (first_unequal p q r s) ≡ true → p ≡ true
row_equal true q r s h = refl
row_equal false q r s h = h

family_equal : (p q r s : Bool) → ltb 1 (first_unequal p q r s) ≡ true → q ≡ true
family_equal true true r s h = refl
family_equal true false r s h = h
family_equal false q r s h = absurd cc

qualifier_equal : (p q r s : Bool) → ltb 2 (first_unequal p q r s) ≡ true → r ≡ true
qualifier_equal true true true s h = refl
qualifier_equal true true false s h = h
qualifier_equal true false r s h = absurd cc
qualifier_equal false q r s h = absurd cc

visibility_equal : (p q r s : Bool) → ltb 3 (first_unequal p q r s) ≡ true → s ≡ true
visibility_equal true true true true h = refl
visibility_equal true true true false h = h
visibility_equal true true false s h = absurd cc
visibility_equal true false r s h = absurd cc
visibility_equal false q r s h = absurd cc

-- a part of a key is the neighbour's
abbrev pub Shares : Option Cell → (CellKey → List ℕ) → CellKey → Type 0
Shares near part k = (b : Cell) × (near ≡ Some b) × (part b.key ≡ part k)

-- the first parts of a key are the neighbour's
pub record AreShared (same : ℕ) (near : Option Cell) (k : CellKey) : Type 0 where
  pub row : ltb 0 same ≡ true → Shares near (λ k. k.row) k
  pub family : ltb 1 same ≡ true → Shares near (λ k. k.family) k
  pub qualifier : ltb 2 same ≡ true → Shares near (λ k. k.qualifier) k
  pub visibility : ltb 3 same ≡ true → Shares near (λ k. k.visibility) k

equal : (xs ys : List ℕ) → bytes_eq xs ys ≡ true → xs ≡ ys
equal xs ys h = (bytes_eq-Decides xs ys).0 h

pub are_shared : (near : Option Cell) (e : Cell) → AreShared (shared_parts near e) near e.key
unfolding equal_parts
are_shared None e = record { row = λ h. absurd cc; family = λ h. absurd cc; qualifier = λ h. absurd cc; visibility = λ h. absurd cc }
are_shared (Some b) e =
    let p = bytes_eq b.key.row e.key.row in
    let q = bytes_eq b.key.family e.key.family in
    let r = bytes_eq b.key.qualifier e.key.qualifier in
    let s = bytes_eq b.key.visibility e.key.visibility in
    record {
      row = λ h. (b, refl, equal b.key.row e.key.row (row_equal p q r s h));
      family = λ h. (b, refl, equal b.key.family e.key.family (family_equal p q r s h));
      qualifier = λ h. (b, refl, equal b.key.qualifier e.key.qualifier (qualifier_equal p q r s h));
      visibility = λ h. (b, refl, equal b.key.visibility e.key.visibility (visibility_equal p q r s h));
    }

-- an entry that may be shared with is within bounds
abbrev pub IsNear : Option Cell → Type 0
IsNear near = (b : Cell) → near ≡ Some b → IsEntry b

pub near_none : IsNear None
near_none b e = absurd cc

pub near_some : (e : Cell) → IsEntry e → IsNear (Some e)
near_some e is b h = let same : e ≡ b = cc in subst IsEntry same is

pub IsNear-neighbour : (v : Version) (n : ℕ) (before : Option Cell) → IsNear before → IsNear (neighbour v n before)
IsNear-neighbour v n before is = go (has_neighbour v n)
  where
    go : (b : Bool) → IsNear (cond b before None)
    go true = is
    go false = near_none

-- ---- their number, as it is written

stays : (at : ℕ) → at ≡ at + 0
stays at = omega arith

pub same_again : (v : Version) (n : ℕ) (before : Option Cell) (e : Cell)
    → Again (same_at v (neighbour v n before)) (same_bytes v (shared_parts (neighbour v n before) e)) (shared_parts (neighbour v n before) e)
unfolding same_at
same_again One n before e at rest = ap (λ (p : ℕ). Ok (0, spot p rest)) (stays at)
same_again Two n before e at rest =
    let near = neighbour Two n before in
    let same = shared_parts near e in
    rw (bytes_again (same ∷ []) 1 refl at rest, le-ltb _ _ (shared_few near e)) refl

nothing_taken : (u : Unread) → IsBytes u.rest → Takes u [] u
nothing_taken u fits = record { parts = refl; place = stays u.at; rest_fits = fits }

pub same_take : (v : Version) (near : Option Cell) (u : Unread) (x : ℕ × Unread) → IsBytes u.rest → same_at v near u ≡ Ok x → Takes u (same_bytes v x.0) x.1 × (x.0 ≤ most_shared near)
unfolding same_at
same_take One near u x fits e =
    subst (λ (y : ℕ × Unread). Takes u [] y.1 × (y.0 ≤ most_shared near)) (ok_is (0, u) x e) (nothing_taken u fits, omega arith)
same_take Two near u x fits e =
    let same_of = λ (same : List ℕ × Unread). cond (ltb (most_shared near) (get_or same.0 0 0)) (Err (fault Bound u.at)) (Ok (get_or same.0 0 0, same.1)) in
    let b = bind_ok (whole_field (bytes_at 1 u)) same_of x e in
    let g = else_ok (ltb (most_shared near) (get_or b.0.0 0 0)) (fault Bound u.at) (Ok (get_or b.0.0 0 0, b.0.1)) x b.2 in
    subst (λ (y : ℕ × Unread). Takes u (y.0 ∷ []) y.1 × (y.0 ≤ most_shared near)) (ok_is (get_or b.0.0 0 0, b.0.1) x g.1) (byte_take u b.0 fits b.1, ltb-false _ _ g.0)

-- ---- one part

module _ (i same : ℕ) (near : Option Cell) (part : CellKey → List ℕ) (read : Unread → Result (List ℕ × Unread) Fault) where
  pub shared_again : (k : CellKey) → (ltb i same ≡ true → Shares near part k) → Again read (part_bytes (part k)) (part k)
      → Again (shared_or part read (sharer i same near)) (own_bytes (ltb i same) (part k)) (part k)
  shared_again k shares again = go (ltb i same) refl
    where
      go : (b : Bool) → ltb i same ≡ b → Again (shared_or part read (cond b (option_map (λ e. e.key) near) None)) (own_bytes b (part k)) (part k)
      go true h at rest =
          let s = shares h in
          ap (λ (n : Option Cell). shared_or part read (option_map (λ e. e.key) n) (spot at rest)) s.1
          ∙ ap (λ (bytes : List ℕ). Ok (bytes, spot at rest)) s.2 ∙ ap (λ (p : ℕ). Ok (part k, spot p rest)) (stays at)
      go false h at rest = again at rest

  pub shared_take : (P : List ℕ → Type 0) (u : Unread) (x : List ℕ × Unread) → IsBytes u.rest → same ≤ most_shared near → ((b : Cell) → near ≡ Some b → P (part b.key))
      → (read u ≡ Ok x → Takes u (part_bytes x.0) x.1 × P x.0) → shared_or part read (sharer i same near) u ≡ Ok x → Takes u (own_bytes (ltb i same) x.0) x.1 × P x.0
  shared_take P u x fits few is_near take e = go (ltb i same) refl near refl e
    where
      go : (b : Bool) → ltb i same ≡ b → (n : Option Cell) → near ≡ n → shared_or part read (cond b (option_map (λ e. e.key) n) None) u ≡ Ok x → Takes u (own_bytes b x.0) x.1 × P x.0
      go true h (Some b) is r = subst (λ (y : List ℕ × Unread). Takes u [] y.1 × P y.0) (ok_is (part b.key, u) x r) (nothing_taken u fits, is_near b is)
      go true h None is r = let none : most_shared near ≡ 0 = ap most_shared is in absurd (omega (arith, ltb-true _ _ h, few))
      go false h n is r = take r
