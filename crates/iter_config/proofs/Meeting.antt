-- Names that have a column in common.
use Rattle.std.proofs.Common.{◌≡◌, ℕ, Bool, true, false, ◌||◌, List, [], ◌∷◌, Option, Some, None, refl, ap, ◌∙◌}
use Rattle.std.proofs.lemmas.Cmp.{nat_list_eq_equiv}
use Rattle.std.specs.List.{list_any}
use Rattle.std.specs.Str.{bytes_eq}
use Rattle.cell_key.specs.Listed.{has_qualifier, is_listed, is_named}
use Rattle.cell_key.specs.declared.column_name.ColumnName.{ColumnName}
use Rattle.iter_config.specs.Rules.{names_meet, qualifiers_meet}
use Rattle.tablet_model.proofs.Bools.{and-of-both, both-of-and, neither-of-or, never-both}

-- two names of one column meet
bytes_meet : (p r q : List ℕ) → bytes_eq p q ≡ true → bytes_eq r q ≡ true → bytes_eq p r ≡ true
bytes_meet p r q h k = nat_list_eq_equiv.congr p q r h ∙ nat_list_eq_equiv.symm q r ∙ k

parts_meet : (p r : Option (List ℕ)) (q : List ℕ) → has_qualifier p q ≡ true → has_qualifier r q ≡ true → qualifiers_meet p r ≡ true
parts_meet None r q h k = refl
parts_meet (Some p) None q h k = refl
parts_meet (Some p) (Some r) q h k = bytes_meet p r q h k

meet : (n m : ColumnName) (family qualifier : List ℕ) → is_named family qualifier n ≡ true → is_named family qualifier m ≡ true → names_meet n m ≡ true
meet n m family qualifier h k =
    let (q, f) = both-of-and (has_qualifier n.qualifier qualifier) (bytes_eq n.family family) h in
    let (r, g) = both-of-and (has_qualifier m.qualifier qualifier) (bytes_eq m.family family) k in
    and-of-both (bytes_eq n.family m.family) (qualifiers_meet n.qualifier m.qualifier) (bytes_meet n.family m.family family f g) (parts_meet n.qualifier m.qualifier qualifier q r)

unnamed : (n m : ColumnName) (family qualifier : List ℕ) → is_named family qualifier n ≡ true → names_meet n m ≡ false → is_named family qualifier m ≡ false
unnamed n m family qualifier h k = go (is_named family qualifier m) refl
  where
    go : (b : Bool) → is_named family qualifier m ≡ b → b ≡ false
    go true e = never-both (names_meet n m) (meet n m family qualifier h e) k
    go false e = refl

unlisted : (n : ColumnName) (ms : List ColumnName) (family qualifier : List ℕ) → is_named family qualifier n ≡ true → list_any (names_meet n) ms ≡ false → is_listed ms family qualifier ≡ false
unlisted n [] family qualifier h k = refl
unlisted n (m ∷ ms) family qualifier h k =
    let (here, later) = neither-of-or (names_meet n m) (list_any (names_meet n) ms) k in
    ap (λ b. b || is_listed ms family qualifier) (unnamed n m family qualifier h here) ∙ unlisted n ms family qualifier h later

-- lists without a column in common
pub apart_columns : (ns ms : List ColumnName) (family qualifier : List ℕ) → list_any (λ n. list_any (names_meet n) ms) ns ≡ false → is_listed ns family qualifier ≡ true
    → is_listed ms family qualifier ≡ false
apart_columns [] ms family qualifier k h = absurd (let t : false ≡ true = h in cc)
apart_columns (n ∷ ns) ms family qualifier k h = go (is_named family qualifier n) refl h (apart_columns ns ms family qualifier parts.1)
  where
    parts : (list_any (names_meet n) ms ≡ false) × (list_any (λ n. list_any (names_meet n) ms) ns ≡ false)
    parts = neither-of-or (list_any (names_meet n) ms) (list_any (λ n. list_any (names_meet n) ms) ns) k

    go : (b : Bool) → is_named family qualifier n ≡ b → (b || is_listed ns family qualifier) ≡ true → (is_listed ns family qualifier ≡ true → is_listed ms family qualifier ≡ false) → is_listed ms family qualifier ≡ false
    go true e t later = unlisted n ms family qualifier e parts.0
    go false e t later = later t
