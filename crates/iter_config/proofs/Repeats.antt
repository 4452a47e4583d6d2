-- Iterators that break a rule with one before them.
use Rattle.std.proofs.Common.{◌≡◌, ℕ, ◌+◌, ◌<◌, Bool, true, false, not, ◌&&◌, ◌||◌, cond, List, [], ◌∷◌, ◌++◌, length, take, drop, get_or, Option, Some, None, refl, sym, ap, ◌∙◌, arith}
use Rattle.std.specs.List.{All, AllByRecursion, IsDistinct, list_any}
use Rattle.std.proofs.lemmas.List.{at_drop_more, take_more}
use Rattle.std.proofs.lemmas.List.Elements.{All-from_recursion}
use Rattle.std.proofs.lemmas.List.Folds.{list_any-append}
use Rattle.iter_config.specs.Rules.{all_scopes, combines_behind, first_beyond_scans, first_clash, first_gap, first_unscanned, is_combiner, is_scan_only, leaves_gap, leaves_scans, number_by, scopes_gap}
use Rattle.iter_config.specs.declared.iter_spec.IterSpec.{IterSpec}
use Rattle.tablet_model.proofs.Bools.{neither-of-or}

module _ (number : List IterSpec → IterSpec → ℕ) (clash : IterSpec → IterSpec → Bool) where
  abbrev search_from : List IterSpec → ℕ → Option ℕ
  search_from ss i = first_clash number clash (take i ss) (drop i ss)

  -- the search, at the place that it has come to
  clash_at : (ss : List IterSpec) (i : ℕ) (s : IterSpec) (t : Bool) → i < length ss → s ≡ get_or ss i s → list_any (λ r. clash r s) (take i ss) ≡ t
      → search_from ss i ≡ cond t (Some (number (take i ss) s)) (search_from ss (i + 1))
  clash_at ss i s t lt at is =
      at_drop_more (first_clash number clash (take i ss)) ss i s lt
      ∙ ap (λ r. first_clash number clash (take i ss) (r ∷ drop (i + 1) ss)) (sym at)
      ∙ ap (λ b. cond b (Some (number (take i ss) s)) (first_clash number clash (take i ss ++ s ∷ []) (drop (i + 1) ss))) is
      ∙ ap (λ r. cond t (Some (number (take i ss) s)) (first_clash number clash (take i ss ++ r ∷ []) (drop (i + 1) ss))) at
      ∙ ap (λ b. cond t (Some (number (take i ss) s)) (first_clash number clash b (drop (i + 1) ss))) (sym (take_more ss i s lt))

  -- the iterator there breaks the rule with one before it
  pub clash_here : (ss : List IterSpec) (i : ℕ) (s : IterSpec) → i < length ss → s ≡ get_or ss i s → list_any (λ r. clash r s) (take i ss) ≡ true
      → Some (number (take i ss) s) ≡ search_from ss i
  clash_here ss i s lt at is = sym (clash_at ss i s true lt at is)

  -- it doesn't, and the search goes on behind it
  pub clash_later : (ss : List IterSpec) (i : ℕ) (s : IterSpec) → i < length ss → s ≡ get_or ss i s → list_any (λ r. clash r s) (take i ss) ≡ false
      → search_from ss (i + 1) ≡ search_from ss i
  clash_later ss i s lt at is = sym (clash_at ss i s false lt at is)

  -- none of these breaks it with one of those
  abbrev AreApart : List IterSpec → List IterSpec → Type 0
  AreApart before ss = AllByRecursion (λ s. list_any (λ t. clash t s) before ≡ false) ss

  split_last : (before : List IterSpec) (s : IterSpec) (ss : List IterSpec) → AreApart (before ++ s ∷ []) ss → AreApart before ss × AllByRecursion (λ r. clash s r ≡ false) ss
  split_last before s [] h = (tt, tt)
  split_last before s (r ∷ rs) h =
      let (front, back) = neither-of-or (list_any (λ t. clash t r) before) (list_any (λ t. clash t r) (s ∷ [])) (sym (list_any-append (λ t. clash t r) before (s ∷ [])) ∙ h.0) in
      let rest = split_last before s rs h.1 in
      ((front, rest.0), ((neither-of-or (clash s r) false back).0, rest.1))

  apart : (before ss : List IterSpec) → first_clash number clash before ss ≡ None → AreApart before ss × IsDistinct clash ss
  unfolding IsDistinct
  apart before [] h = (tt, tt)
  apart before (s ∷ ss) h = go (list_any (λ t. clash t s) before) refl h (apart (before ++ s ∷ []) ss)
    where
      go : (b : Bool) → list_any (λ t. clash t s) before ≡ b → cond b (Some (number before s)) (first_clash number clash (before ++ s ∷ []) ss) ≡ None
          → (first_clash number clash (before ++ s ∷ []) ss ≡ None → AreApart (before ++ s ∷ []) ss × IsDistinct clash ss)
          → AreApart before (s ∷ ss) × IsDistinct clash (s ∷ ss)
      go true e k later = absurd (let m : Some (number before s) ≡ None = k in cc)
      go false e k later =
          let (rest, distinct) = later k in
          let (front, back) = split_last before s ss rest in
          ((e, front), (back, distinct))

  -- where the search finds none, no iterator breaks it
  pub IsDistinct-from_first_clash : (ss : List IterSpec) → first_clash number clash [] ss ≡ None → IsDistinct clash ss
  IsDistinct-from_first_clash ss h = (apart [] ss h).1

-- where no iterator is found that doesn't run in scans, all do
pub scans-from_first_unscanned : (priorities : List ℕ) (ss : List IterSpec) → first_unscanned priorities ss ≡ None → All (λ s. s.scopes.scan ≡ true) ss
scans-from_first_unscanned priorities ss h = All-from_recursion (λ s. s.scopes.scan ≡ true) ss (all ss h)
  where
    all : (ss : List IterSpec) → first_unscanned priorities ss ≡ None → AllByRecursion (λ s. s.scopes.scan ≡ true) ss
    all [] h = tt
    all (s ∷ ss) h = go s.scopes.scan refl h (all ss)
      where
        go : (b : Bool) → s.scopes.scan ≡ b → cond b (first_unscanned priorities ss) (Some (number_by priorities s)) ≡ None
            → (first_unscanned priorities ss ≡ None → AllByRecursion (λ s. s.scopes.scan ≡ true) ss) → AllByRecursion (λ s. s.scopes.scan ≡ true) (s ∷ ss)
        go true e k later = (e, later k)
        go false e k later = absurd (let m : Some (number_by priorities s) ≡ None = k in cc)

gap_later : (a b c d e f : Bool) → ((c && not a) || (d && not b)) ≡ false → ((e && not c) || (f && not d)) ≡ false → ((e && not a) || (f && not b)) ≡ false
gap_later a b c d e f h k = grind arith

gaps_later : (s t : IterSpec) → leaves_gap s t ≡ false → (ss : List IterSpec) → AllByRecursion (λ u. leaves_gap t u ≡ false) ss → AllByRecursion (λ u. leaves_gap s u ≡ false) ss
gaps_later s t h [] k = tt
gaps_later s t h (u ∷ us) k = (gap_later s.scopes.minc s.scopes.majc t.scopes.minc t.scopes.majc u.scopes.minc u.scopes.majc h k.0, gaps_later s t h us k.1)

gaps : (priorities : List ℕ) (s : IterSpec) (ss : List IterSpec) → first_gap priorities s.scopes ss ≡ None → AllByRecursion (λ t. leaves_gap s t ≡ false) ss × IsDistinct leaves_gap ss
unfolding IsDistinct
gaps priorities s [] h = (tt, tt)
gaps priorities s (t ∷ ts) h = go (leaves_gap s t) refl h (gaps priorities t ts)
  where
    go : (b : Bool) → leaves_gap s t ≡ b → cond b (Some (number_by priorities t)) (first_gap priorities t.scopes ts) ≡ None
        → (first_gap priorities t.scopes ts ≡ None → AllByRecursion (λ u. leaves_gap t u ≡ false) ts × IsDistinct leaves_gap ts)
        → AllByRecursion (λ u. leaves_gap s u ≡ false) (t ∷ ts) × IsDistinct leaves_gap (t ∷ ts)
    go true e k later = absurd (let m : Some (number_by priorities t) ≡ None = k in cc)
    go false e k later =
        let (behind, distinct) = later k in
        ((e, gaps_later s t e ts behind), (behind, distinct))

-- where none leaves a gap behind the one just before it, none leaves one behind any before it
pub prefixes-from_first_gap : (priorities : List ℕ) (ss : List IterSpec) → first_gap priorities all_scopes ss ≡ None → IsDistinct leaves_gap ss
unfolding IsDistinct
prefixes-from_first_gap priorities [] h = tt
prefixes-from_first_gap priorities (s ∷ ss) h = go (scopes_gap all_scopes s.scopes) h
  where
    go : (b : Bool) → cond b (Some (number_by priorities s)) (first_gap priorities s.scopes ss) ≡ None → IsDistinct leaves_gap (s ∷ ss)
    go true k = absurd (let m : Some (number_by priorities s) ≡ None = k in cc)
    go false k = gaps priorities s ss k

no_number : (n : ℕ) → Some n ≡ None → ⊥
no_number n h = cc

either : (a b : Bool) → (a || b) ≡ false → (a ≡ false) × (b ≡ false)
either a b h = grind arith

-- where none is found that leaves scans, or combines behind one for scans alone
beyond_none : (priorities : List ℕ) (alone : Bool) (s : IterSpec) (ss : List IterSpec) → first_beyond_scans priorities alone (s ∷ ss) ≡ None
    → ((leaves_scans s || (alone && is_combiner s.kind)) ≡ false) × (first_beyond_scans priorities (alone || is_scan_only s.kind) ss ≡ None)
beyond_none priorities alone s ss h = go (leaves_scans s || (alone && is_combiner s.kind)) h
  where
    go : (b : Bool) → cond b (Some (number_by priorities s)) (first_beyond_scans priorities (alone || is_scan_only s.kind) ss) ≡ None
        → (b ≡ false) × (first_beyond_scans priorities (alone || is_scan_only s.kind) ss ≡ None)
    go true k = absurd (no_number (number_by priorities s) k)
    go false k = (refl, k)

-- all others stay in scans
pub scans-from_first_beyond_scans : (priorities : List ℕ) (alone : Bool) (ss : List IterSpec) → first_beyond_scans priorities alone ss ≡ None → AllByRecursion (λ s. leaves_scans s ≡ false) ss
scans-from_first_beyond_scans priorities alone [] h = tt
scans-from_first_beyond_scans priorities alone (s ∷ ss) h =
    let k = beyond_none priorities alone s ss h in
    ((either (leaves_scans s) (alone && is_combiner s.kind) k.0).0, scans-from_first_beyond_scans priorities (alone || is_scan_only s.kind) ss k.1)

combines_no_more : (priorities : List ℕ) (alone : Bool) (ss : List IterSpec) → alone ≡ true → first_beyond_scans priorities alone ss ≡ None → AllByRecursion (λ t. is_combiner t.kind ≡ false) ss
combines_no_more priorities alone [] a h = tt
combines_no_more priorities alone (s ∷ ss) a h =
    let k = beyond_none priorities alone s ss h in
    (second alone (is_combiner s.kind) (either (leaves_scans s) (alone && is_combiner s.kind) k.0).1 a, combines_no_more priorities (alone || is_scan_only s.kind) ss (ap (λ b. b || is_scan_only s.kind) a) k.1)
  where
    second : (a b : Bool) → (a && b) ≡ false → a ≡ true → b ≡ false
    second a b h k = grind arith

-- and none combines behind one for scans alone
pub distinct-from_first_beyond_scans : (priorities : List ℕ) (alone : Bool) (ss : List IterSpec) → first_beyond_scans priorities alone ss ≡ None → IsDistinct combines_behind ss
unfolding IsDistinct
distinct-from_first_beyond_scans priorities alone [] h = tt
distinct-from_first_beyond_scans priorities alone (s ∷ ss) h =
    let k = beyond_none priorities alone s ss h in
    (behind (is_scan_only s.kind) refl k.1, distinct-from_first_beyond_scans priorities (alone || is_scan_only s.kind) ss k.1)
  where
    both : (a b : Bool) → b ≡ false → (a && b) ≡ false
    both a b h = grind arith

    last : (a b : Bool) → b ≡ true → (a || b) ≡ true
    last a b h = grind arith

    behind : (b : Bool) → is_scan_only s.kind ≡ b → first_beyond_scans priorities (alone || is_scan_only s.kind) ss ≡ None → AllByRecursion (λ t. combines_behind s t ≡ false) ss
    behind true e k = all (λ t. is_combiner t.kind ≡ false) (λ t. combines_behind s t ≡ false) (λ t h. both (is_scan_only s.kind) (is_combiner t.kind) h) ss (combines_no_more priorities (alone || is_scan_only s.kind) ss (last alone (is_scan_only s.kind) e) k)
      where
        all : (P Q : IterSpec → Type 0) → ((t : IterSpec) → P t → Q t) → (ss : List IterSpec) → AllByRecursion P ss → AllByRecursion Q ss
        all P Q f [] h = tt
        all P Q f (t ∷ ts) h = (f t h.0, all P Q f ts h.1)
    behind false e k = every ss
      where
        every : (ts : List IterSpec) → AllByRecursion (λ t. combines_behind s t ≡ false) ts
        every [] = tt
        every (t ∷ ts) = (ap (λ b. b && is_combiner t.kind) e, every ts)
