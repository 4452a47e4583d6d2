-- The iterators of a scope come first.
use Rattle.std.proofs.Common.{◌≡◌, Bool, true, false, not, ◌&&◌, ◌||◌, cond, List, [], ◌∷◌, ◌++◌, refl, sym, ap, ◌∙◌, arith}
use Rattle.std.proofs.lemmas.List.{map-append}
use Rattle.std.specs.Prelude.{filter}
use Rattle.std.specs.List.{AllByRecursion, IsDistinct}
use Rattle.tablet_model.proofs.Combines.{filter_all}
use Rattle.tablet_model.specs.Cell.{Cell}
use Rattle.tablet_model.specs.Rules.{StandsFirst, scan_stack}
use Rattle.tablet_model.specs.Stages.{Stage, stage, stages}
use Rattle.iter_config.specs.Order.{IsConfig, NoneClashes}
use Rattle.iter_config.specs.Rules.{in_base, leaves_gap}
use Rattle.iter_config.specs.RulesOf.{rules_of, scans_alone}
use Rattle.iter_config.specs.Settings.{Settings}
use Rattle.iter_config.specs.Stages.{stage_of, stage_list, stages_of}
use Rattle.iter_config.specs.declared.iter_spec.IterSpec.{IterSpec}

pub behind_false : (a b : Bool) → a ≡ false → (b && not a) ≡ false → b ≡ false
behind_false true b e h = absurd (let k : true ≡ false = e in cc)
behind_false false true e h = h
behind_false false false e h = refl

unpassed : (q b : Bool) → b ≡ false → (q && not b) ≡ q
unpassed true true h = absurd (let k : true ≡ false = h in cc)
unpassed true false h = refl
unpassed false b h = refl

module _ {X : Type 0} where
  -- what follows of each element
  pub map_all : (P Q : X → Type 0) → ((x : X) → P x → Q x) → (xs : List X) → AllByRecursion P xs → AllByRecursion Q xs
  map_all P Q f [] h = tt
  map_all P Q f (x ∷ xs) h = (f x h.0, map_all P Q f xs h.1)

  -- what clashes by one rule clashes by another
  pub map_distinct : (c d : X → X → Bool) → ((x y : X) → c x y ≡ false → d x y ≡ false) → (xs : List X) → IsDistinct c xs → IsDistinct d xs
  unfolding IsDistinct
  map_distinct c d f [] h = tt
  map_distinct c d f (x ∷ xs) h = (map_all (λ y. c x y ≡ false) (λ y. d x y ≡ false) (f x) xs h.0, map_distinct c d f xs h.1)

  -- a test that nothing passes
  pub filter_none : (p : X → Bool) (xs : List X) → AllByRecursion (λ x. p x ≡ false) xs → filter p xs ≡ []
  filter_none p [] h = refl
  filter_none p (x ∷ xs) h = rw h.0 (filter_none p xs h.1)

  -- two tests that tell the same elements
  pub filter_same : (p q : X → Bool) (xs : List X) → AllByRecursion (λ x. p x ≡ q x) xs → filter p xs ≡ filter q xs
  filter_same p q [] h = refl
  filter_same p q (x ∷ xs) h = rw h.0 (ap (λ l. cond (q x) (x ∷ l) l) (filter_same p q xs h.1))

  -- one that passes stands behind one that doesn't
  abbrev pub is_behind : (X → Bool) → X → X → Bool
  is_behind p x y = p y && not (p x)

  -- where none does, those that pass come first
  pub passed_first : (p q : X → Bool) → ((x : X) → p x ≡ true → q x ≡ true) → (xs : List X) → IsDistinct (is_behind p) xs
      → filter p xs ++ filter (λ x. q x && not (p x)) xs ≡ filter q xs
  unfolding IsDistinct
  passed_first p q within [] h = refl
  passed_first p q within (x ∷ xs) h = go (p x) refl (passed_first p q within xs h.1)
    where
      later : p x ≡ false → AllByRecursion (λ y. p y ≡ false) xs
      later e = map_all (λ y. is_behind p x y ≡ false) (λ y. p y ≡ false) (λ y k. behind_false (p x) (p y) e k) xs h.0

      alike : p x ≡ false → AllByRecursion (λ y. (q y && not (p y)) ≡ q y) (x ∷ xs)
      alike e = (unpassed (q x) (p x) e, map_all (λ y. p y ≡ false) (λ y. (q y && not (p y)) ≡ q y) (λ y k. unpassed (q y) (p y) k) xs (later e))

      go : (b : Bool) → p x ≡ b → filter p xs ++ filter (λ y. q y && not (p y)) xs ≡ filter q xs → filter p (x ∷ xs) ++ filter (λ y. q y && not (p y)) (x ∷ xs) ≡ filter q (x ∷ xs)
      go true e rest = rw (e, within x e) (ap (λ l. x ∷ l) rest)
      go false e rest = ap (λ l. l ++ filter (λ y. q y && not (p y)) (x ∷ xs)) (filter_none p (x ∷ xs) (e, later e)) ∙ filter_same (λ y. q y && not (p y)) q (x ∷ xs) (alike e)

gap_minc : (m n a b : Bool) → ((n && not m) || (b && not a)) ≡ false → (n && not m) ≡ false
gap_minc m n a b h = grind arith

gap_majc : (m n a b : Bool) → ((n && not m) || (b && not a)) ≡ false → (b && not a) ≡ false
gap_majc m n a b h = grind arith

gap_base : (m n a b : Bool) → ((n && not m) || (b && not a)) ≡ false → ((n || b) && not (m || a)) ≡ false
gap_base m n a b h = grind arith

-- in a configuration those of minor, of major and of all compactions come first
pub minc_first : (specs : List IterSpec) → NoneClashes leaves_gap specs → IsDistinct (is_behind (λ s. s.scopes.minc)) specs
minc_first specs h = map_distinct leaves_gap (is_behind (λ s. s.scopes.minc)) (λ s t k. gap_minc s.scopes.minc t.scopes.minc s.scopes.majc t.scopes.majc k) specs h

pub majc_first : (specs : List IterSpec) → NoneClashes leaves_gap specs → IsDistinct (is_behind (λ s. s.scopes.majc)) specs
majc_first specs h = map_distinct leaves_gap (is_behind (λ s. s.scopes.majc)) (λ s t k. gap_majc s.scopes.minc t.scopes.minc s.scopes.majc t.scopes.majc k) specs h

pub base_first : (specs : List IterSpec) → NoneClashes leaves_gap specs → IsDistinct (is_behind in_base) specs
base_first specs h = map_distinct leaves_gap (is_behind in_base) (λ s t k. gap_base s.scopes.minc t.scopes.minc s.scopes.majc t.scopes.majc k) specs h

pub stands_first : (p : IterSpec → Bool) → ((s : IterSpec) → p s ≡ true → in_base s ≡ true) → (specs : List IterSpec) → IsDistinct (is_behind p) specs
    → StandsFirst (stage_list (filter p specs)) (stage_list (filter in_base specs))
stands_first p within specs h = (
  stage_list (filter (λ s. in_base s && not (p s)) specs),
  sym (map-append (λ s. stage_of s.kind) (filter p specs) (filter (λ s. in_base s && not (p s)) specs)) ∙ ap stage_list (passed_first p in_base within specs h),
)

stages_behind : (ps qs : List Stage) (list : List Cell) → stages (ps ++ qs) list ≡ stages qs (stages ps list)
unfolding stages
stages_behind [] qs list = refl
stages_behind (p ∷ ps) qs list = stages_behind ps qs (stage p list)

-- scans run each iterator, in the order of priorities
pub scans_run_all : (c : Settings) (list : List Cell) → IsConfig c → scan_stack (rules_of c) list ≡ stages (stages_of c) list
unfolding rules_of
scans_run_all c list h =
    let specs : List IterSpec = c.iterators in
    sym (stages_behind (stage_list (filter in_base specs)) (stage_list (scans_alone specs)) list)
    ∙ ap (λ ss. stages ss list) (sym (map-append (λ s. stage_of s.kind) (filter in_base specs) (scans_alone specs)))
    ∙ ap (λ ss. stages (stage_list ss) list) (passed_first in_base (λ s. true) (λ s k. refl) specs (base_first specs h.iterators.prefixes) ∙ filter_all (λ s. true) specs (all_true specs))
  where
    all_true : (ss : List IterSpec) → AllByRecursion (λ s. true ≡ true) ss
    all_true [] = tt
    all_true (s ∷ ss) = (refl, all_true ss)
