-- What seeks and steps leave.
use Rattle.std.proofs.Common.{◌≡◌, ◌&&◌, ◌≤◌, ◌<◌, ℕ, Bool, true, false, cond, List, [], ◌∷◌, length, map, take, ◌++◌, pos, Option, Some, None, refl, sym, ap, ◌∙◌, subst, arith}
use Rattle.std.proofs.lemmas.List.{take_at}
use Rattle.std.specs.List.{AllByRecursion, filter}
use Rattle.tablet_model.specs.Cell.{Cell, CellKey, Column}
use Rattle.tablet_model.specs.Columns.{key_at, with_time}
use Rattle.tablet_model.specs.Order.{above}
use Rattle.tablet_model.specs.Cuts.{Cut, Span, is_behind, is_before, holds, within}
use Rattle.tablet_model.specs.Sorted.{Ascends, first, later}
use Rattle.tablet_model.proofs.CutLemmas.{before_down, key_le}
use Rattle.tablet_model.proofs.Orders.{above_exact}
use Rattle.tablet_model.proofs.Seeks.{filter_both, filter_same}
use Rattle.tablet_model.proofs.Sums.{all_weaker, Ascends-filter}
use Rattle.tablet_model.specs.Rows.{has_term, intersect_terms}
use Rattle.intersecting.specs.Documents.{document_key, document_entry, matches}
use Rattle.intersecting.specs.IntersectLaws.{Ascends-intersected}
use Rattle.intersecting.specs.Searches.{lies_from, place, IsSearch}
use Rattle.intersecting.specs.Firsts.{at_first}
use Rattle.intersecting.specs.IntersectStages.{IntersectFits}
use Rattle.intersecting.specs.declared.stage.IntersectStage.{IntersectStage}
use Rattle.iter_contract.proofs.Elements.{same_length}
use Rattle.intersecting.proofs.Elements.{first_same, same_first}
use Rattle.intersecting.proofs.Hits.{IsHit, hits_match, from_hit, matches_first}

module _ (terms without : List (List ℕ)) (list : List Cell) where
  abbrev hits : List Cell
  hits = intersect_terms terms without list

  none_pass : (p : Cell → Bool) (xs : List Cell) → AllByRecursion (λ x. p x ≡ false) xs → filter p xs ≡ []
  none_pass p [] h = refl
  none_pass p (x ∷ xs) h = ap (λ b. cond b (x ∷ filter p xs) (filter p xs)) h.0 ∙ none_pass p xs h.1

  -- the documents that are left, where a place is kept
  abbrev pub left_of : Bool → Cell → Cut → List Cell
  left_of held p end = cond held (filter (λ d. lies_from false p d && is_before end d.key) hits) []

  -- tests that agree on what matches leave the same
  agree : (p : Cell → Bool) (found : Bool) (n : Cell) (end : Cut) → AllByRecursion (λ d. p d ≡ (found && lies_from false n d)) hits → left_of found n end ≡ filter (λ d. p d && is_before end d.key) hits
  agree p true n end h = filter_same (λ d. lies_from false n d && is_before end d.key) (λ d. p d && is_before end d.key) hits (all_weaker (λ d. p d ≡ lies_from false n d) (λ d. (lies_from false n d && is_before end d.key) ≡ (p d && is_before end d.key)) (λ d k. ap (λ b. b && is_before end d.key) (sym k)) hits h)
  agree p false n end h = sym (none_pass (λ d. p d && is_before end d.key) hits (all_weaker (λ d. p d ≡ false) (λ d. (p d && is_before end d.key) ≡ false) (λ d k. ap (λ b. b && is_before end d.key) k) hits h))

  -- ---- a seek

  key_of_entry : (d : Cell) → d ≡ document_entry d → d.key ≡ document_key d.key
  key_of_entry d h = ap (λ d. d.key) h

  pub seek_left : 1 ≤ length terms → (s : Span) (t : Span) (behind : Bool) (p n : Cell) (found : Bool) → t ≡ s
      → ((d : Cell) (term : List ℕ) → has_term list d term ≡ true → d.key ≡ document_key d.key → is_behind s.start d.key ≡ lies_from behind p d) → IsSearch list terms without behind p n found
      → left_of found n t.end ≡ within s hits
  seek_left some s t behind p n found e begins search =
      ap (λ t. left_of found n t.end) e
      ∙ agree (λ d. is_behind s.start d.key) found n s.end (all_weaker (IsHit terms without list) (λ d. is_behind s.start d.key ≡ (found && lies_from false n d)) (λ d h. let own = matches_first terms without list d some h.matching in begins d own.0 own.1 (key_of_entry d h.shaped) ∙ search.left d h.matching) hits (hits_match terms without list))

  pub seek_nothing : 1 ≤ length terms → (s : Span) → ((d : Cell) (term : List ℕ) → has_term list d term ≡ true → d.key ≡ document_key d.key → is_behind s.start d.key ≡ false) → [] ≡ within s hits
  seek_nothing some s begins =
      sym (none_pass (λ d. holds s d.key) hits (all_weaker (IsHit terms without list) (λ d. holds s d.key ≡ false) (λ d h. let own = matches_first terms without list d some h.matching in ap (λ b. b && is_before s.end d.key) (begins d own.0 own.1 (key_of_entry d h.shaped))) hits (hits_match terms without list)))

  -- ---- from a document that matches

  module _ (rising : Ascends above list) (some : 1 ≤ length terms) (k : Cell) (hit : matches terms without list k ≡ true) (end : Cut) where
    abbrev before : Cell → Bool
    before d = is_before end d.key

    abbrev others : List Cell
    others = filter before (filter (lies_from true k) hits)

    block : filter (λ d. lies_from false k d && before d) hits ≡ cond (before (document_entry k)) (document_entry k ∷ others) others
    block = filter_both (lies_from false k) before hits ∙ ap (filter before) (from_hit terms without list k rising some hit)

    rest_up : Ascends above (document_entry k ∷ filter (lies_from true k) hits)
    rest_up = subst (Ascends above) (from_hit terms without list k rising some hit) (Ascends-filter above above_exact (lies_from false k) hits (Ascends-intersected terms without list rising))

    -- behind an end nothing is left
    ends : before (document_entry k) ≡ false → others ≡ []
    unfolding Ascends
    ends h = none_pass before (filter (lies_from true k) hits) (all_weaker (λ y. above (document_entry k) y ≡ false) (λ y. before y ≡ false) (λ y low. down y low (before y) refl) (filter (lies_from true k) hits) rest_up.0)
      where
        down : (y : Cell) → above (document_entry k) y ≡ false → (b : Bool) → before y ≡ b → b ≡ false
        down y low false m = refl
        down y low true m = sym (before_down end (document_entry k).key y.key m (key_le (document_entry k) y low)) ∙ h

    pub top_shown : (b : Bool) → b ≡ before (document_entry k) → cond b (Some (document_entry k)) None ≡ first (left_of true k end)
    top_shown true h = sym (ap first (block ∙ ap (λ b. cond b (document_entry k ∷ others) others) (sym h)))
    top_shown false h = sym (ap first (block ∙ ap (λ b. cond b (document_entry k ∷ others) others) (sym h) ∙ ends (sym h)))

    later_left : (b : Bool) → before (document_entry k) ≡ b → others ≡ later (cond b (document_entry k ∷ others) others)
    later_left true h = refl
    later_left false h = ends h ∙ sym (ap later (ends h))

    pub next_left : (n : Cell) (found : Bool) → IsSearch list terms without true k n found → left_of found n end ≡ later (left_of true k end)
    next_left n found search =
        agree (lies_from true k) found n end (all_weaker (IsHit terms without list) (λ d. lies_from true k d ≡ (found && lies_from false n d)) (λ d h. search.left d h.matching) hits (hits_match terms without list))
        ∙ filter_both (lies_from true k) before hits ∙ later_left (before (document_entry k)) refl ∙ ap later (sym block)

-- what is left is left of a kept place
pub was_held : (b : Bool) (xs : List Cell) → 0 < length (cond b xs []) → b ≡ true
was_held true xs h = refl
was_held false xs h = absurd (omega arith)

-- the same search, by other names
pub search_by : (list list' : List Cell) (terms terms' without without' : List (List ℕ)) (behind : Bool) (p n : Cell) (found : Bool) → list ≡ list' → terms ≡ terms' → without ≡ without' → IsSearch list terms without behind p n found → IsSearch list' terms' without' behind p n found
search_by list list' terms terms' without without' behind p n found l t w h =
    subst (λ list. IsSearch list terms' without' behind p n found) l (subst (λ terms. IsSearch list terms without' behind p n found) t (subst (λ without. IsSearch list terms without behind p n found) w h))

-- the kept key is that of the place
pub place_key : (column : Option Column) (k : CellKey) → Some k ≡ key_at column (pos 0) false → k ≡ (place column).key
place_key None k h = absurd cc
place_key (Some c) k h = let e : k ≡ with_time c (pos 0) false = cc in e

-- an entry without a value
abbrev pub entry_at : CellKey → Cell
entry_at k = record { key = k; value = [] }

pub same_entry : (k j : CellKey) → k ≡ j → Some (entry_at k) ≡ Some (entry_at j)
same_entry k j h = ap (λ k. Some (entry_at k)) h

-- ---- an iterator's sources after a call

-- the sources' parts fit together, they have the same entries and are as steady as one another, and the stage fits to them
abbrev pub Fitting : {S : Type 0} (cells : S → List Cell) (steady : S → Bool) (valid : S → Type 0) (stage : IntersectStage) (xs : List S) → Type 0
Fitting cells steady valid stage xs =
    AllByRecursion valid xs
    × AllByRecursion (λ c. c ≡ at_first cells [] xs) (map cells xs)
    × AllByRecursion (λ b. b ≡ at_first steady false xs) (map steady xs)
    × IntersectFits stage (length xs) (at_first cells [] xs)

pub still_valid : {S : Type 0} (cells : S → List Cell) (steady : S → Bool) (valid : S → Type 0) (stage : IntersectStage) (new old rest : List S) (n : ℕ) → map cells new ≡ map cells old → map steady new ≡ map steady old → length old ≡ n → AllByRecursion valid new
    → AllByRecursion (λ c. c ≡ at_first cells [] old) (map cells old) → AllByRecursion (λ b. b ≡ at_first steady false old) (map steady old) → IntersectFits stage (length old) (at_first cells [] old) → Fitting cells steady valid stage (take n (new ++ rest))
still_valid cells steady valid stage new old rest n h k l v s a f =
    subst (Fitting cells steady valid stage)
    (sym (take_at new rest n (same_length cells new old h ∙ l)))
    (v, same_first cells [] new old h s, same_first steady false new old k a, subst (λ count. IntersectFits stage count (at_first cells [] new)) (sym (same_length cells new old h)) (subst (IntersectFits stage (length old)) (sym (first_same cells [] new old h)) f))
