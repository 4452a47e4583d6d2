-- Several terms are asked, one after the other.
use Rattle.std.proofs.Common.{◌≡◌, Ordering, ◌&&◌, ◌||◌, ◌<◌, ◌≤◌, ◌+◌, ℕ, zero, suc, not, Bool, true, false, List, [], ◌∷◌, length, drop, get_or, refl, sym, ap, ◌∙◌, subst, arith}
use Rattle.std.specs.List.{list_all, list_any}
use Rattle.std.specs.Ordering.{is_gt, is_ge}
use Rattle.tablet_model.specs.Cell.{Cell}
use Rattle.tablet_model.specs.Rows.{has_term}
use Rattle.tablet_model.proofs.Bools.{both-of-and}
use Rattle.tablet_model.proofs.CutLemmas.{ge_back, ge_up, gt_up}
use Rattle.intersecting.specs.Searches.{document_cmp, reaches, lies_from, shows, left_by, IsAdvance, IsAgreement}
use Rattle.intersecting.specs.declared.asking.Step.{Step}
use Rattle.intersecting.specs.declared.asking.Step.TheVariants.{Here, Ahead, Nowhere}
use Rattle.intersecting.proofs.Orders.{document_total}
use Rattle.intersecting.proofs.Firsts.{no}

-- ---- lists of terms

pub all_step : (p : List ℕ → Bool) (names : List (List ℕ)) (i : ℕ) (d : List ℕ) → i < length names → list_all p (drop i names) ≡ (p (get_or names i d) && list_all p (drop (i + 1) names))
all_step p [] i d l = absurd (omega arith)
all_step p (n ∷ ns) zero d l = refl
all_step p (n ∷ ns) (suc i) d l = let k : suc i + 1 ≡ suc (i + 1) = omega arith in rw k (all_step p ns i d (omega arith))

pub any_step : (p : List ℕ → Bool) (names : List (List ℕ)) (i : ℕ) (d : List ℕ) → i < length names → list_any p (drop i names) ≡ (p (get_or names i d) || list_any p (drop (i + 1) names))
any_step p [] i d l = absurd (omega arith)
any_step p (n ∷ ns) zero d l = refl
any_step p (n ∷ ns) (suc i) d l = let k : suc i + 1 ≡ suc (i + 1) = omega arith in rw k (any_step p ns i d (omega arith))

-- each of them passes where all do
pub all_at : (p : List ℕ → Bool) (names : List (List ℕ)) (i : ℕ) (d : List ℕ) → i < length names → list_all p names ≡ true → p (get_or names i d) ≡ true
all_at p [] i d l h = absurd (omega arith)
all_at p (n ∷ ns) zero d l h = (both-of-and (p n) (list_all p ns) h).0
all_at p (n ∷ ns) (suc i) d l h = all_at p ns i d (omega arith) (both-of-and (p n) (list_all p ns) h).1

-- ---- moves, one after the other

-- what is from a place on that is reached is reached
pub onward : (b c : Bool) (p n m : Cell) → lies_from b p n ≡ true → lies_from c n m ≡ true → lies_from b p m ≡ true
unfolding lies_from
onward b c p n m h k = go b h
  where
    from_on : (c : Bool) (o r : Ordering) → is_ge o ≡ not (is_gt r) → reaches c o ≡ true → is_gt r ≡ false
    from_on true o r e h = grind (arith, e, h)
    from_on false o r e h = grind (arith, e, h)

    low : is_gt (document_cmp n.key m.key) ≡ false
    low = from_on c (document_cmp m.key n.key) (document_cmp n.key m.key) (ge_back document_total m.key n.key) k

    go : (b : Bool) → reaches b (document_cmp n.key p.key) ≡ true → reaches b (document_cmp m.key p.key) ≡ true
    go true h = gt_up document_total p.key n.key m.key h low
    go false h = ge_up document_total p.key n.key m.key h low

-- how far several terms were asked: up to the one at a place
pub record IsGathered (list : List Cell) (terms : List (List ℕ)) (i : ℕ) (p n : Cell) (step : Step) : Type 0 where
  pub row : n.key.row ≡ p.key.row
  pub shown : shows step ≡ true
  pub here : step ≡ Here → (n ≡ p) × (list_all (has_term list n) (drop i terms) ≡ list_all (has_term list n) terms)
  pub forward : step ≡ Ahead → lies_from true p n ≡ true
  pub left : (d : Cell) → list_all (has_term list d) terms ≡ true → lies_from false p d ≡ lies_from false n d

pub advance_by : (l m : List Cell) (t u : List ℕ) (behind : Bool) (p n : Cell) (step : Step) → l ≡ m → t ≡ u → IsAdvance l t behind p n step → IsAdvance m u behind p n step
advance_by l m t u behind p n step e f h = subst (λ l. IsAdvance l u behind p n step) e (subst (λ t. IsAdvance l t behind p n step) f h)

module _ (list : List Cell) (terms : List (List ℕ)) (p : Cell) where
  module _ (i : ℕ) (t : List ℕ) (n m : Cell) (step : Step) (short : i < length terms) (gathered : IsGathered list terms i p n step) where
    abbrev term : List ℕ
    term = get_or terms i t

    has_own : (d : Cell) → list_all (has_term list d) terms ≡ true → has_term list d term ≡ true
    has_own d h = all_at (has_term list d) terms i t short h

    -- the document has this term too
    pub gathered_here : IsAdvance list term false n m Here → IsGathered list terms (i + 1) p m step
    gathered_here a =
        let stays : m ≡ n = a.stays refl in
        record {
          row = a.row ∙ gathered.row;
          shown = gathered.shown;
          here = λ h. (
            stays ∙ (gathered.here h).0,
            ap (λ b. b && list_all (has_term list m) (drop (i + 1) terms)) (sym (a.shown refl)) ∙ sym (all_step (has_term list m) terms i t short)
                ∙ subst (λ m. list_all (has_term list m) (drop i terms) ≡ list_all (has_term list m) terms) (sym stays) (gathered.here h).1,
          );
          forward = λ h. subst (λ m. lies_from true p m ≡ true) (sym stays) (gathered.forward h);
          left = λ d h. gathered.left d h ∙ ap (λ n. lies_from false n d) (sym stays);
        }

    from_on : (s : Step) → shows s ≡ true → (s ≡ Here → (n ≡ p) × (list_all (has_term list n) (drop i terms) ≡ list_all (has_term list n) terms)) → (s ≡ Ahead → lies_from true p n ≡ true) → lies_from true n m ≡ true → lies_from true p m ≡ true
    from_on Here s h f k = subst (λ n. lies_from true n m ≡ true) (h refl).0 k
    from_on Ahead s h f k = onward true true p n m (f refl) k
    from_on Nowhere s h f k = no s

    -- the row has a later one
    pub gathered_ahead : IsAdvance list term false n m Ahead → IsGathered list terms (i + 1) p m Ahead
    gathered_ahead a = record {
      row = a.row ∙ gathered.row;
      shown = refl;
      here = λ h. absurd (let k : Ahead ≡ Here = h in cc);
      forward = λ h. from_on step gathered.shown gathered.here gathered.forward (a.forward refl);
      left = λ d h. gathered.left d h ∙ a.left d (has_own d h);
    }

    -- the row has none
    pub gathered_nowhere : IsAdvance list term false n m Nowhere → IsAgreement list terms p m Nowhere
    gathered_nowhere a = record {
      row = a.row ∙ gathered.row;
      here = λ h. absurd (let k : Nowhere ≡ Here = h in cc);
      forward = λ h. absurd (let k : Nowhere ≡ Ahead = h in cc);
      left = λ d h. gathered.left d h ∙ a.left d (has_own d h);
    }

  drop_all : (terms : List (List ℕ)) (i : ℕ) → length terms ≤ i → (q : List ℕ → Bool) → list_all q (drop i terms) ≡ true
  drop_all [] zero h q = refl
  drop_all [] (suc i) h q = refl
  drop_all (t ∷ ts) zero h q = absurd (omega arith)
  drop_all (t ∷ ts) (suc i) h q = drop_all ts i (omega arith) q

  left_so : (n d : Cell) (s : Step) → shows s ≡ true → lies_from false n d ≡ left_by s n d
  left_so n d Here h = refl
  left_so n d Ahead h = refl
  left_so n d Nowhere h = no h

  -- all were asked
  pub gathered_all : (i : ℕ) (n : Cell) (step : Step) → length terms ≤ i → IsGathered list terms i p n step → IsAgreement list terms p n step
  gathered_all i n step ends gathered = record {
    row = gathered.row;
    here = λ h. ((gathered.here h).0, sym (gathered.here h).1 ∙ drop_all terms i ends (has_term list n));
    forward = gathered.forward;
    left = λ d h. gathered.left d h ∙ left_so n d step gathered.shown;
  }
