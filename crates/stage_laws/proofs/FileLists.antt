-- Files and their numbers.
use Rattle.std.proofs.Common.{◌≡◌, ◌||◌, not, ℕ, ◌+◌, ◌<◌, Bool, true, false, cond, List, [], ◌∷◌, ◌++◌, map, eqb, refl, sym, ap, ◌∙◌, subst, arith, append_assoc, append-nil}
use Rattle.std.specs.List.{AllByRecursion, filter, list_any, list_all}
use Rattle.std.proofs.lemmas.Bool.{eqb-true, eq-eqb}
use Rattle.tablet_model.specs.Cell.{Cell}
use Rattle.tablet_model.specs.Stands.{AreApartIds, AreBelow, AreRising, AreThere}
use Rattle.tablet_model.specs.Steps.{ids_of, takes_all}
use Rattle.tablet_model.specs.Store.{File, cells_of, has_id, files_with, files_without}
use Rattle.tablet_model.proofs.Bools.{and-of-both, both-of-and}
use Rattle.tablet_model.proofs.Merges.{all_append, all_left, all_right}
use Rattle.tablet_model.proofs.Sums.{all_filter, all_weaker}
use Rattle.stage_laws.proofs.Kept.{absurd_bool}

-- of the elements that pass a test
pub all_where : {X : Type 0} (P : X → Type 0) (p : X → Bool) (xs : List X) → AllByRecursion P (filter p xs) → AllByRecursion (λ x. p x ≡ true → P x) xs
all_where P p [] h = tt
all_where P p (x ∷ xs) h = go (p x) refl h (all_where P p xs)
  where
    go : (b : Bool) → p x ≡ b → AllByRecursion P (cond b (x ∷ filter p xs) (filter p xs)) → (AllByRecursion P (filter p xs) → AllByRecursion (λ x. p x ≡ true → P x) xs) → (p x ≡ true → P x) × AllByRecursion (λ x. p x ≡ true → P x) xs
    go true e k ih = ((λ _. k.0), ih k.1)
    go false e k ih = ((λ t. absurd (absurd_bool t e)), ih k)

pub all_filtered : {X : Type 0} (P : X → Type 0) (p : X → Bool) (xs : List X) → AllByRecursion (λ x. p x ≡ true → P x) xs → AllByRecursion P (filter p xs)
all_filtered P p [] h = tt
all_filtered P p (x ∷ xs) h = go (p x) refl (all_filtered P p xs h.1)
  where
    go : (b : Bool) → p x ≡ b → AllByRecursion P (filter p xs) → AllByRecursion P (cond b (x ∷ filter p xs) (filter p xs))
    go true e k = (h.0 e, k)
    go false e k = k

-- cells, file by file
abbrev pub AllCells : (Cell → Type 0) → File → Type 0
AllCells P f = AllByRecursion P f.cells

pub all_cells : (P : Cell → Type 0) (files : List File) → AllByRecursion (AllCells P) files → AllByRecursion P (cells_of files)
unfolding cells_of
all_cells P [] h = tt
all_cells P (f ∷ fs) h = all_append P f.cells (cells_of fs) h.0 (all_cells P fs h.1)

pub all_files : (P : Cell → Type 0) (files : List File) → AllByRecursion P (cells_of files) → AllByRecursion (AllCells P) files
unfolding cells_of
all_files P [] h = tt
all_files P (f ∷ fs) h = (all_left P f.cells (cells_of fs) h, all_files P fs (all_right P f.cells (cells_of fs) h))

pub cells_append : (files : List File) (f : File) → cells_of (files ++ f ∷ []) ≡ cells_of files ++ f.cells
unfolding cells_of
cells_append [] f = append-nil f.cells
cells_append (g ∷ gs) f = ap (λ l. g.cells ++ l) (cells_append gs f) ∙ sym (append_assoc g.cells (cells_of gs) f.cells)

pub cells_one_more : (P : Cell → Type 0) (files : List File) (f : File) → AllByRecursion P (cells_of files) → AllByRecursion P f.cells → AllByRecursion P (cells_of (files ++ f ∷ []))
cells_one_more P files f h k = subst (AllByRecursion P) (sym (cells_append files f)) (all_append P (cells_of files) f.cells h k)

-- numbers
pub below_more : (next : ℕ) (files : List File) (cells : List Cell) → AreBelow next files → AreBelow (next + 1) (files ++ record { id = next; cells = cells } ∷ [])
below_more next files cells h = all_append (λ f. f.id < next + 1) files (record { id = next; cells = cells } ∷ []) (all_weaker (λ f. f.id < next) (λ f. f.id < next + 1) (λ f k. one_more f.id next k) files h) (last next, tt)
  where
    last : (n : ℕ) → n < n + 1
    last n = omega arith

    one_more : (a b : ℕ) → a < b → a < b + 1
    one_more a b h = omega arith

pub rising_more : (id : ℕ) (files : List File) (cells : List Cell) → AreBelow id files → AreRising files → AreRising (files ++ record { id = id; cells = cells } ∷ [])
rising_more id [] cells b h = (tt, tt)
rising_more id (f ∷ fs) cells b h = (all_append (λ g. f.id < g.id) fs (record { id = id; cells = cells } ∷ []) h.0 (b.0, tt), rising_more id fs cells b.1 h.1)

pub rising_filter : (p : File → Bool) (files : List File) → AreRising files → AreRising (filter p files)
rising_filter p [] h = h
rising_filter p (f ∷ fs) h = go (p f) (rising_filter p fs h.1)
  where
    go : (b : Bool) → AreRising (filter p fs) → AreRising (cond b (f ∷ filter p fs) (filter p fs))
    go true k = (all_filter (λ g. f.id < g.id) p fs h.0, k)
    go false k = k

-- a number that is there, among those below the next
eqb_refl : (i : ℕ) → eqb i i ≡ true
eqb_refl i = eq-eqb i i refl

pub eqb_sym : (i j : ℕ) → eqb i j ≡ false → eqb j i ≡ false
eqb_sym i j h = go (eqb j i) refl
  where
    go : (b : Bool) → eqb j i ≡ b → b ≡ false
    go false e = refl
    go true e = absurd (absurd_bool (eq-eqb i j (sym (eqb-true j i e))) h)

or_left : (a b : Bool) → a ≡ true → (a || b) ≡ true
or_left a b h = grind arith

or_right : (a b : Bool) → b ≡ true → (a || b) ≡ true
or_right a b h = grind arith

pub not_true : (b : Bool) → b ≡ false → not b ≡ true
not_true b h = grind arith

-- what an `or` shows
or_elim : (P : Type 0) (a b : Bool) → (a || b) ≡ true → (a ≡ true → P) → (b ≡ true → P) → P
or_elim P true b h f g = f refl
or_elim P false b h f g = g h

pub below_next : (next : ℕ) (files : List File) (i : ℕ) → AllByRecursion (λ f. f.id < next) files → has_id (ids_of files) i ≡ true → i < next
unfolding has_id ids_of
below_next next [] i all h = absurd (absurd_bool h refl)
below_next next (f ∷ fs) i all h = or_elim (i < next) (eqb i f.id) (list_any (eqb i) (map (λ f. f.id) fs)) h (λ e. subst (λ j. j < next) (sym (eqb-true i f.id e)) all.0) (below_next next fs i all.1)

-- so the next one is in no list of numbers that are there
pub not_next : (next : ℕ) (files : List File) (ids : List ℕ) → AllByRecursion (λ f. f.id < next) files → AreThere files ids → has_id ids next ≡ false
unfolding has_id
not_next next files [] all h = refl
not_next next files (i ∷ is) all h = go (eqb next i) refl (not_next next files is all h.1)
  where
    apart : (a b : ℕ) → a ≡ b → b < a → ⊥
    apart a b e l = omega arith

    go : (b : Bool) → eqb next i ≡ b → list_any (eqb next) is ≡ false → (b || list_any (eqb next) is) ≡ false
    go false e k = k
    go true e k = absurd (apart next i (eqb-true next i e) (below_next next files i all h.0))

there_append_one : (f : File) (fs : List File) (i : ℕ) → has_id (ids_of fs) i ≡ true → has_id (ids_of (fs ++ f ∷ [])) i ≡ true
unfolding has_id ids_of
there_append_one f [] i k = absurd (absurd_bool k refl)
there_append_one f (g ∷ gs) i k = or_elim ((eqb i g.id || list_any (eqb i) (map (λ f. f.id) (gs ++ f ∷ []))) ≡ true) (eqb i g.id) (list_any (eqb i) (map (λ f. f.id) gs)) k (or_left (eqb i g.id) (list_any (eqb i) (map (λ f. f.id) (gs ++ f ∷ [])))) (λ e. or_right (eqb i g.id) (list_any (eqb i) (map (λ f. f.id) (gs ++ f ∷ []))) (there_append_one f gs i e))

pub there_append : (files : List File) (f : File) (ids : List ℕ) → AreThere files ids → AreThere (files ++ f ∷ []) ids
there_append files f ids h = all_weaker (λ i. has_id (ids_of files) i ≡ true) (λ i. has_id (ids_of (files ++ f ∷ [])) i ≡ true) (λ i k. there_append_one f files i k) ids h

-- files of other numbers stay where some are taken away
there_one : (ids : List ℕ) (files : List File) (i : ℕ) → has_id ids i ≡ false → has_id (ids_of files) i ≡ true → has_id (ids_of (files_without ids files)) i ≡ true
unfolding has_id ids_of files_without
there_one ids [] i out h = h
there_one ids (f ∷ fs) i out h = or_elim (list_any (eqb i) (map (λ f. f.id) (cond (not (list_any (eqb f.id) ids)) (f ∷ files_without ids fs) (files_without ids fs))) ≡ true) (eqb i f.id) (list_any (eqb i) (map (λ f. f.id) fs)) h
    (λ e. go (list_any (eqb f.id) ids) refl e)
    (λ e. later (list_any (eqb f.id) ids) (there_one ids fs i out e))
  where
    go : (b : Bool) → list_any (eqb f.id) ids ≡ b → eqb i f.id ≡ true → list_any (eqb i) (map (λ f. f.id) (cond (not b) (f ∷ files_without ids fs) (files_without ids fs))) ≡ true
    go false e k = or_left (eqb i f.id) (list_any (eqb i) (map (λ f. f.id) (files_without ids fs))) k
    go true e k = absurd (absurd_bool (ap (λ j. list_any (eqb j) ids) (eqb-true i f.id k) ∙ e) out)

    later : (b : Bool) → list_any (eqb i) (map (λ f. f.id) (files_without ids fs)) ≡ true → list_any (eqb i) (map (λ f. f.id) (cond (not b) (f ∷ files_without ids fs) (files_without ids fs))) ≡ true
    later false k = or_right (eqb i f.id) (list_any (eqb i) (map (λ f. f.id) (files_without ids fs))) k
    later true k = k

pub there_unnamed : (ids : List ℕ) (files : List File) (others : List ℕ) → AreApartIds others ids → AreThere files others → AreThere (files_without ids files) others
there_unnamed ids files [] a h = tt
there_unnamed ids files (i ∷ is) a h = (there_one ids files i a.0 h.0, there_unnamed ids files is a.1 h.1)

-- a new file is outside a job whose files were there before
pub named_next : (ids : List ℕ) (files : List File) (f : File) → has_id ids f.id ≡ false → files_with ids (files ++ f ∷ []) ≡ files_with ids files
unfolding files_with
named_next ids [] f out = ap (λ b. cond b (f ∷ []) []) out
named_next ids (g ∷ gs) f out = go (has_id ids g.id) (named_next ids gs f out)
  where
    go : (b : Bool) → files_with ids (gs ++ f ∷ []) ≡ files_with ids gs → cond b (g ∷ files_with ids (gs ++ f ∷ [])) (files_with ids (gs ++ f ∷ [])) ≡ cond b (g ∷ files_with ids gs) (files_with ids gs)
    go true k = ap (λ l. g ∷ l) k
    go false k = k

pub unnamed_next : (ids : List ℕ) (files : List File) (f : File) → has_id ids f.id ≡ false → files_without ids (files ++ f ∷ []) ≡ files_without ids files ++ f ∷ []
unfolding files_without
unnamed_next ids [] f out = ap (λ b. cond (not b) (f ∷ []) []) out
unnamed_next ids (g ∷ gs) f out = go (not (has_id ids g.id)) (unnamed_next ids gs f out)
  where
    go : (b : Bool) → files_without ids (gs ++ f ∷ []) ≡ files_without ids gs ++ f ∷ [] → cond b (g ∷ files_without ids (gs ++ f ∷ [])) (files_without ids (gs ++ f ∷ [])) ≡ cond b (g ∷ files_without ids gs) (files_without ids gs) ++ f ∷ []
    go true k = ap (λ l. g ∷ l) k
    go false k = k

-- where a job takes all files, none is outside
pub none_unnamed : (ids : List ℕ) (files : List File) → takes_all ids files ≡ true → files_without ids files ≡ []
unfolding takes_all files_without
none_unnamed ids [] h = refl
none_unnamed ids (f ∷ fs) h =
    let k : (has_id ids f.id ≡ true) × (list_all (λ f. has_id ids f.id) fs ≡ true) = both-of-and (has_id ids f.id) (list_all (λ f. has_id ids f.id) fs) h in
    ap (λ b. cond (not b) (f ∷ files_without ids fs) (files_without ids fs)) k.0 ∙ none_unnamed ids fs k.1

pub outside_others : (f : File) (others ids : List ℕ) → AreApartIds ids others → has_id ids f.id ≡ true → has_id others f.id ≡ false
unfolding has_id
outside_others f others [] a h = absurd (absurd_bool h refl)
outside_others f others (i ∷ is) a h = or_elim (list_any (eqb f.id) others ≡ false) (eqb f.id i) (list_any (eqb f.id) is) h (λ e. ap (λ j. list_any (eqb j) others) (eqb-true f.id i e) ∙ a.0) (outside_others f others is a.1)

-- the files of one job are outside another
pub apart_named : (ids others : List ℕ) (files : List File) → AreApartIds ids others → AllByRecursion (λ f. has_id ids f.id ≡ true → not (has_id others f.id) ≡ true) files
apart_named ids others [] a = tt
apart_named ids others (f ∷ fs) a = ((λ h. not_true (has_id others f.id) (outside_others f others ids a h)), apart_named ids others fs a)

-- all files take all files
takes_within : (ids : List ℕ) (files : List File) → AllByRecursion (λ f. has_id ids f.id ≡ true) files → takes_all ids files ≡ true
unfolding takes_all
takes_within ids [] h = refl
takes_within ids (f ∷ fs) h = and-of-both (has_id ids f.id) (list_all (λ f. has_id ids f.id) fs) h.0 (takes_within ids fs h.1)

all_own : (files : List File) → AllByRecursion (λ f. has_id (ids_of files) f.id ≡ true) files
unfolding has_id ids_of
all_own [] = tt
all_own (f ∷ fs) = (or_left (eqb f.id f.id) (list_any (eqb f.id) (map (λ f. f.id) fs)) (eqb_refl f.id), all_weaker (λ g. list_any (eqb g.id) (map (λ f. f.id) fs) ≡ true) (λ g. (eqb g.id f.id || list_any (eqb g.id) (map (λ f. f.id) fs)) ≡ true) (λ g h. or_right (eqb g.id f.id) (list_any (eqb g.id) (map (λ f. f.id) fs)) h) fs (all_own fs))

pub takes_own : (files : List File) → takes_all (ids_of files) files ≡ true
takes_own files = takes_within (ids_of files) files (all_own files)
