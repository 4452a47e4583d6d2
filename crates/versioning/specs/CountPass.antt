-- The pass over what is left gives the newest versions.
use Rattle.std.proofs.Common.{◌≡◌, ◌||◌, ◌&&◌, not, ℕ, ◌+◌, ◌<◌, ◌≤◌, min, Bool, true, false, cond, List, [], ◌∷◌, Some, refl, sym, ap, ◌∙◌, ltb, lt-ltb, le-ltb, ◌⊎◌, inl, inr}
use Rattle.std.specs.List.{AllByRecursion}
use Rattle.std.proofs.lemmas.Bool.{cases_lt}
use Rattle.tablet_model.specs.Cell.{Cell, column_of}
use Rattle.tablet_model.specs.Order.{above, same_column}
use Rattle.tablet_model.specs.Columns.{is_column}
use Rattle.tablet_model.specs.Sorted.{Ascends, from_first}
use Rattle.tablet_model.specs.Bounds.{AreEntries}
use Rattle.tablet_model.specs.Cuts.{is_behind, within, Span}
use Rattle.tablet_model.specs.Widened.{widened_span}
use Rattle.tablet_model.specs.Kept.{filter_beside}
use Rattle.tablet_model.specs.Versions.{versions, is_recent}
use Rattle.tablet_model.proofs.Orders.{same_column_equiv}
use Rattle.tablet_model.proofs.Combines.{all_both}
use Rattle.tablet_model.proofs.Columns.{recent_looks}
use Rattle.tablet_model.proofs.Cursors.{column_between, recent_rest, met, versions_rest}
use Rattle.tablet_model.proofs.Seeks.{seek_kept}
use Rattle.stages.specs.Passes.{kept_from}
use Rattle.stages.proofs.Plain.{not_above_itself, none_up_to, same_up_to, below_most, one_more, at_most, stays_at_most}
use Rattle.versioning.specs.VersionStages.{counted_of, keeps, after_entry, without_count}
use Rattle.versioning.specs.declared.version_stage.VersionStage.{VersionStage}

-- ---- the count, beside a cursor that counts without end

-- of what is left the count says what a cursor says that stands at c and has met k versions of its column, up to the most
abbrev Agrees : VersionStage → Cell → ℕ → List Cell → Type 0
Agrees s c k list = AllByRecursion (λ y. counted_of s (column_of y.key) ≡ min (met c k y) s.max) list

-- where the cursor moves to an entry and its number stays the same up to n, so does what it says of what follows
met_moves : (n : ℕ) (c : Cell) (k : ℕ) (e : Cell) (k' : ℕ) (y : Cell)
    → above c e ≡ false → above e y ≡ false → min (met c k e) n ≡ min k' n → min (met c k y) n ≡ min (met e k' y) n
met_moves n c k e k' y low up same = go (same_column e y) refl
  where
    apart : (b d : Bool) → d ≡ false → (b ≡ true → d ≡ true) → cond b k 0 ≡ 0
    apart true d h f = ap (λ c. cond c k 0) (sym (f refl) ∙ h)
    apart false d h f = refl

    go : (b : Bool) → same_column e y ≡ b → min (met c k y) n ≡ min (cond b k' 0) n
    go true h =
        ap (λ b. min (cond b k 0) n)
        (same_column_equiv.symm c y ∙ sym (same_column_equiv.congr e y c h) ∙ same_column_equiv.symm e c)
        ∙ same
    go false h =
        ap (λ m. min m n) (apart (same_column c y) (same_column e y) h
        (λ s. sym (same_column_equiv.congr c e y (column_between c e y low up s)) ∙ s))

-- so the count may stay behind an entry that is not counted
agrees_uncounted : (s : VersionStage) (c : Cell) (k : ℕ) (e : Cell) (k' : ℕ) (es : List Cell)
    → above c e ≡ false → AllByRecursion (λ y. above e y ≡ false) es → min (met c k e) s.max ≡ min k' s.max
    → Agrees s c k es → Agrees s e k' es
agrees_uncounted s c k e k' es low up same a =
    all_both (λ y. above e y ≡ false)
    (λ y. counted_of s (column_of y.key) ≡ min (met c k y) s.max)
    (λ y. counted_of s (column_of y.key) ≡ min (met e k' y) s.max)
    (λ y u h. h ∙ met_moves s.max c k e k' y low u same) es up a

-- behind an entry that is counted it is of the entry's column
agrees_counted : (s : VersionStage) (m : ℕ) (e : Cell) (k : ℕ) (es : List Cell) → m ≡ min k s.max
    → Agrees (record s { column = Some (column_of e.key); counted = m }) e k es
unfolding same_column
agrees_counted s m e k [] h = tt
agrees_counted s m e k (y ∷ ys) h = (go (same_column e y), agrees_counted s m e k ys h)
  where
    go : (b : Bool) → cond b m 0 ≡ min (cond b k 0) s.max
    go true = h
    go false = none_up_to s.max true

-- so the pass gives what the cursor gives
recent_is : (s : VersionStage) (c : Cell) (k : ℕ) (list : List Cell)
    → Ascends above list → AllByRecursion (λ e. above c e ≡ false) list → Agrees s c k list
    → kept_from keeps after_entry s list ≡ recent_rest s.max c k list
unfolding recent_rest Ascends
recent_is s c k [] up low a = refl
recent_is s c k (e ∷ es) up low a =
    go e.key.deleted (cases_lt q s.max) (λ k' g. recent_is s e k' es up.1 up.0 g) (λ k' g. recent_is counted e k' es up.1 up.0 g)
  where
    m : ℕ
    m = counted_of s (column_of e.key)

    q : ℕ
    q = met c k e

    counted : VersionStage
    counted = record s { column = Some (column_of e.key); counted = m + 1 }

    is_kept : (b d : Bool) (rest : List Cell) → b ≡ true → d ≡ true → kept_from keeps after_entry counted es ≡ rest
        → cond b (e ∷ kept_from keeps after_entry (cond b counted s) es) (kept_from keeps after_entry (cond b counted s) es) ≡ cond d (e ∷ rest) rest
    is_kept b d rest h g i = rw h (rw g (ap (λ l. e ∷ l) i))

    is_dropped : (b d : Bool) (rest : List Cell) → b ≡ false → d ≡ false → kept_from keeps after_entry s es ≡ rest
        → cond b (e ∷ kept_from keeps after_entry (cond b counted s) es) (kept_from keeps after_entry (cond b counted s) es) ≡ cond d (e ∷ rest) rest
    is_dropped b d rest h g i = rw h (rw g i)

    go : (d : Bool) → (q < s.max) ⊎ (s.max ≤ q)
        → ((k' : ℕ) → Agrees s e k' es → kept_from keeps after_entry s es ≡ recent_rest s.max e k' es)
        → ((k' : ℕ) → Agrees counted e k' es → kept_from keeps after_entry counted es ≡ recent_rest s.max e k' es)
        → cond (d || ltb m s.max) (e ∷ kept_from keeps after_entry (cond (not d && ltb m s.max) counted s) es) (kept_from keeps after_entry (cond (not d && ltb m s.max) counted s) es)
        ≡ cond (d || ltb q s.max) (e ∷ recent_rest s.max e (cond d 0 1 + q) es) (recent_rest s.max e (cond d 0 1 + q) es)
    go true at f g =
        ap (λ l. e ∷ l) (f (0 + q) (agrees_uncounted s c k e (0 + q) es low.0 up.0 (same_up_to s.max q) a.1))
    go false (inl h) f g =
        is_kept _ _ _ (lt-ltb m s.max (below_most s.max m q a.0 h)) (lt-ltb q s.max h)
        (g (1 + q) (agrees_counted s (m + 1) e (1 + q) es (one_more s.max m q a.0 h)))
    go false (inr h) f g =
        is_dropped _ _ _ (le-ltb m s.max (at_most s.max m q a.0 h)) (le-ltb q s.max h)
        (f (1 + q) (agrees_uncounted s c k e (1 + q) es low.0 up.0 (stays_at_most s.max q h) a.1))

none_counted : (s : VersionStage) (e : Cell) (list : List Cell) → Agrees (without_count s) e 0 list
none_counted s e [] = tt
none_counted s e (y ∷ ys) = (none (is_column s.column (column_of y.key)) (same_column e y), none_counted s e ys)
  where
    none : (b c : Bool) → cond b 0 0 ≡ min (cond c 0 0) s.max
    none true c = none_up_to s.max c
    none false c = none_up_to s.max c

-- the pass over a list in order
pub version_pass : (s : VersionStage) (list : List Cell) → Ascends above list
    → kept_from keeps after_entry (without_count s) list ≡ versions s.max list
unfolding versions filter_beside Ascends
version_pass s [] up = refl
version_pass s (e ∷ es) up =
    recent_is (without_count s) e 0 (e ∷ es) up (not_above_itself e, up.0) (none_counted s e (e ∷ es))
    ∙ sym (versions_rest s.max e es up)

-- the range from the start's column on, from the start on
pub version_narrows : (n : ℕ) (s : Span) (list : List Cell) → Ascends above list → AreEntries list
    → from_first (λ e. is_behind s.start e.key) (versions n (within (widened_span s) list)) ≡ within s (versions n list)
unfolding versions
version_narrows n s list up en = seek_kept (is_recent n) (recent_looks n) s list up en
