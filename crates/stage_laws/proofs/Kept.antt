-- What the stages keep of values and markers.
use Rattle.std.proofs.Common.{◌≡◌, ◌||◌, ◌&&◌, not, Bool, true, false, cond, List, [], ◌∷◌, ◌++◌, map, refl, sym, ◌∙◌, subst, arith, append_assoc}
use Rattle.std.specs.List.{AllByRecursion, filter, list_any}
use Rattle.tablet_model.specs.Cell.{Cell}
use Rattle.tablet_model.specs.Order.{same_column}
use Rattle.tablet_model.specs.Kept.{filter_beside}
use Rattle.tablet_model.specs.Markers.{put_beside}
use Rattle.tablet_model.specs.Versions.{versions, is_recent}
use Rattle.tablet_model.specs.Filters.{filter_puts}
use Rattle.tablet_model.specs.Reductions.{Reduction, IsLawful, reduce_values}
use Rattle.tablet_model.specs.Combines.{combine_columns, leads, with_joined_value, joined_value}
use Rattle.tablet_model.specs.Stages.{Stage, by_column, by_cell, newest, combine, rows, intersect, stage, stages}
use Rattle.tablet_model.specs.Accepted.{IsOfColumns, IsWellMade, AreAccepted, MayFollow, IsBeside}
use Rattle.tablet_model.specs.Reading.{IsReadBy, AreUnmarkedRead}
use Rattle.tablet_model.proofs.Maps.{all_map}
use Rattle.tablet_model.proofs.Orders.{same_column_equiv}
use Rattle.tablet_model.proofs.Sums.{all_filter, all_weaker}
use Rattle.tablet_model.proofs.Combines.{values, AllRead, reduced_read}
use Rattle.tablet_model.proofs.Risings.{all_kept}
use Rattle.stage_laws.proofs.Parts.{columns_look}

pub absurd_bool : {b : Bool} → b ≡ true → b ≡ false → ⊥
absurd_bool h k = grind arith

-- at a combiner of a list of stages, what its own reduction reads is read by all
pub read_split : (us vs : List Stage) (listed : Cell → Bool) (r : Reduction) (full : Bool) (e : Cell) → AreAccepted (us ++ combine listed r full ∷ vs) → listed e ≡ true → r.reads e.value ≡ true → AllByRecursion (IsReadBy e) (us ++ combine listed r full ∷ vs)
read_split [] vs listed r full e acc l h = ((λ k. h), after vs acc.1.0)
  where
    after : (ts : List Stage) → AllByRecursion (IsBeside listed) ts → AllByRecursion (IsReadBy e) ts
    after [] k = tt
    after (by_column p ∷ ts) k = (tt, after ts k.1)
    after (by_cell p ∷ ts) k = (tt, after ts k.1)
    after (newest n ∷ ts) k = (tt, after ts k.1)
    after (combine others q f ∷ ts) k = ((λ m. absurd (absurd_bool m (k.0 e l))), after ts k.1)
    after (rows ∷ ts) k = (tt, after ts k.1)
    after (intersect terms without ∷ ts) k = (tt, after ts k.1)
read_split (u ∷ us) vs listed r full e acc l h = (first u acc.1.0, read_split us vs listed r full e acc.1.1 l h)
  where
    at : (others : Cell → Bool) (ts : List Stage) → AllByRecursion (IsBeside others) (ts ++ combine listed r full ∷ vs) → others e ≡ true → listed e ≡ false
    at others [] k m = k.0 e m
    at others (t ∷ ts) k m = at others ts k.1 m

    first : (u : Stage) → MayFollow u (us ++ combine listed r full ∷ vs) → IsReadBy e u
    first (by_column p) k = tt
    first (by_cell p) k = tt
    first (newest n) k = tt
    first (combine others q f) k = λ m. absurd (absurd_bool l (at others us k m))
    first rows k = tt
    first (intersect terms without) k = tt

put_own : (e : Cell) → e.key.deleted ≡ false → put_beside e e ≡ true
unfolding put_beside
put_own e d = both e.key.deleted (same_column e e) d (same_column_equiv.refl e)
  where
    both : (p q : Bool) → p ≡ false → q ≡ true → (not p && q) ≡ true
    both p q h k = grind arith

pub put_live : (e m : Cell) → put_beside e m ≡ true → m.key.deleted ≡ false
unfolding put_beside
put_live e m h = first m.key.deleted (same_column e m) h
  where
    first : (p q : Bool) → (not p && q) ≡ true → p ≡ false
    first p q k = grind arith

pub put_column : (e m : Cell) → put_beside e m ≡ true → same_column e m ≡ true
unfolding put_beside
put_column e m h = second m.key.deleted (same_column e m) h
  where
    second : (p q : Bool) → (not p && q) ≡ true → q ≡ true
    second p q k = grind arith

pub listed_key : (e f : Cell) → e.key ≡ f.key → {listed : Cell → Bool} → IsOfColumns listed → listed f ≡ listed e
listed_key e f h cols = cols e f (columns_look e e f h (same_column_equiv.refl e))

-- each entry of a list that is no marker is a put of its own column in the list
any_here : (e : Cell) (pre suf : List Cell) → e.key.deleted ≡ false → list_any (put_beside e) (pre ++ e ∷ suf) ≡ true
any_here e [] suf d = or_left (put_beside e e) (list_any (put_beside e) suf) (own e d)
  where
    or_left : (a b : Bool) → a ≡ true → (a || b) ≡ true
    or_left a b h = grind arith

    own : (e : Cell) → e.key.deleted ≡ false → put_beside e e ≡ true
    own e d = put_own e d
any_here e (y ∷ ys) suf d = or_right (put_beside e y) (list_any (put_beside e) (ys ++ e ∷ suf)) (any_here e ys suf d)
  where
    or_right : (a b : Bool) → b ≡ true → (a || b) ≡ true
    or_right a b h = grind arith

pub stands_from : (pre suf : List Cell) → AllByRecursion (λ e. e.key.deleted ≡ false → list_any (put_beside e) (pre ++ suf) ≡ true) suf
stands_from pre [] = tt
stands_from pre (e ∷ es) = ((λ d. any_here e pre es d), subst (λ l. AllByRecursion (λ y. y.key.deleted ≡ false → list_any (put_beside y) l ≡ true) es) (append_assoc pre (e ∷ []) es) (stands_from (pre ++ e ∷ []) es))

pub reduced_some : (r : Reduction) → IsLawful r → (list : List Cell) (test : Cell → Bool) → list_any test list ≡ true → AllRead r (filter test list) → r.reads (reduce_values r (values (filter test list))) ≡ true
reduced_some r law [] test h all = absurd (grind arith)
reduced_some r law (e ∷ es) test h all = go (test e) h all (reduced_some r law es test)
  where
    go : (b : Bool) → (b || list_any test es) ≡ true → AllRead r (cond b (e ∷ filter test es) (filter test es)) → (list_any test es ≡ true → AllRead r (filter test es) → r.reads (reduce_values r (values (filter test es))) ≡ true) → r.reads (reduce_values r (values (cond b (e ∷ filter test es) (filter test es)))) ≡ true
    go true k a ih = reduced_read r law e (filter test es) a
    go false k a ih = ih k a

pub filter_read : (r : Reduction) (test : Cell → Bool) (list : List Cell) → AllByRecursion (λ m. test m ≡ true → r.reads m.value ≡ true) list → AllRead r (filter test list)
filter_read r test [] h = tt
filter_read r test (m ∷ ms) h = go (test m) refl (filter_read r test ms h.1)
  where
    go : (b : Bool) → test m ≡ b → AllRead r (filter test ms) → AllRead r (cond b (m ∷ filter test ms) (filter test ms))
    go true k rest = (h.0 k, rest)
    go false k rest = rest

abbrev IsUnmarkedRead : List Stage → Cell → Type 0
IsUnmarkedRead ss e = e.key.deleted ≡ false → AllByRecursion (IsReadBy e) ss

pub all_and : (P Q : Cell → Type 0) (list : List Cell) → AllByRecursion P list → AllByRecursion Q list → AllByRecursion (λ e. P e × Q e) list
all_and P Q [] h k = tt
all_and P Q (e ∷ es) h k = ((h.0, k.0), all_and P Q es h.1 k.1)

pub read_at : (us vs : List Stage) (s : Stage) (e : Cell) → AllByRecursion (IsReadBy e) (us ++ s ∷ vs) → IsReadBy e s
read_at [] vs s e h = h.0
read_at (u ∷ us) vs s e h = read_at us vs s e h.1

pub made_at : (us vs : List Stage) (s : Stage) → AreAccepted (us ++ s ∷ vs) → IsWellMade s
made_at [] vs s h = h.0
made_at (u ∷ us) vs s h = made_at us vs s h.1.1

read_rewritten : (us vs : List Stage) (listed : Cell → Bool) (r : Reduction) (full : Bool) (list : List Cell) → AreAccepted (us ++ combine listed r full ∷ vs) → AreUnmarkedRead (us ++ combine listed r full ∷ vs) list → (e : Cell) → (IsUnmarkedRead (us ++ combine listed r full ∷ vs) e × (e.key.deleted ≡ false → list_any (put_beside e) list ≡ true)) → IsUnmarkedRead (us ++ combine listed r full ∷ vs) (with_joined_value listed r list e)
unfolding with_joined_value joined_value
read_rewritten us vs listed r full list acc all e h = go e.key.deleted refl (listed e) refl
  where
    ss : List Stage
    ss = us ++ combine listed r full ∷ vs

    made : IsOfColumns listed × IsLawful r
    made = made_at us vs (combine listed r full) acc

    reading : listed e ≡ true → AllByRecursion (λ m. put_beside e m ≡ true → r.reads m.value ≡ true) list
    reading l = all_weaker (IsUnmarkedRead ss) (λ m. put_beside e m ≡ true → r.reads m.value ≡ true) (λ m k b. read_at us vs (combine listed r full) m (k (put_live e m b)) (made.0 e m (put_column e m b) ∙ l)) list all

    go : (d : Bool) → e.key.deleted ≡ d → (b : Bool) → listed e ≡ b → IsUnmarkedRead ss (cond (not d && b) (record { key = e.key; value = reduce_values r (map (λ p. p.value) (filter (put_beside e) list)) }) e)
    go true d b l = h.0
    go false d true l = λ k. read_split us vs listed r full (record { key = e.key; value = reduce_values r (map (λ p. p.value) (filter (put_beside e) list)) }) acc (listed_key e (record { key = e.key; value = reduce_values r (map (λ p. p.value) (filter (put_beside e) list)) }) refl made.0 ∙ l) (reduced_some r made.1 list (put_beside e) (h.1 d) (filter_read r (put_beside e) list (reading l)))
    go false d false l = h.0

-- what the stages of an accepted list make is read again by all of them
read_stage : (us vs : List Stage) (s : Stage) (list : List Cell) → AreAccepted (us ++ s ∷ vs) → AreUnmarkedRead (us ++ s ∷ vs) list → AreUnmarkedRead (us ++ s ∷ vs) (stage s list)
unfolding stage filter_puts versions combine_columns
read_stage us vs (by_column p) list acc h = all_filter (IsUnmarkedRead (us ++ by_column p ∷ vs)) (λ e. e.key.deleted || p e) list h
read_stage us vs (by_cell p) list acc h = all_filter (IsUnmarkedRead (us ++ by_cell p ∷ vs)) (λ e. e.key.deleted || p e) list h
read_stage us vs (newest n) list acc h = all_kept (IsUnmarkedRead (us ++ newest n ∷ vs)) (is_recent n) [] list h
read_stage us vs (combine listed r full) list acc h =
    let P : Cell → Type 0 = λ e. IsUnmarkedRead (us ++ combine listed r full ∷ vs) e × (e.key.deleted ≡ false → list_any (put_beside e) list ≡ true) in
    all_map P (IsUnmarkedRead (us ++ combine listed r full ∷ vs)) (with_joined_value listed r list) (read_rewritten us vs listed r full list acc h) (filter_beside (leads listed) [] list)
    (all_kept P (leads listed) [] list (all_and (IsUnmarkedRead (us ++ combine listed r full ∷ vs)) (λ e. e.key.deleted ≡ false → list_any (put_beside e) list ≡ true) list h (stands_from [] list)))
read_stage us vs rows list acc h = absurd (made_at us vs rows acc)
read_stage us vs (intersect terms without) list acc h = absurd (made_at us vs (intersect terms without) acc)

read_from : (us ps qs : List Stage) (list : List Cell) → AreAccepted (us ++ (ps ++ qs)) → AreUnmarkedRead (us ++ (ps ++ qs)) list → AreUnmarkedRead (us ++ (ps ++ qs)) (stages ps list)
unfolding stages
read_from us [] qs list acc h = h
read_from us (s ∷ ps) qs list acc h =
    let e : (us ++ s ∷ []) ++ (ps ++ qs) ≡ us ++ (s ∷ ps ++ qs) = append_assoc us (s ∷ []) (ps ++ qs) in
    subst (λ k. AreUnmarkedRead k (stages ps (stage s list))) e (read_from (us ++ s ∷ []) ps qs (stage s list) (subst AreAccepted (sym e) acc) (subst (λ k. AreUnmarkedRead k (stage s list)) (sym e) (read_stage us (ps ++ qs) s list acc h)))

pub read_stages : (ps qs : List Stage) (list : List Cell) → AreAccepted (ps ++ qs) → AreUnmarkedRead (ps ++ qs) list → AreUnmarkedRead (ps ++ qs) (stages ps list)
read_stages ps qs list acc h = read_from [] ps qs list acc h
