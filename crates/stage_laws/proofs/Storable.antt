-- What compactions keep of each entry that a store may have.
use Rattle.std.proofs.Common.{◌≡◌, ◌||◌, ◌&&◌, not, ◌≤◌, ℤ, Bool, true, false, cond, List, [], ◌∷◌, ◌++◌, length, refl, sym, ◌∙◌, subst, arith, append_assoc}
use Rattle.std.specs.List.{AllByRecursion, filter, list_any}
use Rattle.tablet_model.specs.Accepted.{AreAccepted, AreDeletable, IsDeletable, IsOfColumns}
use Rattle.tablet_model.specs.Ages.{HasPlainMarkers}
use Rattle.tablet_model.specs.Cell.{Cell}
use Rattle.tablet_model.specs.Combines.{combine_columns, joined_value, leads, with_joined_value}
use Rattle.tablet_model.specs.Filters.{filter_puts}
use Rattle.tablet_model.specs.Kept.{filter_beside}
use Rattle.tablet_model.specs.Markers.{is_live, is_unmarked, live, mark, put_beside}
use Rattle.tablet_model.specs.Reading.{AreUnmarkedRead, IsReadBy}
use Rattle.tablet_model.specs.Reductions.{IsLawful, Reduction, reduce_values}
use Rattle.tablet_model.specs.Rules.{AreSound, AreStorable, IsApartFrom, IsShort, IsStorable, Rules, StandsFirst}
use Rattle.tablet_model.specs.Stages.{Stage, by_cell, by_column, combine, intersect, newest, rows, stage, stages}
use Rattle.tablet_model.specs.Versions.{is_recent, versions}
use Rattle.tablet_model.proofs.Maps.{all_map}
use Rattle.tablet_model.proofs.Combines.{AllRead, join_from_value, values}
use Rattle.tablet_model.proofs.Merges.{all_left}
use Rattle.tablet_model.proofs.Risings.{all_kept}
use Rattle.tablet_model.proofs.Sums.{all_filter, all_weaker}
use Rattle.stage_laws.proofs.Kept.{absurd_bool, all_and, filter_read, listed_key, made_at, put_column, put_live, read_at, read_split, reduced_some, stands_from}
use Rattle.stage_laws.proofs.Whole.{full}

reduced_short : (r : Reduction) → IsLawful r → ((v : List ℤ) → r.is_value v ≡ true → length (r.text v) ≤ 65536) → (list : List Cell) (test : Cell → Bool) → list_any test list ≡ true → AllRead r (filter test list) → length (reduce_values r (values (filter test list))) ≤ 65536
unfolding reduce_values
reduced_short r law short [] test h all = absurd (grind arith)
reduced_short r law short (e ∷ es) test h all = go (test e) h all (reduced_short r law short es test)
  where
    go : (b : Bool) → (b || list_any test es) ≡ true → AllRead r (cond b (e ∷ filter test es) (filter test es)) → (list_any test es ≡ true → AllRead r (filter test es) → length (reduce_values r (values (filter test es))) ≤ 65536) → length (reduce_values r (values (cond b (e ∷ filter test es) (filter test es)))) ≤ 65536
    go true k a ih = short _ (join_from_value r law (r.value e.value) (filter test es) (law.value_of e.value a.0) a.1)
    go false k a ih = ih k a

-- others read what this combiner makes
read_apart : (ts : List Stage) (listed : Cell → Bool) (r : Reduction) (full : Bool) (e : Cell) → AllByRecursion (IsApartFrom (combine listed r full)) ts → listed e ≡ true → AllByRecursion (IsReadBy e) ts
read_apart [] listed r full e h l = tt
read_apart (by_column p ∷ ts) listed r full e h l = (tt, read_apart ts listed r full e h.1 l)
read_apart (by_cell p ∷ ts) listed r full e h l = (tt, read_apart ts listed r full e h.1 l)
read_apart (newest n ∷ ts) listed r full e h l = (tt, read_apart ts listed r full e h.1 l)
read_apart (combine others q f ∷ ts) listed r full e h l = ((λ k. absurd (absurd_bool k (h.0 e l))), read_apart ts listed r full e h.1 l)
read_apart (rows ∷ ts) listed r full e h l = (tt, read_apart ts listed r full e h.1 l)
read_apart (intersect terms without ∷ ts) listed r full e h l = (tt, read_apart ts listed r full e h.1 l)

-- what is known of a combiner of the base
record IsCombiner (c : Rules) (listed : Cell → Bool) (r : Reduction) (full : Bool) : Type 0 where
  columns : IsOfColumns listed
  law : IsLawful r
  short : (v : List ℤ) → r.is_value v ≡ true → length (r.text v) ≤ 65536
  apart : AllByRecursion (IsApartFrom (combine listed r full)) c.scan_combiners
  alone : (e : Cell) → listed e ≡ true → r.reads e.value ≡ true → AllByRecursion (IsReadBy e) c.base
  reads : (e : Cell) → AllByRecursion (IsReadBy e) c.base → listed e ≡ true → r.reads e.value ≡ true

abbrev IsPutIn : List Cell → Cell → Type 0
IsPutIn list e = e.key.deleted ≡ false → list_any (put_beside e) list ≡ true

storable_rewritten : (c : Rules) (listed : Cell → Bool) (r : Reduction) (full : Bool) → IsCombiner c listed r full → (list : List Cell) → AreStorable c list → (e : Cell) → IsStorable c e × IsPutIn list e → IsStorable c (with_joined_value listed r list e)
unfolding with_joined_value joined_value
storable_rewritten c listed r full k list all e h = go e.key.deleted refl (listed e) refl
  where
    made : Cell
    made = record { key = e.key; value = reduce_values r (values (filter (put_beside e) list)) }

    reading : listed e ≡ true → AllByRecursion (λ m. put_beside e m ≡ true → r.reads m.value ≡ true) list
    reading l = all_weaker (IsStorable c) (λ m. put_beside e m ≡ true → r.reads m.value ≡ true) (λ m a b. k.reads m (a.reads (put_live e m b)) (k.columns e m (put_column e m b) ∙ l)) list all

    own : listed e ≡ true → listed made ≡ true
    own l = listed_key e made refl {listed = listed} k.columns ∙ l

    go : (d : Bool) → e.key.deleted ≡ d → (b : Bool) → listed e ≡ b → IsStorable c (cond (not d && b) made e)
    go true d b l = h.0
    go false d false l = h.0
    go false d true l = record {
      bounds = h.0.bounds;
      short = reduced_short r k.law k.short list (put_beside e) (h.1 d) (filter_read r (put_beside e) list (reading l));
      no_value = λ y. absurd (absurd_bool y d);
      may_delete = λ y. absurd (absurd_bool y d);
      reads = λ _. k.alone made (own l) (reduced_some r k.law list (put_beside e) (h.1 d) (filter_read r (put_beside e) list (reading l)));
      reads_scan = λ _. read_apart c.scan_combiners listed r full made k.apart (own l);
    }

abbrev pub IsKeeping : Rules → Stage → Type 0
IsKeeping c s = (list : List Cell) → AreStorable c list → AreStorable c (stage s list)

combiner_keeps : (c : Rules) (listed : Cell → Bool) (r : Reduction) (full : Bool) → IsCombiner c listed r full → IsKeeping c (combine listed r full)
unfolding stage combine_columns
combiner_keeps c listed r full k list h =
    all_map (λ e. IsStorable c e × IsPutIn list e) (IsStorable c) (with_joined_value listed r list) (storable_rewritten c listed r full k list h) (filter_beside (leads listed) [] list)
    (all_kept (λ e. IsStorable c e × IsPutIn list e) (leads listed) [] list (all_and (IsStorable c) (IsPutIn list) list h (stands_from [] list)))

short_at : (us vs : List Stage) (s : Stage) → AllByRecursion IsShort (us ++ s ∷ vs) → IsShort s
short_at [] vs s h = h.0
short_at (u ∷ us) vs s h = short_at us vs s h.1

apart_at : (us vs ts : List Stage) (s : Stage) → AllByRecursion (λ s. AllByRecursion (IsApartFrom s) ts) (us ++ s ∷ vs) → AllByRecursion (IsApartFrom s) ts
apart_at [] vs ts s h = h.0
apart_at (u ∷ us) vs ts s h = apart_at us vs ts s h.1

keeps_at : (c : Rules) → AreSound c → (us vs : List Stage) (s : Stage) → us ++ s ∷ vs ≡ c.base → IsKeeping c s
unfolding stage filter_puts versions
keeps_at c law us vs (by_column p) e list h = all_filter (IsStorable c) (λ e. e.key.deleted || p e) list h
keeps_at c law us vs (by_cell p) e list h = all_filter (IsStorable c) (λ e. e.key.deleted || p e) list h
keeps_at c law us vs (newest n) e list h = all_kept (IsStorable c) (is_recent n) [] list h
keeps_at c law us vs (combine listed r full) e list h = combiner_keeps c listed r full combiner list h
  where
    accepted : AreAccepted (us ++ combine listed r full ∷ vs)
    accepted = subst AreAccepted (sym e) law.accepted

    combiner : IsCombiner c listed r full
    combiner = record {
      columns = (made_at us vs (combine listed r full) accepted).0;
      law = (made_at us vs (combine listed r full) accepted).1;
      short = short_at us vs (combine listed r full) (subst (AllByRecursion IsShort) (sym e) law.short);
      apart = apart_at us vs c.scan_combiners (combine listed r full) (subst (AllByRecursion (λ s. AllByRecursion (IsApartFrom s) c.scan_combiners)) (sym e) law.apart);
      alone = λ y l k. subst (AllByRecursion (IsReadBy y)) e (read_split us vs listed r full y accepted l k);
      reads = λ y k. read_at us vs (combine listed r full) y (subst (AllByRecursion (IsReadBy y)) (sym e) k);
    }
keeps_at c law us vs rows e list h = absurd (made_at us vs rows (subst AreAccepted (sym e) law.accepted))
keeps_at c law us vs (intersect terms without) e list h = absurd (made_at us vs (intersect terms without) (subst AreAccepted (sym e) law.accepted))

keeps_from : (c : Rules) → AreSound c → (us vs : List Stage) → us ++ vs ≡ c.base → AllByRecursion (IsKeeping c) vs
keeps_from c law us [] e = tt
keeps_from c law us (v ∷ vs) e = (keeps_at c law us vs v e, keeps_from c law (us ++ v ∷ []) vs (append_assoc us (v ∷ []) vs ∙ e))

pub keeps_first : (c : Rules) → AreSound c → (ps : List Stage) → StandsFirst ps c.base → AllByRecursion (IsKeeping c) ps
keeps_first c law ps h = all_left (IsKeeping c) ps h.0 (keeps_from c law [] (ps ++ h.0) h.1)

pub keeps_stages : (c : Rules) (ss : List Stage) → AllByRecursion (IsKeeping c) ss → (list : List Cell) → AreStorable c list → AreStorable c (stages ss list)
unfolding stages
keeps_stages c [] h list a = a
keeps_stages c (s ∷ ss) h list a = keeps_stages c ss h.1 (stage s list) (h.0 list a)

pub keeps_mark : (c : Rules) (list : List Cell) → AreStorable c list → AreStorable c (mark list)
unfolding mark
keeps_mark c list h = all_kept (IsStorable c) is_unmarked [] list h

pub keeps_live : (c : Rules) (list : List Cell) → AreStorable c list → AreStorable c (live list)
unfolding live
keeps_live c list h = all_filter (IsStorable c) (is_live list) list h

pub all_read : (c : Rules) (list : List Cell) → AreStorable c list → AreUnmarkedRead c.base list
all_read c list h = all_weaker (IsStorable c) (λ e. e.key.deleted ≡ false → AllByRecursion (IsReadBy e) c.base) (λ e k. k.reads) list h

pub all_plain : (c : Rules) → AreSound c → (list : List Cell) → AreStorable c list → HasPlainMarkers c.plain list
all_plain c law list h = all_weaker (IsStorable c) (λ e. e.key.deleted ≡ true → c.plain e ≡ true) (λ e k d. law.plain_deletes e (k.may_delete d)) list h

pub all_deletable : (c : Rules) → AreSound c → (list : List Cell) → AreStorable c list → AreDeletable c.major list
all_deletable c law list h = all_weaker (IsStorable c) (λ e. e.key.deleted ≡ true → AllByRecursion (IsDeletable e) c.major) (λ e k d. law.deletable e (k.may_delete d)) list h
