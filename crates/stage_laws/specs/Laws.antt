-- The laws of iterators and compactions, as statements. A tablet's parts are sorted lists; `a` is the part that is compacted, `x` the
-- sum of the others, `ps` the compaction's stages and `ps ++ qs` all stages that compactions may have. All of these are this
-- project's own theorems: each says that a scan does not see what was done.
use Rattle.std.specs.Prelude.{◌≡◌, Bool, true, List, [], ◌++◌, filter, ℕ, Option}
use Rattle.std.specs.List.{AllByRecursion, list_any}
use Rattle.tablet_model.specs.Cell.{CellKey, Cell}
use Rattle.tablet_model.specs.Order.{above}
use Rattle.tablet_model.specs.Sorted.{Ascends}
use Rattle.tablet_model.specs.Bounds.{AreEntries}
use Rattle.tablet_model.specs.Sum.{sum_of}
use Rattle.tablet_model.specs.Families.{is_in, in_families}
use Rattle.tablet_model.specs.Markers.{live, mark}
use Rattle.tablet_model.specs.Stages.{Stage, stages}
use Rattle.tablet_model.specs.Accepted.{IsOfColumns, IsWellMade, KeepsKeys, AreAccepted, AreDeletable, IsNotNewest, is_full}
use Rattle.tablet_model.specs.Reading.{AreUnmarkedRead, AreInFront}
use Rattle.tablet_model.specs.Ages.{AreNewer, AreApart, HasPlainMarkers}
use Rattle.tablet_model.specs.Compactions.{minor_compaction, partial_compaction, full_compaction}

-- what is newer than a column's markers stays when what they hide is dropped
abbrev pub NewestMarkersSuffice : Type 0
NewestMarkersSuffice = (a x : List Cell) → Ascends above a → live (sum_of (mark a) x) ≡ live (sum_of a x)

-- a part may have been through the first stages, which leave its markers as they are
abbrev pub StagesMayRunEarly : Type 0
StagesMayRunEarly = (ps qs : List Stage) (a x : List Cell) → AreAccepted (ps ++ qs)
    → AreUnmarkedRead (ps ++ qs) a → AreUnmarkedRead (ps ++ qs) x → Ascends above a
    → stages (ps ++ qs) (sum_of (stages ps a) x) ≡ stages (ps ++ qs) (sum_of a x)

-- a part may have been through a minor compaction, where the others' markers are newer than all its plain entries or older than all
abbrev pub MinorCompactionIsUnseen : Type 0
MinorCompactionIsUnseen = (plain : Cell → Bool) → IsOfColumns plain → (ps qs : List Stage) (a x : List Cell) → AreAccepted (ps ++ qs)
    → Ascends above a → AreUnmarkedRead (ps ++ qs) a → AreUnmarkedRead (ps ++ qs) x → HasPlainMarkers plain x → AreApart plain x a
    → stages (ps ++ qs) (live (sum_of (minor_compaction ps a) x)) ≡ stages (ps ++ qs) (live (sum_of a x))

-- a part may have been through a partial compaction, where the others have no markers in columns that combiners refuse them
abbrev pub PartialCompactionIsUnseen : Type 0
PartialCompactionIsUnseen = (ps qs : List Stage) (a x : List Cell) → AreAccepted (ps ++ qs)
    → (list_any is_full ps ≡ true → AllByRecursion IsNotNewest ps)
    → Ascends above a → AreUnmarkedRead (ps ++ qs) a → AreUnmarkedRead (ps ++ qs) x → AreDeletable ps x
    → stages (ps ++ qs) (live (sum_of (partial_compaction ps a) x)) ≡ stages (ps ++ qs) (live (sum_of a x))

-- a part may have been through a full compaction, where all plain entries of the others are newer
abbrev pub FullCompactionIsUnseen : Type 0
FullCompactionIsUnseen = (plain : Cell → Bool) → IsOfColumns plain → (ps qs : List Stage) (a x : List Cell) → AreAccepted (ps ++ qs)
    → Ascends above a → AreUnmarkedRead (ps ++ qs) a → AreUnmarkedRead (ps ++ qs) x
    → HasPlainMarkers plain a → HasPlainMarkers plain x → AreNewer plain x a
    → stages (ps ++ qs) (live (sum_of (full_compaction ps a) x)) ≡ stages (ps ++ qs) (live (sum_of a x))

-- lists with one answer keep one answer when entries are added whose plain ones are newer
abbrev pub NewerEntriesKeepAnswersEqual : Type 0
NewerEntriesKeepAnswersEqual = (plain : Cell → Bool) → IsOfColumns plain → (ss : List Stage) (u w v : List Cell) → AreAccepted ss
    → Ascends above u → Ascends above w → AreUnmarkedRead ss u → AreUnmarkedRead ss w → AreUnmarkedRead ss v
    → HasPlainMarkers plain u → HasPlainMarkers plain w → HasPlainMarkers plain v → AreNewer plain v u → AreNewer plain v w
    → stages ss (live u) ≡ stages ss (live w)
    → stages ss (live (sum_of u v)) ≡ stages ss (live (sum_of w v))

-- a restriction to columns, as to families, may come before or after
abbrev pub RestrictionCommutes : Type 0
RestrictionCommutes = (fam : Cell → Bool) → IsOfColumns fam → (ss : List Stage) → AllByRecursion KeepsKeys ss → (list : List Cell)
    → filter fam (stages ss (live list)) ≡ stages ss (live (filter fam list))

-- families are such columns
abbrev pub FamiliesAreColumns : Type 0
FamiliesAreColumns = (families : Option (List (List ℕ))) → IsOfColumns (is_in families)

-- so a scan may choose its families before what is deleted is left out
abbrev pub FamiliesMayComeFirst : Type 0
FamiliesMayComeFirst = (families : Option (List (List ℕ))) (list : List Cell) → in_families families (live list) ≡ live (in_families families list)

-- what stages make of a list in order is in order
abbrev pub StagesAscend : Type 0
StagesAscend = (ss : List Stage) → AllByRecursion IsWellMade ss → (list : List Cell) → Ascends above list → Ascends above (stages ss list)

-- stages of compactions make no new keys: a test that all keys pass, all go on to pass
abbrev pub StagesMakeNoKeys : Type 0
StagesMakeNoKeys = (test : CellKey → Bool) (ss : List Stage) → AllByRecursion KeepsKeys ss → (list : List Cell)
    → AllByRecursion (λ e. test e.key ≡ true) list → AllByRecursion (λ e. test e.key ≡ true) (stages ss list)

-- keys stay within the bounds
abbrev pub StagesStayInBounds : Type 0
StagesStayInBounds = (ss : List Stage) (list : List Cell) → AreEntries list → AreEntries (stages ss list)

-- what the first stages make is read by all
abbrev pub StagesMakeReadable : Type 0
StagesMakeReadable = (ps qs : List Stage) (list : List Cell) → AreAccepted (ps ++ qs) → AreUnmarkedRead (ps ++ qs) list → AreUnmarkedRead (ps ++ qs) (stages ps list)

-- in what compactions keep, no other entry stands after a marker of its column
abbrev pub MarkedIsInFront : Type 0
MarkedIsInFront = (listed : Cell → Bool) (list : List Cell) → AreInFront listed [] (mark list)

-- and stages leave it so
abbrev pub StagesKeepFront : Type 0
StagesKeepFront = (listed : Cell → Bool) → IsOfColumns listed → (ss : List Stage) (list : List Cell) → AreInFront listed [] list → AreInFront listed [] (stages ss list)
