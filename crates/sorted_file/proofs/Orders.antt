-- A list with one entry more.
use Rattle.std.proofs.Common.{◌≡◌, false, List, [], ◌∷◌, ◌++◌, Option, Some, None}
use Rattle.std.specs.List.{AllByRecursion, last_or}
use Rattle.tablet_model.specs.Cell.{Cell}
use Rattle.iter_contract.specs.Following.{is_out_of_order}
use Rattle.iter_contract.proofs.Following.{Follows, ascends_follows, follows_ascends}
use Rattle.sorted_file.specs.Lists.{IsFileEntry, IsFileList}

follows_push : (before : Option Cell) (list : List Cell) (e : Cell) → Follows before list → is_out_of_order (last_or before list) e ≡ false → Follows before (list ++ e ∷ [])
follows_push before [] e f h = (h, tt)
follows_push before (x ∷ xs) e f h = (f.0, follows_push (Some x) xs e f.1 h)

all_push : (list : List Cell) (e : Cell) → AllByRecursion IsFileEntry list → IsFileEntry e → AllByRecursion IsFileEntry (list ++ e ∷ [])
all_push [] e h is = (is, tt)
all_push (x ∷ xs) e h is = (h.0, all_push xs e h.1 is)

-- one entry more
pub file_list_push : (list : List Cell) (e : Cell) → IsFileList list → IsFileEntry e → is_out_of_order (last_or None list) e ≡ false → IsFileList (list ++ e ∷ [])
file_list_push list e is fits ordered = record {
  ascends = follows_ascends (list ++ e ∷ []) (follows_push None list e (ascends_follows list is.ascends) ordered);
  entries = all_push list e is.entries fits;
}
