use Rattle.std.proofs.Common.{◌≡◌, map, take}
use Rattle.tablet_model.specs.Store.{files_without}
use Rattle.tablet_view.specs.FileParts.{file_of}
use Rattle.tablet_view.proofs.files.other_files.Given as goal

abbrev pub invariant-loop-stored : goal.invariant-loop-stored
invariant-loop-stored l = map file_of l.others.items ≡ files_without l.ids (map file_of (take l.stored-index l.files))
