-- What a file has, as contracts see it (this project's own).
use Rattle.std.specs.Prelude.{List}
use Rattle.tablet_model.specs.Cell.{Cell}
use Rattle.sorted_file.specs.declared.version.Version.{Version}

-- the version of a file's image, and the file's entries
pub record FileContents : Type 0 where
  pub version : Version
  pub cells : List Cell
