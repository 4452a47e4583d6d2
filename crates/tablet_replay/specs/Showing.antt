-- The text that `show` writes for an input, and the bytes that `upgrade` writes. All of this is this project's own.
use Rattle.std.specs.Prelude.{ℕ, Bool, List, ◌++◌, length, Result, Ok, Err, is_err}
use Rattle.script_text.specs.Answers.{count_line, entry_lines}
use Rattle.sorted_file.specs.Contents.{FileContents}
use Rattle.sorted_file.specs.Image.{image_of}
use Rattle.sorted_file.specs.Reading.{image_reading}
use Rattle.sorted_file.specs.declared.fault.Fault.{Fault}
use Rattle.sorted_file.specs.declared.version.Version.TheVariants.{Two}
use Rattle.tablet_replay.specs.Refusals.{image_line}

-- whether an input is no image
abbrev pub is_no_image : List ℕ → Bool
is_no_image bytes = is_err (image_reading bytes)

-- the entries and how many they are, or why there are none
abbrev pub listing_text : Result FileContents Fault → List ℕ
listing_text (Ok file) = entry_lines file.cells ++ count_line (length file.cells)
listing_text (Err f) = image_line f

-- what `show` writes for an input
unfoldable pub show_text : List ℕ → List ℕ
show_text bytes = listing_text (image_reading bytes)

-- the image of the entries in version 2, or why there are none
abbrev pub newest_image : Result FileContents Fault → List ℕ
newest_image (Ok file) = image_of Two file.cells
newest_image (Err f) = image_line f

-- what `upgrade` writes for an input
unfoldable pub upgrade_bytes : List ℕ → List ℕ
upgrade_bytes bytes = newest_image (image_reading bytes)
