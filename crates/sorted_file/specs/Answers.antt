-- What the code has of bytes that it reads, and what it answers. All of this is this project's own.
use Rattle.std.specs.Prelude.{◌≡◌, ℕ, Result, Ok, Err, List, [], length, None, ⊤}
use Rattle.std.specs.Result.{result_unwrap_or}
use Rattle.tablet_model.specs.Cell.{Cell}
use Rattle.sorted_file.specs.Contents.{FileContents}
use Rattle.sorted_file.specs.Image.{blocks_from}
use Rattle.byte_fields.specs.Fields.{◌>>=◌, Unread}
use Rattle.sorted_file.specs.Reading.{image_reading}
use Rattle.sorted_file.specs.declared.fault.Fault.{Fault}
use Rattle.sorted_file.specs.declared.fault.OpenError.{OpenError}
use Rattle.sorted_file.specs.declared.fault.OpenError.TheVariants.{Image, NoMemory}
use Rattle.sorted_file.specs.declared.version.Version.{Version}
use Rattle.sorted_file.specs.declared.version.Version.TheVariants.{Two}

-- an answer, seen by view, is the reading
abbrev pub Gives : {X Y : Type 0} → (X → Y) → Result X Fault → Result Y Fault → Type 0
Gives view (Ok x) reading = reading ≡ Ok (view x)
Gives view (Err fault) reading = reading ≡ Err fault

-- an answer, seen by view, is the reading, unless memory was wanting
abbrev pub Opens : {X Y : Type 0} → (X → Y) → Result X OpenError → Result Y Fault → Type 0
Opens view (Ok x) reading = reading ≡ Ok (view x)
Opens view (Err (Image at cause)) reading = reading ≡ Err (record { at = at; cause = cause })
Opens view (Err NoMemory) reading = ⊤

-- the blocks and the number of the entries that were read from a place on, and what follows them
abbrev pub count_entries : Version → ℕ → Result (List Cell × Unread) Fault → Result (List ℕ × ℕ × Unread) Fault
count_entries v at entries = entries >>= λ x. Ok (blocks_from v 0 at None x.0, length x.0, x.1)

-- the version of an image and the number of its entries
abbrev pub shape_of : Result FileContents Fault → Result (Version × ℕ) Fault
shape_of reading = reading >>= λ file. Ok (file.version, length file.cells)

-- the version and the list whose image some bytes are, or version 2 of none
abbrev pub contents_in : List ℕ → FileContents
contents_in bytes = result_unwrap_or (image_reading bytes) (record { version = Two; cells = [] })
