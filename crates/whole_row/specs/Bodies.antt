-- Entries of a row that are put together one by one. All of this is this project's own.
use Rattle.std.specs.Prelude.{ℕ, ◌+◌, List, [], ◌++◌}
use Rattle.byteorder.specs.Endian.{big_bytes}
use Rattle.tablet_model.specs.Cell.{Cell}
use Rattle.tablet_model.specs.RowText.{entry_bytes}

-- the number of some entries, and their bytes
pub record Body : Type 0 where
  pub count : ℕ
  pub bytes : List ℕ

-- no entries
abbrev pub no_entries : Body
no_entries = record { count = 0; bytes = [] }

-- an entry behind the others
abbrev pub with_entry : Body → Cell → Body
with_entry body e = record { count = body.count + 1; bytes = body.bytes ++ entry_bytes e }

-- the text of a row of these entries
abbrev pub body_text : Body → List ℕ
body_text body = big_bytes 8 body.count ++ body.bytes
