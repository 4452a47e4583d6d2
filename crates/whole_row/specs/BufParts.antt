-- What a buffer of a row has, by its fields (this project's own).
use Rattle.std.specs.Prelude.{◌≡◌, ◌≤◌, ◌++◌, length, drop}
use Rattle.byteorder.specs.Endian.{big_bytes}
use Rattle.whole_row.specs.Bodies.{Body}
use Rattle.whole_row.specs.declared.buf.RowBuf.TheInside.{Inside}

-- the entries that stand behind their number
abbrev pub buf_body : Inside → Body
buf_body buf = record { count = buf.count; bytes = drop 8 buf.bytes.items }

-- the number stands in front of the entries, and each of them takes some bytes
pub record IsRowBuf (buf : Inside) : Type 0 where
  pub text : buf.bytes.items ≡ big_bytes 8 buf.count ++ drop 8 buf.bytes.items
  pub few : buf.count ≤ length buf.bytes.items
