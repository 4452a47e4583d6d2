use Rattle.std.proofs.Common.{◌≡◌, take}
use Rattle.tablet_model.specs.RowText.{entries_bytes}
use Rattle.whole_row.proofs.writing.encode_row.Given as goal

abbrev pub invariant-loop-entry : goal.invariant-loop-entry
invariant-loop-entry l = record {
  count : l.buf.count ≡ l.entry-index;
  bytes : l.buf.bytes ≡ entries_bytes (take l.entry-index l.entry-items);
  items : l.entry-items ≡ l.entries;
}
