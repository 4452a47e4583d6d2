use Rattle.std.proofs.Common.{◌≡◌, None}
use Rattle.std.specs.Option.{option_map}
use Rattle.cell_key.specs.Views.{cell_of}
use Rattle.byte_fields.specs.Answers.{unread_of}
use Rattle.whole_row.specs.RowReading.{entries_at}
use Rattle.whole_row.proofs.Texts.{with_front}
use Rattle.whole_row.proofs.reading.take_entries.Given as goal

abbrev pub invariant-loop-left : goal.invariant-loop-left
invariant-loop-left l =
    with_front l.row l.entries (entries_at l.row l.left (option_map cell_of l.before) (unread_of l.rest)) ≡ entries_at l.row l.count None (unread_of l.input)

abbrev pub decreases-loop-left : goal.decreases-loop-left
decreases-loop-left l = l.left
