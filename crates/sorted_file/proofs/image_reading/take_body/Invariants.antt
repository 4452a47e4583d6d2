use Rattle.std.proofs.Common.{◌+◌, ◌≤◌, length, None}
use Rattle.std.specs.Option.{option_map}
use Rattle.cell_key.specs.Views.{cell_of}
use Rattle.byte_fields.specs.Answers.{unread_of}
use Rattle.sorted_file.specs.Answers.{count_entries}
use Rattle.sorted_file.specs.Reading.{entries_at}
use Rattle.byte_fields.proofs.Fields.{IsBytes}
use Rattle.sorted_file.proofs.Loops.{IsTotal}
use Rattle.sorted_file.proofs.image_reading.take_body.Given as goal

abbrev pub invariant-loop-places : goal.invariant-loop-places
invariant-loop-places l = record {
  few : l.count + length l.rest.rest.now ≤ l.most;
  bytes : IsBytes l.rest.rest.now;
  read : IsTotal l.version l.places.items l.count l.most (option_map cell_of l.before) (unread_of l.rest) (count_entries l.version l.input.at (entries_at l.version l.most 0 None (unread_of l.input)));
}

abbrev pub decreases-loop-places : goal.decreases-loop-places
decreases-loop-places l = length l.rest.rest.now
