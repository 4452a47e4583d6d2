use Rattle.std.proofs.Common.{◌≡◌, drop}
use Rattle.byte_fields.specs.Answers.{unread_of}
use Rattle.sorted_file.specs.Reading.{index_at}
use Rattle.sorted_file.proofs.image_reading.take_index.Given as goal

abbrev pub invariant-loop-place : goal.invariant-loop-place
invariant-loop-place l = index_at (drop l.place-index l.places) (unread_of l.rest) ≡ index_at l.places (unread_of l.input)
