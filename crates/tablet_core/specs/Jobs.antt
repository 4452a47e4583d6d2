-- The compactions that a core has made. All of this is this project's own.
use Rattle.std.specs.Prelude.{cond, List}
use Rattle.tablet_model.specs.Cell.{Cell}
use Rattle.tablet_model.specs.Store.{RunningJob, input_of}
use Rattle.compactor.specs.Compacted.{Compaction}
use Rattle.iter_stack.specs.declared.usage.Usage.TheVariants.{Minc, MajcPart, MajcFull}
use Rattle.tablet_view.specs.Snapshot.{Snapshot}

-- the minor compaction of a frozen part
unfoldable pub flush_of : Snapshot → List Cell → Compaction
flush_of v frozen = record { config = v.config; usage = Minc; input = frozen }

-- the major compaction of a running job's files, of the kind that it was started as
unfoldable pub major_of : Snapshot → RunningJob → Compaction
major_of v t = record { config = v.config; usage = cond t.full MajcFull MajcPart; input = input_of t.ids v.files }
