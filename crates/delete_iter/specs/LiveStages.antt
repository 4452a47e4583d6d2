-- What a stage of live entries keeps. All of this is this project's own.
use Rattle.std.specs.Prelude.{◌&&◌, not, Bool, List}
use Rattle.tablet_model.specs.Cell.{Cell}
use Rattle.tablet_model.specs.Markers.{live}
use Rattle.delete_iter.specs.MarkStages.{keeps, after_entry, without_hidden}
use Rattle.delete_iter.specs.declared.live_stage.LiveStage.{LiveStage}

-- what it makes of a list
abbrev pub live_made : LiveStage → List Cell → List Cell
live_made s = live

-- a marked entry that is no marker
abbrev pub live_keeps : LiveStage → Cell → Bool
live_keeps s e = keeps s.marks e && not e.key.deleted

abbrev pub live_passed : LiveStage → Cell → LiveStage
live_passed s e = record s { marks = after_entry s.marks e }

abbrev pub live_unhidden : LiveStage → LiveStage
live_unhidden s = record s { marks = without_hidden s.marks }
