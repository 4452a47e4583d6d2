-- Worked scripts, and the text that answers them.
use Rattle.std.proofs.Common.{◌≡◌, true, false, List, [], ◌∷◌, codes, None, refl}
use Rattle.std.specs.Fmt.{digits}
use Rattle.tablet_model.specs.Order.{above, cell_cmp, column_cmp, key_cmp, same_column, time_cmp}
use Rattle.tablet_model.specs.Sorted.{put, sorted}
use Rattle.tablet_model.specs.Kept.{filter_beside}
use Rattle.tablet_model.specs.Markers.{hides, is_live, live, marker_beside, put_beside}
use Rattle.tablet_model.specs.Versions.{is_recent, versions}
use Rattle.tablet_model.specs.History.{history_entries}
use Rattle.tablet_model.specs.Ingest.{first_too_long, first_twice, first_where, ingest, is_mistimed, is_read, is_refused_delete, is_twin, is_unread, out_of_bounds, too_long}
use Rattle.tablet_model.specs.Stages.{stage, stages}
use Rattle.tablet_model.specs.Steps.{answer_to_step, is_empty, refuse, step, step_answer, store_after}
use Rattle.tablet_model.specs.Store.{empty_store}
use Rattle.tablet_model.specs.Answers.{answer, scan_of}
use Rattle.cell_key.specs.Listed.{column_listed}
use Rattle.number_values.specs.Values.{reduction_of}
use Rattle.number_values.specs.declared.op.Encoding.TheVariants as encoding
use Rattle.number_values.specs.declared.op.Op.TheVariants as op
use Rattle.iter_config.specs.Columns.{one_refuses}
use Rattle.iter_config.specs.RulesOf.{rules_of}
use Rattle.iter_config.specs.Settings.{Settings}
use Rattle.iter_config.specs.declared.iter_spec.Deletes.TheVariants as deletes
use Rattle.iter_config.specs.declared.iter_spec.IterSpec.{IterSpec}
use Rattle.iter_config.specs.declared.iter_spec.Kind.TheVariants.{Combine, Versions}
use Rattle.script_text.specs.Answers.{entry_line, found_text}
use Rattle.script_text.specs.Grammar.{delete_of, line_by_word, mutation_of, put_of, reading_of, scan_of as scan_line, timed_put_of, update_of}
use Rattle.script_text.specs.Lines.{lines_of}
use Rattle.script_text.specs.Scans.{range_in_brackets, families_of, optional_row, range_of, rows_between, short_text}
use Rattle.script_text.specs.Times.{time_of}
use Rattle.tablet_replay.specs.Replay.{after_line, line_answer, log_behind, replayed_none, script_answers}

-- a configuration without timed families
plain : List IterSpec → Settings
plain specs = record { iterators = specs; timed = [] }

one_scan : script_answers (replayed_none (plain [])) (lines_of (codes "m r1 +a:x:=1\nscan\n")) ≡ codes "m 1\nat 1\nr1 a:x: @1 =1\nend 1\n"
unfolding plain digits put_of update_of mutation_of scan_line reading_of line_by_word entry_line found_text line_answer after_line answer_to_step store_after log_behind refuse step step_answer empty_store rules_of stages ingest out_of_bounds first_too_long too_long first_twice first_where is_refused_delete is_mistimed is_unread is_read answer scan_of history_entries sorted put above cell_cmp key_cmp column_cmp time_cmp live is_live hides marker_beside same_column
one_scan = refl

-- a delete has the time of its mutation, and hides the put beside it
a_delete : script_answers (replayed_none (plain [])) (lines_of (codes "m r1 +a:x:=1 -a:x:\nscan\n")) ≡ codes "m 1\nend 1\n"
unfolding plain digits put_of delete_of update_of mutation_of scan_line reading_of line_by_word entry_line found_text line_answer after_line answer_to_step store_after log_behind refuse step step_answer empty_store rules_of stages ingest out_of_bounds first_too_long too_long first_twice first_where is_twin is_refused_delete one_refuses is_mistimed is_unread is_read answer scan_of history_entries sorted put above cell_cmp key_cmp column_cmp time_cmp live is_live hides marker_beside same_column
a_delete = refl

-- a refused line changes nothing
refused_lines : script_answers (replayed_none (plain [])) (lines_of (codes "hello\n\nm r1 +a:x\nm r1\n# note\nfreeze\nscan")) ≡ codes "no syntax\nno syntax\nno bound updates\nno empty\nend 0\n"
unfolding plain digits put_of update_of mutation_of scan_line reading_of line_by_word entry_line found_text line_answer after_line answer_to_step store_after log_behind refuse is_empty step step_answer empty_store rules_of stages ingest out_of_bounds first_too_long too_long answer scan_of history_entries sorted live
refused_lines = refl

a_duplicate : script_answers (replayed_none (plain [])) (lines_of (codes "m r1 +a:x:=1 +a:x:=2\n")) ≡ codes "no duplicate\n"
unfolding plain digits put_of update_of mutation_of reading_of line_by_word line_answer after_line answer_to_step store_after log_behind refuse step step_answer empty_store rules_of stages ingest out_of_bounds first_too_long too_long first_twice is_twin
a_duplicate = refl

-- ranges of rows, and families
some_scans : script_answers (replayed_none (plain [])) (lines_of (codes "m r1 +a:x:=1\nm r2 +b:x:=2\nscan [r1,r2)\nscan [r2,)\nscan * fams=b\nscan (r1,r1)\n"))
    ≡ codes "m 1\nm 2\nat 2\nr1 a:x: @1 =1\nend 2\nat 2\nr2 b:x: @2 =2\nend 2\nat 2\nr2 b:x: @2 =2\nend 2\nend 2\n"
unfolding plain digits put_of update_of mutation_of scan_line reading_of line_by_word range_of range_in_brackets rows_between optional_row short_text families_of entry_line found_text line_answer after_line answer_to_step store_after log_behind refuse step step_answer empty_store rules_of stages ingest out_of_bounds first_too_long too_long first_twice first_where is_refused_delete is_mistimed is_unread is_read answer scan_of history_entries sorted put above cell_cmp key_cmp column_cmp time_cmp live is_live hides marker_beside same_column
some_scans = refl

-- the newest version of each column in scans
newest_version : IterSpec
newest_version = record { name = codes "vers"; priority = 20; kind = Versions 1; scopes = record { scan = true; minc = false; majc = false } }

two_versions : script_answers (replayed_none (plain (newest_version ∷ []))) (lines_of (codes "m r1 +a:x:=1\nm r1 +a:x:=2\nscan\n")) ≡ codes "m 1\nm 2\nat 2\nr1 a:x: @2 =2\nend 2\n"
unfolding plain digits put_of update_of mutation_of scan_line reading_of line_by_word entry_line found_text line_answer after_line answer_to_step store_after log_behind refuse step step_answer empty_store rules_of stages ingest out_of_bounds first_too_long too_long first_twice first_where is_refused_delete is_mistimed is_unread is_read answer scan_of history_entries sorted put above cell_cmp key_cmp column_cmp time_cmp live is_live hides marker_beside same_column stage versions filter_beside is_recent put_beside newest_version
two_versions = refl

-- a sum of the family `n`, whose columns take no deletes
counter : IterSpec
counter = record {
  name = codes "sum";
  priority = 10;
  kind = Combine op.Sum (record { family = codes "n"; qualifier = None } ∷ []) encoding.String deletes.None;
  scopes = record { scan = true; minc = true; majc = true };
}

refused_counts : script_answers (replayed_none (plain (counter ∷ []))) (lines_of (codes "m r1 +n:x:=-1\nm r1 -n:x:\n")) ≡ codes "no value\nno delete\n"
unfolding plain digits put_of delete_of update_of mutation_of reading_of line_by_word line_answer after_line answer_to_step store_after log_behind refuse step step_answer empty_store rules_of stages ingest out_of_bounds first_too_long too_long first_twice first_where is_refused_delete one_refuses is_mistimed is_unread is_read reduction_of column_listed counter
refused_counts = refl

-- a timed family: its puts bring their times, whatever the order in which they come in, and no other change does
of_clients : Settings
of_clients = record { iterators = []; timed = codes "t" ∷ [] }

own_times : script_answers (replayed_none of_clients) (lines_of (codes "m r1 ^5+t:x:=b\nm r1 +t:x:=a\nm r1 -t:x:\nm r1 ^1+a:x:=1\nm r1 ^7+t:x:=c\nscan\n"))
    ≡ codes "m 1\nno time\nno delete\nno time\nm 2\nat 2\nr1 t:x: @7 =c\nr1 t:x: @5 =b\nend 2\n"
unfolding of_clients digits put_of timed_put_of time_of delete_of update_of mutation_of scan_line reading_of line_by_word entry_line found_text line_answer after_line answer_to_step store_after log_behind refuse step step_answer empty_store rules_of stages ingest out_of_bounds first_too_long too_long first_twice first_where is_refused_delete one_refuses is_mistimed is_unread is_read answer scan_of history_entries sorted put above cell_cmp key_cmp column_cmp time_cmp live is_live hides marker_beside same_column
own_times = refl
