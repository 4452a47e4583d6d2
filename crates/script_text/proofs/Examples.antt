-- Worked lines, inputs and answers.
use Rattle.std.proofs.Common.{◌≡◌, ℕ, ℤ, pos, negsuc, Bool, true, false, List, [], ◌∷◌, Option, Some, None, codes, map, refl}
use Rattle.std.specs.Fmt.{digits}
use Rattle.tablet_model.specs.Cell.{Cell}
use Rattle.cell_key.specs.declared.mutation.Update.{Update}
use Rattle.script_text.specs.Answers.{entry_line, scan_text, found_text}
use Rattle.script_text.specs.Grammar.{compact_of, delete_of, fetch_of, line_of, mutation_of, open_of, put_of, timed_put_of, line_by_word, reading_of, scan_of, update_of}
use Rattle.script_text.specs.Numbers.{number_of}
use Rattle.script_text.specs.Scans.{all_keys, range_in_brackets, families_of, optional_row, range_of, rows_between, short_text}
use Rattle.script_text.specs.Times.{time_of}
use Rattle.tablet_model.specs.Cuts.{Everything, BeforeRow, BehindRow}
use Rattle.cell_key.specs.FileNumbers.{with_number}
use Rattle.script_text.specs.Lines.{config_bytes, lines_of, script_lines}
use Rattle.script_text.specs.declared.line.Line.{Line}
use Rattle.script_text.specs.declared.line.Line.TheVariants.{Nothing, Step, Scan, Session, Status}
use Rattle.script_text.specs.declared.line.SessionStep.TheVariants.{Open, Fetch, Renew, Drop, Close}
use Rattle.tablet_steps.specs.declared.event.Event.TheVariants.{Apply, Freeze, Flush, Compact, CompactAll, Finish}

-- ---- lines that are read

-- a change of this column
change : List ℕ → List ℕ → List ℕ → Option (List ℕ) → Update
change family qualifier visibility value = record { family = family; qualifier = qualifier; visibility = visibility; time = None; value = value }

-- a put of 1 in a:x: at a time of its own
put_at : ℤ → Update
put_at time = record (change (codes "a") (codes "x") [] (Some (codes "1"))) { time = Some time }

-- changes of this row
mutation : List ℕ → List Update → Option Line
mutation row updates = Some (Step (Apply (record { row = row; updates = updates })))

one_put : line_of (codes "m r1 +a:x:=1") ≡ mutation (codes "r1") (change (codes "a") (codes "x") [] (Some (codes "1")) ∷ [])
unfolding reading_of line_by_word mutation_of update_of put_of change mutation
one_put = refl

two_updates : line_of (codes "\t m  r\\x201\t+a:x:v= -b::w ") ≡ mutation (codes "r 1") (change (codes "a") (codes "x") (codes "v") (Some []) ∷ change (codes "b") [] (codes "w") None ∷ [])
unfolding reading_of line_by_word mutation_of update_of put_of delete_of change mutation
two_updates = refl

-- the visibility of a delete runs to the end
delete_with_equals : line_of (codes "m r -a:x:v=1") ≡ mutation (codes "r") (change (codes "a") (codes "x") (codes "v=1") None ∷ [])
unfolding reading_of line_by_word mutation_of update_of delete_of change mutation
delete_with_equals = refl

-- the visibility of a put runs to the first = behind the second :
put_with_colons : line_of (codes "m r +a:x:v:w=1=2") ≡ mutation (codes "r") (change (codes "a") (codes "x") (codes "v:w") (Some (codes "1=2")) ∷ [])
unfolding reading_of line_by_word mutation_of update_of put_of change mutation
put_with_colons = refl

put_with_equals : line_of (codes "m r +a=:x=:=1") ≡ mutation (codes "r") (change (codes "a=") (codes "x=") [] (Some (codes "1")) ∷ [])
unfolding reading_of line_by_word mutation_of update_of put_of change mutation
put_with_equals = refl

-- a put at a time of its own; the time may begin with zeros
put_with_time : line_of (codes "m r ^007+a:x:=1 ^-12+a:x:=1 ^-0+a:x:=1") ≡ mutation (codes "r") (put_at (pos 7) ∷ put_at (negsuc 11) ∷ put_at (pos 0) ∷ [])
unfolding reading_of line_by_word mutation_of update_of put_of timed_put_of time_of change put_at mutation
put_with_time = refl

-- the greatest time and the least
put_with_last_time : line_of (codes "m r ^9223372036854775807+a:x:=1 ^-9223372036854775808+a:x:=1") ≡ mutation (codes "r") (put_at (pos 9223372036854775807) ∷ put_at (negsuc 9223372036854775807) ∷ [])
unfolding reading_of line_by_word mutation_of update_of put_of timed_put_of time_of change put_at mutation
put_with_last_time = refl

-- the time ends with the first plus
put_with_pluses : line_of (codes "m r ^3++a:x:=1") ≡ mutation (codes "r") (record (put_at (pos 3)) { family = codes "+a" } ∷ [])
unfolding reading_of line_by_word mutation_of update_of put_of timed_put_of time_of change put_at mutation
put_with_pluses = refl

no_updates : line_of (codes "m r1") ≡ mutation (codes "r1") []
unfolding reading_of line_by_word mutation_of mutation
no_updates = refl

whole_scan : line_of (codes " scan\t") ≡ Some (Scan all_keys None)
unfolding reading_of line_by_word scan_of
whole_scan = refl

scan_of_a_range : line_of (codes "scan [r1,r\\x32) fams=a,") ≡ Some (Scan (record { start = BeforeRow (codes "r1"); end = BeforeRow (codes "r2") }) (Some (codes "a" ∷ [] ∷ [])))
unfolding reading_of line_by_word scan_of range_of range_in_brackets rows_between optional_row short_text families_of
scan_of_a_range = refl

-- an empty row is a missing one, and the first comma cuts
scan_of_an_odd_range : line_of (codes "scan [(,)) fams=") ≡ Some (Scan (record { start = BeforeRow (codes "("); end = BeforeRow (codes ")") }) (Some ([] ∷ [])))
unfolding reading_of line_by_word scan_of range_of range_in_brackets rows_between optional_row short_text families_of
scan_of_an_odd_range = refl

open_session : line_of (codes "open s01 (,r] isolated") ≡ Some (Session 1 (Open (record { start = Everything; end = BehindRow (codes "r") }) None true))
unfolding reading_of line_by_word open_of number_of range_of range_in_brackets rows_between optional_row short_text
open_session = refl

fetch : line_of (codes "fetch s64 0000000010") ≡ Some (Session 64 (Fetch 10))
unfolding reading_of line_by_word fetch_of number_of
fetch = refl

session_lines : map line_of (codes "renew s1" ∷ codes "drop s2" ∷ codes "close s3" ∷ []) ≡ Some (Session 1 Renew) ∷ Some (Session 2 Drop) ∷ Some (Session 3 Close) ∷ []
unfolding reading_of line_by_word number_of
session_lines = refl

-- a file that is named twice counts once
compact : line_of (codes "compact j7 f3 f1 f3") ≡ Some (Step (Compact 7 (1 ∷ 3 ∷ [])))
unfolding reading_of line_by_word compact_of number_of with_number
compact = refl

store_lines : map line_of (codes "freeze" ∷ codes "flushed" ∷ codes "status" ∷ codes "compact j1" ∷ codes "compactall j999999" ∷ codes "finish j1" ∷ []) ≡ Some (Step Freeze) ∷ Some (Step Flush) ∷ Some Status ∷ Some (Step (Compact 1 [])) ∷ Some (Step (CompactAll 999999)) ∷ Some (Step (Finish 1)) ∷ []
unfolding reading_of line_by_word compact_of number_of
store_lines = refl

comment : line_of (codes "\t#m r1") ≡ Some Nothing
unfolding reading_of
comment = refl

blank : line_of (codes " \t ") ≡ Some Nothing
unfolding reading_of
blank = refl

-- ---- lines that are not

no_row : line_of (codes "m") ≡ None
unfolding reading_of line_by_word mutation_of
no_row = refl

-- no time of 64 bits, no plus behind it, or a delete
bad_times : map line_of (codes "m r ^+a:x:=1" ∷ codes "m r ^-+a:x:=1" ∷ codes "m r ^--1+a:x:=1" ∷ codes "m r ^\\x31+a:x:=1" ∷ codes "m r ^00000000000000000001+a:x:=1" ∷ codes "m r ^9223372036854775808+a:x:=1" ∷ codes "m r ^-9223372036854775809+a:x:=1" ∷ codes "m r ^1a:x:=1" ∷ codes "m r ^1-a:x:" ∷ []) ≡ None ∷ None ∷ None ∷ None ∷ None ∷ None ∷ None ∷ None ∷ None ∷ []
unfolding reading_of line_by_word mutation_of update_of put_of timed_put_of time_of
bad_times = refl

no_value : line_of (codes "m r1 +a:x") ≡ None
unfolding reading_of line_by_word mutation_of update_of put_of
no_value = refl

no_sign : line_of (codes "m r1 a:x:=1") ≡ None
unfolding reading_of line_by_word mutation_of update_of
no_sign = refl

bad_escape : line_of (codes "m r1 +a:x:=\\x4") ≡ None
unfolding reading_of line_by_word mutation_of update_of put_of
bad_escape = refl

two_returns : line_of (codes "scan\r") ≡ None
unfolding reading_of line_by_word
two_returns = refl

-- the first byte and the last are the brackets, and there is a comma
bad_ranges : map line_of (codes "scan r1" ∷ codes "scan [r1]" ∷ codes "scan [r1,r2" ∷ codes "scan [" ∷ codes "scan [r\\x2,]" ∷ codes "scan * *" ∷ []) ≡ None ∷ None ∷ None ∷ None ∷ None ∷ None ∷ []
unfolding reading_of line_by_word scan_of range_of range_in_brackets rows_between optional_row short_text
bad_ranges = refl

bad_numbers : map line_of (codes "open s0" ∷ codes "open s65" ∷ codes "open 1" ∷ codes "fetch s1 0" ∷ codes "fetch s1 1000001" ∷ codes "fetch s1 00000000001" ∷ codes "fetch s1 +1" ∷ codes "compact j0" ∷ codes "finish j1000000" ∷ codes "compact j1 f0" ∷ []) ≡ None ∷ None ∷ None ∷ None ∷ None ∷ None ∷ None ∷ None ∷ None ∷ None ∷ []
unfolding reading_of line_by_word open_of fetch_of compact_of number_of
bad_numbers = refl

too_many_words : map line_of (codes "freeze now" ∷ codes "renew s1 s2" ∷ codes "finish" ∷ codes "open s1 isolated fams=a" ∷ codes "thaw" ∷ []) ≡ None ∷ None ∷ None ∷ None ∷ None ∷ []
unfolding reading_of line_by_word open_of number_of families_of short_text
too_many_words = refl

late_comment : line_of (codes "scan #") ≡ None
unfolding reading_of line_by_word scan_of
late_comment = refl

-- ---- inputs

-- one carriage return is dropped, and the last line may lack its newline
ends_of_lines : lines_of (codes "a\r\n\nb\r\r\nc\r") ≡ codes "a" ∷ [] ∷ codes "b\r" ∷ codes "c" ∷ []
ends_of_lines = refl

no_lines : lines_of [] ≡ []
no_lines = refl

config : config_bytes (codes "a = 1\r\n\n%%\r\nscan\n%%\n") ≡ codes "a = 1\r\n\n"
config = refl

-- a second separator is a line of the script
script : script_lines (codes "a = 1\r\n\n%%\r\nscan\n%%\n") ≡ codes "scan" ∷ codes "%%" ∷ []
script = refl

-- a separator stands alone on its line
all_config : config_bytes (codes "%% \nscan%%\n%%%") ≡ codes "%% \nscan%%\n%%%"
all_config = refl

no_script : script_lines (codes "%% \nscan%%\n%%%") ≡ []
no_script = refl

-- ---- answers

entry : List ℕ → ℤ → Bool → List ℕ → Cell
entry row time deleted value = record { key = record { row = row; family = codes "a"; qualifier = codes "x"; visibility = []; time = time; deleted = deleted }; value = value }

live_entry : entry_line (entry (codes "r1") (pos 1) false (codes "1")) ≡ codes "r1 a:x: @1 =1\n"
unfolding entry_line entry digits
live_entry = refl

negative_time : entry_line (entry (codes "r1") (negsuc 11) false []) ≡ codes "r1 a:x: @-12 =\n"
unfolding entry_line entry digits
negative_time = refl

marker : entry_line (entry (codes "r1") (pos 20) true []) ≡ codes "r1 a:x: @20 -\n"
unfolding entry_line entry digits
marker = refl

scan_of_none : scan_text 0 [] ≡ codes "end 0\n"
unfolding found_text digits
scan_of_none = refl

scan_of_one : scan_text 12 (entry (codes "r1") (pos 1) false (codes "1") ∷ []) ≡ codes "at 12\nr1 a:x: @1 =1\nend 12\n"
unfolding found_text entry_line entry digits
scan_of_one = refl
