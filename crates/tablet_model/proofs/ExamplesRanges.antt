-- Cuts, ranges and places on a small list.
use Rattle.std.proofs.Common.{◌≡◌, true, false, List, [], ◌∷◌, refl, codes}
use Rattle.tablet_model.specs.Cell.{Cell}
use Rattle.tablet_model.specs.Order.{column_cmp, time_cmp, key_cmp}
use Rattle.tablet_model.specs.Cuts.{Cut, Everything, Before, Behind, BeforeRow, BehindRow, Span, within, is_row_reached}
use Rattle.tablet_model.specs.Places.{Start, AfterKey, AfterRow, after}
use Rattle.tablet_model.specs.Widened.{widened_span}
use Rattle.tablet_model.proofs.ExampleCells.{key, entry}

abbrev x2 : Cell
x2 = entry (codes "r1") (codes "n") (codes "x") 2 (codes "b")

abbrev x1 : Cell
x1 = entry (codes "r1") (codes "n") (codes "x") 1 (codes "a")

abbrev y3 : Cell
y3 = entry (codes "r2") (codes "n") (codes "y") 3 (codes "c")

abbrev three : List Cell
three = x2 ∷ x1 ∷ y3 ∷ []

abbrev from_to : Cut → Cut → Span
from_to start end = record { start = start; end = end }

everything_holds_all : within (from_to Everything Everything) three ≡ three
everything_holds_all = refl

a_start_before_a_key_takes_it : within (from_to (Before x1.key) Everything) three ≡ x1 ∷ y3 ∷ []
unfolding key_cmp column_cmp time_cmp
a_start_before_a_key_takes_it = refl

a_start_behind_a_key_leaves_it : within (from_to (Behind x1.key) Everything) three ≡ y3 ∷ []
unfolding key_cmp column_cmp time_cmp
a_start_behind_a_key_leaves_it = refl

a_start_before_a_row_takes_it : within (from_to (BeforeRow (codes "r1")) Everything) three ≡ three
a_start_before_a_row_takes_it = refl

a_start_behind_a_row_leaves_it : within (from_to (BehindRow (codes "r1")) Everything) three ≡ y3 ∷ []
a_start_behind_a_row_leaves_it = refl

an_end_before_a_key_leaves_it : within (from_to Everything (Before x1.key)) three ≡ x2 ∷ []
unfolding key_cmp column_cmp time_cmp
an_end_before_a_key_leaves_it = refl

an_end_behind_a_key_takes_it : within (from_to Everything (Behind x1.key)) three ≡ x2 ∷ x1 ∷ []
unfolding key_cmp column_cmp time_cmp
an_end_behind_a_key_takes_it = refl

an_end_before_a_row_leaves_it : within (from_to Everything (BeforeRow (codes "r2"))) three ≡ x2 ∷ x1 ∷ []
an_end_before_a_row_leaves_it = refl

an_end_behind_a_row_takes_it : within (from_to Everything (BehindRow (codes "r2"))) three ≡ three
an_end_behind_a_row_takes_it = refl

-- of a key that has no entry too
a_cut_needs_no_entry : within (from_to (Behind (key (codes "r1") (codes "n") (codes "xx") 7 false)) (BehindRow (codes "r9"))) three ≡ y3 ∷ []
unfolding key_cmp column_cmp time_cmp
a_cut_needs_no_entry = refl

an_end_before_its_start_holds_nothing : within (from_to (BehindRow (codes "r1")) (BeforeRow (codes "r2"))) three ≡ []
an_end_before_its_start_holds_nothing = refl

a_widened_range_begins_with_the_column : within (widened_span (from_to (Behind x2.key) Everything)) three ≡ three
unfolding key_cmp column_cmp time_cmp
a_widened_range_begins_with_the_column = refl

a_widened_range_keeps_its_end : within (widened_span (from_to (Behind x2.key) (Before x1.key))) three ≡ x2 ∷ []
unfolding key_cmp column_cmp time_cmp
a_widened_range_keeps_its_end = refl

a_start_in_a_row_reaches_it : is_row_reached (Behind x1.key) (codes "r1") ≡ true
a_start_in_a_row_reaches_it = refl

a_start_in_a_later_row_does_not : is_row_reached (BeforeRow (codes "r2")) (codes "r1") ≡ false
a_start_in_a_later_row_does_not = refl

at_the_start_all_is_left : after Start three ≡ three
at_the_start_all_is_left = refl

behind_a_key_the_later_ones_are_left : after (AfterKey x2.key) three ≡ x1 ∷ y3 ∷ []
unfolding key_cmp column_cmp time_cmp
behind_a_key_the_later_ones_are_left = refl

behind_a_row_the_later_rows_are_left : after (AfterRow (codes "r1")) three ≡ y3 ∷ []
behind_a_row_the_later_rows_are_left = refl
