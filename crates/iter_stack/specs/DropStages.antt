-- What a level drops of its source, by the stage that it has. All of this is this project's own.
use Rattle.std.specs.Prelude.{◌≡◌, Bool, true, false, List, refl}
use Rattle.std.proofs.Common.{◌∙◌}
use Rattle.tablet_model.specs.Cell.{Cell}
use Rattle.tablet_model.specs.Order.{above}
use Rattle.tablet_model.specs.Sorted.{Ascends, from_first}
use Rattle.tablet_model.specs.Bounds.{AreEntries}
use Rattle.tablet_model.specs.Cuts.{Span, is_behind, within}
use Rattle.stages.specs.Passes.{kept_from, seek_range}
use Rattle.stages.proofs.Wrapped.{wrapped_pass}
use Rattle.delete_iter.specs.MarkStages as marks
use Rattle.delete_iter.specs.MarkPass.{mark_pass, mark_narrows}
use Rattle.delete_iter.specs.LiveStages.{live_made, live_keeps, live_passed, live_unhidden}
use Rattle.delete_iter.specs.LivePass.{live_pass, live_narrows}
use Rattle.filters.specs.FilterStages.{filter_made, passes, same, filter_pass, filter_narrows}
use Rattle.versioning.specs.VersionStages as versions
use Rattle.versioning.specs.CountPass.{version_pass, version_narrows}
use Rattle.iter_stack.specs.declared.drop_stage.DropStage.{DropStage}
use Rattle.iter_stack.specs.declared.drop_stage.DropStage.TheVariants as drop

-- what it makes of a list
abbrev pub drop_made : DropStage → List Cell → List Cell
drop_made (drop.Live s) = live_made s
drop_made (drop.Mark s) = marks.mark_made s
drop_made (drop.Filter s) = filter_made s
drop_made (drop.Versions s) = versions.version_made s

-- whether it keeps the next entry
abbrev pub drop_keeps : DropStage → Cell → Bool
drop_keeps (drop.Live s) e = live_keeps s e
drop_keeps (drop.Mark s) e = marks.keeps s e
drop_keeps (drop.Filter s) e = passes s e
drop_keeps (drop.Versions s) e = versions.keeps s e

-- where it is behind an entry
abbrev pub drop_passed : DropStage → Cell → DropStage
drop_passed (drop.Live s) e = drop.Live (live_passed s e)
drop_passed (drop.Mark s) e = drop.Mark (marks.after_entry s e)
drop_passed (drop.Filter s) e = drop.Filter s
drop_passed (drop.Versions s) e = drop.Versions (versions.after_entry s e)

-- where it is before a list
abbrev pub drop_restarted : DropStage → DropStage
drop_restarted (drop.Live s) = drop.Live (live_unhidden s)
drop_restarted (drop.Mark s) = drop.Mark (marks.without_hidden s)
drop_restarted (drop.Filter s) = drop.Filter s
drop_restarted (drop.Versions s) = drop.Versions (versions.without_count s)

-- whether a seek begins with a whole column
abbrev pub drop_wide : DropStage → Bool
drop_wide (drop.Live s) = true
drop_wide (drop.Mark s) = true
drop_wide (drop.Filter s) = false
drop_wide (drop.Versions s) = true

-- a pass over a list in order keeps what it makes of it
pub drop_pass : (s : DropStage) (list : List Cell) → Ascends above list
    → kept_from drop_keeps drop_passed (drop_restarted s) list ≡ drop_made s list
drop_pass (drop.Live s) list up =
    wrapped_pass live_keeps live_passed drop_keeps drop_passed (λ t. drop.Live t) (λ t e. refl) (λ t e. refl) (live_unhidden s) list
    ∙ live_pass s list up
drop_pass (drop.Mark s) list up =
    wrapped_pass marks.keeps marks.after_entry drop_keeps drop_passed (λ t. drop.Mark t) (λ t e. refl) (λ t e. refl) (marks.without_hidden s) list
    ∙ mark_pass s list up
drop_pass (drop.Filter s) list up =
    wrapped_pass passes same drop_keeps drop_passed (λ t. drop.Filter t) (λ t e. refl) (λ t e. refl) s list
    ∙ filter_pass s list
drop_pass (drop.Versions s) list up =
    wrapped_pass versions.keeps versions.after_entry drop_keeps drop_passed (λ t. drop.Versions t) (λ t e. refl) (λ t e. refl) (versions.without_count s) list
    ∙ version_pass s list up

-- what a seek reads gives what the range has of what it makes of all
pub drop_narrows : (s : DropStage) (span : Span) (list : List Cell) → Ascends above list → AreEntries list
    → from_first (λ e. is_behind span.start e.key) (drop_made s (within (seek_range (drop_wide s) span) list)) ≡ within span (drop_made s list)
drop_narrows (drop.Live s) span list up all = live_narrows span list up all
drop_narrows (drop.Mark s) span list up all = mark_narrows span list up all
drop_narrows (drop.Filter s) span list up all = filter_narrows s span list
drop_narrows (drop.Versions s) span list up all = version_narrows s.max span list up all
