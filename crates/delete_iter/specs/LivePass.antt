-- The live entries are the marked ones without the markers.
use Rattle.std.proofs.Common.{◌≡◌, ◌&&◌, not, Bool, true, false, cond, List, [], ◌∷◌, refl, sym, ◌∙◌, ap}
use Rattle.std.specs.List.{filter}
use Rattle.std.proofs.lemmas.List.Elements.{filter_agree}
use Rattle.tablet_model.specs.Cell.{Cell}
use Rattle.tablet_model.specs.Order.{above}
use Rattle.tablet_model.specs.Sorted.{Ascends, from_first}
use Rattle.tablet_model.specs.Cuts.{is_behind, within, holds, Span}
use Rattle.tablet_model.specs.Bounds.{AreEntries}
use Rattle.tablet_model.specs.Widened.{widened_span}
use Rattle.tablet_model.specs.Markers.{live, mark}
use Rattle.tablet_model.proofs.Columns.{filter_filter}
use Rattle.tablet_model.proofs.Cursors.{live_of_mark}
use Rattle.tablet_model.proofs.CutLemmas.{behind-GoesUp}
use Rattle.tablet_model.proofs.Orders.{above_exact}
use Rattle.tablet_model.proofs.Risings.{Ascends-mark}
use Rattle.tablet_model.proofs.Sums.{Ascends-filter}
use Rattle.stages.specs.Passes.{kept_from}
use Rattle.stages.specs.TestLaws.{and_swap, from_first_filter}
use Rattle.delete_iter.specs.MarkStages.{keeps, after_entry}
use Rattle.delete_iter.specs.MarkPass.{mark_pass, mark_narrows}
use Rattle.delete_iter.specs.LiveStages.{live_keeps, live_passed, live_unhidden}
use Rattle.delete_iter.specs.declared.live_stage.LiveStage.{LiveStage}

-- an entry that is no marker
abbrev is_put : Cell → Bool
is_put e = not e.key.deleted

within_puts : (s : Span) (list : List Cell) → filter is_put (within s list) ≡ within s (filter is_put list)
within_puts s list =
    filter_filter is_put (λ e. holds s e.key) list
    ∙ filter_agree (λ e. holds s e.key && is_put e) (λ e. is_put e && holds s e.key) (λ e. and_swap (holds s e.key) (is_put e)) list
    ∙ sym (filter_filter (λ e. holds s e.key) is_put list)

-- a range of the marked entries, without the markers
pub seek_live : (s : Span) (list : List Cell) → Ascends above list → filter is_put (within s (mark list)) ≡ within s (live list)
seek_live s list up = within_puts s (mark list) ∙ ap (within s) (sym (live_of_mark list up))

-- the pass is that over marked entries, without the markers
without_markers : (s : LiveStage) (list : List Cell) → kept_from live_keeps live_passed s list ≡ filter is_put (kept_from keeps after_entry s.marks list)
without_markers s [] = refl
without_markers s (e ∷ es) = go (keeps s.marks e) _ _ (without_markers (live_passed s e) es)
  where
    go : (b : Bool) (xs ys : List Cell) → xs ≡ filter is_put ys → cond (b && not e.key.deleted) (e ∷ xs) xs ≡ filter is_put (cond b (e ∷ ys) ys)
    go true xs ys h = ap (λ l. cond (not e.key.deleted) (e ∷ l) l) h
    go false xs ys h = h

-- the pass over a list in order
pub live_pass : (s : LiveStage) (list : List Cell) → Ascends above list → kept_from live_keeps live_passed (live_unhidden s) list ≡ live list
live_pass s list up =
    without_markers (live_unhidden s) list
    ∙ ap (filter is_put) (mark_pass s.marks list up)
    ∙ sym (live_of_mark list up)

-- the range from the start's column on, from the start on
pub live_narrows : (s : Span) (list : List Cell) → Ascends above list → AreEntries list → from_first (λ e. is_behind s.start e.key) (live (within (widened_span s) list)) ≡ within s (live list)
live_narrows s list up en =
    let w : List Cell = within (widened_span s) list in
    let up_w : Ascends above w = Ascends-filter above above_exact (λ e. holds (widened_span s) e.key) list up in
    ap (from_first (λ e. is_behind s.start e.key)) (live_of_mark w up_w)
    ∙ from_first_filter is_put (λ e. is_behind s.start e.key) (behind-GoesUp s.start) (mark w) (Ascends-mark w up_w)
    ∙ ap (filter is_put) (mark_narrows s list up en)
    ∙ seek_live s list up
