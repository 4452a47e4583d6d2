use Rattle.std.proofs.Common.{◌-◌, ◌<◌, ℕ, length, drop, slice_range, sym, ap, subst, ◌∙◌, arith}
use Rattle.std.proofs.lemmas.List.{length-drop, length-take}
use Rattle.std.specs.Arc.{arc_value}
use Rattle.iter_contract.proofs.Partition.{step_later}
use Rattle.sorted_file.specs.Contents.{FileContents}
use Rattle.sorted_file.specs.CursorParts.{cursor_rest}
use Rattle.sorted_file.specs.Outlines.{IsSpot}
use Rattle.sorted_file.specs.declared.cursor.FileCursor.{FileCursor}
use Rattle.sorted_file.proofs.cursor.FileCursorSortedSource.next.Goals as goal

-- there is a top
inside : (cursor : FileCursor) → 0 < length (cursor_rest cursor) → (cursor.top.index < cursor.end) × (cursor.top.index < length (arc_value cursor.file).cells)
inside cursor some =
    let list = (arc_value cursor.file).cells in
    let at = cursor.top.index in
    (omega (arith, length-take (cursor.end - at) (drop at list), length-drop at list), omega (arith, length-take (cursor.end - at) (drop at list), length-drop at list))

pub next-self-requires-clause-within : goal.next-self-requires-clause-within
next-self-requires-clause-within c = omega (arith, inside c.args.self.now c.requires.top, ap (λ (f : FileContents). length f.cells) c.deref.ensures)

pub next-self-requires-clause-spot : goal.next-self-requires-clause-spot
next-self-requires-clause-spot c = subst (λ (f : FileContents). IsSpot f c.args.self.now.top) (sym c.deref.ensures) c.args.self.now.is_spot

pub invariant_of-self : goal.invariant_of-self
invariant_of-self c =
    let cursor = c.args.self.now in
    record {
      order = omega (arith, inside cursor c.requires.top, c.next-self.ensures.index);
      bound = cursor.bound;
      is_spot = subst (λ (f : FileContents). IsSpot f c.next-self.result) c.deref.ensures c.next-self.ensures.spot;
      is_sorted = cursor.is_sorted;
      is_bounded = cursor.is_bounded;
    }

pub returns-clause-rest : goal.returns-clause-rest
returns-clause-rest c =
    let cursor = c.args.self.now in
    let list = (arc_value cursor.file).cells in
    ap (λ (n : ℕ). slice_range list n cursor.end) c.next-self.ensures.index ∙ step_later list cursor.top.index cursor.end
