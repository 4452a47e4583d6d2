-- What is taken of small lists, and which beginnings of them are pieces. The first two entries have one key.
use Rattle.std.proofs.Common.{◌≡◌, true, false, List, [], ◌∷◌, refl, sym, ap, subst, codes}
use Rattle.tablet_model.specs.Cell.{Cell}
use Rattle.tablet_model.specs.Order.{column_cmp, time_cmp, key_cmp}
use Rattle.tablet_model.specs.Sorted.{later}
use Rattle.tablet_model.proofs.ExampleCells.{entry, put_x}
use Rattle.scan_session.specs.Takes.{plain, isolated, together, taken_behind, take_together, last_of}
use Rattle.scan_session.specs.Walks.{EndsWell, IsPieceOf}

-- two of one key and one of an older one, in one row, and one of the next row
abbrev four : List Cell
four = put_x 2 (codes "a") ∷ put_x 2 (codes "b") ∷ put_x 1 (codes "c") ∷ entry (codes "r2") (codes "n") (codes "x") 1 [] ∷ []

one_takes_a_whole_key : take_together plain 1 four ≡ put_x 2 (codes "a") ∷ put_x 2 (codes "b") ∷ []
unfolding take_together taken_behind together key_cmp column_cmp time_cmp
one_takes_a_whole_key = refl

three_are_three : take_together plain 3 four ≡ put_x 2 (codes "a") ∷ put_x 2 (codes "b") ∷ put_x 1 (codes "c") ∷ []
unfolding take_together taken_behind together key_cmp column_cmp time_cmp
three_are_three = refl

one_takes_a_whole_row : take_together isolated 1 four ≡ put_x 2 (codes "a") ∷ put_x 2 (codes "b") ∷ put_x 1 (codes "c") ∷ []
unfolding take_together taken_behind together
one_takes_a_whole_row = refl

a_whole_key_is_a_piece : IsPieceOf plain (put_x 2 (codes "a") ∷ put_x 2 (codes "b") ∷ []) four
unfolding together last_of key_cmp column_cmp time_cmp
a_whole_key_is_a_piece = record { rest = put_x 1 (codes "c") ∷ entry (codes "r2") (codes "n") (codes "x") 1 [] ∷ []; whole = refl; ends = refl }

half_a_key_is_none : IsPieceOf plain (put_x 2 (codes "a") ∷ []) four → ⊥
unfolding together last_of key_cmp column_cmp time_cmp
half_a_key_is_none h =
    let rest : later four ≡ h.rest = ap later h.whole in
    let parted : true ≡ false = subst (EndsWell plain (put_x 2 (codes "a") ∷ [])) (sym rest) h.ends in
    absurd (cc)

a_key_is_no_isolated_piece : IsPieceOf isolated (put_x 2 (codes "a") ∷ put_x 2 (codes "b") ∷ []) four → ⊥
unfolding together last_of
a_key_is_no_isolated_piece h =
    let rest : later (later four) ≡ h.rest = ap (λ l. later (later l)) h.whole in
    let parted : true ≡ false = subst (EndsWell isolated (put_x 2 (codes "a") ∷ put_x 2 (codes "b") ∷ [])) (sym rest) h.ends in
    absurd (cc)
