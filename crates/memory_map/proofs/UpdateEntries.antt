-- The entries of a mutation, update by update.
use Rattle.std.proofs.Common.{◌≡◌, ℕ, ◌+◌, ◌<◌, List, [], ◌∷◌, ◌++◌, map, length, take, slice_index_or, None, refl, sym, ◌∙◌, ap, append_assoc, option_map}
use Rattle.std.proofs.lemmas.List.{take_more, map-append}
use Rattle.std.proofs.lemmas.Option.{slice_get-map, slice_get_read}
use Rattle.tablet_model.specs.Cell.{Cell}
use Rattle.tablet_model.specs.Bounds.{KeyBounds}
use Rattle.tablet_model.specs.History.{Change}
use Rattle.tablet_model.specs.Ingest.{out_of_bounds}
use Rattle.tablet_model.proofs.Ingests.{bounds_at}
use Rattle.cell_key.specs.Mutations.{change_of, row_change_of}
use Rattle.cell_key.specs.declared.mutation.Update.{Update}
use Rattle.cell_key.specs.declared.mutation.Mutation.{Mutation}

-- an update of a mutation that is in bounds
pub bounds_here : (m : Mutation) (i : ℕ) (u : Update) → out_of_bounds (row_change_of m) ≡ None → i < length m.updates → u ≡ slice_index_or m.updates i u → KeyBounds m.row u.family u.qualifier u.visibility
bounds_here m i u h lt is =
    bounds_at (row_change_of m) i (change_of u) h (slice_get-map change_of m.updates i ∙ ap (λ o. option_map change_of o) (slice_get_read m.updates (length m.updates) i u refl lt is))

-- one update more
pub one_more : (f : Change → Cell) (old now : List Cell) (us : List Update) (i : ℕ) (u : Update) (e : Cell) → i < length us → u ≡ slice_index_or us i u → e ≡ f (change_of u)
    → now ≡ old ++ map f (map change_of (take i us)) → now ++ e ∷ [] ≡ old ++ map f (map change_of (take (i + 1) us))
one_more f old now us i u e lt is made h =
    ap (λ n. n ++ e ∷ []) h
    ∙ append_assoc old (map f (map change_of (take i us))) (e ∷ [])
    ∙ ap (λ l. old ++ l) (ap (λ y. map f (map change_of (take i us)) ++ y ∷ []) made ∙ sym more)
  where
    more : map f (map change_of (take (i + 1) us)) ≡ map f (map change_of (take i us)) ++ f (change_of u) ∷ []
    more = ap (λ l. map f (map change_of l)) (take_more us i u lt ∙ ap (λ v. take i us ++ v ∷ []) (sym is))
        ∙ ap (map f) (map-append change_of (take i us) (u ∷ [])) ∙ map-append f (map change_of (take i us)) (change_of u ∷ [])
