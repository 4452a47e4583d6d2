-- The first change that breaks a check, by its place.
use Rattle.std.proofs.Common.{◌≡◌, ℕ, ◌+◌, ◌<◌, ◌≤◌, ◌||◌, Bool, cond, List, [], ◌∷◌, ◌++◌, length, take, drop, get_or, map, Option, Some, None, option_map, refl, sym, ap, ◌∙◌}
use Rattle.std.specs.List.{AllByRecursion, list_any}
use Rattle.std.specs.Option.{option_or}
use Rattle.std.proofs.lemmas.List.{at_drop_more, drop_all, take_more, map-append}
use Rattle.tablet_model.specs.History.{Change}
use Rattle.tablet_model.specs.Ingest.{Part, bound, first_too_long, first_twice, first_where, is_twin, too_long}
use Rattle.cell_key.specs.Mutations.{change_of}
use Rattle.cell_key.specs.declared.mutation.Update.{Update}

-- tests that agree find the same
pub first_agrees : (p q : Change → Bool) (at : ℕ) (us : List Change) → AllByRecursion (λ u. p u ≡ q u) us → first_where p at us ≡ first_where q at us
unfolding first_where
first_agrees p q at [] h = refl
first_agrees p q at (u ∷ us) h = ap (λ b. cond b (Some at) (first_where p (at + 1) us)) h.0 ∙ ap (λ o. cond (q u) (Some at) o) (first_agrees p q (at + 1) us h.1)

-- the search at the place that it has come to
pub where_at : (p : Change → Bool) (us : List Update) (i : ℕ) (u : Update) (t : Bool) → i < length us → u ≡ get_or us i u → p (change_of u) ≡ t
    → first_where p (i + 1) (map change_of (drop i us)) ≡ cond t (Some (i + 1)) (first_where p (i + 1 + 1) (map change_of (drop (i + 1) us)))
unfolding first_where
where_at p us i u t lt at is =
    at_drop_more (λ l. first_where p (i + 1) (map change_of l)) us i u lt
    ∙ ap (λ v. first_where p (i + 1) (map change_of (v ∷ drop (i + 1) us))) (sym at)
    ∙ ap (λ b. cond b (Some (i + 1)) (first_where p (i + 1 + 1) (map change_of (drop (i + 1) us)))) is

any_map : (p : Change → Bool) (us : List Update) → list_any p (map change_of us) ≡ list_any (λ u. p (change_of u)) us
any_map p [] = refl
any_map p (u ∷ us) = ap (λ b. p (change_of u) || b) (any_map p us)

-- the search for a twin
pub twice_at : (us : List Update) (i : ℕ) (u : Update) (t : Bool) → i < length us → u ≡ get_or us i u → list_any (λ v. is_twin (change_of u) (change_of v)) (take i us) ≡ t
    → first_twice (map change_of (take i us)) (i + 1) (map change_of (drop i us)) ≡ cond t (Some (i + 1)) (first_twice (map change_of (take (i + 1) us)) (i + 1 + 1) (map change_of (drop (i + 1) us)))
unfolding first_twice
twice_at us i u t lt at is =
    at_drop_more (λ l. first_twice (map change_of (take i us)) (i + 1) (map change_of l)) us i u lt
    ∙ ap (λ v. first_twice (map change_of (take i us)) (i + 1) (map change_of (v ∷ drop (i + 1) us))) (sym at)
    ∙ ap (λ b. cond b (Some (i + 1)) (first_twice (map change_of (take i us) ++ change_of u ∷ []) (i + 1 + 1) (map change_of (drop (i + 1) us)))) (any_map (is_twin (change_of u)) (take i us) ∙ is)
    ∙ ap (λ l. cond t (Some (i + 1)) (first_twice l (i + 1 + 1) (map change_of (drop (i + 1) us)))) (sym more)
  where
    more : map change_of (take (i + 1) us) ≡ map change_of (take i us) ++ change_of u ∷ []
    more = ap (map change_of) (take_more us i u lt ∙ ap (λ v. take i us ++ v ∷ []) (sym at)) ∙ map-append change_of (take i us) (u ∷ [])

-- the search for a part that is too long
pub long_at : (us : List Update) (i : ℕ) (u : Update) (o : Option Part) → i < length us → u ≡ get_or us i u → too_long (change_of u) ≡ o
    → first_too_long (i + 1) (map change_of (drop i us)) ≡ option_or (option_map (bound (i + 1)) o) (first_too_long (i + 1 + 1) (map change_of (drop (i + 1) us)))
unfolding first_too_long
long_at us i u o lt at is =
    at_drop_more (λ l. first_too_long (i + 1) (map change_of l)) us i u lt
    ∙ ap (λ v. first_too_long (i + 1) (map change_of (v ∷ drop (i + 1) us))) (sym at)
    ∙ ap (λ p. option_or (option_map (bound (i + 1)) p) (first_too_long (i + 1 + 1) (map change_of (drop (i + 1) us)))) is

-- where no update is left, none is found
pub where_at_end : (p : Change → Bool) (us : List Update) (i : ℕ) → length us ≤ i → first_where p (i + 1) (map change_of (drop i us)) ≡ None
unfolding first_where
where_at_end p us i h = ap (λ l. first_where p (i + 1) (map change_of l)) (drop_all i us h)

pub twice_at_end : (us : List Update) (i : ℕ) → length us ≤ i → first_twice (map change_of (take i us)) (i + 1) (map change_of (drop i us)) ≡ None
unfolding first_twice
twice_at_end us i h = ap (λ l. first_twice (map change_of (take i us)) (i + 1) (map change_of l)) (drop_all i us h)

pub long_at_end : (us : List Update) (i : ℕ) → length us ≤ i → first_too_long (i + 1) (map change_of (drop i us)) ≡ None
unfolding first_too_long
long_at_end us i h = ap (λ l. first_too_long (i + 1) (map change_of l)) (drop_all i us h)
