-- The model's checks under the rules of a configuration are these.
use Rattle.std.proofs.Common.{◌≡◌, ℕ, ◌+◌, List, [], ◌∷◌, map, Option, Some, None, option_map, sym, ap, ◌∙◌}
use Rattle.std.specs.Prelude.{cond, nat_lt}
use Rattle.std.specs.List.{AllByRecursion}
use Rattle.std.specs.Option.{option_or}
use Rattle.tablet_model.specs.History.{Change, RowChange}
use Rattle.tablet_model.specs.Ingest as model
use Rattle.tablet_model.specs.Ingest.{Refusal, bad_value, delete_here, duplicate, first_twice, first_where, full_log, ingest, out_of_bounds, time_here}
use Rattle.cell_key.specs.Mutations.{change_of, row_change_of}
use Rattle.cell_key.specs.declared.mutation.Mutation.{Mutation}
use Rattle.iter_config.specs.RulesOf.{rules_of}
use Rattle.iter_config.specs.Settings.{Settings}
use Rattle.iter_config.proofs.Checking.{mistimed, refused_delete, unread}
use Rattle.ingest.specs.Checks.{first_broken, is_mistimed, is_refused_delete, is_unread}
use Rattle.ingest.proofs.Finding.{first_agrees}

all_of : (P : Change → Type 0) → ((u : Change) → P u) → (us : List Change) → AllByRecursion P us
all_of P h [] = tt
all_of P h (u ∷ us) = (h u, all_of P h us)

pub ingest_is : (c : Settings) (n : ℕ) (m : Mutation) → first_broken c n (row_change_of m) ≡ ingest (rules_of c) n (row_change_of m)
unfolding ingest
ingest_is c n m =
    let r : RowChange = row_change_of m in
    let us : List Change = map change_of m.updates in
    let full : Option Refusal = cond (nat_lt n 524288) None (Some full_log) in
    let deletes = sym (first_agrees (model.is_refused_delete (rules_of c) (n + 1) r) (is_refused_delete c) 1 us (all_of _ (refused_delete c (n + 1) r) us)) in
    let values = sym (first_agrees (model.is_unread (rules_of c) (n + 1) r) (is_unread c) 1 us (all_of _ (unread c (n + 1) r) us)) in
    let times = sym (first_agrees (model.is_mistimed (rules_of c) (n + 1) r) (is_mistimed c) 1 us (all_of _ (mistimed c (n + 1) r) us)) in
    let last : Option ℕ → Option Refusal = λ value. option_or (option_map bad_value value) full in
    ap (λ o. option_or (out_of_bounds r) (option_or (option_map duplicate (first_twice [] 1 us)) o))
    (ap (λ o. option_or (option_map delete_here o) (option_or (option_map time_here (first_where (is_mistimed c) 1 us)) (last (first_where (is_unread c) 1 us)))) deletes
    ∙ ap (λ o. option_or (option_map delete_here (first_where (model.is_refused_delete (rules_of c) (n + 1) r) 1 us)) o)
    (ap (λ o. option_or (option_map time_here o) (last (first_where (is_unread c) 1 us))) times
    ∙ ap (λ o. option_or (option_map time_here (first_where (model.is_mistimed (rules_of c) (n + 1) r) 1 us)) (last o)) values))
