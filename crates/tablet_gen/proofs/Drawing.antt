-- Draws behind others, and the mutations that they make.
use Rattle.std.proofs.Common.{◌≡◌, ℕ, zero, suc, ◌+◌, ◌*◌, ◌/◌, List, [], ◌∷◌, ◌++◌, map, sym, ap, ◌∙◌, arith, add-zero, add-one}
use Rattle.std.proofs.lemmas.List.{map-append}
use Rattle.cell_key.specs.Mutations.{row_change_of}
use Rattle.cell_key.specs.declared.mutation.Mutation.{Mutation}
use Rattle.tablet_gen.specs.Draws.{draw, next_state, state_behind}
use Rattle.tablet_gen.specs.Mutations.{mutation_at, mutation_from, mutations_of}

pub state_more : (k n start : ℕ) → state_behind k (state_behind n start) ≡ state_behind (n + k) start
unfolding state_behind
state_more zero n start = ap (λ m. state_behind m start) (sym (add-zero n))
state_more (suc k) n start =
    let more : suc (n + k) ≡ n + suc k = omega arith in
    ap next_state (state_more k n start) ∙ ap (λ m. state_behind m start) more

pub draw_more : (k n start : ℕ) → draw k (state_behind n start) ≡ draw (n + k) start
unfolding draw
draw_more k n start =
    let more : n + suc k ≡ suc (n + k) = omega arith in
    ap (λ x. x / 65536) (state_more (suc k) n start ∙ ap (λ m. state_behind m start) more)

-- the mutation of four draws behind those of i others
mutation_more : (i start : ℕ) → mutation_at 0 (state_behind (4 * i) start) ≡ mutation_at i start
mutation_more i start =
    let a = draw_more 0 (4 * i) start ∙ ap (λ m. draw m start) (add-zero (4 * i)) in
    λ j. mutation_from (a j) (draw_more 1 (4 * i) start j) (draw_more 2 (4 * i) start j) (draw_more 3 (4 * i) start j)

one_more : (i start : ℕ) → mutations_of i start ++ mutation_at i start ∷ [] ≡ mutations_of (i + 1) start
unfolding mutations_of
one_more i start = ap (λ n. mutations_of n start) (sym (add-one i))

pub mutations_next : (i start state : ℕ) (list : List Mutation) (m : Mutation) → state ≡ state_behind (4 * i) start → map row_change_of list ≡ mutations_of i start
    → row_change_of m ≡ mutation_at 0 state → map row_change_of (list ++ m ∷ []) ≡ mutations_of (i + 1) start
mutations_next i start state list m at known made =
    let is : row_change_of m ≡ mutation_at i start = made ∙ ap (mutation_at 0) at ∙ mutation_more i start in
    map-append row_change_of list (m ∷ []) ∙ (λ j. known j ++ is j ∷ []) ∙ one_more i start

pub state_next : (i start state after : ℕ) → state ≡ state_behind (4 * i) start → after ≡ state_behind 4 state → after ≡ state_behind (4 * (i + 1)) start
state_next i start state after at made =
    let more : 4 * i + 4 ≡ 4 * (i + 1) = omega arith in
    made ∙ ap (state_behind 4) at ∙ state_more 4 (4 * i) start ∙ ap (λ m. state_behind m start) more
