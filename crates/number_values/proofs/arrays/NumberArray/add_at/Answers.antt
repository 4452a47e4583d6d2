use Rattle.std.proofs.Common.{◌≡◌, ◌<◌, length, set, [], ◌∷◌, ◌++◌, take, drop, true, ap, ◌∙◌, arith}
use Rattle.std.specs.Int.{w64, cast_signed, cast_unsigned}
use Rattle.number_values.specs.declared.op.Op.TheVariants as op
use Rattle.number_values.specs.Numbers.{is_number, stopped_sum}
use Rattle.number_values.specs.Arrays.{array_sum}
use Rattle.number_values.proofs.ArrayLoops.{element_fits, elements_at, elements_set, sum_at_end, sum_at}
use Rattle.number_values.proofs.arrays.NumberArray.add_at.Goals as goal

pub invariant_of-self-else-at-len : goal.invariant_of-self-else-at-len
invariant_of-self-else-at-len c =
    let sum = c.join.result in
    let number : is_number op.ArraySum (cast_signed w64 (cast_unsigned w64 sum)) ≡ true = ap (is_number op.ArraySum) (element_fits sum c.join.ensures.number) ∙ c.join.ensures.number in
    elements_set c.self.inside.numbers.items c.args.at (cast_signed w64 (cast_unsigned w64 sum)) c.self.invariant number

pub returns-in_ok-push : goal.returns-in_ok-push
returns-in_ok-push c =
    let n = c.args.number in
    let items = c.self.inside.numbers.items in
    let seen : items ≡ c.args.self.now = c.self.view_is in
    let at_end : c.args.at ≡ length items = omega arith in
    c.in_ok-push.ensures.items
    ∙ ap (λ z. items ++ z ∷ []) (element_fits n c.requires.number)
    ∙ sum_at_end c.args.at items n at_end
    ∙ ap (λ v. take c.args.at v ++ array_sum (drop c.args.at v) (n ∷ [])) seen

pub returns-else-at-len : goal.returns-else-at-len
returns-else-at-len c =
    let n = c.args.number in
    let at = c.args.at in
    let items = c.self.inside.numbers.items in
    let x = c.index.result.now in
    let seen : items ≡ c.args.self.now = c.self.view_is in
    let same : length items ≡ length c.args.self.now = ap (λ v. length v) seen in
    let inside : at < length items = omega arith in
    let read : is_number op.ArraySum x ≡ true = ap (is_number op.ArraySum) c.index.ensures ∙ elements_at items at x c.self.invariant inside in
    ap (set items at) (
    element_fits c.join.result c.join.ensures.number
    ∙ c.join.ensures.joined
    ∙ ap (λ z. stopped_sum z (cast_signed w64 (cast_unsigned w64 n))) (element_fits x read)
    ∙ ap (stopped_sum x) (element_fits n c.requires.number)
    ∙ ap (λ z. stopped_sum z n) c.index.ensures
    )
    ∙ sum_at at items n x inside
    ∙ ap (λ v. take at v ++ array_sum (drop at v) (n ∷ [])) seen
