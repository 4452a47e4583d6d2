use Rattle.std.proofs.Common.{◌≡◌, length, ◌+◌, [], ◌∷◌, ◌++◌, take, drop, true, sym, ap, ◌∙◌, arith}
use Rattle.std.specs.List.{list_all}
use Rattle.std.specs.Option.{option_copied}
use Rattle.std.specs.Int.{w64, cast_signed, cast_unsigned}
use Rattle.number_values.specs.Arrays.{parts_left, is_element, array_in, array_sum}
use Rattle.number_values.proofs.ArrayLoops.{short_parts, element_read, summed_from, summed_first, summed_last, summed_more, length_more, elements_of, elements_first, elements_last, elements_more, all_elements, head_element, tail_elements}
use Rattle.number_values.proofs.arrays.NumberArray.add.Goals as goal

pub loop-rest-init : goal.loop-rest-init
loop-rest-init c =
    let e = c.args.encoding in
    let bytes = c.args.bytes.now in
    record {
      within = omega arith;
      short = omega (arith, short_parts e bytes c.requires);
      elements = all_elements e bytes c.requires;
      same =
          sym (summed_first c.args.self.now (array_in e bytes))
          ∙ ap (summed_from 0 c.args.self.now) (sym (elements_first e bytes));
    }

pub loop-rest-preserved : goal.loop-rest-preserved
loop-rest-preserved c =
    let e = c.args.encoding in
    let part = c.split_first.result.0.now in
    let parts = parts_left e (option_copied c.split_first.result.1) in
    let left : parts_left e (option_copied c.loop-rest.rest) ≡ part ∷ parts =
    ap (λ r. parts_left e (option_copied r)) c.in-Some.is ∙ c.split_first.ensures.parts
    in
    let short : length (parts_left e (option_copied c.loop-rest.rest)) ≡ length (part ∷ parts) = ap (λ ps. length ps) left in
    let at = c.loop-rest.at in
    let v = c.loop-rest.self in
    let n = cast_signed w64 (cast_unsigned w64 c.unwrap-number.result) in
    let added : c.add_at.new.self ≡ take at v ++ array_sum (drop at v) (n ∷ []) = c.in_ok-add_at.ensures in
    let all : list_all (is_element e) (part ∷ parts) ≡ true = sym (ap (list_all (is_element e)) left) ∙ c.loop-rest.invariant.elements in
    record {
      within = omega (arith, length_more at v n c.loop-rest.invariant.within, ap (λ w. length w) added);
      short = omega arith;
      elements = tail_elements e part parts all;
      same =
          c.loop-rest.invariant.same
          ∙ ap (summed_from c.loop-rest.at c.loop-rest.self) (ap (elements_of e) left ∙ elements_more e part parts)
          ∙ ap (λ z. summed_from at v (z ∷ elements_of e parts)) (element_read e part c.unwrap-number.result (head_element e part parts all) (sym c.number.ensures ∙ c.unwrap-number.ensures))
          ∙ summed_more at v n (elements_of e parts) c.loop-rest.invariant.within
          ∙ ap (λ w. summed_from (at + 1) w (elements_of e parts)) (sym added);
    }

pub overflow_add-at : goal.overflow_add-at
overflow_add-at c =
    let e = c.args.encoding in
    let part = c.split_first.result.0.now in
    let parts = parts_left e (option_copied c.split_first.result.1) in
    let left : parts_left e (option_copied c.loop-rest.rest) ≡ part ∷ parts =
    ap (λ r. parts_left e (option_copied r)) c.in-Some.is ∙ c.split_first.ensures.parts
    in
    let short : length (parts_left e (option_copied c.loop-rest.rest)) ≡ length (part ∷ parts) = ap (λ ps. length ps) left in
    omega arith

pub returns : goal.returns
returns c =
    let e = c.args.encoding in
    sym (
    c.loop-rest.invariant.same
    ∙ ap (λ r. summed_from c.loop-rest.at c.loop-rest.self (elements_of e (parts_left e (option_copied r)))) c.in_default.is
    ∙ ap (summed_from c.loop-rest.at c.loop-rest.self) (elements_last e)
    ∙ summed_last c.loop-rest.at c.loop-rest.self
    )
