use Rattle.std.proofs.Common.{◌≡◌, ◌<◌, length, get_or, List, ◌++◌, true, ℤ, pos, sym, ap, subst, ◌∙◌, arith}
use Rattle.number_values.specs.Numbers.{text_of}
use Rattle.number_values.specs.Arrays.{separator, are_elements}
use Rattle.number_values.proofs.ArrayLoops.{element_fits, elements_at, text_none, text_first, text_more}
use Rattle.number_values.proofs.arrays.NumberArray.write.Goals as goal
use Rattle.number_values.proofs.arrays.NumberArray.write.Goals.{then-index-gt0+in_ok-append_separator, else-index-gt0}

pub loop-index-init : goal.loop-index-init
loop-index-init c = c.clear.ensures.items ∙ sym (text_none c.args.encoding)

pub loop-index-preserved : goal.loop-index-preserved
loop-index-preserved c =
    let e = c.args.encoding in
    let v : List ℤ = c.as_slice-number-items.result.now in
    let at = c.loop-index.index in
    let number = get_or v at (pos 0) in
    let inside : at < length v = c.loop-index-test.true in
    let elements : are_elements v ≡ true = subst (λ u. are_elements u ≡ true) (sym c.as_slice-number-items.ensures.value) c.self.invariant in
    let appended : c.append_number.new.text.items ≡ c.if-index-gt0.text.items ++ text_of e number =
    c.in_ok-append_number.ensures ∙ ap (λ z. c.if-index-gt0.text.items ++ text_of e z) (element_fits number (elements_at v at (pos 0) elements inside))
    in
    elim c.if-index-gt0.branch [
      | then-index-gt0+in_ok-append_separator w ↦
          appended
          ∙ ap (λ u. u ++ text_of e number) (ap (λ t. t.items) w.text-is ∙ w.in_ok-append_separator.ensures ∙ ap (λ u. u ++ separator e) c.loop-index.invariant)
          ∙ sym (text_more e v at inside w.if-index-gt0.true)
      | else-index-gt0 w ↦
          appended
          ∙ ap (λ u. u ++ text_of e number) (ap (λ t. t.items) w.text-is ∙ c.loop-index.invariant)
          ∙ sym (text_first e v at inside (omega arith))
    ]
