use Rattle.std.proofs.Common.{◌≡◌, ◌∷◌, true, sym, ap, ◌∙◌, arith}
use Rattle.std.specs.Option.{option_copied}
use Rattle.number_values.specs.Arrays.{spells_array, parts_left}
use Rattle.number_values.proofs.ArrayLoops.{still_array, still_first, still_last, still_full, still_not, still_more}
use Rattle.number_values.proofs.arrays.spells_array.Goals as goal
use Rattle.number_values.proofs.arrays.spells_array.Goals.{then-count-eq-MAX_LENGTH-via-then-count-eq-MAX_LENGTH, then-count-eq-MAX_LENGTH-via-else-count-eq-MAX_LENGTH+then-not-reads_number}

pub loop-rest-init : goal.loop-rest-init
loop-rest-init c = record { within = omega arith; same = sym (still_first c.args.encoding c.args.bytes.now) }

pub returns-then-count-eq-MAX_LENGTH : goal.returns-then-count-eq-MAX_LENGTH
returns-then-count-eq-MAX_LENGTH c =
    let e = c.args.encoding in
    let part = c.split_first.result.0.now in
    let parts = parts_left e (option_copied c.split_first.result.1) in
    let so_far : spells_array e c.args.bytes.now ≡ still_array e c.loop-rest.count (part ∷ parts) =
    c.loop-rest.invariant.same
    ∙ ap (λ r. still_array e c.loop-rest.count (parts_left e (option_copied r))) c.in-Some.is
    ∙ ap (still_array e c.loop-rest.count) c.split_first.ensures.parts
    in
    elim c.then-count-eq-MAX_LENGTH.branch [
      | then-count-eq-MAX_LENGTH-via-then-count-eq-MAX_LENGTH w ↦ sym (so_far ∙ still_full e c.loop-rest.count part parts w.if-count-eq-MAX_LENGTH.true)
      | then-count-eq-MAX_LENGTH-via-else-count-eq-MAX_LENGTH+then-not-reads_number w ↦ sym (so_far ∙ still_not e c.loop-rest.count part parts (sym w.reads_number.ensures ∙ w.if-not-reads_number.true))
    ]

pub loop-rest-preserved : goal.loop-rest-preserved
loop-rest-preserved c =
    let e = c.args.encoding in
    let part = c.split_first.result.0.now in
    let parts = parts_left e (option_copied c.split_first.result.1) in
    record {
      within = omega arith;
      same =
          c.loop-rest.invariant.same
          ∙ ap (λ r. still_array e c.loop-rest.count (parts_left e (option_copied r))) c.in-Some.is
          ∙ ap (still_array e c.loop-rest.count) c.split_first.ensures.parts
          ∙ still_more e c.loop-rest.count part parts (sym c.reads_number.ensures ∙ c.if-not-reads_number.false);
    }

pub returns : goal.returns
returns c =
    let e = c.args.encoding in
    let so_far : spells_array e c.args.bytes.now ≡ true =
    c.loop-rest.invariant.same
    ∙ ap (λ r. still_array e c.loop-rest.count (parts_left e (option_copied r))) c.in_default.is
    ∙ still_last e c.loop-rest.count c.loop-rest.invariant.within
    in
    sym so_far
