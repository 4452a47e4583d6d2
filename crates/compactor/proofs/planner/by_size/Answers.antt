use Rattle.std.proofs.Common.{rules, ◌≡◌, ◌∙◌, List, subst, take, length, ap, arith}
use Rattle.std.proofs.Math.Seq.{take-length}
use Rattle.std.specs.List.Sorted.{IsPermutation}
use Rattle.std.specs.Ordering.{is_lt}
use Rattle.std.proofs.lemmas.List.Sorted.{answers_always, ranks_by}
use Rattle.compactor.specs.declared.file_sets.FileCount.{FileCount}
use Rattle.compactor.specs.Plans.{size_cmp}
use Rattle.compactor.proofs.Plans.{size_total, sized, written_over}
use Rattle.compactor.proofs.planner.by_size.Goals as goal

pub returns : goal.returns
returns c =
    let all : c.loop-file.file-index ≡ length c.args.files.now = omega (arith, c.loop-file.auto.file-index-end, c.loop-file-test.false) in
    let whole : c.as_mut_slice.result.now ≡ c.args.files.now =
    c.as_mut_slice.ensures.value ∙ c.loop-file.invariant ∙ ap (λ n. take n c.args.files.now) all ∙ take-length c.args.files.now in
    let few : length c.sort_unstable_by.new.self ≡ length c.loop-file.order.items = c.sort_unstable_by.ensures.len ∙ ap length c.as_mut_slice.ensures.value in
    written_over c.loop-file.order.items c.sort_unstable_by.new.self few
    ∙ sized c.args.files.now c.sort_unstable_by.new.self
    (subst (λ (l : List FileCount). IsPermutation l c.sort_unstable_by.new.self) whole c.sort_unstable_by.ensures.permutation)
    (c.sort_unstable_by.ensures.sorted (λ a b. is_lt (size_cmp a b)) (ranks_by size_total (λ f. f)) (answers_always _ _ _ (λ f a r g h. search rules)))
