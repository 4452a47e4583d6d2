use Rattle.std.proofs.Common.{rules}
use Rattle.std.proofs.lemmas.List.Sorted.{IsPartitionPoint-from_clause}
use Rattle.tablet_model.specs.Cuts.{is_before}
use Rattle.cell_key.specs.Ranges.{cut_of}
use Rattle.iter_contract.proofs.Partition.{before_first, filter_to}
use Rattle.iter_contract.proofs.search.count_before.Goals as goal

pub returns-clause-before : goal.returns-clause-before
returns-clause-before c =
    let cut = cut_of c.args.end.now in
    filter_to (λ e. is_before cut e.key) c.args.entries.now c.partition_point.result
    (IsPartitionPoint-from_clause (λ e. is_before cut e.key) _ _ c.partition_point.ensures.partitioned (before_first cut c.args.entries.now c.requires) (λ a r f k. search rules))
