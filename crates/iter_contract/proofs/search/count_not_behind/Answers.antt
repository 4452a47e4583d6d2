use Rattle.std.proofs.Common.{not, rules}
use Rattle.std.proofs.lemmas.List.Sorted.{IsPartitionPoint-from_clause}
use Rattle.tablet_model.specs.Cuts.{is_behind}
use Rattle.cell_key.specs.Ranges.{cut_of}
use Rattle.iter_contract.proofs.Partition.{not_behind_first, filter_from}
use Rattle.iter_contract.proofs.search.count_not_behind.Goals as goal

pub returns-clause-behind : goal.returns-clause-behind
returns-clause-behind c =
    let cut = cut_of c.args.start.now in
    filter_from (λ e. is_behind cut e.key) c.args.entries.now c.partition_point.result
    (IsPartitionPoint-from_clause (λ e. not (is_behind cut e.key)) _ _ c.partition_point.ensures.partitioned (not_behind_first cut c.args.entries.now c.requires) (λ a r f k. search rules))
