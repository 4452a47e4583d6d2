use Rattle.std.proofs.Common.{◌∙◌, ap, option_map}
use Rattle.cell_key.specs.Views.{cell_of}
use Rattle.iter_contract.proofs.FirstTops.{no_source}
use Rattle.merge_iter.proofs.HeapTops.{top_of_heap}
use Rattle.merge_iter.proofs.several.first_top.Goals as goal

pub returns-in_err-first : goal.returns-in_err-first
returns-in_err-first g c =
    ap (option_map cell_of) c.from_residual.ensures ∙ no_source g.S.SortedSource.rest c.args.sources.now c.in_err-first.ensures.value

pub returns : goal.returns
returns g c = c.top.ensures ∙ top_of_heap g.S.SortedSource.rest c.args.sources.now c.in_ok-first.field-0.now c.requires.heap c.in_ok-first.ensures.value
