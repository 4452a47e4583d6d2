use Rattle.std.proofs.Common.{◌≡◌, IfOk, ap, sym, subst, ◌∙◌}
use Rattle.std.specs.List.{AllByRecursion}
use Rattle.tablet_model.specs.Families.{in_families}
use Rattle.compactor.specs.FileValues.{HasShortValue}
use Rattle.iter_stack.specs.Usages.{usage_cells}
use Rattle.iter_stack.specs.declared.usage.Usage.TheVariants.{Pack}
use Rattle.sorted_file.specs.declared.version.Version.TheVariants.{Two}
use Rattle.tablet_view.specs.Snapshot.{entries_in}
use Rattle.tablet_view.specs.Sources.{source_cells}
use Rattle.tablet_replay.proofs.Packs.{packed_is, packed_short}
use Rattle.tablet_replay.proofs.packing.packed.Goals as goal

pub compact-requires-clause-short : goal.compact-requires-clause-short
compact-requires-clause-short c =
    let config : c.deref.result.now ≡ c.args.view.now.config = c.deref.ensures ∙ c.config.ensures.config in
    let same = c.in_ok-source.ensures.source.same_cells ∙ ap (λ families. in_families families (entries_in c.args.view.now)) c.all.ensures in
    subst (λ specs. AllByRecursion HasShortValue (usage_cells specs Pack (source_cells c.in_ok-source.source))) (sym config)
    (packed_short c.args.view.now (source_cells c.in_ok-source.source) c.requires.stands same)

pub returns : goal.returns
returns c =
    let config : c.deref.result.now ≡ c.args.view.now.config = c.deref.ensures ∙ c.config.ensures.config in
    let same = c.in_ok-source.ensures.source.same_cells ∙ ap (λ families. in_families families (entries_in c.args.view.now)) c.all.ensures in
    subst (λ list. IfOk c.compact.result (λ file. file ≡ record { version = Two; cells = list }))
    (ap (λ specs. usage_cells specs Pack (source_cells c.in_ok-source.source)) config ∙ packed_is c.args.view.now (source_cells c.in_ok-source.source) c.requires.memory same)
    c.compact.ensures
