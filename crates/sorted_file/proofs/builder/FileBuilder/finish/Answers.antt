use Rattle.std.proofs.Common.{ℕ, ◌++◌, List, refl, ap, ◌∙◌}
use Rattle.tablet_model.specs.Cell.{Cell}
use Rattle.sorted_file.specs.Contents.{FileContents}
use Rattle.sorted_file.specs.Image.{index_bytes}
use Rattle.sorted_file.specs.declared.version.Version.TheVariants.{Two}
use Rattle.sorted_file.proofs.Building.{finished}
use Rattle.sorted_file.proofs.builder.FileBuilder.finish.Goals as goal

pub invariant_of-result : goal.invariant_of-result
invariant_of-result c =
    (finished c.self.inside c.self.invariant c.append.new.self c.append_index.new.image c.append-2.new.self (record { version = Two; bytes = c.append-3.new.self; blocks = c.self.inside.blocks; count = c.self.inside.count })
    (c.in_ok-append.ensures ∙ ap (λ (b : List ℕ). c.self.inside.bytes ++ b) c.end_mark.ensures) (c.in_ok-append_index.ensures ∙ ap (λ (p : List ℕ). c.append.new.self ++ index_bytes p) c.as_slice.ensures.value)
    (c.in_ok-append-2.ensures ∙ ap (λ (b : List ℕ). c.append_index.new.image ++ b) c.u64_bytes.ensures) c.in_ok-append-3.ensures refl refl refl).0

pub returns : goal.returns
returns c =
    (finished c.self.inside c.self.invariant c.append.new.self c.append_index.new.image c.append-2.new.self (record { version = Two; bytes = c.append-3.new.self; blocks = c.self.inside.blocks; count = c.self.inside.count })
    (c.in_ok-append.ensures ∙ ap (λ (b : List ℕ). c.self.inside.bytes ++ b) c.end_mark.ensures) (c.in_ok-append_index.ensures ∙ ap (λ (p : List ℕ). c.append.new.self ++ index_bytes p) c.as_slice.ensures.value)
    (c.in_ok-append-2.ensures ∙ ap (λ (b : List ℕ). c.append_index.new.image ++ b) c.u64_bytes.ensures) c.in_ok-append-3.ensures refl refl refl).1
    ∙ ap {B = FileContents} (λ (list : List Cell). record { version = Two; cells = list }) c.self.view_is
