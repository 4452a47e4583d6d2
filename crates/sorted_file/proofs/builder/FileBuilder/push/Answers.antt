use Rattle.std.proofs.Common.{Bool, ℕ, ◌+◌, ◌++◌, List, None, Option, length, refl, sym, ap, subst, ◌∙◌, length-append, arith}
use Rattle.std.specs.Bool.{then_some}
use Rattle.std.specs.List.{last_or}
use Rattle.tablet_model.specs.Cell.{Cell}
use Rattle.cell_key.specs.Views.{cell_of}
use Rattle.sorted_file.specs.Image.{magic, version_bytes, neighbour, shared_parts, entries_bytes}
use Rattle.sorted_file.specs.Outlines.{IsOutlined, AreOutlined, outline_of}
use Rattle.sorted_file.specs.BuilderParts.{built_list}
use Rattle.sorted_file.specs.declared.version.Version.TheVariants.{Two}
use Rattle.sorted_file.proofs.Building.{block_is}
use Rattle.sorted_file.proofs.Images.{length_list}
use Rattle.sorted_file.proofs.Pushing.{built_near, pushed_end, pushed, kept}
use Rattle.sorted_file.proofs.builder.FileBuilder.push.Goals as goal

pub overflow_add-self : goal.overflow_add-self
overflow_add-self c = omega (arith, length_list Two 0 None (built_list c.self.inside), c.self.invariant.count, ap length c.self.invariant.image, length-append (magic ++ version_bytes Two) (entries_bytes Two (built_list c.self.inside)))

pub slices_of-requires : goal.slices_of-requires
slices_of-requires c =
    let near_is = c.then_some-near.ensures ∙ ap (λ (b : Bool). then_some b c.self.inside.last) c.shares.ensures in (
      neighbour Two c.self.inside.count (last_or None c.args.self.now),
      subst (AreOutlined c.bytes.result.now (neighbour Two c.self.inside.count (last_or None c.args.self.now))) (sym near_is)
          (built_near c.self.inside c.args.self.now c.bytes.result.now c.self.invariant c.self.view_is (λ x o. subst (λ (b : List ℕ). IsOutlined b x c.self.inside.last) (sym c.bytes.ensures) o)),
    )

pub behind-self-inside-requires : goal.behind-self-inside-requires
behind-self-inside-requires c =
    pushed_end c.shared_parts-same.result c.len-place.result c.self.inside.bytes c.append_entry.new.image (cell_of c.args.entry) c.len-place.ensures
    (c.in_ok-append_entry.ensures.image ∙ ap (λ (b : List ℕ). c.self.inside.bytes ++ b) (c.deref.ensures.value ∙ c.in_ok-write_entry.ensures)) ∙ sym c.len.ensures

pub invariant_of-self-in_err-append_entry : goal.invariant_of-self-in_err-append_entry
invariant_of-self-in_err-append_entry c =
    (kept c.self.inside (record { entry = c.write_entry.new.bytes; bytes = c.append_entry.new.image; blocks = c.append_entry.new.blocks; count = c.self.inside.count; last = c.self.inside.last }) c.self.invariant c.in_err-append_entry.ensures.image c.in_err-append_entry.ensures.blocks refl refl).0

pub invariant_of-self-2 : goal.invariant_of-self-2
invariant_of-self-2 c =
    let near = neighbour Two c.self.inside.count (last_or None c.args.self.now) in
    let near_is = c.then_some-near.ensures ∙ ap (λ (b : Bool). then_some b c.self.inside.last) c.shares.ensures in
    let near_seen = c.slices_of.ensures near (subst (AreOutlined c.bytes.result.now near) (sym near_is) (built_near c.self.inside c.args.self.now c.bytes.result.now c.self.invariant c.self.view_is (λ x o. subst (λ (b : List ℕ). IsOutlined b x c.self.inside.last) (sym c.bytes.ensures) o))) in
    (pushed c.self.inside (record { entry = c.write_entry.new.bytes; bytes = c.append_entry.new.image; blocks = c.append_entry.new.blocks; count = c.self.inside.count + 1; last = c.behind-self-inside.result }) c.args.self.now (cell_of c.args.entry) c.shared_parts-same.result c.self.invariant c.self.view_is ((c.args.entry.key.bounds, c.args.entry.key.in_time), c.requires.value) c.requires.order
    (c.shared_parts-same.ensures ∙ ap (λ (o : Option Cell). shared_parts o (cell_of c.args.entry)) near_seen)
    (c.in_ok-append_entry.ensures.image ∙ ap (λ (b : List ℕ). c.self.inside.bytes ++ b) (c.deref.ensures.value ∙ c.in_ok-write_entry.ensures))
    (c.in_ok-append_entry.ensures.blocks ∙ ap (λ (b : List ℕ). c.self.inside.blocks.items ++ b) (block_is c.self.inside.count (length c.self.inside.bytes) c.len-place.result c.then_some-block.result c.then_some-block.ensures c.len-place.ensures))
    refl (c.behind-self-inside.ensures ∙ ap (λ (n : ℕ). outline_of c.self.inside.last c.shared_parts-same.result (n + 1) (cell_of c.args.entry)) c.len-place.ensures)).0

pub returns : goal.returns
returns c =
    let near = neighbour Two c.self.inside.count (last_or None c.args.self.now) in
    let near_is = c.then_some-near.ensures ∙ ap (λ (b : Bool). then_some b c.self.inside.last) c.shares.ensures in
    let near_seen = c.slices_of.ensures near (subst (AreOutlined c.bytes.result.now near) (sym near_is) (built_near c.self.inside c.args.self.now c.bytes.result.now c.self.invariant c.self.view_is (λ x o. subst (λ (b : List ℕ). IsOutlined b x c.self.inside.last) (sym c.bytes.ensures) o))) in
    (pushed c.self.inside (record { entry = c.write_entry.new.bytes; bytes = c.append_entry.new.image; blocks = c.append_entry.new.blocks; count = c.self.inside.count + 1; last = c.behind-self-inside.result }) c.args.self.now (cell_of c.args.entry) c.shared_parts-same.result c.self.invariant c.self.view_is ((c.args.entry.key.bounds, c.args.entry.key.in_time), c.requires.value) c.requires.order
    (c.shared_parts-same.ensures ∙ ap (λ (o : Option Cell). shared_parts o (cell_of c.args.entry)) near_seen)
    (c.in_ok-append_entry.ensures.image ∙ ap (λ (b : List ℕ). c.self.inside.bytes ++ b) (c.deref.ensures.value ∙ c.in_ok-write_entry.ensures))
    (c.in_ok-append_entry.ensures.blocks ∙ ap (λ (b : List ℕ). c.self.inside.blocks.items ++ b) (block_is c.self.inside.count (length c.self.inside.bytes) c.len-place.result c.then_some-block.result c.then_some-block.ensures c.len-place.ensures))
    refl (c.behind-self-inside.ensures ∙ ap (λ (n : ℕ). outline_of c.self.inside.last c.shared_parts-same.result (n + 1) (cell_of c.args.entry)) c.len-place.ensures)).1
