use Rattle.std.proofs.Common.{◌≡◌, ◌<◌, ◌*◌, None, refl, length, take, ap, length-take-le, ◌∙◌, arith}
use Rattle.std.proofs.lemmas.List.{get_or_default}
use Rattle.std.specs.List.{last_or}
use Rattle.sorted_file.specs.Contents.{FileContents}
use Rattle.sorted_file.specs.Image.{block_places, image_of}
use Rattle.sorted_file.proofs.Blocks.{block_is_at}
use Rattle.sorted_file.proofs.Images.{length_list}
use Rattle.sorted_file.proofs.Layouts.{no_near}
use Rattle.sorted_file.proofs.file.SortedFile.block.Goals as goal

pub overflow_mul-number : goal.overflow_mul-number
overflow_mul-number c =
    let file = c.args.self.now in
    let i = c.args.number * 64 in
    let first = take i file.cells in
    let blocks = c.self.inside.blocks.items in
    let same : blocks ≡ block_places file.version file.cells = c.self.invariant.blocks ∙ ap (λ (f : FileContents). block_places f.version f.cells) c.self.view_is in
    let within : c.args.number < length blocks = omega (arith, ap length same, c.requires) in
    let block = block_is_at file.version file.cells c.args.number i blocks same (omega arith) c.requires in
    let place = c.index.ensures ∙ get_or_default blocks c.args.number c.index.result.now 0 within ∙ block.1 in
    omega (arith, place, length_list file.version 0 None first, length-take-le i file.cells (omega (arith, block.0)))

pub spot_at-requires-clause-within : goal.spot_at-requires-clause-within
spot_at-requires-clause-within c = (block_is_at c.args.self.now.version c.args.self.now.cells c.args.number (c.args.number * 64) (block_places c.args.self.now.version c.args.self.now.cells) refl (omega arith) c.requires).0

pub returns-clause-within : goal.returns-clause-within
returns-clause-within c =
    omega (arith, c.spot_at.ensures.index, (block_is_at c.args.self.now.version c.args.self.now.cells c.args.number (c.args.number * 64) (block_places c.args.self.now.version c.args.self.now.cells) refl (omega arith) c.requires).0)

pub spot_at-requires-clause-place : goal.spot_at-requires-clause-place
spot_at-requires-clause-place c =
    let file = c.args.self.now in
    let blocks = c.self.inside.blocks.items in
    let same : blocks ≡ block_places file.version file.cells = c.self.invariant.blocks ∙ ap (λ (f : FileContents). block_places f.version f.cells) c.self.view_is in
    let within : c.args.number < length blocks = omega (arith, ap length same, c.requires) in
    c.index.ensures ∙ get_or_default blocks c.args.number c.index.result.now 0 within
    ∙ (block_is_at file.version file.cells c.args.number (c.args.number * 64) blocks same (omega arith) c.requires).1

pub spot_at-requires-clause-near : goal.spot_at-requires-clause-near
spot_at-requires-clause-near c = no_near (image_of c.args.self.now.version c.args.self.now.cells) c.args.self.now.version c.args.number (last_or None (take (c.args.number * 64) c.args.self.now.cells))
