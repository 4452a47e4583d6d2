use Rattle.std.proofs.Common.{◌≡◌, ◌++◌, take}
use Rattle.sorted_file.specs.Image.{index_bytes}
use Rattle.sorted_file.proofs.builder.append_index.Given as goal

abbrev pub invariant-loop-place : goal.invariant-loop-place
invariant-loop-place l = l.image ≡ l.fn.image ++ index_bytes (take l.place-index l.blocks)
