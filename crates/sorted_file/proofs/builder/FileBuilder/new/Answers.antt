use Rattle.std.proofs.Common.{◌≡◌, ℕ, List, [], ◌∷◌, ◌++◌, refl, sym, ap, ◌∙◌}
use Rattle.sorted_file.specs.Image.{magic, version_bytes}
use Rattle.sorted_file.specs.declared.version.Version.TheVariants.{Two}
use Rattle.sorted_file.specs.BuilderParts.{built_list, IsBuilt}
use Rattle.sorted_file.specs.declared.builder.FileBuilder.TheInside.{Inside}
use Rattle.sorted_file.proofs.Building.{no_entries, no_blocks, is_built}
use Rattle.sorted_file.proofs.builder.FileBuilder.new.Goals as goal
use Rattle.sorted_file.proofs.builder.FileBuilder.new.Goals.{After-none}

made : After-none → Inside
made c = record { entry = c.new.result; bytes = c.append-2.new.self; blocks = c.new-2.result; count = 0; last = c.none.result }

is_made : (c : After-none) → IsBuilt (made c) × (built_list (made c) ≡ [])
unfolding made
is_made c =
    let head : c.append-2.new.self ≡ magic ++ version_bytes Two = c.in_ok-append-2.ensures ∙ ap (λ (n : ℕ). c.append.new.self ++ n ∷ []) c.number.ensures ∙ ap (λ (b : List ℕ). b ++ version_bytes Two) (c.in_ok-append.ensures ∙ ap (λ (b : List ℕ). b ++ magic) c.new-bytes.ensures) in
    is_built (made c) [] head no_entries (c.new-2.ensures.items ∙ sym no_blocks) refl (λ e h. absurd cc)

pub invariant_of-result : goal.invariant_of-result
unfolding made
invariant_of-result c = (is_made c).0

pub returns : goal.returns
unfolding made
returns c = (is_made c).1
