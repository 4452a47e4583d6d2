use Rattle.std.proofs.Common.{◌≡◌, ◌^◌, length, ap, arith}
use Rattle.std.proofs.lemmas.List.{length-map}
use Rattle.std.specs.Arc.{arc_value}
use Rattle.memory_map.specs.MapRuns.{lists_of}
use Rattle.memory_map.proofs.Joins.{below_64, few_lists}
use Rattle.memory_map.proofs.mem_map.MemMap.runs.Goals as goal

pub overflow_cast-result : goal.overflow_cast-result
overflow_cast-result c =
    let few = below_64 (lists_of c.self.inside.runs.items) c.self.invariant.0 in
    let same = length-map c.self.inside.runs.items (λ r. arc_value r) in
    let long = c.self.inside.runs.ok in
    omega (arith, few, same, long)

pub returns : goal.returns
returns c =
    let few = few_lists (lists_of c.self.inside.runs.items) c.self.invariant.0 in
    let count : length (lists_of c.self.inside.runs.items) ≡ c.len.result = omega (arith, length-map c.self.inside.runs.items (λ r. arc_value r), c.self.inside.runs.ok, c.len.ensures) in
    let view = ap length c.self.view_is in
    let power = ap (λ n. 2 ^ n) count in
    omega (arith, few, power, view)
