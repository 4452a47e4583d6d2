-- The order of priorities, and what configurations keep.
use Rattle.std.specs.Prelude.{◌≡◌, ◌≤◌, Bool, true, false, nat_lt, List, length, All}
use Rattle.std.specs.List.{IsDistinct}
use Rattle.std.specs.List.Sorted.{IsNonDecreasingBy}
use Rattle.tablet_model.specs.Sorted.{sorted}
use Rattle.iter_config.specs.Limits.{AreFields, AreTimed}
use Rattle.iter_config.specs.Rules.{combines_behind, is_full_under_versions, leaves_gap, leaves_scans, out_of_order, same_name, same_priority, shares_column}
use Rattle.iter_config.specs.Settings.{Settings}
use Rattle.iter_config.specs.declared.iter_spec.IterSpec.{IterSpec}

-- an iterator runs behind another (Accumulo: the one with the higher priority number)
abbrev pub runs_behind : IterSpec → IterSpec → Bool
runs_behind s t = nat_lt t.priority s.priority

-- the iterators in the order in which they run, the lowest priority number first
abbrev pub in_priority_order : List IterSpec → List IterSpec
in_priority_order specs = sorted runs_behind specs

-- no iterator breaks a rule with one that stands before it
abbrev pub NoneClashes : (IterSpec → IterSpec → Bool) → List IterSpec → Type 0
NoneClashes clash specs = IsDistinct clash specs

-- what the iterators of each configuration keep (this project's rules): at most 16 iterators; the fields' limits; no name and no priority twice; the order of
-- priorities; all run in scans; those of minor and of major compactions come first; whole rows and intersections run in scans alone, and no combiner
-- behind them; the order of those of compactions; no column is combined twice; no versions in major compactions behind a combiner of columns with
-- deletes
pub record AreIterators (specs : List IterSpec) : Type 0 where
  pub few : length specs ≤ 16
  pub limits : All AreFields specs
  pub names : NoneClashes same_name specs
  pub priorities : NoneClashes same_priority specs
  pub order : IsNonDecreasingBy (λ s. s.priority) specs
  pub scans : All (λ s. s.scopes.scan ≡ true) specs
  pub prefixes : NoneClashes leaves_gap specs
  pub in_scans : All (λ s. leaves_scans s ≡ false) specs
  pub uncombined : NoneClashes combines_behind specs
  pub base_order : NoneClashes out_of_order specs
  pub apart : NoneClashes shares_column specs
  pub not_newest : NoneClashes is_full_under_versions specs

-- what each configuration keeps (this project's rules)
pub record IsConfig (c : Settings) : Type 0 where
  pub iterators : AreIterators c.iterators
  pub timed : AreTimed c.timed
