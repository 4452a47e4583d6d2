-- Refusals of the code as those of the model. All of this is this project's own.
use Rattle.tablet_model.specs.Ingest as model
use Rattle.tablet_model.specs.Ingest.{Refusal, bound, duplicate, delete_here, time_here, bad_value, full_log}
use Rattle.cell_key.specs.declared.key.Part.{Part}
use Rattle.cell_key.specs.declared.key.Part.TheVariants.{Row, Family, Qualifier, Visibility, Value, Updates}
use Rattle.ingest.specs.declared.refused.Refused.{Refused}
use Rattle.ingest.specs.declared.refused.Refused.TheVariants as refused

-- the part of a mutation that has a limit
abbrev pub part_of : Part → model.Part
part_of Row = model.row_part
part_of Updates = model.updates_part
part_of Family = model.family_part
part_of Qualifier = model.qualifier_part
part_of Visibility = model.visibility_part
part_of Value = model.value_part

-- the refusal
abbrev pub refusal_of : Refused → Refusal
refusal_of (refused.Bound at part) = bound at (part_of part)
refusal_of (refused.Duplicate at) = duplicate at
refusal_of (refused.DeleteHere at) = delete_here at
refusal_of (refused.Time at) = time_here at
refusal_of (refused.Value at) = bad_value at
refusal_of refused.Full = full_log
