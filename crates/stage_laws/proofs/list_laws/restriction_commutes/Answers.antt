use Rattle.tablet_model.specs.Families.{is_in}
use Rattle.stage_laws.proofs.Restrictions.{answer_commutes, live_commutes}
use Rattle.stage_laws.proofs.Whole.{families_columns}
use Rattle.stage_laws.proofs.list_laws.restriction_commutes.Goals as goal

pub returns-clause-restriction : goal.returns-clause-restriction
returns-clause-restriction c = answer_commutes

pub returns-clause-families : goal.returns-clause-families
returns-clause-families c = families_columns

pub returns-clause-chosen : goal.returns-clause-chosen
returns-clause-chosen c = λ families list. live_commutes (is_in families) (families_columns families) list
