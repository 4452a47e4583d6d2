use Rattle.tablet_view.proofs.Scans.{snapshot_answers, snapshot_read}
use Rattle.tablet_view.proofs.view.View.source.Goals as goal

pub returns-clause-read : goal.returns-clause-read
returns-clause-read c = snapshot_read c.args.self.now c.args.families.now c.parts.ensures.stands

pub returns-in_err-parts-clause-read : goal.returns-in_err-parts-clause-read
returns-in_err-parts-clause-read c = snapshot_read c.args.self.now c.args.families.now c.parts.ensures.stands

pub returns-clause-answers : goal.returns-clause-answers
returns-clause-answers c = snapshot_answers c.args.self.now c.args.families.now c.parts.ensures.stands

pub returns-in_err-parts-clause-answers : goal.returns-in_err-parts-clause-answers
returns-in_err-parts-clause-answers c = snapshot_answers c.args.self.now c.args.families.now c.parts.ensures.stands
