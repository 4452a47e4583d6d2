use Rattle.std.proofs.Common.{map}
use Rattle.tablet_steps.specs.ModelSteps.{model_answer_of}
use Rattle.live_script.proofs.Texts.{other_said, unread_said}
use Rattle.live_script.proofs.text.append_line.Goals as goal

pub returns-in_ok-append-in-Other : goal.returns-in_ok-append-in-Other
returns-in_ok-append-in-Other c = other_said c.args.kind c.args.text.now c.append.new.self (map model_answer_of c.args.answers.now) c.in-Other.is c.in_ok-append-in-Other.ensures

pub returns-in_ok-append-in-Unread : goal.returns-in_ok-append-in-Unread
returns-in_ok-append-in-Unread c = unread_said c.args.kind c.args.text.now c.append-in-Unread.new.text (map model_answer_of c.args.answers.now) c.in-Unread.is c.in_ok-append-in-Unread.ensures
