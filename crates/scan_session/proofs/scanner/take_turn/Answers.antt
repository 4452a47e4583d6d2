use Rattle.scan_session.proofs.Turns.{nothing_given, stays}
use Rattle.scan_session.proofs.scanner.take_turn.Goals as goal

pub returns-in-DropStack-clause-walked : goal.returns-in-DropStack-clause-walked
returns-in-DropStack-clause-walked g c =
    nothing_given c.drop_stack.new.self c.args.session.now c.nothing-in-DropStack.result.pieces c.nothing-in-DropStack.ensures.pieces
    (stays c.drop_stack.new.self c.args.session.now c.drop_stack.ensures)
