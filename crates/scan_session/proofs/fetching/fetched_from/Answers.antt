use Rattle.std.proofs.Common.{◌≡◌, ◌++◌, List, IfOk, subst}
use Rattle.tablet_model.specs.Cell.{Cell}
use Rattle.tablet_model.specs.Places.{Place}
use Rattle.scan_session.specs.Runs.{place_behind}
use Rattle.scan_session.specs.Takes.{mode_of, place_after, take_together}
use Rattle.scan_session.specs.Walks.{fetch_pieces, end_of}
use Rattle.scan_session.proofs.fetching.fetched_from.Goals as goal

pub returns-clause-pieces : goal.returns-clause-pieces
returns-clause-pieces g c =
    subst (λ (l : List Cell). IfOk c.fetched_rest.result (λ given. given.0.pieces ≡ fetch_pieces (mode_of c.args.isolated) c.args.count c.args.n l)) c.in_ok-seek.ensures.rest c.fetched_rest.ensures.pieces

pub returns-clause-place : goal.returns-clause-place
returns-clause-place g c =
    subst (λ (l : List Cell). IfOk c.fetched_rest.result (λ given. (old : Place) → place_behind given.1 old ≡ place_after (mode_of c.args.isolated) old (take_together (mode_of c.args.isolated) c.args.count l))) c.in_ok-seek.ensures.rest c.fetched_rest.ensures.place

pub returns-clause-ended : goal.returns-clause-ended
returns-clause-ended g c =
    subst (λ (l : List Cell). IfOk c.fetched_rest.result (λ given. (left : List Cell) → l ≡ take_together (mode_of c.args.isolated) c.args.count l ++ left → given.0.ended ≡ end_of c.args.n left)) c.in_ok-seek.ensures.rest c.fetched_rest.ensures.ended
