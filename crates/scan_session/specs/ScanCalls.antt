-- What calls to a session give in a row. All of this is this project's own.
use Rattle.std.specs.Prelude.{Bool, List, [], ◌∷◌, ◌++◌, Option, ⊤}
use Rattle.std.specs.Arc.{arc_value}
use Rattle.tablet_view.specs.Snapshot.{Snapshot}
use Rattle.scan_session.specs.Looks.{Leads}
use Rattle.scan_session.specs.Sessions.{SessionState, IsEndOf}
use Rattle.scan_session.specs.declared.piece.Fetched.{Fetched}
use Rattle.scan_session.specs.declared.piece.Piece.{Piece}
use Rattle.scan_session.specs.declared.scanner.ScanCall.{ScanCall}
use Rattle.scan_session.specs.declared.scanner.ScanCall.TheVariants.{Fetch, Renew, RenewTo, DropStack}

-- the pieces of some fetches, one behind the other
abbrev pub all_pieces : List Fetched → List Piece
all_pieces [] = []
all_pieces (f ∷ fs) = f.pieces ++ all_pieces fs

-- what the last of some fetches told of an end is so
abbrev pub EndsAs : SessionState → List Fetched → Type 0
EndsAs s [] = ⊤
EndsAs s (f ∷ []) = IsEndOf s f.ended
EndsAs s (f ∷ g ∷ fs) = EndsAs s (g ∷ fs)

-- where views are looked at, the newest one extends the view that a call gives, if it gives one
abbrev pub IsLed : Bool → Option Snapshot → ScanCall → Type 0
IsLed looks newest (Fetch count) = ⊤
IsLed looks newest Renew = ⊤
IsLed looks newest (RenewTo view) = Leads looks newest (arc_value view)
IsLed looks newest DropStack = ⊤
