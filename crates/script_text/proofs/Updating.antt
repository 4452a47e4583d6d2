-- What was read in front of what is still to be read.
use Rattle.std.proofs.Common.{List, ◌++◌, Option, Some, None}

abbrev pub with_all : {X : Type 0} → List X → Option (List X) → Option (List X)
with_all us None = None
with_all us (Some vs) = Some (us ++ vs)
