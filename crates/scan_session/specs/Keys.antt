-- How the keys of a list of entries stand. All of this is this project's own.
use Rattle.std.specs.Prelude.{◌≡◌, List}
use Rattle.std.specs.List.{AllByRecursion, IsDistinct}
use Rattle.std.specs.List.Sorted.{IsStrictlySortedBy}
use Rattle.std.specs.Ordering.{is_gt}
use Rattle.std.specs.declared.cmp.Ordering.TheVariants.{Less}
use Rattle.tablet_model.specs.Cell.{Cell}
use Rattle.tablet_model.specs.Order.{key_cmp, bytes_cmp}
use Rattle.tablet_model.specs.Sorted.{Ascends}
use Rattle.scan_session.specs.Takes.{plain, together}

-- no key is less than one before it
abbrev pub KeysNeverFall : List Cell → Type 0
KeysNeverFall list = Ascends (λ a b. is_gt (key_cmp a.key b.key)) list

-- each key is greater than those before it
abbrev pub KeysRise : List Cell → Type 0
KeysRise list = IsStrictlySortedBy (λ a b. key_cmp a.key b.key) list

-- no two keys are equal
abbrev pub KeysDiffer : List Cell → Type 0
KeysDiffer list = IsDistinct (together plain) list

-- the keys of a list are less than those of another
abbrev pub KeysAreBelow : List Cell → List Cell → Type 0
KeysAreBelow list others = AllByRecursion (λ a. AllByRecursion (λ b. key_cmp a.key b.key ≡ Less) others) list

-- so are the rows
abbrev pub RowsAreBelow : List Cell → List Cell → Type 0
RowsAreBelow list others = AllByRecursion (λ a. AllByRecursion (λ b. bytes_cmp a.key.row b.key.row ≡ Less) others) list
