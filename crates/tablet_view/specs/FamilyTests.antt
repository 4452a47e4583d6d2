-- Which entries are in a test's families. This project's own.
use Rattle.std.specs.Prelude.{Bool}
use Rattle.tablet_model.specs.Cell.{Cell}
use Rattle.tablet_model.specs.Families.{is_in}
use Rattle.tablet_view.specs.declared.family_test.FamilyTest.{FamilyTest}

abbrev pub family_passes : FamilyTest → Cell → Bool
family_passes test = is_in test.families
