-- The entries of the tests are as a combiner needs them.
use Rattle.std.proofs.Common.{◌≡◌, true, false, List, [], refl, sym, subst}
use Rattle.tablet_model.specs.Cell.{Cell}
use Rattle.tablet_model.specs.Reductions.{Reduction}
use Rattle.tablet_model.specs.Order.{above, cell_cmp, key_cmp, time_cmp, column_cmp, same_column}
use Rattle.tablet_model.specs.Sorted.{put, sorted}
use Rattle.tablet_model.specs.Markers.{marker_beside}
use Rattle.tablet_model.specs.Reading.{AreInFront}
use Rattle.number_values.specs.declared.op.Op.{Op}
use Rattle.number_values.specs.declared.op.Encoding.TheVariants as encoding
use Rattle.number_values.specs.declared.op.Op.TheVariants as op
use Rattle.number_values.specs.Numbers.{number_reduction}
use Rattle.number_values.specs.Arrays.{array_reduction, spells_array}
use Rattle.cell_key.specs.declared.column_name.ColumnName.{ColumnName}
use Rattle.combiners.specs.Gathers.{AreRead}
use Rattle.cell_key.specs.Listed.{column_listed}
use Rattle.iterator_tests.specs.Examples.{example_names, example_cells, example_arrays, example_flags, AreNumbers, AreArrays}

pub example_sorted : sorted above example_cells ≡ example_cells
unfolding sorted put above cell_cmp key_cmp time_cmp column_cmp
example_sorted = refl

pub example_sums : AreNumbers op.Sum example_names example_cells
unfolding AreNumbers
example_sums = ((λ h. refl), ((λ h. refl), ((λ h. refl), ((λ h. refl), ((λ h. let no : true ≡ false = h in cc), ((λ h. refl), ((λ h. refl), ((λ h. refl), ((λ h. refl), tt)))))))))

pub example_least : AreNumbers op.Min example_names example_cells
unfolding AreNumbers
example_least = ((λ h. refl), ((λ h. refl), ((λ h. refl), ((λ h. refl), ((λ h. let no : true ≡ false = h in cc), ((λ h. refl), ((λ h. refl), ((λ h. refl), ((λ h. refl), tt)))))))))

pub example_front : AreInFront (column_listed example_names) [] example_cells
unfolding AreInFront marker_beside same_column column_cmp
example_front = ((λ d l. refl), ((λ d l. refl), ((λ d l. refl), ((λ d l. refl), ((λ d l. refl), ((λ d l. refl), ((λ d l. refl), ((λ d l. refl), ((λ d l. refl), tt)))))))))

-- what is read stays read by equal names, by an equal reduction and in equal entries
pub numbers_read : (o : Op) (names own : List ColumnName) (r : Reduction) (all cells : List Cell) → names ≡ own → r ≡ number_reduction o encoding.String → all ≡ cells → AreNumbers o own cells → AreRead names r all
unfolding AreNumbers
numbers_read o names own r all cells n e a h = subst (λ f. AreRead f r all) (sym n) (subst (λ r. AreRead own r all) (sym e) (subst (λ l. AreRead own (number_reduction o encoding.String) l) (sym a) h))

pub arrays_sorted : sorted above example_arrays ≡ example_arrays
unfolding sorted put above cell_cmp key_cmp time_cmp column_cmp
arrays_sorted = refl

pub arrays_sums : AreArrays example_names example_arrays
unfolding AreArrays spells_array
arrays_sums = ((λ h. refl), ((λ h. refl), ((λ h. refl), tt)))

pub arrays_front : AreInFront (column_listed example_names) [] example_arrays
unfolding AreInFront marker_beside same_column column_cmp
arrays_front = ((λ d l. refl), ((λ d l. refl), ((λ d l. refl), tt)))

-- the same for arrays
pub arrays_read : (names own : List ColumnName) (r : Reduction) (all cells : List Cell) → names ≡ own → r ≡ array_reduction encoding.String → all ≡ cells → AreArrays own cells → AreRead names r all
unfolding AreArrays
arrays_read names own r all cells n e a h = subst (λ f. AreRead f r all) (sym n) (subst (λ r. AreRead own r all) (sym e) (subst (λ l. AreRead own (array_reduction encoding.String) l) (sym a) h))

-- no marker stays in front by equal names and in equal entries
pub front_read : (names : List ColumnName) (all cells : List Cell) → names ≡ example_names → all ≡ cells → AreInFront (column_listed example_names) [] cells → AreInFront (column_listed names) [] all
front_read names all cells n a h = subst (λ f. AreInFront (column_listed f) [] all) (sym n) (subst (λ l. AreInFront (column_listed example_names) [] l) (sym a) h)

-- entries of flags
pub flags_sorted : sorted above example_flags ≡ example_flags
unfolding sorted put above cell_cmp key_cmp time_cmp column_cmp
flags_sorted = refl

pub flags_front : AreInFront (column_listed example_names) [] example_flags
unfolding AreInFront marker_beside same_column column_cmp
flags_front = ((λ d l. refl), ((λ d l. refl), ((λ d l. refl), ((λ d l. refl), tt))))
