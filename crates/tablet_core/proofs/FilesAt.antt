-- The file at a place, and what is behind and before it.
use Rattle.std.proofs.Common.{◌≡◌, ◌||◌, ◌&&◌, ℕ, zero, suc, ◌+◌, ◌<◌, false, ◌≢◌, List, [], ◌∷◌, ◌++◌, length, map, take, drop, eqb, slice_get, Some, None, option_map, refl, sym, ap, ◌∙◌, subst, arith, add-one}
use Rattle.std.specs.List.{AllByRecursion}
use Rattle.std.specs.Option.{option_or}
use Rattle.std.proofs.lemmas.List.{map-append}
use Rattle.tablet_model.specs.Stands.{AreRising}
use Rattle.tablet_model.specs.Steps.{first_taken, holder, ids_of, in_job, takes_all}
use Rattle.tablet_model.specs.Store.{File, RunningJob, has_id}
use Rattle.tablet_core.specs.Status.{count_of}

-- the file of a number is at a place
pub record FileAt (files : List File) (i id : ℕ) : Type 0 where
  pub file : File
  pub is_at : slice_get files i ≡ Some file
  pub number : file.id ≡ id
  pub front : drop i files ≡ file ∷ drop (i + 1) files
  pub back : take (i + 1) files ≡ take i files ++ file ∷ []

less_suc : (i n : ℕ) → suc i < suc n → i < n
less_suc i n h = omega arith

pub file_at : (files : List File) (i id : ℕ) → i < length files → option_map (λ f. f.id) (slice_get files i) ≡ Some id → FileAt files i id
file_at [] i id h e = absurd (omega arith)
file_at (f ∷ fs) zero id h e = record { file = f; is_at = refl; number = (let k : Some f.id ≡ Some id = e in cc); front = refl; back = refl }
file_at (f ∷ fs) (suc i) id h e =
    let a : FileAt fs i id = file_at fs i id (less_suc i (length fs) h) e in
    record {
      file = a.file;
      is_at = a.is_at;
      number = a.number;
      front = a.front ∙ ap (λ n. a.file ∷ drop n fs) (add-one i) ∙ ap (λ n. a.file ∷ drop n (f ∷ fs)) (sym (add-one (suc i)));
      back = ap (λ n. take n (f ∷ fs)) (add-one (suc i)) ∙ ap (λ l. f ∷ l) (ap (λ n. take n fs) (sym (add-one i)) ∙ a.back);
    }

pub has_id_at : (files : List File) (i id file : ℕ) → FileAt files i id → has_id (ids_of (drop i files)) file ≡ (eqb file id || has_id (ids_of (drop (i + 1) files)) file)
unfolding has_id ids_of
has_id_at files i id file a = ap (λ l. has_id (ids_of l) file) a.front ∙ ap (λ j. eqb file j || has_id (ids_of (drop (i + 1) files)) file) a.number

pub takes_at : (files : List File) (i id : ℕ) (ids : List ℕ) → FileAt files i id → takes_all ids (drop i files) ≡ (has_id ids id && takes_all ids (drop (i + 1) files))
unfolding takes_all
takes_at files i id ids a = ap (takes_all ids) a.front ∙ ap (λ j. has_id ids j && takes_all ids (drop (i + 1) files)) a.number

pub taken_at : (files : List File) (i id : ℕ) (jobs : List RunningJob) → FileAt files i id → first_taken jobs (ids_of (drop i files)) ≡ option_or (option_map (in_job id) (holder id jobs)) (first_taken jobs (ids_of (drop (i + 1) files)))
unfolding first_taken ids_of
taken_at files i id jobs a = ap (λ l. first_taken jobs (ids_of l)) a.front ∙ ap (λ j. option_or (option_map (in_job j) (holder j jobs)) (first_taken jobs (ids_of (drop (i + 1) files)))) a.number

ids_more : (xs : List File) (f : File) → ids_of (xs ++ f ∷ []) ≡ ids_of xs ++ f.id ∷ []
unfolding ids_of
ids_more [] f = refl
ids_more (x ∷ xs) f = ap (λ l. x.id ∷ l) (ids_more xs f)

pub ids_at : (files : List File) (i id : ℕ) → FileAt files i id → ids_of (take (i + 1) files) ≡ ids_of (take i files) ++ id ∷ []
ids_at files i id a = ap ids_of a.back ∙ ids_more (take i files) a.file ∙ ap (λ j. ids_of (take i files) ++ j ∷ []) a.number

-- what is of each file is of that one
pub all_at : (P : File → Type 0) (files : List File) (i : ℕ) (f : File) → AllByRecursion P files → slice_get files i ≡ Some f → P f
all_at P [] i f all h = absurd (let k : None ≡ Some f = h in cc)
all_at P (x ∷ xs) zero f all h = subst P (let k : Some x ≡ Some f = h in cc) all.0
all_at P (x ∷ xs) (suc i) f all h = all_at P xs i f all.1 h

-- numbers rise up to it
below_at : (files : List File) (i : ℕ) (f : File) → AreRising files → slice_get files i ≡ Some f → AllByRecursion (λ j. j < f.id) (ids_of (take i files))
unfolding ids_of
below_at [] zero f all h = tt
below_at [] (suc i) f all h = tt
below_at (x ∷ xs) zero f all h = tt
below_at (x ∷ xs) (suc i) f all h = (all_at (λ g. x.id < g.id) xs i f all.0 h, below_at xs i f all.1 h)

pub rising_at : (files : List File) (i id : ℕ) → AreRising files → FileAt files i id → AllByRecursion (λ j. j < id) (ids_of (take i files))
rising_at files i id up a = subst (λ n. AllByRecursion (λ j. j < n) (ids_of (take i files))) a.number (below_at files i a.file up a.is_at)

pub apart : (a b : ℕ) → a ≢ b → eqb a b ≡ false
apart a b h = grind arith

pub counts_at : (files : List File) (i id n : ℕ) (a : FileAt files i id) → option_map (λ f. length f.cells) (slice_get files i) ≡ Some n → map count_of (take i files) ++ record { id = id; count = n } ∷ [] ≡ map count_of (take (i + 1) files)
counts_at files i id n a h =
    let same : Some (length a.file.cells) ≡ Some n = ap (option_map (λ f. length f.cells)) (sym a.is_at) ∙ h in
    let count : n ≡ length a.file.cells = cc in
    (λ j. map count_of (take i files) ++ record { id = sym a.number j; count = count j } ∷ [])
    ∙ sym (map-append count_of (take i files) (a.file ∷ [])) ∙ ap (map count_of) (sym a.back)
