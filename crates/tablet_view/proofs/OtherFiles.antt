-- Stored files, and those of other numbers, one by one.
use Rattle.std.proofs.Common.{◌≡◌, ℕ, ◌+◌, ◌<◌, true, false, not, cond, List, [], ◌∷◌, ◌++◌, map, length, take, get_or, refl, sym, ap, ◌∙◌, append-nil}
use Rattle.std.proofs.lemmas.List.{map-append, take_more}
use Rattle.std.proofs.lemmas.List.Elements.{filter-append}
use Rattle.std.specs.Arc.{arc_value}
use Rattle.tablet_model.specs.Store.{File, has_id, files_without}
use Rattle.tablet_view.specs.FileParts.{file_of}
use Rattle.tablet_view.specs.declared.files.StoredFile.{StoredFile}

-- a file of the model has the entries of the stored one
pub file_cells : (files : List StoredFile) → map (λ (f : StoredFile). (arc_value f.file).cells) files ≡ map (λ f. f.cells) (map file_of files)
file_cells [] = refl
file_cells (f ∷ fs) = ap (λ l. (arc_value f.file).cells ∷ l) (file_cells fs)

-- of no numbers, none is named
pub none_named : (files : List File) → files_without [] files ≡ files
unfolding files_without has_id
none_named [] = refl
none_named (f ∷ fs) = ap (λ l. f ∷ l) (none_named fs)

module _ {X : Type 0} (file : X → File) (ids : List ℕ) (xs : List X) (i : ℕ) (x : X) (lt : i < length xs) (at : x ≡ get_or xs i x) where
  one_more : files_without ids (map file (take (i + 1) xs)) ≡ files_without ids (map file (take i xs)) ++ files_without ids (file x ∷ [])
  unfolding files_without
  one_more =
      ap (λ l. files_without ids (map file l)) (take_more xs i x lt ∙ ap (λ y. take i xs ++ y ∷ []) (sym at))
      ∙ ap (files_without ids) (map-append file (take i xs) (x ∷ []))
      ∙ filter-append (λ f. not (has_id ids f.id)) (map file (take i xs)) (file x ∷ [])

  -- a file of these numbers is passed over
  pub unnamed_skips : has_id ids (file x).id ≡ true → files_without ids (map file (take (i + 1) xs)) ≡ files_without ids (map file (take i xs))
  unfolding files_without
  unnamed_skips h = one_more ∙ ap (λ b. files_without ids (map file (take i xs)) ++ cond (not b) (file x ∷ []) []) h ∙ append-nil (files_without ids (map file (take i xs)))

  -- and another is taken
  pub unnamed_takes : has_id ids (file x).id ≡ false → files_without ids (map file (take (i + 1) xs)) ≡ files_without ids (map file (take i xs)) ++ file x ∷ []
  unfolding files_without
  unnamed_takes h = one_more ∙ ap (λ b. files_without ids (map file (take i xs)) ++ cond (not b) (file x ∷ []) []) h
