-- Which files are taken, in worked cases.
use Rattle.std.proofs.Common.{◌≡◌, ℕ, List, [], ◌∷◌, Some, None, refl}
use Rattle.tablet_model.specs.Sorted.{put, sorted}
use Rattle.cell_key.specs.FileNumbers.{with_number}
use Rattle.compactor.specs.declared.file_sets.FileCount.{FileCount}
use Rattle.compactor.specs.Plans.{choice, even_set}

file : ℕ → ℕ → FileCount
file id count = record { id = id; count = count }

equal_files_are_taken : choice (file 1 10 ∷ file 2 10 ∷ file 3 10 ∷ []) ≡ Some (1 ∷ 2 ∷ 3 ∷ [])
unfolding choice even_set sorted put with_number file
equal_files_are_taken = refl

a_great_file_stays : choice (file 1 100 ∷ file 2 5 ∷ file 3 5 ∷ file 4 5 ∷ []) ≡ Some (2 ∷ 3 ∷ 4 ∷ [])
unfolding choice even_set sorted put with_number file
a_great_file_stays = refl

one_file_stays : choice (file 1 7 ∷ []) ≡ None
unfolding choice even_set sorted put with_number file
one_file_stays = refl

uneven_files_stay : choice (file 1 100 ∷ file 2 10 ∷ []) ≡ None
unfolding choice even_set sorted put with_number file
uneven_files_stay = refl

empty_files_are_taken : choice (file 1 0 ∷ file 2 0 ∷ []) ≡ Some (1 ∷ 2 ∷ [])
unfolding choice even_set sorted put with_number file
empty_files_are_taken = refl

halving : List FileCount
halving =
    file 1 32768 ∷ file 2 16384 ∷ file 3 8192 ∷ file 4 4096 ∷ file 5 2048 ∷ file 6 1024 ∷ file 7 512 ∷ file 8 256
    ∷ file 9 128 ∷ file 10 64 ∷ file 11 32 ∷ file 12 16 ∷ file 13 8 ∷ file 14 4 ∷ file 15 2 ∷ file 16 1 ∷ []

the_last_of_many_are_taken : choice halving ≡ Some (9 ∷ 10 ∷ 11 ∷ 12 ∷ 13 ∷ 14 ∷ 15 ∷ 16 ∷ [])
unfolding choice even_set sorted put with_number file halving
the_last_of_many_are_taken = refl
