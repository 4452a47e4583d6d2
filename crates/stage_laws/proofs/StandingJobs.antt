-- It stays where a job's file comes in the place of its inputs.
use Rattle.std.proofs.Common.{◌≡◌, not, ℕ, ◌<◌, ◌≤◌, ◌<ℤ◌, Bool, true, false, cond, List, [], ◌∷◌, ◌++◌, length, Some, refl, ap, ◌∙◌}
use Rattle.std.specs.List.{AllByRecursion, filter}
use Rattle.tablet_model.specs.Cell.{Cell}
use Rattle.tablet_model.specs.Compactions.{full_compaction, partial_compaction, partial_stages}
use Rattle.tablet_model.specs.History.{RowChange}
use Rattle.tablet_model.specs.Markers.{live, mark}
use Rattle.tablet_model.specs.Order.{above}
use Rattle.tablet_model.specs.Rules.{AreSound, AreStorable, IsStorable, Rules}
use Rattle.tablet_model.specs.Sorted.{Ascends, sorted}
use Rattle.tablet_model.specs.Stages.{stages}
use Rattle.tablet_model.specs.Stands.{AreAllNewer, AreBelow, AreRising, AreWithin, StandsInJobs, StandsInParts}
use Rattle.tablet_model.specs.Steps.{find_job, made_by, without_job}
use Rattle.tablet_model.specs.Store.{File, RunningJob, Store, all_of, cells_of, frozen_of, has_id, input_of, files_with, parts_of, files_without}
use Rattle.tablet_model.specs.Sum.{sum_of}
use Rattle.tablet_model.proofs.Merges.{all_append, all_sorted}
use Rattle.tablet_model.proofs.Orders.{above_exact}
use Rattle.tablet_model.proofs.Sums.{Ascends-sorted, all_filter, all_weaker}
use Rattle.stage_laws.proofs.FileLists.{cells_append, cells_one_more, rising_filter, rising_more}
use Rattle.stage_laws.proofs.Jobs.{fewer, fewer_files, found_job, made_keys}
use Rattle.stage_laws.proofs.Standing.{Parts, le_refl, parts}
use Rattle.stage_laws.proofs.Parts.{all_partial}
use Rattle.stage_laws.proofs.Storable.{IsKeeping, all_deletable, all_plain, all_read, keeps_first, keeps_live, keeps_mark, keeps_stages}
use Rattle.stage_laws.proofs.StoreSums.{file_and_rest, input_and_rest, partial_unseen, whole_unseen}
use Rattle.stage_laws.proofs.StoreTimes.{IsWithin, all_newer, newer_columns, within_looks}

Ascends-input : (ids : List ℕ) (files : List File) → Ascends above (input_of ids files)
unfolding input_of
Ascends-input ids files = Ascends-sorted above above_exact (cells_of (files_with ids files))

rising_left : (id : ℕ) (ids : List ℕ) (files : List File) (cells : List Cell) → AreBelow id files → AreRising files → AreRising (files_without ids files ++ record { id = id; cells = cells } ∷ [])
unfolding files_without
rising_left id ids files cells b h = rising_more id (filter (λ f. not (has_id ids f.id)) files) cells (all_filter (λ f. f.id < id) (λ f. not (has_id ids f.id)) files b) (rising_filter (λ f. not (has_id ids f.id)) files h)

-- all that is outside a full job's files
newer_rest : (c : Rules) (left z memory taken : List Cell) (settled closed n : ℕ) → settled ≤ closed → AreWithin c.plain settled closed z → AreWithin c.plain closed n memory → AreWithin c.plain 0 settled taken → AreAllNewer c.plain left taken → AreAllNewer c.plain (sorted above (left ++ (z ++ memory))) (sorted above taken)
newer_rest c left z memory taken settled closed n order zt mt tt' lt =
    let P : Cell → Type 0 = λ e. c.plain e ≡ true → AllByRecursion (λ d. c.plain d ≡ true → d.key.time <ℤ e.key.time) taken in
    all_weaker P (λ e. c.plain e ≡ true → AllByRecursion (λ d. c.plain d ≡ true → d.key.time <ℤ e.key.time) (sorted above taken)) (λ e k p. all_sorted above above_exact (λ d. c.plain d ≡ true → d.key.time <ℤ e.key.time) taken (k p)) (sorted above (left ++ (z ++ memory)))
    (all_sorted above above_exact P (left ++ (z ++ memory)) (all_append P left (z ++ memory) lt (all_append P z memory (all_newer c.plain 0 settled settled closed taken z (le_refl settled) tt' zt) (all_newer c.plain 0 settled closed n taken memory order tt' mt))))

-- a job ends
made_all_job : (c : Rules) → AreSound c → (s : Store) (t : RunningJob) → AreStorable c (cells_of s.files) → AreStorable c (made_by c s t)
unfolding made_by input_of
made_all_job c law s t h = go t.full
  where
    input : AreStorable c (input_of t.ids s.files)
    input = all_sorted above above_exact (IsStorable c) (cells_of (files_with t.ids s.files)) (fewer (IsStorable c) t.ids s.files h)

    go : (b : Bool) → AreStorable c (cond b (full_compaction c.major (input_of t.ids s.files)) (partial_compaction c.major (input_of t.ids s.files)))
    go true = keeps_stages c c.major (keeps_first c law c.major law.major_first) (live (input_of t.ids s.files)) (keeps_live c (input_of t.ids s.files) input)
    go false = keeps_stages c (partial_stages c.major) (all_partial (IsKeeping c) c.major (keeps_first c law c.major law.major_first)) (mark (input_of t.ids s.files)) (keeps_mark c (input_of t.ids s.files) input)

made_unseen : (c : Rules) → AreSound c → (s : Store) (t : RunningJob) (x : List Cell) → AreStorable c (input_of t.ids s.files) → AreStorable c x → (t.full ≡ true → AreAllNewer c.plain x (input_of t.ids s.files)) → stages c.base (live (sum_of (made_by c s t) x)) ≡ stages c.base (live (sum_of (input_of t.ids s.files) x))
unfolding made_by
made_unseen c law s t x ia xa newer = go t.full refl
  where
    a : List Cell
    a = input_of t.ids s.files

    go : (b : Bool) → t.full ≡ b → stages c.base (live (sum_of (cond b (full_compaction c.major a) (partial_compaction c.major a)) x)) ≡ stages c.base (live (sum_of a x))
    go true e = whole_unseen c law a x (Ascends-input t.ids s.files) (all_read c a ia) (all_read c x xa) (all_plain c law a ia) (all_plain c law x xa) (newer_columns c.plain law.plain_columns x a (newer e))
    go false e = partial_unseen c law a x (Ascends-input t.ids s.files) (all_read c a ia) (all_read c x xa) (all_deletable c law x xa)

pub stands_replaced : (c : Rules) (s : Store) (h : List RowChange) (t : RunningJob) → AreSound c → AreBelow s.next s.files → (t.full ≡ true → AreAllNewer c.plain (cells_of (files_without t.ids s.files)) (cells_of (files_with t.ids s.files))) → StandsInParts c s h → StandsInParts c (without_job c s t) h
unfolding parts_of frozen_of all_of without_job input_of
stands_replaced c s h t law below newer k =
    let p : Parts c s (length h) = parts c s h k in
    let files : List Cell = cells_of s.files in
    let left : List Cell = cells_of (files_without t.ids s.files) in
    let taken : List Cell = cells_of (files_with t.ids s.files) in
    let z : List Cell = frozen_of s in
    let f : File = record { id = s.next; cells = made_by c s t } in
    let rest : List Cell = left ++ (z ++ s.memory) in
    let left_all : AreStorable c left = fewer_files (IsStorable c) t.ids s.files p.files in
    let input_all : AreStorable c (sorted above taken) = all_sorted above above_exact (IsStorable c) taken (fewer (IsStorable c) t.ids s.files p.files) in
    let rest_all : AreStorable c (sorted above rest) = all_sorted above above_exact (IsStorable c) rest (all_append (IsStorable c) left (z ++ s.memory) left_all (all_append (IsStorable c) z s.memory p.frozen p.memory)) in
    let taken_times : AreWithin c.plain 0 p.settled taken = fewer (IsWithin c.plain 0 p.settled) t.ids s.files p.file_times in
    record {
      count_is = k.count_is;
      history = k.history;
      same = ap (λ l. stages c.base (live (sorted above (l ++ (z ++ s.memory))))) (cells_append (files_without t.ids s.files) f)
          ∙ ap (λ l. stages c.base (live l)) (file_and_rest left f.cells (z ++ s.memory))
          ∙ made_unseen c law s t (sorted above rest) input_all rest_all
          (λ e. newer_rest c left z s.memory taken p.settled p.closed (length h) p.order p.frozen_times p.memory_times taken_times (newer e))
          ∙ ap (λ l. stages c.base (live l)) (input_and_rest t.ids s.files (z ++ s.memory))
          ∙ k.same;
      times = record {
        settled = p.settled;
        closed = p.closed;
        order = p.order;
        bound = p.bound;
        in_files = cells_one_more (IsWithin c.plain 0 p.settled) (files_without t.ids s.files) f (fewer_files (IsWithin c.plain 0 p.settled) t.ids s.files p.file_times) (made_keys (IsWithin c.plain 0 p.settled) (within_looks c.plain law.plain_columns 0 p.settled) c law s t taken_times);
        in_frozen = p.frozen_times;
        in_memory = p.memory_times;
      };
      entries = all_append (IsStorable c) (cells_of (files_without t.ids s.files ++ f ∷ [])) (z ++ s.memory) (cells_one_more (IsStorable c) (files_without t.ids s.files) f left_all (made_all_job c law s t p.files)) (all_append (IsStorable c) z s.memory p.frozen p.memory);
      frozen_sorted = k.frozen_sorted;
      memory_sorted = k.memory_sorted;
      rising = rising_left s.next t.ids s.files f.cells below k.rising;
    }

pub stands_finished : (c : Rules) (s : Store) (h : List RowChange) (j : ℕ) (t : RunningJob) → AreSound c → find_job j s.jobs ≡ Some t → StandsInParts c s h → StandsInJobs c s → StandsInParts c (without_job c s t) h
stands_finished c s h j t law found k jobs = stands_replaced c s h t law jobs.below (found_job (λ t. t.full ≡ true → AreAllNewer c.plain (cells_of (files_without t.ids s.files)) (cells_of (files_with t.ids s.files))) j s.jobs t found jobs.others_newer) k
