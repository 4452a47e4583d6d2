-- What a store has of its history stays where a mutation comes in, memory is frozen or a frozen part is written.
use Rattle.std.proofs.Common.{◌≡◌, pos, ℕ, ◌+◌, ◌≤◌, true, List, [], ◌∷◌, ◌++◌, length, Some, None, unwrap_or, sym, ap, ◌∙◌, subst, arith, append_assoc, append-nil, length-append}
use Rattle.tablet_model.specs.Ages.{AreApart, IsApart, HasPlainMarkers}
use Rattle.tablet_model.specs.Cell.{Cell}
use Rattle.tablet_model.specs.Compactions.{minor_compaction}
use Rattle.tablet_model.specs.History.{RowChange, entries_of, history_entries, entries_from}
use Rattle.tablet_model.specs.Ingest.{IsHistory, ingest}
use Rattle.tablet_model.specs.Markers.{live, mark}
use Rattle.tablet_model.specs.Order.{above}
use Rattle.tablet_model.specs.Rules.{AreSound, AreStorable, IsStorable, Rules}
use Rattle.tablet_model.specs.Sorted.{Ascends, sorted}
use Rattle.tablet_model.specs.Stages.{stages}
use Rattle.tablet_model.specs.Stands.{AreAllNewer, AreBelow, AreInOrder, AreWithin, StandsInParts}
use Rattle.tablet_model.specs.Store.{File, Store, all_of, cells_of, frozen_of, parts_of}
use Rattle.tablet_model.specs.Sum.{sum_of}
use Rattle.tablet_model.proofs.Histories.{history_ascends, history_grows}
use Rattle.tablet_model.proofs.Merges.{all_append, all_left, all_right, all_sorted}
use Rattle.tablet_model.proofs.OneColumn.{Ascends-sum}
use Rattle.tablet_model.proofs.Orders.{above_exact}
use Rattle.tablet_model.proofs.Sums.{Ascends-sorted}
use Rattle.stage_laws.proofs.FileLists.{cells_append, cells_one_more, rising_more}
use Rattle.stage_laws.proofs.Jobs.{minor_keys}
use Rattle.stage_laws.proofs.LetIn.{storable_added, storable_numbered, let_in_append, within_added, within_numbered}
use Rattle.stage_laws.proofs.Parts.{all_sum}
use Rattle.stage_laws.proofs.Storable.{all_plain, all_read, keeps_first, keeps_mark, keeps_stages}
use Rattle.stage_laws.proofs.StoreSums.{file_and_rest, minor_unseen, sum_behind}
use Rattle.stage_laws.proofs.StoreTimes.{IsWithin, all_newer, apart_newer, apart_older, newer_columns, within_looks, within_weaker}
use Rattle.stage_laws.proofs.Whole.{added}

-- the parts of a store that stands
pub record Parts (c : Rules) (s : Store) (n : ℕ) : Type 0 where
  pub settled : ℕ
  pub closed : ℕ
  pub order : settled ≤ closed
  pub bound : closed ≤ n
  pub file_times : AreWithin c.plain 0 settled (cells_of s.files)
  pub frozen_times : AreWithin c.plain settled closed (frozen_of s)
  pub memory_times : AreWithin c.plain closed n s.memory
  pub files : AreStorable c (cells_of s.files)
  pub frozen : AreStorable c (frozen_of s)
  pub memory : AreStorable c s.memory

pub parts : (c : Rules) (s : Store) (h : List RowChange) → StandsInParts c s h → Parts c s (length h)
unfolding parts_of
parts c s h k = record {
  settled = k.times.settled;
  closed = k.times.closed;
  order = k.times.order;
  bound = k.times.bound;
  file_times = k.times.in_files;
  frozen_times = k.times.in_frozen;
  memory_times = k.times.in_memory;
  files = all_left (IsStorable c) (cells_of s.files) (frozen_of s ++ s.memory) k.entries;
  frozen = all_left (IsStorable c) (frozen_of s) s.memory (all_right (IsStorable c) (cells_of s.files) (frozen_of s ++ s.memory) k.entries);
  memory = all_right (IsStorable c) (frozen_of s) s.memory (all_right (IsStorable c) (cells_of s.files) (frozen_of s ++ s.memory) k.entries);
}

pub le_trans : (a b d : ℕ) → a ≤ b → b ≤ d → a ≤ d
le_trans a b d h k = omega arith

pub le_refl : (a : ℕ) → a ≤ a
le_refl a = omega arith

pub zero_le : (a : ℕ) → 0 ≤ a
zero_le a = omega arith

pub le_suc : (a : ℕ) → a ≤ a + 1
le_suc a = omega arith

-- the times of all parts
all_times : (c : Rules) (s : Store) (n : ℕ) → Parts c s n → AreWithin c.plain 0 n (all_of s)
unfolding all_of parts_of
all_times c s n p = all_sorted above above_exact (IsWithin c.plain 0 n) (cells_of s.files ++ (frozen_of s ++ s.memory))
    (all_append (IsWithin c.plain 0 n) (cells_of s.files) (frozen_of s ++ s.memory) (within_weaker c.plain 0 0 p.settled n (cells_of s.files) (le_refl 0) (le_trans p.settled p.closed n p.order p.bound) p.file_times)
    (all_append (IsWithin c.plain 0 n) (frozen_of s) s.memory (within_weaker c.plain p.settled 0 p.closed n (frozen_of s) (zero_le p.settled) p.bound p.frozen_times) (within_weaker c.plain p.closed 0 n n s.memory (zero_le p.closed) (le_refl n) p.memory_times)))

pub all_storable : (c : Rules) (s : Store) (h : List RowChange) → StandsInParts c s h → AreStorable c (all_of s)
unfolding all_of
all_storable c s h k = all_sorted above above_exact (IsStorable c) (parts_of s) k.entries

pub Ascends-all : (s : Store) → Ascends above (all_of s)
unfolding all_of
Ascends-all s = Ascends-sorted above above_exact (parts_of s)

-- a mutation comes in
length_more : (h : List RowChange) (m : RowChange) → length (h ++ m ∷ []) ≡ length h + 1
length_more h m = length-append h (m ∷ [])

all_applied : (s : Store) (v : List Cell) → all_of (record s { count = s.count + 1; memory = sum_of s.memory v }) ≡ sum_of (all_of s) v
unfolding all_of parts_of frozen_of
all_applied s v = ap (sorted above) (sym (append_assoc (cells_of s.files) (frozen_of s) (sum_of s.memory v))) ∙ sum_behind (cells_of s.files ++ frozen_of s) s.memory v ∙ ap (λ l. sum_of (sorted above l) v) (append_assoc (cells_of s.files) (frozen_of s) s.memory)

history_all : (c : Rules) (h : List RowChange) → IsHistory c h → AreStorable c (history_entries h)
unfolding history_entries
history_all c h k = all_sorted above above_exact (IsStorable c) (entries_from 0 h) (storable_numbered c 0 h k)

history_times : (c : Rules) (h : List RowChange) → IsHistory c h → AreWithin c.plain 0 (length h) (history_entries h)
unfolding history_entries
history_times c h k = within_weaker c.plain 0 0 (0 + length h) (length h) (sorted above (entries_from 0 h)) (le_refl 0) (zero_first (length h)) (all_sorted above above_exact (IsWithin c.plain 0 (0 + length h)) (entries_from 0 h) (within_numbered c 0 h k))
  where
    zero_first : (n : ℕ) → 0 + n ≤ n
    zero_first n = omega arith

pub stands_applied : (c : Rules) (s : Store) (h : List RowChange) (m : RowChange) → AreSound c → ingest c s.count m ≡ None → StandsInParts c s h → StandsInParts c (record s { count = s.count + 1; memory = sum_of s.memory (entries_of (pos (s.count + 1)) m) }) (h ++ m ∷ [])
unfolding parts_of frozen_of
stands_applied c s h m law ok k =
    let p : Parts c s (length h) = parts c s h k in
    let n : ℕ = length h in
    let v : List Cell = entries_of (pos (s.count + 1)) m in
    let ok' : ingest c n m ≡ None = subst (λ j. ingest c j m ≡ None) k.count_is ok in
    let va : AreStorable c v = storable_added c s.count m ok in
    let vt : AreWithin c.plain n (n + 1) v = subst (λ j. AreWithin c.plain j (j + 1) v) k.count_is (within_added c s.count m ok) in
    let more : n + 1 ≡ length (h ++ m ∷ []) = sym (length_more h m) in
    record {
      count_is = ap (λ j. j + 1) k.count_is ∙ more;
      history = let_in_append c 0 h m k.history (subst (λ j. ingest c j m ≡ None) (zero_first (length h)) ok');
      same = ap (λ l. stages c.base (live l)) (all_applied s v)
          ∙ added c.plain law.plain_columns c.base (all_of s) (history_entries h) v law.accepted (Ascends-all s) (history_ascends h) (all_read c (all_of s) (all_storable c s h k)) (all_read c (history_entries h) (history_all c h k.history)) (all_read c v va)
          (all_plain c law (all_of s) (all_storable c s h k)) (all_plain c law (history_entries h) (history_all c h k.history)) (all_plain c law v va)
          (newer_columns c.plain law.plain_columns v (all_of s) (all_newer c.plain 0 n n (n + 1) (all_of s) v (le_refl n) (all_times c s n p) vt))
          (newer_columns c.plain law.plain_columns v (history_entries h) (all_newer c.plain 0 n n (n + 1) (history_entries h) v (le_refl n) (history_times c h k.history) vt)) k.same
          ∙ ap (λ l. stages c.base (live l)) (ap (λ j. sum_of (history_entries h) (entries_of (pos (j + 1)) m)) k.count_is ∙ sym (history_grows h m));
      times = subst (AreInOrder c.plain (record s { count = s.count + 1; memory = sum_of s.memory v })) more (record {
        settled = p.settled;
        closed = p.closed;
        order = p.order;
        bound = le_trans p.closed n (n + 1) p.bound (le_suc n);
        in_files = p.file_times;
        in_frozen = p.frozen_times;
        in_memory = all_sum (IsWithin c.plain p.closed (n + 1)) s.memory v (within_weaker c.plain p.closed p.closed n (n + 1) s.memory (le_refl p.closed) (le_suc n) p.memory_times) (within_weaker c.plain n p.closed (n + 1) (n + 1) v p.bound (le_refl (n + 1)) vt);
      });
      entries = all_append (IsStorable c) (cells_of s.files) (frozen_of s ++ sum_of s.memory v) p.files (all_append (IsStorable c) (frozen_of s) (sum_of s.memory v) p.frozen (all_sum (IsStorable c) s.memory v p.memory va));
      frozen_sorted = k.frozen_sorted;
      memory_sorted = Ascends-sum s.memory v;
      rising = k.rising;
    }
  where
    zero_first : (n : ℕ) → n ≡ 0 + n
    zero_first n = omega arith

-- memory is frozen
pub stands_frozen : (c : Rules) (s : Store) (h : List RowChange) → s.frozen ≡ None → StandsInParts c s h → StandsInParts c (record s { frozen = Some s.memory; memory = [] }) h
unfolding parts_of frozen_of all_of sorted
stands_frozen c s h none k =
    let p : Parts c s (length h) = parts c s h k in
    record {
      count_is = k.count_is;
      history = k.history;
      same = ap (λ l. stages c.base (live (sorted above (cells_of s.files ++ l)))) (append-nil s.memory ∙ ap (λ o. unwrap_or o [] ++ s.memory) (sym none)) ∙ k.same;
      times = record {
        settled = p.closed;
        closed = length h;
        order = p.bound;
        bound = le_refl (length h);
        in_files = within_weaker c.plain 0 0 p.settled p.closed (cells_of s.files) (le_refl 0) p.order p.file_times;
        in_frozen = p.memory_times;
        in_memory = tt;
      };
      entries = all_append (IsStorable c) (cells_of s.files) (s.memory ++ []) p.files (all_append (IsStorable c) s.memory [] p.memory tt);
      frozen_sorted = k.memory_sorted;
      memory_sorted = up;
      rising = k.rising;
    }
  where
    up : Ascends above []
    up = Ascends-sorted above above_exact []

pub made_all_minor : (c : Rules) → AreSound c → (list : List Cell) → AreStorable c list → AreStorable c (minor_compaction c.minor list)
made_all_minor c law list h = keeps_stages c c.minor (keeps_first c law c.minor law.minor_first) (mark list) (keeps_mark c list h)

apart_both : (c : Rules) → AreSound c → (z files memory : List Cell) → AreAllNewer c.plain z files → AreAllNewer c.plain memory z → HasPlainMarkers c.plain files → HasPlainMarkers c.plain memory → AreApart c.plain (sorted above (files ++ memory)) z
apart_both c law z files memory older newer mf mm =
    all_sorted above above_exact (λ m. m.key.deleted ≡ true → IsApart c.plain z m) (files ++ memory)
    (all_append (λ m. m.key.deleted ≡ true → IsApart c.plain z m) files memory (apart_older c.plain law.plain_columns files z mf older) (apart_newer c.plain law.plain_columns memory z mm newer))

-- a frozen part is written
pub stands_flushed : (c : Rules) (s : Store) (h : List RowChange) → AreSound c → AreBelow s.next s.files → StandsInParts c s h → StandsInParts c (record s { files = s.files ++ record { id = s.next; cells = minor_compaction c.minor (frozen_of s) } ∷ []; next = s.next + 1; frozen = None }) h
unfolding parts_of frozen_of all_of sorted
stands_flushed c s h law below k =
    let p : Parts c s (length h) = parts c s h k in
    let files : List Cell = cells_of s.files in
    let z : List Cell = frozen_of s in
    let f : File = record { id = s.next; cells = minor_compaction c.minor z } in
    let rest : List Cell = files ++ s.memory in
    let rest_all : AreStorable c (sorted above rest) = all_sorted above above_exact (IsStorable c) rest (all_append (IsStorable c) files s.memory p.files p.memory) in
    let new_all : AreStorable c f.cells = made_all_minor c law z p.frozen in
    record {
      count_is = k.count_is;
      history = k.history;
      same = ap (λ l. stages c.base (live (sorted above (l ++ s.memory)))) (cells_append s.files f)
          ∙ ap (λ l. stages c.base (live l)) (file_and_rest files f.cells s.memory)
          ∙ minor_unseen c law z (sorted above rest) k.frozen_sorted (all_read c z p.frozen) (all_read c (sorted above rest) rest_all)
          (all_plain c law (sorted above rest) rest_all)
          (apart_both c law z files s.memory (all_newer c.plain 0 p.settled p.settled p.closed files z (le_refl p.settled) p.file_times p.frozen_times) (all_newer c.plain p.settled p.closed p.closed (length h) z s.memory (le_refl p.closed) p.frozen_times p.memory_times) (all_plain c law files p.files) (all_plain c law s.memory p.memory))
          ∙ ap (λ l. stages c.base (live l)) (sym (file_and_rest files z s.memory) ∙ ap (sorted above) (append_assoc files z s.memory))
          ∙ k.same;
      times = record {
        settled = p.closed;
        closed = p.closed;
        order = le_refl p.closed;
        bound = p.bound;
        in_files = cells_one_more (IsWithin c.plain 0 p.closed) s.files f (within_weaker c.plain 0 0 p.settled p.closed files (le_refl 0) p.order p.file_times)
            (within_weaker c.plain p.settled 0 p.closed p.closed f.cells (zero_le p.settled) (le_refl p.closed) (minor_keys (IsWithin c.plain p.settled p.closed) (within_looks c.plain law.plain_columns p.settled p.closed) c law z p.frozen_times));
        in_frozen = tt;
        in_memory = p.memory_times;
      };
      entries = all_append (IsStorable c) (cells_of (s.files ++ f ∷ [])) s.memory (cells_one_more (IsStorable c) s.files f p.files new_all) p.memory;
      frozen_sorted = Ascends-sorted above above_exact [];
      memory_sorted = k.memory_sorted;
      rising = rising_more s.next s.files f.cells below k.rising;
    }

-- what a flush writes is newer than all files
pub flushed_newer : (c : Rules) (s : Store) (h : List RowChange) → AreSound c → StandsInParts c s h → AreAllNewer c.plain (minor_compaction c.minor (frozen_of s)) (cells_of s.files)
flushed_newer c s h law k =
    let p : Parts c s (length h) = parts c s h k in
    all_newer c.plain 0 p.settled p.settled p.closed (cells_of s.files) (minor_compaction c.minor (frozen_of s)) (le_refl p.settled) p.file_times (minor_keys (IsWithin c.plain p.settled p.closed) (within_looks c.plain law.plain_columns p.settled p.closed) c law (frozen_of s) p.frozen_times)
