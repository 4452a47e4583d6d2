-- Reading the index and the entries one after the other, as loops do.
use Rattle.std.proofs.Common.{◌≡◌, ℕ, zero, suc, ◌+◌, ◌-◌, ◌<◌, ◌≤◌, Bool, true, false, List, [], ◌∷◌, ◌++◌, length, get_or, drop, Option, None, Some, Result, Ok, Err, refl, sym, ap, ◌∙◌, append_assoc, length-append, arith, add-one, zero-add, drop-cons}
use Rattle.byteorder.specs.Endian.{big_bytes}
use Rattle.std.proofs.lemmas.List.{append-nil, drop_all}
use Rattle.std.specs.Option.{option_map}
use Rattle.tablet_model.specs.Cell.{Cell}
use Rattle.byte_fields.specs.Fields.{◌>>=◌, Unread}
use Rattle.byte_fields.proofs.Fields.{IsBytes}
use Rattle.cell_key.specs.Views.{cell_of}
use Rattle.cell_key.specs.declared.key_ref.EntryRef.{EntryRef}
use Rattle.sorted_file.specs.Image.{neighbour, entry_bytes, block_start, blocks_from}
use Rattle.sorted_file.specs.Reading.{expected_at, end_at, next_entry_at, entries_at, index_at}
use Rattle.sorted_file.specs.Answers.{count_entries}
use Rattle.sorted_file.specs.declared.fault.Fault.{Fault}
use Rattle.sorted_file.specs.declared.fault.ImageCause.TheVariants.{Index}
use Rattle.sorted_file.specs.declared.version.Version.{Version}
use Rattle.sorted_file.proofs.Parts.{no_end}
use Rattle.sorted_file.proofs.SharedParts.{IsNear, near_none, near_some}
use Rattle.sorted_file.proofs.Images.{behind_end, length_entry, next_take}

-- ---- the index

pub index_next : (places : List ℕ) (i : ℕ) (u : Unread) → i < length places → index_at (drop i places) u ≡ (expected_at Index (big_bytes 8 (get_or places i 0)) u >>= index_at (drop (i + 1) places))
unfolding index_at
index_next places i u l =
    let one_less : drop i places ≡ get_or places i 0 ∷ drop (i + 1) places = rw (add-one, drop-cons places i 0) refl in
    ap (λ (ps : List ℕ). index_at ps u) one_less

pub index_done : (places : List ℕ) (i : ℕ) (u : Unread) → length places ≤ i → index_at (drop i places) u ≡ Ok u
unfolding index_at
index_done places i u l = ap (λ (ps : List ℕ). index_at ps u) (drop_all i places l)

-- ---- the entries

-- an entry that a loop keeps is within bounds
pub near_ref : (before : Option EntryRef) → IsNear (option_map cell_of before)
near_ref None = near_none
near_ref (Some e) = near_some (cell_of e) (e.key.bounds, e.key.in_time)

-- blocks and a number of entries that were read before, of which one was the last, and what is still read
abbrev pub with_front : Version → List ℕ → ℕ → Option Cell → ℕ → Result (List Cell × Unread) Fault → Result (List ℕ × ℕ × Unread) Fault
with_front v blocks count before at entries = entries >>= λ x. Ok (blocks ++ blocks_from v count at before x.0, count + length x.0, x.1)

-- before any was read
pub nothing_read : (v : Version) (blocks : List ℕ) (at most : ℕ) (u : Unread) → blocks ≡ [] → with_front v blocks 0 None at (entries_at v (most - 0) 0 None u) ≡ count_entries v at (entries_at v most 0 None u)
nothing_read v blocks at most u none =
    let all : most - 0 ≡ most = omega arith in
    ap (λ (b : List ℕ). with_front v b 0 None at (entries_at v (most - 0) 0 None u)) none ∙ ap (λ (m : ℕ). with_front v [] 0 None at (entries_at v m 0 None u)) all ∙ go (entries_at v most 0 None u)
  where
    go : (r : Result (List Cell × Unread) Fault) → with_front v [] 0 None at r ≡ count_entries v at r
    go (Ok x) = ap (λ (n : ℕ). Ok (blocks_from v 0 at None x.0, n, x.1)) (zero-add (length x.0))
    go (Err f) = refl

-- what is read where enough entries may follow
entries_unfold : (v : Version) (most n : ℕ) (before : Option Cell) (u : Unread) → length u.rest ≤ most → entries_at v most n before u ≡ (end_at v u >>= behind_end v (most - 1) n before u)
unfolding entries_at
entries_unfold v zero n before u l = ap (λ (r : Result (Bool × Unread) Fault). r >>= behind_end v (0 - 1) n before u) (sym (no_end v u l))
entries_unfold v (suc most) n before u l = let e : most ≡ suc most - 1 = omega arith in ap (λ (m : ℕ). end_at v u >>= behind_end v m n before u) e

left : (most count n : ℕ) → count + n ≤ most → n ≤ most - count
left most count n h = omega arith

-- what was read before some entries, and is read of them, is all
abbrev pub IsTotal : Version → List ℕ → ℕ → ℕ → Option Cell → Unread → Result (List ℕ × ℕ × Unread) Fault → Type 0
IsTotal v blocks count most before u total = with_front v blocks count before u.at (entries_at v (most - count) count before u) ≡ total

-- by what the reading of the end mark comes to
by_end : (v : Version) (blocks : List ℕ) (count most : ℕ) (before : Option Cell) (u : Unread) (end : Result (Bool × Unread) Fault) (total : Result (List ℕ × ℕ × Unread) Fault) → count + length u.rest ≤ most
    → end_at v u ≡ end → IsTotal v blocks count most before u total → with_front v blocks count before u.at (end >>= behind_end v (most - count - 1) count before u) ≡ total
by_end v blocks count most before u end total few e so_far =
    sym (ap (with_front v blocks count before u.at) (entries_unfold v (most - count) count before u (left most count (length u.rest) few)
    ∙ ap (λ (r : Result (Bool × Unread) Fault). r >>= behind_end v (most - count - 1) count before u) e))
    ∙ so_far

pub end_fault : (v : Version) (blocks : List ℕ) (count most : ℕ) (before : Option Cell) (u : Unread) (f : Fault) (total : Result (List ℕ × ℕ × Unread) Fault) → count + length u.rest ≤ most
    → end_at v u ≡ Err f → IsTotal v blocks count most before u total → total ≡ Err f
end_fault v blocks count most before u f total few e so_far = sym (by_end v blocks count most before u (Err f) total few e so_far)

pub ends : (v : Version) (blocks : List ℕ) (count most : ℕ) (before : Option Cell) (u : Unread) (b : Bool) (w : Unread) (total : Result (List ℕ × ℕ × Unread) Fault) → count + length u.rest ≤ most
    → end_at v u ≡ Ok (b, w) → b ≡ true → IsTotal v blocks count most before u total → total ≡ Ok (blocks, count, w)
unfolding blocks_from
ends v blocks count most before u b w total few e is so_far =
    let no_more : count + 0 ≡ count = omega arith in
    sym (by_end v blocks count most before u (Ok (true, w)) total few (e ∙ ap (λ (t : Bool). Ok (t, w)) is) so_far)
    ∙ ap (λ (bs : List ℕ). Ok (bs, count + 0, w)) (append-nil blocks) ∙ ap (λ (k : ℕ). Ok (blocks, k, w)) no_more

-- by what the reading of the next entry comes to
by_entry : (v : Version) (blocks : List ℕ) (count most : ℕ) (before : Option Cell) (u : Unread) (b : Bool) (w : Unread) (next : Result (Cell × Unread) Fault) (total : Result (List ℕ × ℕ × Unread) Fault) → count + length u.rest ≤ most
    → end_at v u ≡ Ok (b, w) → b ≡ false → next_entry_at v count before u ≡ next → IsTotal v blocks count most before u total
    → with_front v blocks count before u.at (next >>= λ entry. entries_at v (most - count - 1) (count + 1) (Some entry.0) entry.1 >>= λ entries. Ok (entry.0 ∷ entries.0, entries.1)) ≡ total
by_entry v blocks count most before u b w next total few e is d so_far =
    sym (ap (λ (r : Result (Cell × Unread) Fault). with_front v blocks count before u.at (r >>= λ entry. entries_at v (most - count - 1) (count + 1) (Some entry.0) entry.1 >>= λ entries. Ok (entry.0 ∷ entries.0, entries.1))) d)
    ∙ by_end v blocks count most before u (Ok (false, w)) total few (e ∙ ap (λ (t : Bool). Ok (t, w)) is) so_far

pub entry_fault : (v : Version) (blocks : List ℕ) (count most : ℕ) (before : Option Cell) (u : Unread) (b : Bool) (w : Unread) (f : Fault) (total : Result (List ℕ × ℕ × Unread) Fault) → count + length u.rest ≤ most
    → end_at v u ≡ Ok (b, w) → b ≡ false → next_entry_at v count before u ≡ Err f → IsTotal v blocks count most before u total → total ≡ Err f
entry_fault v blocks count most before u b w f total few e is d so_far = sym (by_entry v blocks count most before u b w (Err f) total few e is d so_far)

-- one entry more was read before
regroup : (v : Version) (blocks : List ℕ) (count at after : ℕ) (before : Option Cell) (e : Cell) (read : Result (List Cell × Unread) Fault) → after ≡ at + length (entry_bytes v (neighbour v count before) e)
    → with_front v blocks count before at (read >>= λ entries. Ok (e ∷ entries.0, entries.1)) ≡ with_front v (blocks ++ block_start count at) (count + 1) (Some e) after read
unfolding blocks_from
regroup v blocks count at after before e (Ok x) place =
    let behind : ℕ = at + length (entry_bytes v (neighbour v count before) e) in
    let more : count + suc (length x.0) ≡ (count + 1) + length x.0 = omega arith in
    ap (λ (b : List ℕ). Ok (b, count + suc (length x.0), x.1)) (sym (append_assoc blocks (block_start count at) (blocks_from v (count + 1) behind (Some e) x.0)))
    ∙ ap (λ (p : ℕ). Ok ((blocks ++ block_start count at) ++ blocks_from v (count + 1) p (Some e) x.0, count + suc (length x.0), x.1)) (sym place)
    ∙ ap (λ (k : ℕ). Ok ((blocks ++ block_start count at) ++ blocks_from v (count + 1) after (Some e) x.0, k, x.1)) more
regroup v blocks count at after before e (Err f) place = refl

pub goes_on : (v : Version) (blocks : List ℕ) (count most : ℕ) (before : Option Cell) (u : Unread) (b : Bool) (w : Unread) (e : Cell) (z : Unread) (total : Result (List ℕ × ℕ × Unread) Fault) → count + length u.rest ≤ most → IsBytes u.rest → IsNear before
    → end_at v u ≡ Ok (b, w) → b ≡ false → next_entry_at v count before u ≡ Ok (e, z) → IsTotal v blocks count most before u total
    → IsTotal v (blocks ++ block_start count u.at) (count + 1) most (Some e) z total
goes_on v blocks count most before u b w e z total few fits is_near r is d so_far =
    let t = next_take v count before u (e, z) fits is_near d in
    let m : most - count - 1 ≡ most - (count + 1) = omega arith in
    sym (regroup v blocks count u.at z.at before e (entries_at v (most - (count + 1)) (count + 1) (Some e) z) t.0.place)
    ∙ ap (λ (k : ℕ). with_front v blocks count before u.at (entries_at v k (count + 1) (Some e) z >>= λ entries. Ok (e ∷ entries.0, entries.1))) (sym m)
    ∙ by_entry v blocks count most before u b w (Ok (e, z)) total few r is d so_far

-- each entry takes some bytes, and bytes follow it
pub fewer : (v : Version) (n : ℕ) (before : Option Cell) (u : Unread) (e : Cell) (w : Unread) → IsBytes u.rest → IsNear before → next_entry_at v n before u ≡ Ok (e, w) → (2 + length w.rest ≤ length u.rest) × IsBytes w.rest
fewer v n before u e w fits is_near d =
    let t = next_take v n before u (e, w) fits is_near d in
    let near = neighbour v n before in
    (omega (arith, ap length t.0.parts, length-append (entry_bytes v near e) w.rest, length_entry v near e), t.0.rest_fits)
