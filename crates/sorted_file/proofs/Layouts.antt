-- The parts of an entry are slices of its image, by the places where they stand.
use Rattle.std.proofs.Common.{◌≡◌, ℕ, zero, suc, ◌+◌, ◌-◌, ◌*◌, ◌%◌, ◌<◌, ◌≤◌, Bool, true, false, cond, not, eqb, ltb, List, [], ◌∷◌, ◌++◌, length, take, drop, Option, Some, None, slice_get, refl, sym, ap, subst, ◌∙◌, append_assoc, length-append, arith}
use Rattle.std.specs.Prelude.{slice_range}
use Rattle.std.specs.Bool.{then_some}
use Rattle.std.specs.Option.{unwrap_or}
use Rattle.std.proofs.Math.Seq.{take-append_seam}
use Rattle.std.proofs.lemmas.List.{drop_at, drop-drop, length-drop, take-append-le, drop-append-le}
use Rattle.std.specs.Int.{w64, cast_unsigned}
use Rattle.byteorder.specs.Endian.{big_bytes}
use Rattle.tablet_model.specs.Cell.{CellKey, Cell}
use Rattle.tablet_model.specs.Bounds.{IsEntry}
use Rattle.sorted_file.specs.Contents.{FileContents}
use Rattle.sorted_file.specs.Image.{own_bytes, flag_bytes, value_bytes, neighbour, shared_parts, key_bytes, sharing_bytes, entries_from, footer_bytes, entry_place, image_of}
use Rattle.sorted_file.specs.Versions.{same_bytes, has_neighbour}
use Rattle.sorted_file.specs.Lists.{IsFileEntry, IsFileList}
use Rattle.sorted_file.specs.Outlines.{IsSlice, IsOutlined, AreOutlined, IsSpot, part_stretch, part_end, time_place, outline_of}
use Rattle.sorted_file.specs.declared.outline.Outline.{Outline}
use Rattle.sorted_file.specs.declared.outline.Stretch.{Stretch}
use Rattle.sorted_file.specs.declared.version.Version.{Version}
use Rattle.sorted_file.specs.declared.version.Version.TheVariants.{One, Two}
use Rattle.sorted_file.proofs.Places.{near_at, around, entry_from, entry_length, next_place, place_within, the_entry_is}
use Rattle.sorted_file.proofs.SharedParts.{are_shared}
use Rattle.sorted_file.proofs.Walks.{same_entry}

-- ---- one part behind the other

-- a field of some bytes, and what follows it
field : (bytes : List ℕ) (at n : ℕ) (x y : List ℕ) → drop at bytes ≡ x ++ y → length x ≡ n → drop (at + n) bytes ≡ y
field bytes at n x y h l = sym (drop-drop n at bytes) ∙ ap (drop n) h ∙ drop_at x y n l

-- bytes with their length before them
sized : (bytes : List ℕ) (at n : ℕ) (size part rest : List ℕ) → drop at bytes ≡ (size ++ part) ++ rest → length size ≡ n
    → (slice_range bytes (at + n) (at + (n + length part)) ≡ part) × (drop (at + (n + length part)) bytes ≡ rest)
sized bytes at n size part rest h l =
    let behind : drop (at + n) bytes ≡ part ++ rest = field bytes at n size (part ++ rest) (h ∙ append_assoc size part rest) l in
    let long : (at + (n + length part)) - (at + n) ≡ length part = omega arith in
    let whole : length (size ++ part) ≡ n + length part = omega (arith, length-append size part) in (
      ap (λ (k : ℕ). take k (drop (at + n) bytes)) long ∙ ap (take (length part)) behind ∙ take-append_seam part rest,
      field bytes at (n + length part) (size ++ part) rest h whole,
    )

front : (s row f q v t d w rest : List ℕ) → ((s ++ (((((row ++ f) ++ q) ++ v) ++ t) ++ d)) ++ w) ++ rest ≡ s ++ (row ++ (f ++ (q ++ (v ++ ((t ++ d) ++ (w ++ rest))))))
front s row f q v t d w rest = simp append_assoc

one_flag : (deleted : Bool) → length (flag_bytes deleted) ≡ 1
one_flag true = refl
one_flag false = refl

-- the time and the flag
fixed_length : (e : Cell) → length (big_bytes 8 (cast_unsigned w64 e.key.time) ++ flag_bytes e.key.deleted) ≡ 9
fixed_length e = omega (arith, length-append (big_bytes 8 (cast_unsigned w64 e.key.time)) (flag_bytes e.key.deleted), one_flag e.key.deleted)

-- the place behind a part
own_end : (is_shared : Bool) (at : ℕ) (part : List ℕ) → part_end is_shared at (length part) ≡ at + length (own_bytes is_shared part)
own_end true at part = omega arith
own_end false at part = omega (arith, length-append (big_bytes 2 (length part)) part)

-- the place behind an entry
pub entry_end : (v : Version) (same at n : ℕ) (e : Cell) → length (same_bytes v same) ≡ n → at + length (sharing_bytes v same e) ≡ time_place same (at + n) e + (13 + length e.value)
unfolding sharing_bytes key_bytes
entry_end v same at n e l =
    let r = own_bytes (ltb 0 same) e.key.row in
    let f = own_bytes (ltb 1 same) e.key.family in
    let q = own_bytes (ltb 2 same) e.key.qualifier in
    let p = own_bytes (ltb 3 same) e.key.visibility in
    let t = big_bytes 8 (cast_unsigned w64 e.key.time) in
    let d = flag_bytes e.key.deleted in
    let w = value_bytes e.value in
    let key : List ℕ = ((((r ++ f) ++ q) ++ p) ++ t) ++ d in
    let family : ℕ = part_end (ltb 0 same) (at + n) (length e.key.row) in
    let qualifier : ℕ = part_end (ltb 1 same) family (length e.key.family) in
    let visibility : ℕ = part_end (ltb 2 same) qualifier (length e.key.qualifier) in
    omega (
      arith,
      l,
      own_end (ltb 0 same) (at + n) e.key.row,
      own_end (ltb 1 same) family e.key.family,
      own_end (ltb 2 same) qualifier e.key.qualifier,
      own_end (ltb 3 same) visibility e.key.visibility,
      length-append (same_bytes v same ++ key) w,
      length-append (same_bytes v same) key,
      length-append ((((r ++ f) ++ q) ++ p) ++ t) d,
      length-append (((r ++ f) ++ q) ++ p) t,
      length-append ((r ++ f) ++ q) p,
      length-append (r ++ f) q,
      length-append r f,
      one_flag e.key.deleted,
      length-append (big_bytes 4 (length e.value)) e.value,
    )

-- a part at a place is a slice, and what follows it
one_part : (bytes : List ℕ) (at : ℕ) (is_shared : Bool) (near : Stretch) (part rest : List ℕ) → drop at bytes ≡ own_bytes is_shared part ++ rest → part_end is_shared at (length part) ≤ length bytes
    → (is_shared ≡ true → IsSlice bytes near part) → IsSlice bytes (part_stretch is_shared near at (length part)) part × (drop (part_end is_shared at (length part)) bytes ≡ rest)
one_part bytes at true near part rest h within shared = (shared refl, h)
one_part bytes at false near part rest h within shared =
    let s = sized bytes at 2 (big_bytes 2 (length part)) part rest h refl in
    (record { order = omega arith; within = within; is = s.0 }, s.1)

-- the shared parts of a key are slices where those of the neighbour stand
pub record SharedSlices (bytes : List ℕ) (near : Outline) (same : ℕ) (k : CellKey) : Type 0 where
  pub row : ltb 0 same ≡ true → IsSlice bytes near.row k.row
  pub family : ltb 1 same ≡ true → IsSlice bytes near.family k.family
  pub qualifier : ltb 2 same ≡ true → IsSlice bytes near.qualifier k.qualifier
  pub visibility : ltb 3 same ≡ true → IsSlice bytes near.visibility k.visibility

pub shared_slices : (bytes : List ℕ) (near : Option Cell) (outline : Option Outline) (none : Outline) (e : Cell) → AreOutlined bytes near outline → SharedSlices bytes (unwrap_or outline none) (shared_parts near e) e.key
shared_slices bytes None None none e is = record { row = λ h. absurd cc; family = λ h. absurd cc; qualifier = λ h. absurd cc; visibility = λ h. absurd cc }
shared_slices bytes None (Some o) none e is = absurd is
shared_slices bytes (Some b) None none e is = absurd is
shared_slices bytes (Some b) (Some o) none e is =
    let shared = are_shared (Some b) e in
    let part = λ (stretch : Stretch) (part : CellKey → List ℕ) (s : (x : Cell) × (Some b ≡ Some x) × (part x.key ≡ part e.key)) (slice : IsSlice bytes stretch (part b.key)).
    let same : b ≡ s.0 = it b s.0 s.1 in subst (IsSlice bytes stretch) (ap (λ (x : Cell). part x.key) same ∙ s.2) slice in
    record {
      row = λ h. part o.row (λ k. k.row) (shared.row h) is.row;
      family = λ h. part o.family (λ k. k.family) (shared.family h) is.family;
      qualifier = λ h. part o.qualifier (λ k. k.qualifier) (shared.qualifier h) is.qualifier;
      visibility = λ h. part o.visibility (λ k. k.visibility) (shared.visibility h) is.visibility;
    }
  where
    it : (x y : Cell) → Some x ≡ Some y → x ≡ y
    it x y h = cc

up : (is_shared : Bool) (at n : ℕ) → at ≤ part_end is_shared at n
up true at n = omega arith
up false at n = omega arith

-- the time stands behind the parts
pub later : (same at : ℕ) (e : Cell) → at ≤ time_place same at e
later same at e =
    let family : ℕ = part_end (ltb 0 same) at (length e.key.row) in
    let qualifier : ℕ = part_end (ltb 1 same) family (length e.key.family) in
    let visibility : ℕ = part_end (ltb 2 same) qualifier (length e.key.qualifier) in
    omega (arith, up (ltb 0 same) at (length e.key.row), up (ltb 1 same) family (length e.key.family), up (ltb 2 same) qualifier (length e.key.qualifier), up (ltb 3 same) visibility (length e.key.visibility))

-- an entry at a place, as its outline finds it
pub parts : (bytes : List ℕ) (v : Version) (same at n : ℕ) (near : Outline) (e : Cell) (rest : List ℕ) → length (same_bytes v same) ≡ n → drop at bytes ≡ sharing_bytes v same e ++ rest
    → (outline_of near same (at + n) e).value.end ≤ length bytes → IsEntry e → SharedSlices bytes near same e.key → IsOutlined bytes e (outline_of near same (at + n) e)
unfolding sharing_bytes key_bytes
parts bytes v same at n near e rest l h within fits shared =
    let o = outline_of near same (at + n) e in
    let time : List ℕ = big_bytes 8 (cast_unsigned w64 e.key.time) in
    let flag : List ℕ = flag_bytes e.key.deleted in
    let value : List ℕ = value_bytes e.value ++ rest in
    let visibility : List ℕ = own_bytes (ltb 3 same) e.key.visibility ++ ((time ++ flag) ++ value) in
    let qualifier : List ℕ = own_bytes (ltb 2 same) e.key.qualifier ++ visibility in
    let family : List ℕ = own_bytes (ltb 1 same) e.key.family ++ qualifier in
    let row : List ℕ = own_bytes (ltb 0 same) e.key.row ++ family in
    let at_family : ℕ = part_end (ltb 0 same) (at + n) (length e.key.row) in
    let at_qualifier : ℕ = part_end (ltb 1 same) at_family (length e.key.family) in
    let at_visibility : ℕ = part_end (ltb 2 same) at_qualifier (length e.key.qualifier) in
    let at_time : ℕ = part_end (ltb 3 same) at_visibility (length e.key.visibility) in
    let u1 = up (ltb 1 same) at_family (length e.key.family) in
    let u2 = up (ltb 2 same) at_qualifier (length e.key.qualifier) in
    let u3 = up (ltb 3 same) at_visibility (length e.key.visibility) in
    let start : drop (at + n) bytes ≡ row = field bytes at n (same_bytes v same) row (h ∙ front (same_bytes v same) (own_bytes (ltb 0 same) e.key.row) (own_bytes (ltb 1 same) e.key.family) (own_bytes (ltb 2 same) e.key.qualifier) (own_bytes (ltb 3 same) e.key.visibility) time flag (value_bytes e.value) rest) l in
    let r = one_part bytes (at + n) (ltb 0 same) near.row e.key.row family start (omega (arith, u1, u2, u3, within)) shared.row in
    let f = one_part bytes at_family (ltb 1 same) near.family e.key.family qualifier r.1 (omega (arith, u2, u3, within)) shared.family in
    let q = one_part bytes at_qualifier (ltb 2 same) near.qualifier e.key.qualifier visibility f.1 (omega (arith, u3, within)) shared.qualifier in
    let p = one_part bytes at_visibility (ltb 3 same) near.visibility e.key.visibility ((time ++ flag) ++ value) q.1 (omega (arith, within)) shared.visibility in
    let w = sized bytes (at_time + 9) 4 (big_bytes 4 (length e.value)) e.value rest (field bytes at_time 9 (time ++ flag) value p.1 (fixed_length e)) refl in
    let begin : (at_time + 9) + 4 ≡ at_time + 13 = omega arith in
    let end : (at_time + 9) + (4 + length e.value) ≡ at_time + (13 + length e.value) = omega arith in
    record {
      row = r.0;
      family = f.0;
      qualifier = q.0;
      visibility = p.0;
      value = record { order = omega arith; within = within; is = ap (λ (i : ℕ). slice_range bytes i (at_time + (13 + length e.value))) (sym begin) ∙ ap (slice_range bytes ((at_time + 9) + 4)) (sym end) ∙ w.0 };
      time = refl;
      deleted = refl;
      is_entry = fits;
    }

-- ---- in longer bytes

slice_longer : (bytes more : List ℕ) (s : Stretch) (part : List ℕ) → IsSlice bytes s part → IsSlice (bytes ++ more) s part
slice_longer bytes more s part is =
    let order = is.order in
    let within = is.within in
    let from : drop s.start (bytes ++ more) ≡ drop s.start bytes ++ more = drop-append-le s.start bytes more (omega (arith, order, within)) in
    let all : take (s.end - s.start) (drop s.start bytes ++ more) ≡ take (s.end - s.start) (drop s.start bytes) = take-append-le (s.end - s.start) (drop s.start bytes) more (omega (arith, length-drop s.start bytes, order, within)) in
    record {
      order = order;
      within = omega (arith, within, length-append bytes more);
      is = ap (take (s.end - s.start)) from ∙ all ∙ is.is;
    }

pub outlined_longer : (bytes more : List ℕ) (e : Cell) (o : Outline) → IsOutlined bytes e o → IsOutlined (bytes ++ more) e o
outlined_longer bytes more e o is = record {
  row = slice_longer bytes more o.row e.key.row is.row;
  family = slice_longer bytes more o.family e.key.family is.family;
  qualifier = slice_longer bytes more o.qualifier e.key.qualifier is.qualifier;
  visibility = slice_longer bytes more o.visibility e.key.visibility is.visibility;
  value = slice_longer bytes more o.value e.value is.value;
  time = is.time;
  deleted = is.deleted;
  is_entry = is.is_entry;
}

-- ---- neighbours

-- the outline of a neighbour, if there is one
pub near_outlined : (bytes : List ℕ) (v : Version) (n : ℕ) (before : Option Cell) (o : Outline) → (has_neighbour v n ≡ true → (b : Cell) × (before ≡ Some b) × IsOutlined bytes b o)
    → AreOutlined bytes (neighbour v n before) (then_some (has_neighbour v n) o)
near_outlined bytes v n before o is = go (has_neighbour v n) refl
  where
    go : (b : Bool) → has_neighbour v n ≡ b → AreOutlined bytes (cond b before None) (then_some b o)
    go true h = let x = is h in subst (λ (near : Option Cell). AreOutlined bytes near (Some o)) (sym x.1) x.2
    go false h = tt

-- a block's first entry has none
pub no_near : (bytes : List ℕ) (v : Version) (k : ℕ) (before : Option Cell) → AreOutlined bytes (neighbour v (k * 64) before) None
no_near bytes v k before = go (has_neighbour v (k * 64)) (first v)
  where
    first : (v : Version) → has_neighbour v (k * 64) ≡ false
    first One = refl
    first Two = let whole : (k * 64) % 64 ≡ 0 = omega arith in ap (λ (n : ℕ). not (eqb n 0)) whole

    go : (b : Bool) → b ≡ false → AreOutlined bytes (cond b before None) None
    go true h = absurd cc
    go false h = tt

-- ---- in the image of a file

-- where an entry ends that was read at its place
pub entry_ends : (file : FileContents) (i at n next same : ℕ) (e : Cell) → i < length file.cells → at ≡ entry_place file.version file.cells i → length (same_bytes file.version same) ≡ n → slice_get file.cells i ≡ Some e
    → same ≡ shared_parts (near_at file.version file.cells i) e → next ≡ entry_place file.version file.cells (i + 1) → time_place same (at + n) e + (13 + length e.value) ≡ next
entry_ends file i at n next same e l place size is_entry greatest next_is =
    sym (entry_end file.version same at n e size) ∙ ap (λ (k : ℕ). k + length (sharing_bytes file.version same e)) place
    ∙ entry_length file.version file.cells i same e l is_entry (sym greatest) ∙ sym next_is

-- an entry that was read at its place
pub spot_is : (file : FileContents) (i at n : ℕ) (near : Option Outline) (none base : Outline) (same : ℕ) (e : Cell) (o : Outline) → IsFileList file.cells → i < length file.cells → at ≡ entry_place file.version file.cells i
    → AreOutlined (image_of file.version file.cells) (near_at file.version file.cells i) near → base ≡ unwrap_or near none → length (same_bytes file.version same) ≡ n → slice_get file.cells i ≡ Some e
    → shared_parts (near_at file.version file.cells i) e ≡ same → o ≡ outline_of base same (at + n) e → IsSpot file (record { index = i; outline = o })
spot_is file i at n near none base same e o is l place near_is base_is size is_entry greatest outline x is_x =
    let v = file.version in
    let list = file.cells in
    let image : List ℕ = image_of v list in
    let a = around list i l in
    let same_e : a.entry ≡ e = same_entry list i a e is_entry in
    let same_x : e ≡ x = sym same_e ∙ same_entry list i a x is_x in
    let rest : List ℕ = entries_from v (i + 1) (Some a.entry) a.behind ++ footer_bytes v list in
    let bytes : sharing_bytes v (shared_parts (near_at v list i) a.entry) a.entry ≡ sharing_bytes v same e = ap (λ (y : Cell). sharing_bytes v (shared_parts (near_at v list i) y) y) same_e ∙ ap (λ (k : ℕ). sharing_bytes v k e) greatest in
    let from : drop at image ≡ sharing_bytes v same e ++ rest = ap (λ (k : ℕ). drop k image) place ∙ entry_from v list i l a ∙ ap (λ (b : List ℕ). b ++ rest) bytes in
    let next : at + length (sharing_bytes v same e) ≡ entry_place v list (i + 1) = ap (λ (b : List ℕ). at + length b) (sym bytes) ∙ ap (λ (k : ℕ). k + length (sharing_bytes v (shared_parts (near_at v list i) a.entry) a.entry)) place ∙ next_place v list i l a in
    let end : (outline_of base same (at + n) e).value.end ≡ entry_place v list (i + 1) = sym (entry_end v same at n e size) ∙ next in
    let fits = the_entry_is IsFileEntry list i a is.entries in
    let slices = subst (λ (k : ℕ). SharedSlices image (unwrap_or near none) k e.key) greatest (shared_slices image (near_at v list i) near none e near_is) in
    let slices' = subst (λ (b : Outline). SharedSlices image b same e.key) (sym base_is) slices in
    let outlined = parts image v same at n base e rest size from (omega (arith, end, place_within v list (i + 1) (omega arith))) (subst IsEntry same_e fits.0) slices' in
    subst (λ (y : Cell). IsOutlined image y o × (o.value.end ≡ entry_place v list (i + 1))) same_x
    (subst (λ (p : Outline). IsOutlined image e p × (p.value.end ≡ entry_place v list (i + 1))) (sym outline) (outlined, end))

-- behind the last entry there is none
pub no_spot : (file : FileContents) (i : ℕ) (o : Outline) → length file.cells ≤ i → IsSpot file (record { index = i; outline = o })
no_spot file i o l e is = absurd (none file.cells i e l is)
  where
    none : (ys : List Cell) (j : ℕ) (e : Cell) → length ys ≤ j → slice_get ys j ≡ Some e → ⊥
    none [] j e l is = cc
    none (y ∷ ys) zero e l is = omega arith
    none (y ∷ ys) (suc j) e l is = none ys j e (omega arith) is
