-- An image is read as its list, and what is read is the image of what was read.
use Rattle.std.proofs.Common.{◌≡◌, ℕ, zero, suc, ◌+◌, ◌^◌, ◌<◌, ◌≤◌, Bool, true, false, cond, eqb, ltb, List, [], ◌∷◌, ◌++◌, length, get_or, Option, None, Some, Result, Ok, Err, refl, sym, ap, subst, ◌∙◌, append_assoc, length-append, arith, eq-eqb}
use Rattle.std.specs.Int.{w64, cast_unsigned}
use Rattle.std.specs.List.{AllByRecursion}
use Rattle.std.proofs.lemmas.Bool.{eqb-true}
use Rattle.std.proofs.lemmas.Bool.Decides.{nat_tests}
use Rattle.std.proofs.lemmas.List.Concat.{flat_map-cons}
use Rattle.byteorder.specs.Endian.{big_bytes}
use Rattle.tablet_model.specs.Cell.{Cell}
use Rattle.byte_fields.specs.Fields.{◌>>=◌, Unread, number_at}
use Rattle.byte_fields.proofs.Fields.{bind_ok, then_ok, else_ok, ok_is, IsBytes, spot, Takes, Takes-then, bytes_again, wide2, number_again}
use Rattle.iter_contract.specs.Following.{is_out_of_order}
use Rattle.iter_contract.proofs.Following.{Follows}
use Rattle.sorted_file.specs.Image.{part_bytes, own_bytes, flag_bytes, value_bytes, key_bytes, neighbour, shared_parts, sharing_bytes, entry_bytes, entries_from, index_bytes}
use Rattle.sorted_file.specs.Versions.{end_mark, same_bytes}
use Rattle.sorted_file.specs.Lists.{IsFileEntry}
use Rattle.sorted_file.specs.Reading.{fault, whole_field, expected_at, most_shared, end_at, entry_at, next_entry_at, entries_at, index_at}
use Rattle.sorted_file.specs.declared.fault.Fault.{Fault}
use Rattle.sorted_file.specs.declared.fault.ImageCause.TheVariants.{Order, Shared, Index}
use Rattle.sorted_file.specs.declared.version.Version.{Version}
use Rattle.sorted_file.specs.declared.version.Version.TheVariants.{One, Two}
use Rattle.sorted_file.proofs.Parts.{expected_again, expected_take, end_again, end_take}
use Rattle.sorted_file.proofs.SharedParts.{IsNear, near_some, IsNear-neighbour, shared_few}
use Rattle.sorted_file.proofs.Entries.{entry_again, entry_take}

-- ---- the front of an entry

length_sharing : (v : Version) (same : ℕ) (e : Cell) → 2 ≤ length (sharing_bytes v same e)
unfolding sharing_bytes key_bytes
length_sharing v same e =
    let time : List ℕ = big_bytes 8 (cast_unsigned w64 e.key.time) in
    let parts : List ℕ = own_bytes (ltb 0 same) e.key.row ++ own_bytes (ltb 1 same) e.key.family ++ own_bytes (ltb 2 same) e.key.qualifier ++ own_bytes (ltb 3 same) e.key.visibility in
    let key : List ℕ = parts ++ time ++ flag_bytes e.key.deleted in
    omega (arith, length-append (same_bytes v same ++ key) (value_bytes e.value), length-append (same_bytes v same) key, length-append (parts ++ time) (flag_bytes e.key.deleted), length-append parts time)

pub length_entry : (v : Version) (near : Option Cell) (e : Cell) → 2 ≤ length (entry_bytes v near e)
length_entry v near e = length_sharing v (shared_parts near e) e

pub length_list : (v : Version) (n : ℕ) (before : Option Cell) (list : List Cell) → length list ≤ length (entries_from v n before list)
length_list v n before [] = omega arith
length_list v n before (e ∷ es) =
    omega (arith, length_entry v (neighbour v n before) e, length_list v (n + 1) (Some e) es, length-append (entry_bytes v (neighbour v n before) e) (entries_from v (n + 1) (Some e) es))

front : (n row f q v t d w rest : List ℕ) → ((((((n ++ row) ++ f) ++ q) ++ v) ++ t) ++ d) ++ w ++ rest ≡ n ++ (row ++ (f ++ (q ++ (v ++ (t ++ (d ++ (w ++ rest)))))))
front n row f q v t d w rest = simp append_assoc

row_some : (n : ℕ) → 1 ≤ n → eqb n 0 ≡ false
row_some n h = grind (arith, nat_tests)

no_mark : (n : ℕ) → n ≤ 4 → eqb n 255 ≡ false
no_mark n h = grind (arith, nat_tests)

most_four : (near : Option Cell) → most_shared near ≤ 4
most_four None = omega arith
most_four (Some e) = omega arith

-- no entry begins with an end mark: the row's length is above 0, and the number of shared parts below 255
not_end : (v : Version) (n : ℕ) (before : Option Cell) (e : Cell) (at : ℕ) (rest : List ℕ) → IsFileEntry e
    → (w : Unread) × (end_at v (spot at (entry_bytes v (neighbour v n before) e ++ rest)) ≡ Ok (false, w))
unfolding end_at sharing_bytes key_bytes
not_end One n before e at rest is =
    let size = big_bytes 2 (length e.key.row) in
    let f = part_bytes e.key.family in
    let q = part_bytes e.key.qualifier in
    let v = part_bytes e.key.visibility in
    let t = big_bytes 8 (cast_unsigned w64 e.key.time) in
    let d = flag_bytes e.key.deleted in
    let w = value_bytes e.value in
    let behind : List ℕ = e.key.row ++ (f ++ (q ++ (v ++ (t ++ (d ++ (w ++ rest)))))) in
    let row : number_at 2 (spot at (size ++ behind)) ≡ Ok (length e.key.row, spot (at + 2) behind) = number_again 2 (2 ^ 16) wide2 (length e.key.row) (omega (arith, is.0.0.1)) at behind in (
      spot (at + 2) behind,
      ap (λ (bytes : List ℕ). whole_field (number_at 2 (spot at bytes)) >>= λ row. Ok (eqb row.0 0, row.1)) (front size e.key.row f q v t d w rest)
          ∙ ap (λ (r : Result (ℕ × Unread) ℕ). whole_field r >>= λ row. Ok (eqb row.0 0, row.1)) row ∙ ap (λ (b : Bool). Ok (b, spot (at + 2) behind)) (row_some (length e.key.row) is.0.0.0),
    )
not_end Two n before e at rest is =
    let near = neighbour Two n before in
    let same = shared_parts near e in
    let behind : List ℕ = (key_bytes same e.key ++ value_bytes e.value) ++ rest in
    let few : same ≤ 4 = omega (arith, shared_few near e, most_four near) in (
      spot (at + 1) behind,
      ap (λ (r : Result (List ℕ × Unread) ℕ). whole_field r >>= λ same. Ok (eqb (get_or same.0 0 0) 255, same.1)) (bytes_again (same ∷ []) 1 refl at behind)
          ∙ ap (λ (b : Bool). Ok (b, spot (at + 1) behind)) (no_mark same few),
    )

-- ---- entries up to the end mark

itself : (n : ℕ) → eqb n n ≡ true
itself n = eq-eqb n n refl

-- what the reading of one entry comes to
next_again : (v : Version) (n : ℕ) (before : Option Cell) (e : Cell) (at : ℕ) (rest : List ℕ) → IsFileEntry e → is_out_of_order before e ≡ false
    → next_entry_at v n before (spot at (entry_bytes v (neighbour v n before) e ++ rest)) ≡ Ok (e, spot (at + length (entry_bytes v (neighbour v n before) e)) rest)
unfolding next_entry_at
next_again v n before e at rest is ordered = rw (entry_again v n before e is at rest, itself (shared_parts (neighbour v n before) e), ordered) refl

pub entries_again : (v : Version) (most n : ℕ) (before : Option Cell) (list : List Cell) (at : ℕ) (rest : List ℕ) → length list < most → Follows before list → AllByRecursion IsFileEntry list
    → entries_at v most n before (spot at (entries_from v n before list ++ (end_mark v ++ rest))) ≡ Ok (list, spot (at + (length (entries_from v n before list) + length (end_mark v))) rest)
unfolding entries_at
entries_again v zero n before list at rest few f is = absurd (omega arith)
entries_again v (suc most) n before [] at rest few f is =
    let place : at + length (end_mark v) ≡ at + (0 + length (end_mark v)) = omega arith in
    rw (end_again v at rest) (ap (λ (p : ℕ). Ok ([], spot p rest)) place)
entries_again v (suc most) n before (e ∷ es) at rest few f is =
    let first : List ℕ = entry_bytes v (neighbour v n before) e in
    let behind : List ℕ = entries_from v (n + 1) (Some e) es in
    let tail : List ℕ = behind ++ (end_mark v ++ rest) in
    let bytes : (first ++ behind) ++ (end_mark v ++ rest) ≡ first ++ tail = append_assoc first behind (end_mark v ++ rest) in
    let end = not_end v n before e at tail is.0 in
    let after : ℕ = at + length first in
    let others = entries_again v most (n + 1) (Some e) es after rest (omega arith) f.1 is.1 in
    let place : after + (length behind + length (end_mark v)) ≡ at + (length (first ++ behind) + length (end_mark v)) = omega (arith, length-append first behind) in
    ap (λ (b : List ℕ). entries_at v (suc most) n before (spot at b)) bytes
    ∙ rw (end.1, next_again v n before e at tail is.0 f.0, others) (ap (λ (p : ℕ). Ok (e ∷ es, spot p rest)) place)

pub next_take : (v : Version) (n : ℕ) (before : Option Cell) (u : Unread) (x : Cell × Unread) → IsBytes u.rest → IsNear before → next_entry_at v n before u ≡ Ok x
    → Takes u (entry_bytes v (neighbour v n before) x.0) x.1 × IsFileEntry x.0 × (is_out_of_order before x.0 ≡ false)
unfolding next_entry_at
next_take v n before u x fits is_near e =
    let near = neighbour v n before in
    let ordered = λ (entry : (ℕ × Cell) × Unread). cond (is_out_of_order before entry.0.1) (Err (fault Order u.at)) (Ok (entry.0.1, entry.1)) in
    let b = bind_ok (entry_at v near u) (λ entry. cond (eqb (shared_parts near entry.0.1) entry.0.0) (ordered entry) (Err (fault Shared u.at))) x e in
    let g = then_ok (eqb (shared_parts near b.0.0.1) b.0.0.0) (fault Shared u.at) (ordered b.0) x b.2 in
    let h = else_ok (is_out_of_order before b.0.0.1) (fault Order u.at) (Ok (b.0.0.1, b.0.1)) x g.1 in
    let t = entry_take v near u b.0 fits (IsNear-neighbour v n before is_near) b.1 in
    let greatest : b.0.0.0 ≡ shared_parts near b.0.0.1 = sym (eqb-true _ _ g.0) in
    subst (λ (y : Cell × Unread). Takes u (entry_bytes v near y.0) y.1 × IsFileEntry y.0 × (is_out_of_order before y.0 ≡ false)) (ok_is (b.0.0.1, b.0.1) x h.1)
    (subst (λ (same : ℕ). Takes u (sharing_bytes v same b.0.0.1) b.0.1) greatest t.0, t.1, h.0)

-- entries that were read
pub record AreRead (v : Version) (n : ℕ) (before : Option Cell) (u : Unread) (x : List Cell × Unread) : Type 0 where
  pub taken : Takes u (entries_from v n before x.0 ++ end_mark v) x.1
  pub follow : Follows before x.0
  pub entries : AllByRecursion IsFileEntry x.0

one_more : (v : Version) (n : ℕ) (before : Option Cell) (u : Unread) (a : Cell × Unread) (b : List Cell × Unread) → Takes u (entry_bytes v (neighbour v n before) a.0) a.1 → IsFileEntry a.0 → is_out_of_order before a.0 ≡ false
    → AreRead v (n + 1) (Some a.0) a.1 b → AreRead v n before u (a.0 ∷ b.0, b.1)
one_more v n before u a b t is ordered r =
    let first : List ℕ = entry_bytes v (neighbour v n before) a.0 in
    let behind : List ℕ = entries_from v (n + 1) (Some a.0) b.0 in
    record {
      taken = subst (λ (text : List ℕ). Takes u text b.1) (sym (append_assoc first behind (end_mark v))) (Takes-then u first a.1 (behind ++ end_mark v) b.1 t r.taken);
      follow = (ordered, r.follow);
      entries = (is, r.entries);
    }

-- what is read where the end mark may stand
abbrev pub behind_end : Version → ℕ → ℕ → Option Cell → Unread → Bool × Unread → Result (List Cell × Unread) Fault
behind_end v most n before u end =
    cond end.0 (Ok ([], end.1)) (next_entry_at v n before u >>= λ entry. entries_at v most (n + 1) (Some entry.0) entry.1 >>= λ entries. Ok (entry.0 ∷ entries.0, entries.1))

by_end : (v : Version) (most n : ℕ) (before : Option Cell) (u : Unread) (x : List Cell × Unread) (w : Unread) → IsBytes u.rest → IsNear before
    → ((n : ℕ) (before : Option Cell) (u : Unread) (x : List Cell × Unread) → IsBytes u.rest → IsNear before → entries_at v most n before u ≡ Ok x → AreRead v n before u x)
    → (b : Bool) → end_at v u ≡ Ok (b, w) → behind_end v most n before u (b, w) ≡ Ok x → AreRead v n before u x
by_end v most n before u x w fits is_near others true is r =
    subst (AreRead v n before u) (ok_is ([], w) x r) (record { taken = end_take v u w fits is; follow = tt; entries = tt })
by_end v most n before u x w fits is_near others false is r =
    let a = bind_ok (next_entry_at v n before u) (λ entry. entries_at v most (n + 1) (Some entry.0) entry.1 >>= λ entries. Ok (entry.0 ∷ entries.0, entries.1)) x r in
    let first = next_take v n before u a.0 fits is_near a.1 in
    let b = bind_ok (entries_at v most (n + 1) (Some a.0.0) a.0.1) (λ entries. Ok (a.0.0 ∷ entries.0, entries.1)) x a.2 in
    subst (AreRead v n before u) (ok_is (a.0.0 ∷ b.0.0, b.0.1) x b.2)
    (one_more v n before u a.0 b.0 first.0 first.1 first.2 (others (n + 1) (Some a.0.0) a.0.1 b.0 first.0.rest_fits (near_some a.0.0 first.1.0) b.1))

pub entries_take : (v : Version) (most n : ℕ) (before : Option Cell) (u : Unread) (x : List Cell × Unread) → IsBytes u.rest → IsNear before → entries_at v most n before u ≡ Ok x → AreRead v n before u x
unfolding entries_at
entries_take v zero n before u x fits is_near e = absurd cc
entries_take v (suc most) n before u x fits is_near e =
    let end = bind_ok (end_at v u) (behind_end v most n before u) x e in
    by_end v most n before u x end.0.1 fits is_near (λ n before u x fits is_near e. entries_take v most n before u x fits is_near e) end.0.0 end.1 end.2

-- ---- the index and the end

pub index_again : (places : List ℕ) (at : ℕ) (rest : List ℕ) → index_at places (spot at (index_bytes places ++ rest)) ≡ Ok (spot (at + length (index_bytes places)) rest)
unfolding index_at
index_again [] at rest = let same : at ≡ at + 0 = omega arith in ap (λ (p : ℕ). Ok (spot p rest)) same
index_again (place ∷ places) at rest =
    let word : List ℕ = big_bytes 8 place in
    let bytes : index_bytes (place ∷ places) ++ rest ≡ word ++ (index_bytes places ++ rest) = ap (λ (b : List ℕ). b ++ rest) (flat_map-cons (big_bytes 8) place places) ∙ append_assoc word (index_bytes places) rest in
    let length_is : (at + length word) + length (index_bytes places) ≡ at + length (index_bytes (place ∷ places)) = omega (arith, ap length (flat_map-cons (big_bytes 8) place places), length-append word (index_bytes places)) in
    ap (λ (b : List ℕ). index_at (place ∷ places) (spot at b)) bytes
    ∙ ap (λ (r : Result Unread Fault). r >>= index_at places) (expected_again Index word at (index_bytes places ++ rest))
    ∙ index_again places (at + length word) rest ∙ ap (λ (p : ℕ). Ok (spot p rest)) length_is

pub index_take : (places : List ℕ) (u v : Unread) → IsBytes u.rest → index_at places u ≡ Ok v → Takes u (index_bytes places) v
unfolding index_at
index_take [] u v fits e = subst (Takes u []) (ok_is u v e) (record { parts = refl; place = omega arith; rest_fits = fits })
index_take (place ∷ places) u v fits e =
    let a = bind_ok (expected_at Index (big_bytes 8 place) u) (index_at places) v e in
    let first = expected_take Index (big_bytes 8 place) u a.0 fits a.1 in
    subst (λ (text : List ℕ). Takes u text v) (sym (flat_map-cons (big_bytes 8) place places))
    (Takes-then u (big_bytes 8 place) a.0 (index_bytes places) v first (index_take places a.0 v first.rest_fits a.2))
