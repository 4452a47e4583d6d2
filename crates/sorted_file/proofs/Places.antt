-- Where the entries of a file stand in its image.
use Rattle.std.proofs.Common.{◌≡◌, ℕ, zero, suc, ◌+◌, ◌<◌, ◌≤◌, List, [], ◌∷◌, ◌++◌, length, take, drop, Option, Some, None, slice_get, Result, Ok, Err, refl, sym, ap, subst, ◌∙◌, append_assoc, length-append, arith}
use Rattle.std.specs.List.{AllByRecursion, last_or}
use Rattle.std.proofs.lemmas.List.{drop_at, take-append-drop, length-take}
use Rattle.tablet_model.specs.Cell.{Cell}
use Rattle.tablet_model.specs.Bounds.{IsEntry, AreEntries}
use Rattle.tablet_model.proofs.Sums.{all_weaker}
use Rattle.byte_fields.specs.Fields.{Unread}
use Rattle.byte_fields.proofs.Fields.{ok_is, spot}
use Rattle.sorted_file.specs.Image.{magic, version_bytes, neighbour, shared_parts, sharing_bytes, entry_bytes, entries_from, entries_bytes, entry_place, footer_bytes, image_of}
use Rattle.sorted_file.specs.Lists.{IsFileEntry, IsFileList}
use Rattle.sorted_file.specs.Reading.{entry_at}
use Rattle.sorted_file.specs.declared.fault.Fault.{Fault}
use Rattle.sorted_file.specs.declared.version.Version.{Version}
use Rattle.sorted_file.proofs.Building.{entries_split, entries_push}
use Rattle.sorted_file.proofs.Entries.{entry_again}

-- a list around its entry i
pub record Around (list : List Cell) (i : ℕ) : Type 0 where
  pub entry : Cell
  pub behind : List Cell
  pub is_entry : slice_get list i ≡ Some entry
  pub from_entry : drop i list ≡ entry ∷ behind
  pub next : drop (i + 1) list ≡ behind
  pub up_to : take (i + 1) list ≡ take i list ++ entry ∷ []

pub around : (list : List Cell) (i : ℕ) → i < length list → Around list i
around [] i l = absurd (omega arith)
around (x ∷ xs) zero l = record { entry = x; behind = xs; is_entry = refl; from_entry = refl; next = refl; up_to = refl }
around (x ∷ xs) (suc i) l =
    let a = around xs i (omega arith) in
    let one : suc i + 1 ≡ suc (i + 1) = omega arith in
    record {
      entry = a.entry;
      behind = a.behind;
      is_entry = a.is_entry;
      from_entry = a.from_entry;
      next = ap (λ (n : ℕ). drop n (x ∷ xs)) one ∙ a.next;
      up_to = ap (λ (n : ℕ). take n (x ∷ xs)) one ∙ ap (λ (ys : List Cell). x ∷ ys) a.up_to;
    }

-- an entry of a list whose entries are all such
entry_is : (P : Cell → Type 0) (list : List Cell) (i : ℕ) (e : Cell) (es : List Cell) → AllByRecursion P list → drop i list ≡ e ∷ es → P e
entry_is P [] zero e es all is = absurd cc
entry_is P [] (suc i) e es all is = absurd cc
entry_is P (x ∷ xs) zero e es all is = let same : x ≡ e = cc in subst P same all.0
entry_is P (x ∷ xs) (suc i) e es all is = entry_is P xs i e es all.1 is

-- the neighbour of the entry i
abbrev pub near_at : Version → List Cell → ℕ → Option Cell
near_at v list i = neighbour v i (last_or None (take i list))

split : (v : Version) (list : List Cell) (i : ℕ) → i ≤ length list → entries_bytes v list ≡ entries_bytes v (take i list) ++ entries_from v i (last_or None (take i list)) (drop i list)
split v list i l =
    let front : 0 + length (take i list) ≡ i = omega (arith, length-take i list) in
    ap (entries_bytes v) (sym (take-append-drop i list)) ∙ entries_split v 0 None (take i list) (drop i list)
    ∙ ap (λ (n : ℕ). entries_bytes v (take i list) ++ entries_from v n (last_or None (take i list)) (drop i list)) front

-- the image from the place of an entry on
image_from : (v : Version) (list : List Cell) (i : ℕ) → i ≤ length list → drop (entry_place v list i) (image_of v list) ≡ entries_from v i (last_or None (take i list)) (drop i list) ++ footer_bytes v list
unfolding image_of
image_from v list i l =
    let head : List ℕ = magic ++ version_bytes v in
    let front : List ℕ = entries_bytes v (take i list) in
    let back : List ℕ = entries_from v i (last_or None (take i list)) (drop i list) in
    let footer : List ℕ = footer_bytes v list in
    let whole : (head ++ entries_bytes v list) ++ footer ≡ (head ++ front) ++ (back ++ footer) =
    ap (λ (r : List ℕ). (head ++ r) ++ footer) (split v list i l) ∙ ap (λ (r : List ℕ). r ++ footer) (sym (append_assoc head front back)) ∙ append_assoc (head ++ front) back footer in
    ap (drop (entry_place v list i)) whole ∙ drop_at (head ++ front) (back ++ footer) (entry_place v list i) (length-append head front)

-- a place lies within the image
pub place_within : (v : Version) (list : List Cell) (i : ℕ) → i ≤ length list → entry_place v list i ≤ length (image_of v list)
unfolding image_of
place_within v list i l =
    let head : List ℕ = magic ++ version_bytes v in
    omega (arith, length-append (head ++ entries_bytes v list) (footer_bytes v list), length-append head (entries_bytes v list), ap length (split v list i l), length-append (entries_bytes v (take i list)) (entries_from v i (last_or None (take i list)) (drop i list)))

pub entries_within : (v : Version) (list : List Cell) → length (entries_bytes v list) < length (image_of v list)
unfolding image_of
entries_within v list =
    let head : List ℕ = magic ++ version_bytes v in
    omega (arith, length-append (head ++ entries_bytes v list) (footer_bytes v list), length-append head (entries_bytes v list))

-- the image from an entry on
pub entry_from : (v : Version) (list : List Cell) (i : ℕ) → i < length list → (a : Around list i)
    → drop (entry_place v list i) (image_of v list) ≡ entry_bytes v (near_at v list i) a.entry ++ (entries_from v (i + 1) (Some a.entry) a.behind ++ footer_bytes v list)
entry_from v list i l a =
    image_from v list i (omega arith) ∙ ap (λ (x : List Cell). entries_from v i (last_or None (take i list)) x ++ footer_bytes v list) a.from_entry
    ∙ append_assoc (entry_bytes v (near_at v list i) a.entry) (entries_from v (i + 1) (Some a.entry) a.behind) (footer_bytes v list)

-- the place behind it
pub next_place : (v : Version) (list : List Cell) (i : ℕ) → i < length list → (a : Around list i) → entry_place v list i + length (entry_bytes v (near_at v list i) a.entry) ≡ entry_place v list (i + 1)
next_place v list i l a =
    let front : length (take i list) ≡ i = omega (arith, length-take i list) in
    let near : entry_bytes v (neighbour v (length (take i list)) (last_or None (take i list))) a.entry ≡ entry_bytes v (near_at v list i) a.entry = ap (λ (n : ℕ). entry_bytes v (neighbour v n (last_or None (take i list))) a.entry) front in
    omega (arith, ap (λ (x : List Cell). length (entries_bytes v x)) a.up_to, ap length (entries_push v (take i list) a.entry), length-append (entries_bytes v (take i list)) (entry_bytes v (neighbour v (length (take i list)) (last_or None (take i list))) a.entry), ap length near)

-- the neighbour of the next entry may be this one
pub last_up_to : (list : List Cell) (i : ℕ) → (a : Around list i) → last_or None (take (i + 1) list) ≡ Some a.entry
last_up_to list i a = ap (last_or None) a.up_to ∙ last_push None (take i list) a.entry
  where
    last_push : (before : Option Cell) (xs : List Cell) (e : Cell) → last_or before (xs ++ e ∷ []) ≡ Some e
    last_push before [] e = refl
    last_push before (x ∷ xs) e = last_push (Some x) xs e

pub the_entry_is : (P : Cell → Type 0) (list : List Cell) (i : ℕ) → (a : Around list i) → AllByRecursion P list → P a.entry
the_entry_is P list i a all = entry_is P list i a.entry a.behind all a.from_entry

-- what is read at the place of an entry
entry_found : (v : Version) (list : List Cell) (i : ℕ) → IsFileList list → i < length list → (a : Around list i)
    → entry_at v (near_at v list i) (spot (entry_place v list i) (drop (entry_place v list i) (image_of v list)))
    ≡ Ok ((shared_parts (near_at v list i) a.entry, a.entry), spot (entry_place v list (i + 1)) (entries_from v (i + 1) (Some a.entry) a.behind ++ footer_bytes v list))
entry_found v list i is l a =
    let near = near_at v list i in
    let rest : List ℕ = entries_from v (i + 1) (Some a.entry) a.behind ++ footer_bytes v list in
    ap (λ (b : List ℕ). entry_at v near (spot (entry_place v list i) b)) (entry_from v list i l a)
    ∙ entry_again v i (last_or None (take i list)) a.entry (the_entry_is IsFileEntry list i a is.entries) (entry_place v list i) rest
    ∙ ap (λ (p : ℕ). Ok ((shared_parts near a.entry, a.entry), spot p rest)) (next_place v list i l a)

-- bytes are read from the place of an entry of a file on
pub record IsAt (v : Version) (list : List Cell) (i place : ℕ) (near : Option Cell) (rest : List ℕ) : Type 0 where
  pub list_is : IsFileList list
  pub inside : i < length list
  pub place_is : place ≡ entry_place v list i
  pub near_is : near ≡ near_at v list i
  pub rest_is : rest ≡ drop place (image_of v list)

entry_read : (v : Version) (list : List Cell) (i place : ℕ) (near : Option Cell) (rest : List ℕ) → IsAt v list i place near rest → (a : Around list i)
    → entry_at v near (spot place rest) ≡ Ok ((shared_parts (near_at v list i) a.entry, a.entry), spot (entry_place v list (i + 1)) (entries_from v (i + 1) (Some a.entry) a.behind ++ footer_bytes v list))
entry_read v list i place near rest is a =
    ap (λ (n : Option Cell). entry_at v n (spot place rest)) is.near_is ∙ ap (λ (b : List ℕ). entry_at v (near_at v list i) (spot place b)) is.rest_is
    ∙ ap (λ (p : ℕ). entry_at v (near_at v list i) (spot p (drop p (image_of v list)))) is.place_is ∙ entry_found v list i is.list_is is.inside a

never : {A : Type 0} (r : Result A Fault) (x : A) (f : Fault) → r ≡ Ok x → r ≡ Err f → ⊥
never r x f p q = let e : Ok x ≡ Err f = sym p ∙ q in absurd cc

-- the bytes of an entry that was read lie between its place and the next one's
pub entry_length : (v : Version) (list : List Cell) (i same : ℕ) (e : Cell) → i < length list → slice_get list i ≡ Some e → shared_parts (near_at v list i) e ≡ same → entry_place v list i + length (sharing_bytes v same e) ≡ entry_place v list (i + 1)
entry_length v list i same e l is greatest =
    let a = around list i l in
    let same_e : a.entry ≡ e = got a.entry e (sym a.is_entry ∙ is) in
    let bytes : sharing_bytes v (shared_parts (near_at v list i) a.entry) a.entry ≡ sharing_bytes v same e = ap (λ (y : Cell). sharing_bytes v (shared_parts (near_at v list i) y) y) same_e ∙ ap (λ (k : ℕ). sharing_bytes v k e) greatest in
    ap (λ (b : List ℕ). entry_place v list i + length b) (sym bytes) ∙ next_place v list i l a
  where
    got : (x y : Cell) → Some x ≡ Some y → x ≡ y
    got x y h = cc

-- there is an entry
pub no_fault : (v : Version) (list : List Cell) (i place : ℕ) (near : Option Cell) (rest : List ℕ) (f : Fault) → IsAt v list i place near rest → entry_at v near (spot place rest) ≡ Err f → ⊥
no_fault v list i place near rest f is e =
    let a = around list i is.inside in
    never (entry_at v near (spot place rest)) ((shared_parts (near_at v list i) a.entry, a.entry), spot (entry_place v list (i + 1)) (entries_from v (i + 1) (Some a.entry) a.behind ++ footer_bytes v list)) f (entry_read v list i place near rest is a) e

-- it is the entry of the list, shares as many parts as may be, and the next one follows it
pub entry_and_next : (v : Version) (list : List Cell) (i place : ℕ) (near : Option Cell) (rest : List ℕ) (same : ℕ) (e : Cell) (w : Unread) → IsAt v list i place near rest → entry_at v near (spot place rest) ≡ Ok ((same, e), w)
    → (slice_get list i ≡ Some e) × (w.at ≡ entry_place v list (i + 1)) × (shared_parts (near_at v list i) e ≡ same)
entry_and_next v list i place near rest same e w is read =
    let a = around list i is.inside in
    let near' = near_at v list i in
    let both = ok_is ((shared_parts near' a.entry, a.entry), spot (entry_place v list (i + 1)) (entries_from v (i + 1) (Some a.entry) a.behind ++ footer_bytes v list)) ((same, e), w) (sym (entry_read v list i place near rest is a) ∙ read) in
    let same_e : a.entry ≡ e = ap (λ (x : (ℕ × Cell) × Unread). x.0.1) both in
    (a.is_entry ∙ ap (λ (x : Cell). Some x) same_e, sym (ap (λ (x : (ℕ × Cell) × Unread). x.1.at) both), ap (shared_parts near') (sym same_e) ∙ ap (λ (x : (ℕ × Cell) × Unread). x.0.0) both)

-- the entries of a file are within the bounds of keys and times
pub bounded : (list : List Cell) → IsFileList list → AreEntries list
bounded list is = all_weaker IsFileEntry IsEntry (λ e h. h.0) list is.entries
