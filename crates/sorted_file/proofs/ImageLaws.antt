-- The two laws of images: each is read as its list, and what is read is the image of what was read.
use Rattle.std.proofs.Common.{◌≡◌, ℕ, ◌+◌, ◌<◌, cond, eqb, List, [], ◌++◌, length, None, Result, Ok, Err, refl, sym, ap, subst, ◌∙◌, append_assoc, length-append, arith}
use Rattle.byteorder.specs.Endian.{big_bytes}
use Rattle.std.proofs.lemmas.Bool.{eqb-true}
use Rattle.std.proofs.lemmas.List.{append-nil, nil_from_length}
use Rattle.tablet_model.specs.Cell.{Cell}
use Rattle.byte_fields.specs.Fields.{◌>>=◌, Unread}
use Rattle.byte_fields.proofs.Fields.{bind_ok, then_ok, ok_is, IsBytes, spot, Takes, Takes-then}
use Rattle.iter_contract.proofs.Following.{ascends_follows, follows_ascends}
use Rattle.sorted_file.specs.Contents.{FileContents}
use Rattle.sorted_file.specs.Image.{magic, version_bytes, end_magic, entries_bytes, block_places, index_bytes, image_of}
use Rattle.sorted_file.specs.Versions.{end_mark}
use Rattle.sorted_file.specs.Lists.{IsFileList}
use Rattle.sorted_file.specs.Reading.{fault, expected_at, version_at, head_at, entries_at, index_at, footer_at, image_reading}
use Rattle.sorted_file.specs.declared.fault.Fault.{Fault}
use Rattle.sorted_file.specs.declared.fault.ImageCause.TheVariants.{Magic, Tail}
use Rattle.sorted_file.specs.declared.version.Version.{Version}
use Rattle.sorted_file.proofs.Parts.{expected_again, expected_take, version_again, version_take}
use Rattle.sorted_file.proofs.SharedParts.{near_none}
use Rattle.sorted_file.proofs.Images.{length_list, entries_again, entries_take, index_again, index_take}

-- ---- what stands behind the entries

-- behind the end mark
abbrev pub rest_bytes : Version → List Cell → List ℕ
rest_bytes v list = index_bytes (block_places v list) ++ (big_bytes 8 (length list) ++ end_magic)

footer_again : (places : List ℕ) (count at : ℕ) → (end : ℕ) × (footer_at places count (spot at (index_bytes places ++ (big_bytes 8 count ++ end_magic))) ≡ Ok (spot end []))
unfolding footer_at
footer_again places count at =
    let index : ℕ = at + length (index_bytes places) in
    let number : List ℕ = big_bytes 8 count in
    let end : expected_at Tail end_magic (spot (index + length number) end_magic) ≡ Ok (spot (index + length number + 4) []) = expected_again Tail end_magic (index + length number) [] in (
      index + length number + 4,
      ap (λ (r : Result Unread Fault). r >>= λ u. expected_at Tail number u >>= λ v. expected_at Tail end_magic v >>= λ w. cond (eqb (length w.rest) 0) (Ok w) (Err (fault Tail w.at))) (index_again places at (number ++ end_magic))
          ∙ ap (λ (r : Result Unread Fault). r >>= λ v. expected_at Tail end_magic v >>= λ w. cond (eqb (length w.rest) 0) (Ok w) (Err (fault Tail w.at))) (expected_again Tail number index end_magic)
          ∙ ap (λ (r : Result Unread Fault). r >>= λ w. cond (eqb (length w.rest) 0) (Ok w) (Err (fault Tail w.at))) end,
    )

footer_take : (places : List ℕ) (count : ℕ) (u v : Unread) → IsBytes u.rest → footer_at places count u ≡ Ok v → u.rest ≡ index_bytes places ++ (big_bytes 8 count ++ end_magic)
unfolding footer_at
footer_take places count u v fits e =
    let number : List ℕ = big_bytes 8 count in
    let a = bind_ok (index_at places u) (λ r. expected_at Tail number r >>= λ w. expected_at Tail end_magic w >>= λ z. cond (eqb (length z.rest) 0) (Ok z) (Err (fault Tail z.at))) v e in
    let a' = index_take places u a.0 fits a.1 in
    let b = bind_ok (expected_at Tail number a.0) (λ w. expected_at Tail end_magic w >>= λ z. cond (eqb (length z.rest) 0) (Ok z) (Err (fault Tail z.at))) v a.2 in
    let b' = expected_take Tail number a.0 b.0 a'.rest_fits b.1 in
    let d = bind_ok (expected_at Tail end_magic b.0) (λ z. cond (eqb (length z.rest) 0) (Ok z) (Err (fault Tail z.at))) v b.2 in
    let d' = expected_take Tail end_magic b.0 d.0 b'.rest_fits d.1 in
    let g = then_ok (eqb (length d.0.rest) 0) (fault Tail d.0.at) (Ok d.0) v d.2 in
    let nothing : d.0.rest ≡ [] = nil_from_length d.0.rest (eqb-true _ _ g.0) in
    let end : b.0.rest ≡ end_magic = d'.parts ∙ ap (λ (r : List ℕ). end_magic ++ r) nothing ∙ append-nil end_magic in
    a'.parts ∙ ap (λ (r : List ℕ). index_bytes places ++ r) (b'.parts ∙ ap (λ (r : List ℕ). number ++ r) end)

-- ---- images

grouped : (m v e k i c z : List ℕ) → (m ++ v) ++ e ++ (k ++ i ++ c ++ z) ≡ m ++ (v ++ (e ++ (k ++ (i ++ (c ++ z)))))
grouped m v e k i c z = simp append_assoc

-- what stands behind the version
abbrev body_bytes : Version → List Cell → List ℕ
body_bytes v list = entries_bytes v list ++ (end_mark v ++ rest_bytes v list)

pub image_is : (v : Version) (list : List Cell) → image_of v list ≡ magic ++ (version_bytes v ++ body_bytes v list)
unfolding image_of
image_is v list = grouped magic (version_bytes v) (entries_bytes v list) (end_mark v) (index_bytes (block_places v list)) (big_bytes 8 (length list)) end_magic

few : (v : Version) (list : List Cell) → length list < length (image_of v list)
few v list =
    let all : List ℕ = body_bytes v list in
    omega (arith, ap length (image_is v list), length-append magic (version_bytes v ++ all), length-append (version_bytes v) all, length-append (entries_bytes v list) (end_mark v ++ rest_bytes v list), length_list v 0 None list)

-- what is read behind the entries
abbrev after_entries : Version → List Cell × Unread → Result FileContents Fault
after_entries v entries = footer_at (block_places v entries.0) (length entries.0) entries.1 >>= λ end. Ok (record { version = v; cells = entries.0 })

-- what is read behind the magic and the version
abbrev pub body_at : List ℕ → Version × Unread → Result FileContents Fault
body_at bytes start = entries_at start.0 (length bytes) 0 None start.1 >>= after_entries start.0

head_again : (v : Version) (at : ℕ) (rest : List ℕ) → head_at (spot at (magic ++ (version_bytes v ++ rest))) ≡ Ok (v, spot (at + 4 + 1) rest)
unfolding head_at
head_again v at rest = ap (λ (r : Result Unread Fault). r >>= version_at) (expected_again Magic magic at (version_bytes v ++ rest)) ∙ version_again v (at + 4) rest

-- an image is read as its list
pub image_again : (v : Version) (list : List Cell) → IsFileList list → image_reading (image_of v list) ≡ Ok (record { version = v; cells = list })
unfolding image_reading
image_again v list is =
    let bytes : List ℕ = image_of v list in
    let footer = footer_again (block_places v list) (length list) (5 + (length (entries_bytes v list) + length (end_mark v))) in
    ap (λ (b : List ℕ). head_at (spot 0 b) >>= body_at bytes) (image_is v list)
    ∙ ap (λ (r : Result (Version × Unread) Fault). r >>= body_at bytes) (head_again v 0 (body_bytes v list))
    ∙ ap (λ (r : Result (List Cell × Unread) Fault). r >>= after_entries v) (entries_again v (length bytes) 0 None list 5 (rest_bytes v list) (few v list) (ascends_follows list is.ascends) is.entries)
    ∙ ap (λ (r : Result Unread Fault). r >>= λ end. Ok (record { version = v; cells = list })) footer.1

pub head_take : (u : Unread) (x : Version × Unread) → IsBytes u.rest → head_at u ≡ Ok x → Takes u (magic ++ version_bytes x.0) x.1
unfolding head_at
head_take u x fits e =
    let m = bind_ok (expected_at Magic magic u) version_at x e in
    let m' = expected_take Magic magic u m.0 fits m.1 in
    Takes-then u magic m.0 (version_bytes x.0) x.1 m' (version_take m.0 x m'.rest_fits m.2)

-- the contents are what was read
read_list : (v : Version) (entries : List Cell × Unread) (file : FileContents) → IsBytes entries.1.rest → after_entries v entries ≡ Ok file
    → (entries.1.rest ≡ rest_bytes v entries.0) × (record { version = v; cells = entries.0 } ≡ file)
read_list v entries file fits e =
    let f = bind_ok (footer_at (block_places v entries.0) (length entries.0) entries.1) (λ end. Ok (record { version = v; cells = entries.0 })) file e in
    (footer_take (block_places v entries.0) (length entries.0) entries.1 f.0 fits f.1, ok_is (record { version = v; cells = entries.0 }) file f.2)

-- the bytes behind a version are those of an image of that version
abbrev IsBody : Version → List ℕ → FileContents → Type 0
IsBody v rest file = (v ≡ file.version) × (rest ≡ body_bytes file.version file.cells) × IsFileList file.cells

body_take : (bytes : List ℕ) (start : Version × Unread) (file : FileContents) → IsBytes start.1.rest → body_at bytes start ≡ Ok file → IsBody start.0 start.1.rest file
body_take bytes start file fits e =
    let v = start.0 in
    let a = bind_ok (entries_at v (length bytes) 0 None start.1) (after_entries v) file e in
    let a' = entries_take v (length bytes) 0 None start.1 a.0 fits near_none a.1 in
    let f = read_list v a.0 file a'.taken.rest_fits a.2 in
    subst (IsBody v start.1.rest) f.1
    (refl, a'.taken.parts ∙ append_assoc (entries_bytes v a.0.0) (end_mark v) a.0.1.rest ∙ ap (λ (r : List ℕ). entries_bytes v a.0.0 ++ (end_mark v ++ r)) f.0, record { ascends = follows_ascends a.0.0 a'.follow; entries = a'.entries })

-- what is read is the image of what was read
pub image_take : (bytes : List ℕ) (file : FileContents) → IsBytes bytes → image_reading bytes ≡ Ok file → (image_of file.version file.cells ≡ bytes) × IsFileList file.cells
unfolding image_reading
image_take bytes file fits e =
    let start = bind_ok (head_at (spot 0 bytes)) (body_at bytes) file e in
    let start' = head_take (spot 0 bytes) start.0 fits start.1 in
    let b = body_take bytes start.0 file start'.rest_fits start.2 in
    let parts : bytes ≡ (magic ++ version_bytes file.version) ++ body_bytes file.version file.cells =
    start'.parts ∙ ap (λ (v : Version). (magic ++ version_bytes v) ++ start.0.1.rest) b.0 ∙ ap (λ (r : List ℕ). (magic ++ version_bytes file.version) ++ r) b.1 in
    (image_is file.version file.cells ∙ sym parts, b.2)
