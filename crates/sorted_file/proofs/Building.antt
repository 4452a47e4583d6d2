-- What builders and files hold, by their fields.
use Rattle.std.proofs.Common.{◌≡◌, ℕ, ◌+◌, ◌<◌, ◌%◌, eqb, Bool, true, false, List, [], ◌∷◌, ◌++◌, length, cond, Option, Some, None, Result, refl, sym, ap, subst, ◌∙◌, append_assoc, length-append, arith}
use Rattle.std.specs.Bool.{then_some}
use Rattle.std.specs.List.{last_or}
use Rattle.std.specs.Option.{option_to_list}
use Rattle.std.specs.Result.{result_unwrap_or}
use Rattle.std.proofs.lemmas.List.{append-nil}
use Rattle.byteorder.specs.Endian.{big_bytes}
use Rattle.tablet_model.specs.Cell.{Cell}
use Rattle.tablet_model.specs.Sorted.{Ascends}
use Rattle.byte_fields.proofs.Fields.{spot}
use Rattle.iter_contract.specs.Following.{is_out_of_order}
use Rattle.iter_contract.proofs.Following.{ascends_follows}
use Rattle.sorted_file.specs.Contents.{FileContents}
use Rattle.sorted_file.specs.Image.{magic, version_bytes, end_magic, neighbour, entry_bytes, entries_from, entries_bytes, block_start, blocks_from, block_places, index_bytes, image_of}
use Rattle.sorted_file.specs.Outlines.{IsOutlined}
use Rattle.sorted_file.specs.Versions.{end_mark}
use Rattle.sorted_file.specs.Lists.{IsFileEntry, IsFileList}
use Rattle.sorted_file.specs.Reading.{entries_at}
use Rattle.sorted_file.specs.Answers.{contents_in}
use Rattle.sorted_file.specs.BuilderParts.{entries_read, begun_list, built_list, IsBuilt}
use Rattle.sorted_file.specs.FileParts.{file_contents, IsFile}
use Rattle.sorted_file.specs.declared.builder.FileBuilder.TheInside as builder
use Rattle.sorted_file.specs.declared.file.SortedFile.TheInside as file
use Rattle.sorted_file.specs.declared.fault.Fault.{Fault}
use Rattle.sorted_file.specs.declared.version.Version.{Version}
use Rattle.sorted_file.specs.declared.version.Version.TheVariants.{Two}
use Rattle.sorted_file.proofs.Orders.{file_list_push}
use Rattle.sorted_file.proofs.Images.{length_list, entries_again}
use Rattle.sorted_file.proofs.ImageLaws.{image_again}

-- ---- builders

pub no_entries : IsFileList []
unfolding Ascends
no_entries = record { ascends = tt; entries = tt }

-- what stands before the footer of an image of version 2
abbrev pub front_bytes : List Cell → List ℕ
front_bytes list = (magic ++ version_bytes Two) ++ entries_bytes Two list

begun_is : (list : List Cell) → IsFileList list → begun_list (front_bytes list) ≡ list
begun_is list is =
    let bytes : List ℕ = front_bytes list in
    let few : length list < length bytes = omega (arith, length_list Two 0 None list) in
    ap (λ (r : List ℕ). entries_read (entries_at Two (length bytes) 0 None (spot 5 (entries_bytes Two list ++ r)))) (sym (append-nil (end_mark Two)))
    ∙ ap entries_read (entries_again Two (length bytes) 0 None list 5 [] few (ascends_follows list is.ascends) is.entries)

pub is_built : (b : builder.Inside) (list : List Cell) → b.bytes ≡ front_bytes list → IsFileList list → b.blocks.items ≡ block_places Two list → b.count ≡ length list
    → ((e : Cell) → last_or None list ≡ Some e → IsOutlined b.bytes e b.last) → IsBuilt b × (built_list b ≡ list)
is_built b list image is blocks count last =
    let e : built_list b ≡ list = ap begun_list image ∙ begun_is list is in (
      record {
        image = image ∙ ap front_bytes (sym e);
        list = subst IsFileList (sym e) is;
        blocks = blocks ∙ ap (block_places Two) (sym e);
        count = count ∙ ap length (sym e);
        last = λ x h. last x (ap (last_or None) (sym e) ∙ h);
      },
      e,
    )

-- the entries of a list and of one that follows it
pub entries_split : (v : Version) (n : ℕ) (before : Option Cell) (xs ys : List Cell) → entries_from v n before (xs ++ ys) ≡ entries_from v n before xs ++ entries_from v (n + length xs) (last_or before xs) ys
entries_split v n before [] ys = let same : n ≡ n + 0 = omega arith in ap (λ (m : ℕ). entries_from v m before ys) same
entries_split v n before (x ∷ xs) ys =
    let first : List ℕ = entry_bytes v (neighbour v n before) x in
    let more : (n + 1) + length xs ≡ n + length (x ∷ xs) = omega arith in
    ap (λ (r : List ℕ). first ++ r) (entries_split v (n + 1) (Some x) xs ys ∙ ap (λ (m : ℕ). entries_from v (n + 1) (Some x) xs ++ entries_from v m (last_or (Some x) xs) ys) more)
    ∙ sym (append_assoc first (entries_from v (n + 1) (Some x) xs) (entries_from v (n + length (x ∷ xs)) (last_or (Some x) xs) ys))

pub entries_push : (v : Version) (list : List Cell) (e : Cell) → entries_bytes v (list ++ e ∷ []) ≡ entries_bytes v list ++ entry_bytes v (neighbour v (length list) (last_or None list)) e
entries_push v list e =
    let one : 0 + length list ≡ length list = omega arith in
    entries_split v 0 None list (e ∷ [])
    ∙ ap (λ (n : ℕ). entries_bytes v list ++ entries_from v n (last_or None list) (e ∷ [])) one
    ∙ ap (λ (r : List ℕ). entries_bytes v list ++ r) (append-nil (entry_bytes v (neighbour v (length list) (last_or None list)) e))

pub blocks_push : (v : Version) (n at : ℕ) (before : Option Cell) (list : List Cell) (e : Cell) → blocks_from v n at before (list ++ e ∷ []) ≡ blocks_from v n at before list ++ block_start (n + length list) (at + length (entries_from v n before list))
unfolding blocks_from
blocks_push v n at before [] e =
    let n' : n ≡ n + 0 = omega arith in
    let at' : at ≡ at + 0 = omega arith in
    append-nil (block_start n at) ∙ ap (λ (m : ℕ). block_start m at) n' ∙ ap (block_start (n + 0)) at'
blocks_push v n at before (x ∷ xs) e =
    let first : List ℕ = entry_bytes v (neighbour v n before) x in
    let place : ℕ = at + length first in
    let behind : List ℕ = blocks_from v (n + 1) place (Some x) xs in
    let n' : (n + 1) + length xs ≡ n + length (x ∷ xs) = omega arith in
    let at' : place + length (entries_from v (n + 1) (Some x) xs) ≡ at + length (first ++ entries_from v (n + 1) (Some x) xs) = omega (arith, length-append first (entries_from v (n + 1) (Some x) xs)) in
    ap (λ (r : List ℕ). block_start n at ++ r) (blocks_push v (n + 1) place (Some x) xs e)
    ∙ sym (append_assoc (block_start n at) behind (block_start ((n + 1) + length xs) (place + length (entries_from v (n + 1) (Some x) xs))))
    ∙ ap (λ (m : ℕ). (block_start n at ++ behind) ++ block_start m (place + length (entries_from v (n + 1) (Some x) xs))) n'
    ∙ ap (λ (p : ℕ). (block_start n at ++ behind) ++ block_start (n + length (x ∷ xs)) p) at'

pub no_blocks : block_places Two [] ≡ []
unfolding blocks_from
no_blocks = refl

some_list : (b : Bool) (at : ℕ) → option_to_list (then_some b at) ≡ cond b (at ∷ []) []
some_list true at = refl
some_list false at = refl

pub block_is : (n at len : ℕ) (o : Option ℕ) → o ≡ then_some (eqb (n % 64) 0) len → len ≡ at → option_to_list o ≡ block_start n at
block_is n at len o e same = ap option_to_list e ∙ some_list (eqb (n % 64) 0) len ∙ ap (block_start n) same

-- a builder with one entry more
pub built_push : (b : builder.Inside) (list : List Cell) (e : Cell) → IsBuilt b → built_list b ≡ list → IsFileEntry e → is_out_of_order (last_or None list) e ≡ false
    → (next : builder.Inside) → next.bytes ≡ b.bytes ++ entry_bytes Two (neighbour Two b.count (last_or None list)) e → next.blocks.items ≡ b.blocks.items ++ block_start b.count (length b.bytes) → next.count ≡ b.count + 1
    → IsOutlined next.bytes e next.last → IsBuilt next × (built_list next ≡ list ++ e ∷ [])
built_push b list e is same fits ordered next bytes blocks count last =
    let image : b.bytes ≡ front_bytes list = is.image ∙ ap front_bytes same in
    let n : b.count ≡ length list = is.count ∙ ap length same in
    let n' : b.count ≡ 0 + length list = omega (arith, n) in
    let at : length b.bytes ≡ 5 + length (entries_bytes Two list) = ap length image ∙ length-append (magic ++ version_bytes Two) (entries_bytes Two list) in
    let text : ℕ → List ℕ = λ k. entry_bytes Two (neighbour Two k (last_or None list)) e in
    let image' : next.bytes ≡ front_bytes (list ++ e ∷ []) =
    bytes ∙ ap (λ (r : List ℕ). r ++ text b.count) image ∙ ap (λ (k : ℕ). front_bytes list ++ text k) n
    ∙ append_assoc (magic ++ version_bytes Two) (entries_bytes Two list) (text (length list)) ∙ ap (λ (r : List ℕ). (magic ++ version_bytes Two) ++ r) (sym (entries_push Two list e)) in
    let blocks' : next.blocks.items ≡ block_places Two (list ++ e ∷ []) =
    blocks ∙ ap (λ (r : List ℕ). r ++ block_start b.count (length b.bytes)) (is.blocks ∙ ap (block_places Two) same)
    ∙ ap (λ (k : ℕ). block_places Two list ++ block_start k (length b.bytes)) n' ∙ ap (λ (k : ℕ). block_places Two list ++ block_start (0 + length list) k) at ∙ sym (blocks_push Two 0 5 None list e) in
    let count' : next.count ≡ length (list ++ e ∷ []) = omega (arith, count, is.count, ap length same, length-append list (e ∷ [])) in
    is_built next (list ++ e ∷ []) image' (file_list_push list e (subst IsFileList same is.list) fits ordered) blocks' count'
    (λ x h. subst (λ (y : Cell). IsOutlined next.bytes y next.last) (last_is None list e x h) last)
  where
    last_is : (before : Option Cell) (xs : List Cell) (y z : Cell) → last_or before (xs ++ y ∷ []) ≡ Some z → y ≡ z
    last_is before [] y z h = cc
    last_is before (x ∷ xs) y z h = last_is (Some x) xs y z h

-- ---- files

pub is_file : (f : file.Inside) (v : Version) (list : List Cell) → f.version ≡ v → f.bytes ≡ image_of v list → IsFileList list → f.blocks.items ≡ block_places v list → f.count ≡ length list
    → IsFile f × (file_contents f ≡ record { version = v; cells = list })
is_file f v list version image is blocks count =
    let e : file_contents f ≡ record { version = v; cells = list } = ap contents_in image ∙ ap (λ (r : Result FileContents Fault). result_unwrap_or r (record { version = Two; cells = [] })) (image_again v list is) in (
      record {
        version = version ∙ ap (λ (c : FileContents). c.version) (sym e);
        image = image ∙ ap (λ (c : FileContents). image_of c.version c.cells) (sym e);
        list = subst (λ (c : FileContents). IsFileList c.cells) (sym e) is;
        blocks = blocks ∙ ap (λ (c : FileContents). block_places c.version c.cells) (sym e);
        count = count ∙ ap (λ (c : FileContents). length c.cells) (sym e);
      },
      e,
    )

whole : (h k i n z : List ℕ) → (((h ++ k) ++ i) ++ n) ++ z ≡ h ++ (((k ++ i) ++ n) ++ z)
whole h k i n z = simp append_assoc

finished_image : (list : List Cell) → (((front_bytes list ++ end_mark Two) ++ index_bytes (block_places Two list)) ++ big_bytes 8 (length list)) ++ end_magic ≡ image_of Two list
unfolding image_of
finished_image list = whole (front_bytes list) (end_mark Two) (index_bytes (block_places Two list)) (big_bytes 8 (length list)) end_magic

-- the file that a builder finishes, part by part
pub finished : (b : builder.Inside) → IsBuilt b → (marked indexed numbered : List ℕ) (f : file.Inside) → marked ≡ b.bytes ++ end_mark Two → indexed ≡ marked ++ index_bytes b.blocks.items
    → numbered ≡ indexed ++ big_bytes 8 b.count → f.bytes ≡ numbered ++ end_magic → f.version ≡ Two → f.blocks.items ≡ b.blocks.items → f.count ≡ b.count
    → IsFile f × (file_contents f ≡ record { version = Two; cells = built_list b })
finished b is marked indexed numbered f m i n e version blocks count =
    let list : List Cell = built_list b in
    let head : List ℕ = front_bytes list in
    let places : List ℕ = block_places Two list in
    let m' : marked ≡ head ++ end_mark Two = m ∙ ap (λ (r : List ℕ). r ++ end_mark Two) is.image in
    let i' : indexed ≡ (head ++ end_mark Two) ++ index_bytes places = i ∙ ap (λ (r : List ℕ). r ++ index_bytes b.blocks.items) m' ∙ ap (λ (r : List ℕ). (head ++ end_mark Two) ++ index_bytes r) is.blocks in
    let n' : numbered ≡ ((head ++ end_mark Two) ++ index_bytes places) ++ big_bytes 8 (length list) = n ∙ ap (λ (r : List ℕ). r ++ big_bytes 8 b.count) i' ∙ ap (λ (k : ℕ). ((head ++ end_mark Two) ++ index_bytes places) ++ big_bytes 8 k) is.count in
    is_file f Two list version (e ∙ ap (λ (r : List ℕ). r ++ end_magic) n' ∙ finished_image list) is.list (blocks ∙ is.blocks) (count ∙ is.count)
