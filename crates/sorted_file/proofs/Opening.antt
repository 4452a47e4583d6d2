-- What the reading of a whole image comes to, part by part.
use Rattle.std.proofs.Common.{◌≡◌, ℕ, ◌≤◌, List, [], ◌++◌, length, None, Result, Ok, Err, refl, sym, ap, subst, ◌∙◌, length-append, arith}
use Rattle.std.specs.Prelude.{IsErrAnd}
use Rattle.std.specs.Result.{result_unwrap_or}
use Rattle.tablet_model.specs.Cell.{Cell}
use Rattle.byte_fields.specs.Fields.{Unread}
use Rattle.byte_fields.proofs.Fields.{bind_ok, ok_is, IsBytes, spot}
use Rattle.sorted_file.specs.Contents.{FileContents}
use Rattle.sorted_file.specs.Image.{magic, version_bytes, blocks_from, block_places, image_of}
use Rattle.sorted_file.specs.Lists.{IsFileList}
use Rattle.sorted_file.specs.Answers.{Opens, shape_of, count_entries, contents_in}
use Rattle.sorted_file.specs.Reading.{head_at, entries_at, footer_at, image_reading}
use Rattle.sorted_file.specs.declared.fault.Fault.{Fault}
use Rattle.sorted_file.specs.declared.fault.OpenError.{OpenError}
use Rattle.sorted_file.specs.declared.fault.OpenError.TheVariants.{Image, NoMemory}
use Rattle.sorted_file.specs.FileParts.{file_contents, IsFile}
use Rattle.sorted_file.specs.declared.file.SortedFile.TheInside.{Inside}
use Rattle.sorted_file.specs.declared.version.Version.{Version}
use Rattle.sorted_file.specs.declared.version.Version.TheVariants.{Two}
use Rattle.sorted_file.proofs.Building.{is_file}
use Rattle.sorted_file.proofs.ImageLaws.{head_take, image_take}

-- an answer that passes a fault on
pub refused : {X Y : Type 0} (view : X → Y) (r : Result X OpenError) (f : Fault) (reading : Result Y Fault) → IsErrAnd r (λ e. e ≡ Image f.at f.cause) → reading ≡ Err f → Opens view r reading
refused view (Ok x) f reading h e = absurd h
refused view (Err error) f reading h e = subst (λ (err : OpenError). Opens view (Err err) reading) (sym h) e

-- ---- the head

pub head_fault : (bytes : List ℕ) (f : Fault) → head_at (spot 0 bytes) ≡ Err f → shape_of (image_reading bytes) ≡ Err f
unfolding image_reading
head_fault bytes f e = rw e refl

pub head_is : (bytes : List ℕ) (v : Version) (u : Unread) → IsBytes bytes → head_at (spot 0 bytes) ≡ Ok (v, u) → (length u.rest ≤ length bytes) × IsBytes u.rest × (u.at ≡ 5)
head_is bytes v u fits e =
    let t = head_take (spot 0 bytes) (v, u) fits e in
    (omega (arith, ap length t.parts, length-append (magic ++ version_bytes v) u.rest), t.rest_fits, t.place)

-- ---- the body

uncounted : (v : Version) (at : ℕ) (read : Result (List Cell × Unread) Fault) (f : Fault) → count_entries v at read ≡ Err f → read ≡ Err f
uncounted v at (Ok x) f e = absurd cc
uncounted v at (Err g) f e = cc

body_fault : (bytes : List ℕ) (v : Version) (u : Unread) (f : Fault) → head_at (spot 0 bytes) ≡ Ok (v, u) → entries_at v (length bytes) 0 None u ≡ Err f → shape_of (image_reading bytes) ≡ Err f
unfolding image_reading
body_fault bytes v u f head e = rw (head, e) refl

pub body_refused : {X Y : Type 0} (view : X → List ℕ × ℕ × Unread) (shape : Y → Version × ℕ) (bytes : List ℕ) (v : Version) (u : Unread) (error : OpenError) → head_at (spot 0 bytes) ≡ Ok (v, u)
    → Opens view (Err error) (count_entries v u.at (entries_at v (length bytes) 0 None u)) → Opens shape (Err error) (shape_of (image_reading bytes))
body_refused view shape bytes v u (Image at cause) head h = body_fault bytes v u (record { at = at; cause = cause }) head (uncounted v u.at (entries_at v (length bytes) 0 None u) (record { at = at; cause = cause }) h)
body_refused view shape bytes v u NoMemory head h = h

-- the entries that were counted
pub record AreCounted (bytes : List ℕ) (v : Version) (u : Unread) (blocks : List ℕ) (count : ℕ) (w : Unread) : Type 0 where
  pub list : List Cell
  pub read : entries_at v (length bytes) 0 None u ≡ Ok (list, w)
  pub blocks_are : block_places v list ≡ blocks
  pub count_is : length list ≡ count

body_is : (bytes : List ℕ) (v : Version) (u : Unread) (x : List Cell × Unread) (blocks : List ℕ) (count : ℕ) (w : Unread) → u.at ≡ 5 → entries_at v (length bytes) 0 None u ≡ Ok x
    → ◌≡◌ {A = List ℕ × ℕ × Unread} (blocks_from v 0 u.at None x.0, length x.0, x.1) (blocks, count, w) → AreCounted bytes v u blocks count w
body_is bytes v u x blocks count w place read e = record {
  list = x.0;
  read = read ∙ ap (λ (z : Unread). Ok (x.0, z)) (ap (λ (t : List ℕ × ℕ × Unread). t.2) e);
  blocks_are = ap (λ (at : ℕ). blocks_from v 0 at None x.0) (sym place) ∙ ap (λ (t : List ℕ × ℕ × Unread). t.0) e;
  count_is = ap (λ (t : List ℕ × ℕ × Unread). t.1) e;
}

pub body_found : (bytes : List ℕ) (v : Version) (u : Unread) (blocks : List ℕ) (count : ℕ) (w : Unread) → u.at ≡ 5 → count_entries v u.at (entries_at v (length bytes) 0 None u) ≡ Ok (blocks, count, w) → AreCounted bytes v u blocks count w
body_found bytes v u blocks count w place e =
    let b = bind_ok (entries_at v (length bytes) 0 None u) (λ x. Ok (blocks_from v 0 u.at None x.0, length x.0, x.1)) (blocks, count, w) e in
    body_is bytes v u b.0 blocks count w place b.1 (ok_is (blocks_from v 0 u.at None b.0.0, length b.0.0, b.0.1) (blocks, count, w) b.2)

-- ---- the footer

-- what is read behind the entries
footer_is : (bytes : List ℕ) (v : Version) (u : Unread) (blocks : List ℕ) (count : ℕ) (w : Unread) (read : Result Unread Fault) → AreCounted bytes v u blocks count w → footer_at blocks count w ≡ read
    → (a : AreCounted bytes v u blocks count w) → footer_at (block_places v a.list) (length a.list) w ≡ read
footer_is bytes v u blocks count w read body e a = ap (λ (b : List ℕ). footer_at b (length a.list) w) a.blocks_are ∙ ap (λ (k : ℕ). footer_at blocks k w) a.count_is ∙ e

pub footer_fault : (bytes : List ℕ) (v : Version) (u : Unread) (blocks : List ℕ) (count : ℕ) (w : Unread) (f : Fault) → head_at (spot 0 bytes) ≡ Ok (v, u) → AreCounted bytes v u blocks count w → footer_at blocks count w ≡ Err f
    → shape_of (image_reading bytes) ≡ Err f
unfolding image_reading
footer_fault bytes v u blocks count w f head body e =
    let footer : footer_at (block_places v body.list) (length body.list) w ≡ Err f = footer_is bytes v u blocks count w (Err f) body e body in
    rw (head, body.read, footer) refl

-- what the bytes are the image of
abbrev pub Finds : List ℕ → FileContents → Type 0
Finds bytes file = image_reading bytes ≡ Ok file

pub footer_found : (bytes : List ℕ) (v : Version) (u : Unread) (blocks : List ℕ) (count : ℕ) (w z : Unread) → head_at (spot 0 bytes) ≡ Ok (v, u) → (body : AreCounted bytes v u blocks count w) → footer_at blocks count w ≡ Ok z
    → Finds bytes (record { version = v; cells = body.list })
unfolding image_reading
footer_found bytes v u blocks count w z head body e =
    let footer : footer_at (block_places v body.list) (length body.list) w ≡ Ok z = footer_is bytes v u blocks count w (Ok z) body e body in
    rw (head, body.read, footer) refl

-- ---- the whole

-- what a reading of an image tells, by what it found
pub record IsTold (bytes : List ℕ) (v : Version) (blocks : List ℕ) (count : ℕ) : Type 0 where
  pub shape : shape_of (image_reading bytes) ≡ Ok (v, count)
  pub blocks_are : blocks ≡ block_places v (contents_in bytes).cells
  pub image : image_of v (contents_in bytes).cells ≡ bytes
  pub list : IsFileList (contents_in bytes).cells

pub told : (bytes : List ℕ) (v : Version) (u : Unread) (blocks : List ℕ) (count : ℕ) (w : Unread) → IsBytes bytes → (body : AreCounted bytes v u blocks count w) → Finds bytes (record { version = v; cells = body.list }) → IsTold bytes v blocks count
told bytes v u blocks count w fits body e =
    let file : FileContents = record { version = v; cells = body.list } in
    let t = image_take bytes file fits e in
    let list : body.list ≡ (contents_in bytes).cells = sym (ap (λ (r : Result FileContents Fault). (result_unwrap_or r (record { version = Two; cells = [] })).cells) e) in
    record {
      shape = ap shape_of e ∙ ap (λ (k : ℕ). Ok (v, k)) body.count_is;
      blocks_are = sym body.blocks_are ∙ ap (block_places v) list;
      image = ap (image_of v) (sym list) ∙ t.0;
      list = subst IsFileList list t.1;
    }

-- a file that was opened
pub opened : (f : Inside) (bytes : List ℕ) → bytes ≡ f.bytes → IsTold bytes f.version f.blocks.items f.count → IsFile f × (image_reading f.bytes ≡ Ok (file_contents f))
opened f bytes e told =
    let b = bind_ok (image_reading bytes) (λ file. Ok (file.version, length file.cells)) (f.version, f.count) told.shape in
    let file_is : b.0 ≡ contents_in bytes = sym (ap (λ (r : Result FileContents Fault). result_unwrap_or r (record { version = Two; cells = [] })) b.1) in
    let shape = ok_is (b.0.version, length b.0.cells) (f.version, f.count) b.2 in
    let count : f.count ≡ length (contents_in bytes).cells = sym (ap (λ (x : Version × ℕ). x.1) shape) ∙ ap (λ (file : FileContents). length file.cells) file_is in
    let version : f.version ≡ (contents_in bytes).version = sym (ap (λ (x : Version × ℕ). x.0) shape) ∙ ap (λ (file : FileContents). file.version) file_is in
    let made = is_file f f.version (contents_in bytes).cells refl (sym e ∙ sym told.image) told.list told.blocks_are count in
    let whole : contents_in bytes ≡ record { version = f.version; cells = (contents_in bytes).cells } = λ i. record { version = sym version i; cells = (contents_in bytes).cells } in
    (made.0, ap image_reading (sym e) ∙ b.1 ∙ ap (λ (file : FileContents). Ok file) (file_is ∙ whole ∙ sym made.1))
