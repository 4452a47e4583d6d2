-- What is answered for a text that is written or read.
use Rattle.std.proofs.Common.{◌≡◌, ℕ, ◌<◌, ◌≤◌, List, ◌++◌, length, take, Option, Result, Ok, Err, sym, ap, subst, ◌∙◌, arith}
use Rattle.std.specs.Prelude.{IsErrAnd, IfOk}
use Rattle.std.proofs.lemmas.List.{take_all}
use Rattle.byteorder.specs.Endian.{big_bytes}
use Rattle.tablet_model.specs.Cell.{Cell}
use Rattle.byte_fields.specs.Fields.{Unread}
use Rattle.byte_fields.proofs.Fields.{IsBytes}
use Rattle.tablet_model.specs.RowText.{entries_bytes, row_text}
use Rattle.whole_row.specs.RowLists.{IsRow}
use Rattle.whole_row.specs.RowReading.{next_entry_at, entries_at, row_reading}
use Rattle.whole_row.specs.RowAnswers.{Fails, Gives}
use Rattle.whole_row.specs.Bodies.{Body, body_text}
use Rattle.whole_row.specs.declared.error.RowError.{RowError}
use Rattle.whole_row.specs.declared.error.RowError.TheVariants.{Fault, NoMemory}
use Rattle.whole_row.proofs.Texts.{text_again, text_take, with_front, entry_fault}

-- an answer that passes on that an entry was not read
pub refused : {X : Type 0} (view : X → List Cell × Unread) (r : Result X RowError) (error : RowError) (row : List ℕ) (front : List Cell) (n : ℕ) (before : Option Cell) (u : Unread) (total : Result (List Cell × Unread) ℕ)
    → 0 < n → IsErrAnd r (λ e. e ≡ error) → Fails error (next_entry_at row before u) → with_front row front (entries_at row n before u) ≡ total → Gives view r total
refused view (Ok x) error row front n before u total some h g so_far = absurd h
refused view (Err e) (Fault at) row front n before u total some h g so_far = subst (λ (e : RowError). Gives view (Err e) total) (sym h) (entry_fault row front n before u at total some g so_far)
refused view (Err e) NoMemory row front n before u total some h g so_far = subst (λ (e : RowError). Gives view (Err e) total) (sym h) tt

-- what was read is the text of these entries of the row
pub read_is : (row bytes : List ℕ) (r : Result (List Cell) RowError) → 1 ≤ length row → length row ≤ 1024 → IsBytes bytes → Gives (λ list. list) r (row_reading row bytes)
    → IfOk r (λ list. row_text list ≡ bytes) × IfOk r (IsRow row)
read_is row bytes (Ok list) some short fits e = text_take row some short bytes list fits e
read_is row bytes (Err error) some short fits e = (tt, tt)

-- the text of a row is read as its entries
pub read_again : {E : Type 0} (row : List ℕ) (list : List Cell) (r : Result (List ℕ) E) → IsRow row list → IfOk r (λ text. text ≡ row_text list) → IfOk r (λ text. row_reading row text ≡ Ok list)
read_again row list (Ok text) is h = ap (row_reading row) h ∙ text_again row list is
read_again row list (Err error) is h = h

-- all entries were put together
pub all_put : (body : Body) (i : ℕ) (items list : List Cell) → body.count ≡ i → body.bytes ≡ entries_bytes (take i items) → items ≡ list → i ≤ length items → length items ≤ i → body_text body ≡ row_text list
unfolding row_text
all_put body i items list c b same l m =
    let all : take i items ≡ items = take_all i items m in
    let n : body.count ≡ length list = omega (arith, c, l, m, ap length same) in
    ap (λ (n : ℕ). big_bytes 8 n ++ body.bytes) n ∙ ap (λ (t : List ℕ). big_bytes 8 (length list) ++ t) (b ∙ ap entries_bytes (all ∙ same))
