-- Answers that are sent in pieces.
use Rattle.std.proofs.Common.{◌≡◌, ℕ, ◌+◌, ◌<◌, List, [], ◌∷◌, ◌++◌, drop, slice_index_or, length, Option, Some, None, Result, Ok, Err, IsErr, Bool, true, false, not, is_some, refl, sym, subst, ap, ◌∙◌, append_assoc, append-nil}
use Rattle.std.specs.Prelude.{flat_map, option_map}
use Rattle.std.proofs.lemmas.List.{at_drop_more}
use Rattle.tablet_model.specs.Cell.{Cell}
use Rattle.tablet_model.specs.Sorted.{first, later}
use Rattle.script_text.specs.Answers.{at_line, end_line, entry_line, entry_lines, found_text, scan_text}
use Rattle.tablet_io.specs.Streams.{IsFrontTaken, IsSent, IsTaken}
use Rattle.tablet_io.proofs.Pieces.{front_sent, sent_front, sent_then, unsent}
use Rattle.tablet_replay.specs.Replies.{Replies, Sends}
use Rattle.tablet_replay.specs.declared.outcome.ReplyError.{ReplyError}

-- a front was taken, and then came a failure
pub failed : (bytes text : List ℕ) (before after : Option (List ℕ)) (r : Result (Unit {0}) ReplyError) → IsErr r → IsFrontTaken bytes before after → Sends bytes before after text r
failed bytes text before after (Ok x) err h = absurd (let k : false ≡ true = err in cc)
failed bytes text before after (Err e) err h = h

-- what was sent until a failure
pub cut_off : (bytes now text : List ℕ) (before after : Option (List ℕ)) (r : Result (Unit {0}) ReplyError) → IsErr r → IsSent bytes before after now → Sends bytes before after text r
cut_off bytes now text before after r err h = failed bytes text before after r err (front_sent bytes now before after h)

-- the next of what is to come is sent
pub next_sent : (bytes text more rest text2 : List ℕ) (before between after : Option (List ℕ))
    → IsSent bytes before between (text ++ (more ++ rest)) → IsSent (text ++ more) between after text2 → IsSent bytes before after (text2 ++ rest)
next_sent bytes text more rest text2 before between after h k =
    sent_then bytes (text ++ more) rest text2 before between after (subst (IsSent bytes before between) (sym (append_assoc text more rest)) h) k

-- its sending fails
pub next_failed : (bytes text more rest text2 : List ℕ) (before between after : Option (List ℕ)) (r : Result (Unit {0}) ReplyError) → IsErr r
    → IsSent bytes before between (text ++ (more ++ rest)) → IsFrontTaken (text ++ more) between after → Sends bytes before after text2 r
next_failed bytes text more rest text2 before between after r err h k =
    failed bytes text2 before after r err (sent_front bytes (text ++ more) rest before between after (subst (IsSent bytes before between) (sym (append_assoc text more rest)) h) k)

-- the sending of the last of it fails
pub last_failed : (bytes now text : List ℕ) (before between after : Option (List ℕ)) (r : Result (Unit {0}) ReplyError) → IsErr r
    → IsSent bytes before between now → IsFrontTaken now between after → Sends bytes before after text r
last_failed bytes now text before between after r err h k =
    failed bytes text before after r err (sent_front bytes now [] before between after (subst (IsSent bytes before between) (sym (append-nil now)) h) k)

-- a whole reply fails where its sending does
pub reply_failed : (bytes text : List ℕ) (before after : Option (List ℕ)) (r : Result (Unit {0}) ReplyError) → IsErr r → Sends bytes before after text r → Replies bytes before after r
reply_failed bytes text before after (Ok x) err h = absurd (let k : false ≡ true = err in cc)
reply_failed bytes text before after (Err e) err h = h

-- what was sent until the last of it is taken
all_taken : (bytes now : List ℕ) (before between after : Option (List ℕ)) → IsSent bytes before between now → IsTaken now between after → IsTaken bytes before after
all_taken bytes now None between after h k = tt
all_taken bytes now (Some t) between after h k =
    let a = h.parted.0 in
    let j : IsTaken now (Some (t ++ a)) after = rw h.parted.2 at k in
    j ∙ ap Some (append_assoc t a now ∙ ap (λ l. t ++ l) (sym h.parted.1))

-- a reply ends with its last piece
pub reply_ended : (bytes now : List ℕ) (before between after : Option (List ℕ)) (r : Result (Unit {0}) ReplyError)
    → IsSent bytes before between now → Replies now between after r → Replies bytes before after r
reply_ended bytes now before between after (Ok x) h k = all_taken bytes now before between after h k
reply_ended bytes now before between after (Err e) h k =
    sent_front bytes now [] before between after (subst (IsSent bytes before between) (sym (append-nil now)) h) k

-- the item of a list at a place, and those behind it
pub items_next : {X : Type 0} (f : X → List ℕ) (xs : List X) (i : ℕ) (x : X) → i < length xs → x ≡ slice_index_or xs i x → flat_map f (drop i xs) ≡ f x ++ flat_map f (drop (i + 1) xs)
items_next f xs i x inside is = at_drop_more (flat_map f) xs i x inside ∙ ap (λ y. f y ++ flat_map f (drop (i + 1) xs)) (sym is)

-- the first entry that is left, and those behind it
pub lines_next : (list : List Cell) (x : Cell) → Some x ≡ first list → entry_lines list ≡ entry_line x ++ entry_lines (later list)
lines_next [] x h = cc
lines_next (y ∷ ys) x h =
    let same : y ≡ x = cc in
    ap (λ e. entry_line e ++ entry_lines ys) same

-- a source that has an entry left
pub some_found : {X : Type 0} (view : X → Cell) (top : Option X) (none : Bool) (n : ℕ) (list : List Cell) → option_map view top ≡ first list → is_some top ≡ not none → none ≡ false
    → found_text n list ≡ at_line n ++ entry_lines list
unfolding found_text
some_found view None none n [] h k is = absurd (let j : false ≡ true = k ∙ ap not is in cc)
some_found view (Some x) none n [] h k is = absurd (let j : Some (view x) ≡ None = h in cc)
some_found view top none n (e ∷ es) h k is = refl

-- the text of a scan that found some, behind its first line
pub scan_is : (old text : List ℕ) (n : ℕ) (list : List Cell) → text ≡ old ++ at_line n → found_text n list ≡ at_line n ++ entry_lines list
    → (text ++ entry_lines list) ++ end_line n ≡ old ++ scan_text n list
scan_is old text n list is found =
    ap (λ l. l ++ end_line n) (ap (λ l. l ++ entry_lines list) is ∙ append_assoc old (at_line n) (entry_lines list) ∙ ap (λ l. old ++ l) (sym found))
    ∙ append_assoc old (found_text n list) (end_line n)

-- a front of some bytes is one of more
pub front_of_more : (bytes more : List ℕ) (before after : Option (List ℕ)) → IsFrontTaken bytes before after → IsFrontTaken (bytes ++ more) before after
front_of_more bytes more before after h = sent_front (bytes ++ more) bytes more before before after (unsent (bytes ++ more) (bytes ++ more) before refl) h
