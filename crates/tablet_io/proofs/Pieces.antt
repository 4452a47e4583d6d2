-- Texts that are sent in pieces.
use Rattle.std.proofs.Common.{◌≡◌, ℕ, ◌+◌, Option, Some, None, List, [], ◌++◌, length, take, sym, ◌∙◌, ap, arith, append_assoc, append-nil, length-append}
use Rattle.std.proofs.Math.Seq.{take-append-add, take-append_seam}
use Rattle.std.proofs.lemmas.List.{take-append-le}
use Rattle.tablet_io.specs.Streams.{IsFrontTaken, IsSent}

-- where nothing was sent yet, all stands in the text
pub unsent : (bytes text : List ℕ) (taken : Option (List ℕ)) → text ≡ bytes → IsSent bytes taken taken text
unsent bytes text None h = record { parted = tt }
unsent bytes text (Some t) h = record { parted = ([], sym h, ap Some (sym (append-nil t))) }

-- nothing was taken
pub none_taken : (bytes : List ℕ) (taken : Option (List ℕ)) → IsFrontTaken bytes taken taken
none_taken bytes None = tt
none_taken bytes (Some t) = (0, omega arith, ap Some (sym (append-nil t)))

-- what was sent is a front
pub front_sent : (bytes text : List ℕ) (before after : Option (List ℕ)) → IsSent bytes before after text → IsFrontTaken bytes before after
front_sent bytes text None after h = tt
front_sent bytes text (Some t) after h =
    let front = h.parted.0 in (
      length front,
      omega (arith, ap length h.parted.1, length-append front text),
      h.parted.2 ∙ ap (λ l. Some (t ++ l)) (sym (ap (take (length front)) h.parted.1 ∙ take-append_seam front text)),
    )

-- more bytes are put behind
pub sent_more : (bytes text more : List ℕ) (before after : Option (List ℕ)) → IsSent bytes before after text → IsSent (bytes ++ more) before after (text ++ more)
sent_more bytes text more None after h = record { parted = tt }
sent_more bytes text more (Some t) after h =
    record { parted = (h.parted.0, ap (λ l. l ++ more) h.parted.1 ∙ append_assoc h.parted.0 text more, h.parted.2) }

-- what stands in the text is sent in its turn, with the rest still to come
pub sent_then : (bytes now rest text : List ℕ) (before between after : Option (List ℕ))
    → IsSent bytes before between (now ++ rest) → IsSent now between after text → IsSent bytes before after (text ++ rest)
sent_then bytes now rest text None between after h k = record { parted = tt }
sent_then bytes now rest text (Some t) between after h k =
    let a = h.parted.0 in
    let j : IsSent now (Some (t ++ a)) after text = rw h.parted.2 at k in
    let b = j.parted.0 in
    record {
      parted = (
        a ++ b,
        h.parted.1 ∙ ap (λ l. a ++ l) (ap (λ l. l ++ rest) j.parted.1 ∙ append_assoc b text rest) ∙ sym (append_assoc a b (text ++ rest)),
        j.parted.2 ∙ ap Some (append_assoc t a b),
      );
    }

-- the sending of it fails
pub sent_front : (bytes now rest : List ℕ) (before between after : Option (List ℕ))
    → IsSent bytes before between (now ++ rest) → IsFrontTaken now between after → IsFrontTaken bytes before after
sent_front bytes now rest None between after h k = tt
sent_front bytes now rest (Some t) between after h k =
    let a = h.parted.0 in
    let j : IsFrontTaken now (Some (t ++ a)) after = rw h.parted.2 at k in
    let n = j.0 in (
      length a + n,
      omega (arith, j.1, ap length h.parted.1, length-append a (now ++ rest), length-append now rest),
      j.2 ∙ ap Some (append_assoc t a (take n now)
          ∙ ap (λ l. t ++ l) (ap (λ l. a ++ l) (sym (take-append-le n now rest j.1)) ∙ sym (ap (take (length a + n)) h.parted.1 ∙ take-append-add a (now ++ rest) n))),
    )
