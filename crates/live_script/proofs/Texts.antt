-- The parts of the text of a run, one behind the other.
use Rattle.std.proofs.Common.{◌≡◌, ℕ, suc, ◌+◌, ◌<◌, min, List, [], ◌∷◌, ◌++◌, length, map, take, Option, Some, None, refl, sym, ap, ◌∙◌, append_assoc, append-nil, arith}
use Rattle.std.specs.Prelude.{IsSomeAnd, slice_index_or}
use Rattle.std.proofs.lemmas.List.{length-take, take_more}
use Rattle.tablet_model.specs.Steps.{StepAnswer}
use Rattle.tablet_steps.specs.ModelSteps.{model_answer_of}
use Rattle.tablet_steps.specs.Texts.{answer_line, refusal_line}
use Rattle.tablet_steps.specs.declared.answer.Answer.{Answer}
use Rattle.tablet_steps.specs.declared.refusal.LineRefusal.TheVariants.{Syntax}
use Rattle.live_tablet.specs.declared.running.ScannerWalks.{ScannerWalks}
use Rattle.live_script.specs.Texts.{lines_text, not_live_line, numbered_text}
use Rattle.live_script.specs.declared.script.LineKind.{LineKind}
use Rattle.live_script.specs.declared.script.LineKind.TheVariants.{Mutation, Other, Unread}

-- the first answer is said where a mutation stands
mutation_said : (o : Option StepAnswer) (before after : List ℕ) → IsSomeAnd o (λ a. after ≡ before ++ answer_line a) → (kinds : List LineKind) (answers : List (Option StepAnswer))
    → after ++ lines_text kinds answers ≡ before ++ lines_text (Mutation ∷ kinds) (o ∷ answers)
mutation_said None before after h kinds answers = elim h [ ]
mutation_said (Some a) before after h kinds answers = ap (λ l. l ++ lines_text kinds answers) h ∙ append_assoc before (answer_line a) (lines_text kinds answers)

pub first_said : (answers later : List Answer) (answer : Answer) (before after : List ℕ) → answers ≡ answer ∷ later → IsSomeAnd (model_answer_of answer) (λ a. after ≡ before ++ answer_line a)
    → (kinds : List LineKind) → after ++ lines_text kinds (map model_answer_of later) ≡ before ++ lines_text (Mutation ∷ kinds) (map model_answer_of answers)
first_said answers later answer before after e h kinds =
    mutation_said (model_answer_of answer) before after h kinds (map model_answer_of later) ∙ ap (λ l. before ++ lines_text (Mutation ∷ kinds) (map model_answer_of l)) (sym e)

pub none_said : (answers : List Answer) (text : List ℕ) → length answers ≡ 0
    → (kinds : List LineKind) → text ++ lines_text kinds (map model_answer_of answers) ≡ text ++ lines_text (Mutation ∷ kinds) (map model_answer_of answers)
none_said [] text e kinds = refl
none_said (a ∷ answers) text e kinds = absurd (omega (arith, e))

-- a line without an answer of its own is said as it is
pub other_said : (kind : LineKind) (before after : List ℕ) (answers : List (Option StepAnswer)) → kind ≡ Other → after ≡ before ++ not_live_line
    → (kinds : List LineKind) → after ++ lines_text kinds answers ≡ before ++ lines_text (kind ∷ kinds) answers
other_said kind before after answers is e kinds =
    ap (λ l. l ++ lines_text kinds answers) e ∙ append_assoc before not_live_line (lines_text kinds answers) ∙ ap (λ k. before ++ lines_text (k ∷ kinds) answers) (sym is)

pub unread_said : (kind : LineKind) (before after : List ℕ) (answers : List (Option StepAnswer)) → kind ≡ Unread → after ≡ before ++ refusal_line Syntax
    → (kinds : List LineKind) → after ++ lines_text kinds answers ≡ before ++ lines_text (kind ∷ kinds) answers
unread_said kind before after answers is e kinds =
    ap (λ l. l ++ lines_text kinds answers) e ∙ append_assoc before (refusal_line Syntax) (lines_text kinds answers) ∙ ap (λ k. before ++ lines_text (k ∷ kinds) answers) (sym is)

no_more : (a : ℕ) → a ≡ a + 0
no_more a = omega arith

-- one scanner more
pub numbered_more : (text : ℕ → ScannerWalks → List ℕ) (n : ℕ) (ws : List ScannerWalks) (w : ScannerWalks)
    → numbered_text text n (ws ++ w ∷ []) ≡ numbered_text text n ws ++ text (n + length ws) w
numbered_more text n [] w = append-nil (text n w) ∙ ap (λ k. text k w) (no_more n)
numbered_more text n (x ∷ ws) w =
    ap (λ l. text n x ++ l) (numbered_more text (n + 1) ws w)
    ∙ sym (append_assoc (text n x) (numbered_text text (n + 1) ws) (text (n + 1 + length ws) w))
    ∙ ap (λ k. (text n x ++ numbered_text text (n + 1) ws) ++ text k w) (next n (length ws))
  where
    next : (a b : ℕ) → a + 1 + b ≡ a + suc b
    next a b = omega arith

-- one line more
pub numbered_next : (text : ℕ → ScannerWalks → List ℕ) (walks : List ScannerWalks) (i number : ℕ) (w : ScannerWalks) (start before after : List ℕ) → i < length walks → w ≡ slice_index_or walks i w
    → number ≡ i + 1 → before ≡ start ++ numbered_text text 1 (take i walks) → after ≡ before ++ text number w → after ≡ start ++ numbered_text text 1 (take (i + 1) walks)
numbered_next text walks i number w start before after inside is n b a =
    let front : take (i + 1) walks ≡ take i walks ++ w ∷ [] = take_more walks i w inside ∙ ap (λ x. take i walks ++ x ∷ []) (sym is) in
    let many : length (take i walks) ≡ min i (length walks) = length-take i walks in
    let next : number ≡ 1 + length (take i walks) = omega (arith, n, many, inside) in
    a
    ∙ (λ j. b j ++ text (next j) w)
    ∙ append_assoc start (numbered_text text 1 (take i walks)) (text (1 + length (take i walks)) w)
    ∙ ap (λ l. start ++ l) (sym (numbered_more text 1 (take i walks) w) ∙ ap (numbered_text text 1) (sym front))
