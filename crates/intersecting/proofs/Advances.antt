-- What a source shows, as a move of the document.
use Rattle.std.proofs.Common.{◌≡◌, ◌&&◌, ◌<◌, ◌≤◌, not, ℕ, Bool, true, false, cond, List, [], ◌∷◌, length, Option, Some, None, refl, sym, ap, ◌∙◌, subst, arith, Equal, Ordering}
use Rattle.std.specs.List.{filter, list_any}
use Rattle.std.specs.Ordering.{is_eq, is_gt, is_ge, ordering_then}
use Rattle.tablet_model.specs.Cell.{Cell}
use Rattle.tablet_model.specs.Order.{above, bytes_cmp}
use Rattle.tablet_model.specs.Sorted.{Ascends, first}
use Rattle.tablet_model.specs.Bounds.{AreEntries, IsEntry}
use Rattle.tablet_model.specs.Rows.{same_bytes, same_row, has_term}
use Rattle.tablet_model.proofs.Sums.{all_filter}
use Rattle.intersecting.specs.Searches.{document_cmp, index_cmp, document_start, reaches, under, lies_from, in_later_row, step_to, moves, shows, IsAdvance}
use Rattle.intersecting.specs.declared.asking.Step.{Step}
use Rattle.intersecting.specs.declared.asking.Step.TheVariants.{Here, Ahead, Nowhere}
use Rattle.tablet_model.proofs.CutLemmas.{ge_back}
use Rattle.tablet_model.proofs.Texts.{equal_texts, text_itself}
use Rattle.intersecting.proofs.Orders.{document_total}
use Rattle.intersecting.proofs.Firsts.{no, nowhere_left, elsewhere, of_row, has_first, first_reached, from_first_on}

-- ---- a document is told by its row and its qualifier

pub same_has : (list : List Cell) (d e : Cell) (term : List ℕ) → d.key.row ≡ e.key.row → d.key.qualifier ≡ e.key.qualifier → has_term list d term ≡ has_term list e term
unfolding has_term same_row
same_has list d e term r q =
    ap (λ row. list_any (λ y. same_bytes row y.key.row && (same_bytes term y.key.family && same_bytes d.key.qualifier y.key.qualifier)) list) r
    ∙ ap (λ document. list_any (λ y. same_bytes e.key.row y.key.row && (same_bytes term y.key.family && same_bytes document y.key.qualifier)) list) q

pub same_lies : (behind : Bool) (p d e : Cell) → d.key.row ≡ e.key.row → d.key.qualifier ≡ e.key.qualifier → lies_from behind p d ≡ lies_from behind p e
unfolding lies_from document_cmp
same_lies behind p d e r q =
    ap (λ row. reaches behind (ordering_then (bytes_cmp row p.key.row) (bytes_cmp d.key.qualifier p.key.qualifier))) r
    ∙ ap (λ document. reaches behind (ordering_then (bytes_cmp e.key.row p.key.row) (bytes_cmp document p.key.qualifier))) q

pub same_place : (behind : Bool) (p n d : Cell) → p.key.row ≡ n.key.row → p.key.qualifier ≡ n.key.qualifier → lies_from behind p d ≡ lies_from behind n d
unfolding lies_from document_cmp
same_place behind p n d r q =
    ap (λ row. reaches behind (ordering_then (bytes_cmp d.key.row row) (bytes_cmp d.key.qualifier p.key.qualifier))) r
    ∙ ap (λ document. reaches behind (ordering_then (bytes_cmp d.key.row n.key.row) (bytes_cmp d.key.qualifier document))) q

-- ---- the first entry tells the step

nothing_ahead : Nowhere ≡ Ahead → ⊥
nothing_ahead h = cc

-- where the document stays
stays_here : (behind : Bool) (p : Cell) (term : List ℕ) (list : List Cell) (rising : Ascends above list) (e : Cell) (es : List Cell) (found : filter (λ y. reaches behind (index_cmp y.key (document_start p term))) list ≡ e ∷ es)
    → (same_bytes e.key.row p.key.row && same_bytes e.key.family term) ≡ true → same_bytes e.key.qualifier p.key.qualifier ≡ true → IsAdvance list term behind p p Here
stays_here behind p term list rising e es found here q =
    let row : e.key.row ≡ p.key.row = of_row behind p term list rising e es found here in
    let document : e.key.qualifier ≡ p.key.qualifier = equal_texts e.key.qualifier p.key.qualifier q in
    record {
      row = refl;
      stays = λ h. refl;
      forward = λ h. no h;
      reached = λ h. sym (same_lies behind p e p row document) ∙ first_reached behind p term list rising e es found here;
      shown = λ h. sym (same_has list e p term row document) ∙ has_first behind p term list rising e es found here;
      left = λ d has. from_first_on behind p term list rising e es found here d has ∙ same_place false e p d row document;
    }

pub stays_is : (behind : Bool) (p : Cell) (term : List ℕ) (list : List Cell) → Ascends above list → (step : Step) → step ≡ step_to p term (first (under behind p term list)) → moves step ≡ false → IsAdvance list term behind p p step
unfolding under step_to
stays_is behind p term list rising step s m = subst (IsAdvance list term behind p p) (sym s) (go (filter (λ y. reaches behind (index_cmp y.key (document_start p term))) list) refl (ap moves (sym s) ∙ m))
  where
    nowhere : ((d : Cell) → has_term list d term ≡ true → lies_from behind p d ≡ in_later_row p d) → IsAdvance list term behind p p Nowhere
    nowhere left = record { row = refl; stays = λ h. refl; forward = λ h. no h; reached = λ h. no h; shown = λ h. no h; left = left }

    at_entry : (e : Cell) (es : List Cell) → filter (λ y. reaches behind (index_cmp y.key (document_start p term))) list ≡ e ∷ es → (a b : Bool) → (same_bytes e.key.row p.key.row && same_bytes e.key.family term) ≡ a → same_bytes e.key.qualifier p.key.qualifier ≡ b
        → moves (cond a (cond b Here Ahead) Nowhere) ≡ false → IsAdvance list term behind p p (cond a (cond b Here Ahead) Nowhere)
    at_entry e es found false b h q k = nowhere (elsewhere behind p term list rising e es found h)
    at_entry e es found true true h q k = stays_here behind p term list rising e es found h q
    at_entry e es found true false h q k = no (sym k)

    go : (part : List Cell) → filter (λ y. reaches behind (index_cmp y.key (document_start p term))) list ≡ part → moves (step_to p term (first part)) ≡ false → IsAdvance list term behind p p (step_to p term (first part))
    go [] found k = nowhere (nowhere_left behind p term list rising found)
    go (e ∷ es) found k = at_entry e es found (same_bytes e.key.row p.key.row && same_bytes e.key.family term) (same_bytes e.key.qualifier p.key.qualifier) refl refl k

strictly : (b : Bool) (r q : Ordering) → reaches b (ordering_then r q) ≡ true → r ≡ Equal → is_eq q ≡ false → is_gt (ordering_then r q) ≡ true
strictly true r q h k l = h
strictly false r q h k l = grind (arith, h, k, l)

-- another document of the row that is reached lies behind the place
behind_place : (behind : Bool) (p e : Cell) → lies_from behind p e ≡ true → e.key.row ≡ p.key.row → same_bytes e.key.qualifier p.key.qualifier ≡ false → lies_from true p e ≡ true
unfolding lies_from document_cmp same_bytes
behind_place behind p e h r q = strictly behind (bytes_cmp e.key.row p.key.row) (bytes_cmp e.key.qualifier p.key.qualifier) h (ap (bytes_cmp e.key.row) (sym r) ∙ text_itself e.key.row) q

-- where it is moved on
pub moved_is : (behind : Bool) (p n : Cell) (term : List ℕ) (list : List Cell) → Ascends above list → (e : Cell) → first (under behind p term list) ≡ Some e → step_to p term (Some e) ≡ Ahead
    → n.key.row ≡ e.key.row → n.key.qualifier ≡ e.key.qualifier → IsAdvance list term behind p n Ahead
unfolding under step_to
moved_is behind p n term list rising e f s row document = go (filter (λ y. reaches behind (index_cmp y.key (document_start p term))) list) refl f
  where
    apart : (a b : Bool) → cond a (cond b Here Ahead) Nowhere ≡ Ahead → (a ≡ true) × (b ≡ false)
    apart true true k = absurd (let l : Here ≡ Ahead = k in cc)
    apart true false k = (refl, refl)
    apart false b k = absurd (nothing_ahead k)

    heads : (a : Cell) → Some a ≡ Some e → a ≡ e
    heads a k = cc

    go : (part : List Cell) → filter (λ y. reaches behind (index_cmp y.key (document_start p term))) list ≡ part → first part ≡ Some e → IsAdvance list term behind p n Ahead
    go [] found k = absurd cc
    go (a ∷ es) found k =
        let found_e : filter (λ y. reaches behind (index_cmp y.key (document_start p term))) list ≡ e ∷ es = found ∙ ap (λ a. a ∷ es) (heads a k) in
        let tests = apart (same_bytes e.key.row p.key.row && same_bytes e.key.family term) (same_bytes e.key.qualifier p.key.qualifier) s in
        let own = of_row behind p term list rising e es found_e tests.0 in
        let at_first = first_reached behind p term list rising e es found_e tests.0 in
        record {
          row = row ∙ own;
          stays = λ h. no (sym h);
          forward = λ h. same_lies true p n e row document ∙ behind_place behind p e at_first own tests.1;
          reached = λ h. same_lies behind p n e row document ∙ at_first;
          shown = λ h. same_has list n e term row document ∙ has_first behind p term list rising e es found_e tests.0;
          left = λ d has. from_first_on behind p term list rising e es found_e tests.0 d has ∙ sym (same_place false n e d row document);
        }

-- where nothing stands, nothing is moved to
pub nothing_shown : (p : Cell) (term : List ℕ) (o : Option Cell) → o ≡ None → step_to p term o ≡ Ahead → ⊥
unfolding step_to
nothing_shown p term o h k = nothing_ahead (sym (ap (step_to p term) h) ∙ k)

pub stays_still : (step : Step) → (step ≡ Ahead → ⊥) → moves step ≡ false
stays_still Here h = refl
stays_still Ahead h = absurd (h refl)
stays_still Nowhere h = refl

pub shows_some : (step : Step) → (step ≡ Nowhere → ⊥) → shows step ≡ true
shows_some Here h = refl
shows_some Ahead h = refl
shows_some Nowhere h = absurd (h refl)

-- whether a list has a document under a term, by the first entry from it on
abbrev pub is_here : Step → Bool
is_here Here = true
is_here Ahead = false
is_here Nowhere = false

pub not_here : (step : Step) → (step ≡ Here → ⊥) → is_here step ≡ false
not_here Here h = absurd (h refl)
not_here Ahead h = refl
not_here Nowhere h = refl

pub from_itself : (p : Cell) → lies_from false p p ≡ true
unfolding lies_from document_cmp
from_itself p = ap (λ o. is_ge (ordering_then o (bytes_cmp p.key.qualifier p.key.qualifier))) (text_itself p.key.row) ∙ ap is_ge (text_itself p.key.qualifier)

pub own_row : (p : Cell) → in_later_row p p ≡ false
unfolding in_later_row
own_row p = ap is_gt (text_itself p.key.row)

-- a document lies before one that is behind it
pub not_back : (p e : Cell) → lies_from true p e ≡ true → lies_from false e p ≡ false
unfolding lies_from
not_back p e h = ge_back document_total p.key e.key ∙ ap not h

pub has_is : (p : Cell) (term : List ℕ) (list : List Cell) → Ascends above list → (step : Step) → step ≡ step_to p term (first (under false p term list)) → has_term list p term ≡ is_here step
unfolding step_to
has_is p term list rising step s = go step s
  where
    lacks : (b : Bool) → has_term list p term ≡ b → (has_term list p term ≡ true → true ≡ false) → b ≡ false
    lacks false h f = refl
    lacks true h f = f h

    entry : (o : Option Cell) → first (under false p term list) ≡ o → Ahead ≡ step_to p term o → has_term list p term ≡ false
    entry None f k = absurd (let l : Ahead ≡ Nowhere = k in cc)
    entry (Some e) f k =
        let moved = moved_is false p e term list rising e f (sym k) refl refl in
        lacks (has_term list p term) refl (λ has. sym (from_itself p) ∙ moved.left p has ∙ not_back p e (moved.forward refl))

    go : (step : Step) → step ≡ step_to p term (first (under false p term list)) → has_term list p term ≡ is_here step
    go Here k = (stays_is false p term list rising Here k refl).shown refl
    go Nowhere k = lacks (has_term list p term) refl (λ has. sym (from_itself p) ∙ (stays_is false p term list rising Nowhere k refl).left p has ∙ own_row p)
    go Ahead k = entry (first (under false p term list)) refl k

-- a term that is longer than a part of a key has no entries
pub too_long : (behind : Bool) (p : Cell) (term : List ℕ) (list : List Cell) → AreEntries list → 1024 < length term → step_to p term (first (under behind p term list)) ≡ Nowhere
unfolding under step_to
too_long behind p term list all long = go (filter (λ y. reaches behind (index_cmp y.key (document_start p term))) list) (all_filter IsEntry (λ y. reaches behind (index_cmp y.key (document_start p term))) list all)
  where
    long_family : (e : Cell) → IsEntry e → (b : Bool) → same_bytes e.key.family term ≡ b → b ≡ false
    long_family e h false k = refl
    long_family e h true k =
        let same : length e.key.family ≡ length term = ap length (equal_texts e.key.family term k) in
        let short : length e.key.family ≤ 1024 = h.0.2 in
        absurd (omega arith)

    ends : (a b c : Bool) → b ≡ false → cond (a && b) (cond c Here Ahead) Nowhere ≡ Nowhere
    ends true b c h = ap (λ b. cond b (cond c Here Ahead) Nowhere) h
    ends false b c h = refl

    go : (part : List Cell) → AreEntries part → step_to p term (first part) ≡ Nowhere
    go [] h = refl
    go (e ∷ es) h = ends (same_bytes e.key.row p.key.row) (same_bytes e.key.family term) (same_bytes e.key.qualifier p.key.qualifier) (long_family e h.0 (same_bytes e.key.family term) refl)
