use Rattle.std.proofs.Common.{◌≡◌, ◌∷◌, [], ◌++◌, ◌∙◌, sym, ap, take, drop}
use Rattle.std.proofs.lemmas.List.{nil_from_length}
use Rattle.cell_key.specs.Runs.{kept_run}
use Rattle.cell_key.proofs.Runs.{end_written, run_written}
use Rattle.cell_key.proofs.escaping.append_escape.Goals as goal

pub returns-in_default : goal.returns-in_default
returns-in_default c =
    let rest = c.loop-byte.rest.now in
    let front : c.split_at.result.0.now ≡ take (kept_run rest) rest = c.split_at.ensures.front ∙ ap (λ n. take n rest) c.kept_run.ensures.run in
    let behind : drop (kept_run rest) rest ≡ [] =
    ap (λ n. drop n rest) (sym c.kept_run.ensures.run) ∙ sym c.split_at.ensures.back ∙ nil_from_length _ c.in_default.ensures.cases in
    c.in_ok-append.ensures
    ∙ ap (λ l. c.loop-byte.text ++ l) front
    ∙ sym (end_written c.loop-byte.text rest behind)
    ∙ c.loop-byte.invariant

pub loop-byte-preserved : goal.loop-byte-preserved
loop-byte-preserved c =
    let rest = c.loop-byte.rest.now in
    let front : c.split_at.result.0.now ≡ take (kept_run rest) rest = c.split_at.ensures.front ∙ ap (λ n. take n rest) c.kept_run.ensures.run in
    let behind : drop (kept_run rest) rest ≡ c.in-Some.byte.now ∷ c.in-Some.more.now =
    ap (λ n. drop n rest) (sym c.kept_run.ensures.run) ∙ sym c.split_at.ensures.back ∙ c.in-Some.ensures.cases.0 in
    rw (c.in_ok-append_digits.ensures, c.in_ok-append.ensures, front)
    (sym (run_written c.loop-byte.text rest c.in-Some.byte.now c.in-Some.more.now behind) ∙ c.loop-byte.invariant)
