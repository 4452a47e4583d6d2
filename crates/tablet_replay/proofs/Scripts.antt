-- Scripts: how many lines they have, and where they begin.
use Rattle.std.proofs.Common.{◌≡◌, ◌==◌, ℕ, suc, ◌≤◌, Bool, true, false, cond, List, [], ◌∷◌, length, refl, subst, sym, arith}
use Rattle.std.specs.List.{onto_first}
use Rattle.std.proofs.lemmas.List.{length-map}
use Rattle.script_text.specs.Code.{newline}
use Rattle.script_text.specs.Lines.{content, lines_of, raw_lines}
use Rattle.tablet_model.specs.Store.{empty_store}
use Rattle.iter_config.specs.Settings.{Settings}
use Rattle.tablet_core.specs.State.{empty_core, state_of}
use Rattle.tablet_view.specs.Snapshot.{store_of}
use Rattle.tablet_replay.specs.Replay.{replayed_none}
use Rattle.tablet_replay.specs.TabletParts.{replayed_by}

-- a text has no more lines than bytes
raw_few : (text : List ℕ) → length (raw_lines text) ≤ length text
raw_few [] = omega arith
raw_few (b ∷ bs) = go (b == newline) (raw_lines bs) (raw_few bs)
  where
    go : (t : Bool) (lines : List (List ℕ)) → length lines ≤ length bs → length (cond t ((b ∷ []) ∷ lines) (onto_first b lines)) ≤ suc (length bs)
    go true lines h = omega (arith, h)
    go false [] h = omega arith
    go false (l ∷ ls) h = omega (arith, h)

pub lines_few : (text : List ℕ) → length (lines_of text) ≤ length text
lines_few text = subst (λ n. n ≤ length text) (sym (length-map (raw_lines text) content)) (raw_few text)

-- nothing was made where nothing was read
pub begins_empty : (config : Settings) → replayed_by (record { core = empty_core config; sessions = [] }) ≡ replayed_none config
unfolding state_of store_of empty_store
begins_empty config = refl
