-- The pass of a stage that wraps another.
use Rattle.std.proofs.Common.{◌≡◌, Bool, cond, List, [], ◌∷◌, refl, ap, ◌∙◌}
use Rattle.tablet_model.specs.Cell.{Cell}
use Rattle.stages.specs.Passes.{kept_from}

-- it keeps what the other keeps
pub wrapped_pass : {T W : Type 0} (keeps : T → Cell → Bool) (passed : T → Cell → T) (wraps : W → Cell → Bool) (past : W → Cell → W) (wrap : T → W)
    → ((s : T) (e : Cell) → wraps (wrap s) e ≡ keeps s e) → ((s : T) (e : Cell) → past (wrap s) e ≡ wrap (passed s e))
    → (s : T) (list : List Cell) → kept_from wraps past (wrap s) list ≡ kept_from keeps passed s list
wrapped_pass keeps passed wraps past wrap h k s [] = refl
wrapped_pass keeps passed wraps past wrap h k s (e ∷ es) =
    ap (λ w. cond (wraps (wrap s) e) (e ∷ kept_from wraps past w es) (kept_from wraps past w es)) (k s e)
    ∙ ap (λ b. cond b (e ∷ kept_from wraps past (wrap (passed s e)) es) (kept_from wraps past (wrap (passed s e)) es)) (h s e)
    ∙ ap (λ l. cond (keeps s e) (e ∷ l) l) (wrapped_pass keeps passed wraps past wrap h k (passed s e) es)
