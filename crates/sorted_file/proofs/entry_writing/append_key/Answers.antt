use Rattle.std.proofs.Common.{◌≡◌, ℕ, ℤ, ◌++◌, List, ap, ◌∙◌, append_assoc}
use Rattle.std.specs.Int.{w64, cast_unsigned}
use Rattle.std.proofs.lemmas.Int.{to_z-of_z}
use Rattle.byteorder.specs.Endian.{big_bytes}
use Rattle.tablet_model.proofs.Times.{time_fits}
use Rattle.sorted_file.specs.Image.{flag_bytes, key_bytes}
use Rattle.sorted_file.proofs.entry_writing.append_key.Goals as goal

grouped : (old r f q v t d : List ℕ) → (((((old ++ r) ++ f) ++ q) ++ v) ++ t) ++ d ≡ old ++ (((((r ++ f) ++ q) ++ v) ++ t) ++ d)
grouped old r f q v t d = simp append_assoc

behind : (x y part : List ℕ) → x ≡ y → x ++ part ≡ y ++ part
behind x y part e = ap (λ (b : List ℕ). b ++ part) e

pub returns : goal.returns
unfolding key_bytes
returns c =
    c.in_ok-append_flag.ensures ∙ behind _ _ (flag_bytes c.args.key.deleted)
    (c.in_ok-append_time.ensures ∙ ap (λ (t : ℤ). c.append_part-4.new.bytes.items ++ big_bytes 8 (cast_unsigned w64 t)) (to_z-of_z w64 c.args.key.time (time_fits c.args.key.time c.args.key.in_time)) ∙ behind _ _ _
    (c.in_ok-append_part-4.ensures ∙ behind _ _ _ (c.in_ok-append_part-3.ensures ∙ behind _ _ _ (c.in_ok-append_part-2.ensures ∙ behind _ _ _ c.in_ok-append_part.ensures))))
    ∙ grouped c.args.bytes.now.items _ _ _ _ _ _
