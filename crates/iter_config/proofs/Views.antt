-- What a table and an array of the code are, beside the words for documents.
use Rattle.std.proofs.Common.{◌≡◌, ℕ, Bool, true, false, cond, ◌&&◌, ◌||◌, List, [], ◌∷◌, ◌++◌, map, length, Option, Some, None, Result, Ok, Err, String, Global, Bor, string_bytes, refl, ◌∙◌, ap, arith}
use Rattle.std.specs.List.{list_all, list_any}
use Rattle.std.specs.Map.{keys_of}
use Rattle.std.specs.Str.{bytes_eq, is_utf8, IsUtf8}
use Rattle.std.proofs.lemmas.Str.{IsUtf8-from_is_utf8, is_utf8-from_IsUtf8}
use Rattle.toml.specs.Data.{Members}
use Rattle.toml.specs.Parse.{parse_document}
use Rattle.toml.specs.View.{items_view, members_view}
use Rattle.toml.specs.declared.value.Value.{Value}
use Rattle.iter_config.specs.Faults.{Fault}
use Rattle.iter_config.specs.Fields.{is_among, keys_within}
use Rattle.iter_config.specs.Document.{count_items, document_of}
use Rattle.iter_config.specs.declared.iter_spec.IterSpec.{IterSpec}

-- what was read in front of what is still to be read
abbrev pub with_all : {A : Type 0} → List A → Option (List A) → Option (List A)
with_all xs None = None
with_all xs (Some ys) = Some (xs ++ ys)

-- iterators in front of those that are still to be read
abbrev pub with_iterators : List IterSpec → Result (List IterSpec) Fault → Result (List IterSpec) Fault
with_iterators ss (Ok ts) = Ok (ss ++ ts)
with_iterators ss (Err f) = Err f

-- a list of values has as many items
pub count_view : (vs : List Value) → count_items (items_view vs) ≡ length vs
count_view [] = refl
count_view (v ∷ vs) = let e = count_view vs in omega arith

among_map : (k : List ℕ) (ns : List (Bor (List ℕ))) → list_any (λ n. bytes_eq n.now k) ns ≡ is_among (map (λ n. n.now) ns) k
among_map k [] = refl
among_map k (n ∷ ns) = ap (λ b. bytes_eq n.now k || b) (among_map k ns)

-- the keys of a map are those of its members
pub only_keys : (ns : List (Bor (List ℕ))) (es : List (String Global × Value)) → list_all (λ k. list_any (λ n. bytes_eq n.now (string_bytes k)) ns) (keys_of es) ≡ keys_within (map (λ n. n.now) ns) (members_view es)
only_keys ns [] = refl
only_keys ns (e ∷ es) = ap (λ b. b && list_all (λ k. list_any (λ n. bytes_eq n.now (string_bytes k)) ns) (keys_of es)) (among_map (string_bytes e.0) ns) ∙ ap (λ b. is_among (map (λ n. n.now) ns) (string_bytes e.0) && b) (only_keys ns es)

-- what was parsed is the document
pub has_document : (bytes : List ℕ) (ms : Members) → IsUtf8 bytes → parse_document bytes ≡ Some ms → document_of bytes ≡ Some ms
has_document bytes ms u e = ap (λ b. cond b (parse_document bytes) None) (is_utf8-from_IsUtf8 bytes u) ∙ e

-- what isn't parsed, or is no UTF-8, is no document
pub no_document : (bytes : List ℕ) → (IsUtf8 bytes → parse_document bytes ≡ None) → document_of bytes ≡ None
no_document bytes h =
    let by_answer : (t : Bool) → is_utf8 bytes ≡ t → cond t (parse_document bytes) None ≡ None = λ t. elim t as (λ t. is_utf8 bytes ≡ t → cond t (parse_document bytes) None ≡ None) [
      | true ↦ λ e. h (IsUtf8-from_is_utf8 bytes e)
      | false ↦ λ e. refl
    ] in by_answer (is_utf8 bytes) refl
