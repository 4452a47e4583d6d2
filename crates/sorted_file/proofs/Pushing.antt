-- An entry that is put at the end of a builder, and the entries of a file that are put one after the other.
use Rattle.std.proofs.Common.{◌≡◌, ℕ, zero, suc, ◌+◌, ◌<◌, ◌≤◌, Bool, true, false, List, [], ◌∷◌, ◌++◌, length, drop, take, Option, Some, None, slice_get, refl, sym, ap, subst, ◌∙◌, length-append, arith}
use Rattle.std.specs.Bool.{then_some}
use Rattle.std.specs.List.{last_or}
use Rattle.std.specs.Option.{unwrap_or}
use Rattle.std.proofs.lemmas.List.{append-nil, drop_at}
use Rattle.tablet_model.specs.Cell.{Cell}
use Rattle.iter_contract.specs.Following.{is_out_of_order}
use Rattle.iter_contract.proofs.Following.{Follows, ascends_follows}
use Rattle.sorted_file.specs.BuilderParts.{built_list, IsBuilt}
use Rattle.sorted_file.specs.Image.{neighbour, shared_parts, sharing_bytes, block_start}
use Rattle.sorted_file.specs.Lists.{IsFileEntry, IsFileList, longest_value}
use Rattle.sorted_file.specs.Outlines.{IsOutlined, AreOutlined, time_place, outline_of}
use Rattle.sorted_file.specs.Versions.{has_neighbour}
use Rattle.sorted_file.specs.declared.builder.FileBuilder.TheInside.{Inside}
use Rattle.sorted_file.specs.declared.outline.Outline.{Outline}
use Rattle.sorted_file.specs.declared.version.Version.TheVariants.{Two}
use Rattle.sorted_file.proofs.Building.{is_built, built_push}
use Rattle.sorted_file.proofs.Layouts.{SharedSlices, shared_slices, parts, entry_end, outlined_longer, near_outlined}
use Rattle.sorted_file.proofs.Places.{around, the_entry_is}
use Rattle.sorted_file.proofs.Walks.{same_entry}

-- ---- the last entry of a builder

last_some : (x : Cell) (xs : List Cell) → (b : Cell) × (last_or (Some x) xs ≡ Some b)
last_some x [] = (x, refl)
last_some x (y ∷ ys) = last_some y ys

last_there : (list : List Cell) (n : ℕ) → n ≡ length list → has_neighbour Two n ≡ true → (b : Cell) × (last_or None list ≡ Some b)
last_there [] n e h = let none : has_neighbour Two n ≡ false = ap (has_neighbour Two) e in absurd cc
last_there (x ∷ xs) n e h = last_some x xs

-- in bytes that have the outline of the last entry as the builder's have, the neighbour of the next one is outlined
pub built_near : (b : Inside) (list : List Cell) (bytes : List ℕ) → IsBuilt b → built_list b ≡ list → ((x : Cell) → IsOutlined b.bytes x b.last → IsOutlined bytes x b.last)
    → AreOutlined bytes (neighbour Two b.count (last_or None list)) (then_some (has_neighbour Two b.count) b.last)
built_near b list bytes is same lift =
    near_outlined bytes Two b.count (last_or None list) b.last
    (λ h. let x = last_there list b.count (is.count ∙ ap length same) h in (x.0, x.1, lift x.0 (is.last x.0 (ap (last_or None) same ∙ x.1))))

any_way : (b : Bool) (o : Outline) → unwrap_or (then_some b o) o ≡ o
any_way true o = refl
any_way false o = refl

-- where the entry that is put ends
pub pushed_end : (same at : ℕ) (old new : List ℕ) (e : Cell) → at ≡ length old → new ≡ old ++ sharing_bytes Two same e → time_place same (at + 1) e + (13 + length e.value) ≡ length new
pushed_end same at old new e place bytes =
    omega (arith, place, entry_end Two same at 1 e refl, ap length bytes, length-append old (sharing_bytes Two same e))

-- a builder with one entry more
pub pushed : (b next : Inside) (list : List Cell) (e : Cell) (same : ℕ) → IsBuilt b → built_list b ≡ list → IsFileEntry e → is_out_of_order (last_or None list) e ≡ false
    → same ≡ shared_parts (neighbour Two b.count (last_or None list)) e → next.bytes ≡ b.bytes ++ sharing_bytes Two same e → next.blocks.items ≡ b.blocks.items ++ block_start b.count (length b.bytes) → next.count ≡ b.count + 1
    → next.last ≡ outline_of b.last same (length b.bytes + 1) e → IsBuilt next × (built_list next ≡ list ++ e ∷ [])
pushed b next list e same is same_list fits ordered greatest bytes blocks count last =
    let near = neighbour Two b.count (last_or None list) in
    let text : List ℕ = sharing_bytes Two same e in
    let at : ℕ = length b.bytes in
    let lift : (x : Cell) → IsOutlined b.bytes x b.last → IsOutlined next.bytes x b.last = λ x o. subst (λ (bs : List ℕ). IsOutlined bs x b.last) (sym bytes) (outlined_longer b.bytes text x b.last o) in
    let near_is = built_near b list next.bytes is same_list lift in
    let slices = shared_slices next.bytes near (then_some (has_neighbour Two b.count) b.last) b.last e near_is in
    let slices' = subst (λ (o : Outline). SharedSlices next.bytes o (shared_parts near e) e.key) (any_way (has_neighbour Two b.count) b.last) slices in
    let slices'' = subst (λ (k : ℕ). SharedSlices next.bytes b.last k e.key) (sym greatest) slices' in
    let from : drop at next.bytes ≡ text ++ [] = ap (drop at) bytes ∙ drop_at b.bytes text at refl ∙ sym (append-nil text) in
    let end = pushed_end same at b.bytes next.bytes e refl bytes in
    let outlined = parts next.bytes Two same at 1 b.last e [] refl from (omega (arith, end)) fits.0 slices'' in
    built_push b list e is same_list fits ordered next (bytes ∙ ap (λ (k : ℕ). b.bytes ++ sharing_bytes Two k e) greatest) blocks count
    (subst (IsOutlined next.bytes e) (sym last) outlined)

-- a builder that stays as it was
pub kept : (b next : Inside) → IsBuilt b → next.bytes ≡ b.bytes → next.blocks.items ≡ b.blocks.items → next.count ≡ b.count → next.last ≡ b.last → IsBuilt next × (built_list next ≡ built_list b)
kept b next is bytes blocks count last =
    is_built next (built_list b) (bytes ∙ is.image) is.list (blocks ∙ is.blocks) (count ∙ is.count)
    (λ x h. subst (λ (bs : List ℕ). IsOutlined bs x next.last) (sym bytes) (subst (IsOutlined b.bytes x) (sym last) (is.last x h)))

-- ---- the entries of a file

-- each may be put behind those before it
order_at : (before : Option Cell) (list : List Cell) (i : ℕ) (e : Cell) → Follows before list → slice_get list i ≡ Some e → is_out_of_order (last_or before (take i list)) e ≡ false
order_at before [] i e f is = absurd cc
order_at before (x ∷ xs) zero e f is = let same : x ≡ e = cc in subst (λ (y : Cell). is_out_of_order before y ≡ false) same f.0
order_at before (x ∷ xs) (suc i) e f is = order_at (Some x) xs i e f.1 is

pub in_order : (list : List Cell) (i : ℕ) (e : Cell) → IsFileList list → slice_get list i ≡ Some e → is_out_of_order (last_or None (take i list)) e ≡ false
in_order list i e is at = order_at None list i e (ascends_follows list is.ascends) at

pub short_value : (list : List Cell) (i : ℕ) (e : Cell) → IsFileList list → i < length list → slice_get list i ≡ Some e → length e.value ≤ longest_value e.key.deleted
short_value list i e is l at =
    let a = around list i l in
    subst (λ (x : Cell). length x.value ≤ longest_value x.key.deleted) (same_entry list i a e at) (the_entry_is IsFileEntry list i a is.entries).1

pub one_more : (list built : List Cell) (i j : ℕ) (e : Cell) → i < length list → slice_get list i ≡ Some e → built ≡ take i list → j ≡ i + 1 → built ++ e ∷ [] ≡ take j list
one_more list built i j e l at so_far next =
    let a = around list i l in
    ap (λ (b : List Cell). b ++ e ∷ []) so_far ∙ ap (λ (x : Cell). take i list ++ x ∷ []) (sym (same_entry list i a e at)) ∙ sym a.up_to ∙ ap (λ (n : ℕ). take n list) (sym next)
