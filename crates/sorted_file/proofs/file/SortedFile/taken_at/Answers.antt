use Rattle.std.proofs.Common.{ℕ, List, length, drop, sym, ap, subst, ◌∙◌, arith}
use Rattle.std.specs.Option.{option_map}
use Rattle.cell_key.specs.Views.{cell_of}
use Rattle.byte_fields.specs.Answers.{unread_of}
use Rattle.byte_fields.proofs.Fields.{spot}
use Rattle.sorted_file.specs.Contents.{FileContents}
use Rattle.sorted_file.specs.Outlines.{AreOutlined}
use Rattle.sorted_file.specs.Reading.{entry_at}
use Rattle.sorted_file.specs.declared.version.Version.{Version}
use Rattle.sorted_file.proofs.Places.{near_at, place_within, no_fault, entry_and_next}
use Rattle.sorted_file.proofs.file.SortedFile.taken_at.Goals as goal

pub split_at-requires : goal.split_at-requires
split_at-requires c =
    let file = c.args.self.now in
    omega (arith, ap length c.bytes-bytes.ensures.image, c.requires.place, place_within file.version file.cells c.args.index (omega arith))

pub slices_of-requires : goal.slices_of-requires
slices_of-requires c =
    let near = near_at c.args.self.now.version c.args.self.now.cells c.args.index in
    (near, subst (λ (b : List ℕ). AreOutlined b near c.args.near) (sym c.bytes-bytes.ensures.image) c.requires.near)

pub unreachable-requires : goal.unreachable-requires
unreachable-requires c =
    let file = c.args.self.now in
    let near = near_at file.version file.cells c.args.index in
    no_fault file.version file.cells c.args.index c.args.place (option_map cell_of c.slices_of.result) c.split_at.result.1.now c.in_default.field-0
    (record {
      list_is = c.bytes-bytes.ensures.list;
      inside = c.requires.within;
      place_is = c.requires.place;
      near_is = c.slices_of.ensures near (subst (λ (b : List ℕ). AreOutlined b near c.args.near) (sym c.bytes-bytes.ensures.image) c.requires.near);
      rest_is = c.split_at.ensures.back ∙ ap (drop c.args.place) c.bytes-bytes.ensures.image;
    })
    (ap (λ (v : Version). entry_at v (option_map cell_of c.slices_of.result) (spot c.args.place c.split_at.result.1.now)) (sym (c.self.invariant.version ∙ ap (λ (f : FileContents). f.version) c.self.view_is)) ∙ c.in_default.ensures)

pub returns-clause-entry : goal.returns-clause-entry
returns-clause-entry c =
    let file = c.args.self.now in
    let near = near_at file.version file.cells c.args.index in
    (entry_and_next file.version file.cells c.args.index c.args.place (option_map cell_of c.slices_of.result) c.split_at.result.1.now c.in-Ok.taken.same (cell_of c.in-Ok.taken.entry) (unread_of c.in-Ok.taken.rest)
    (record {
      list_is = c.bytes-bytes.ensures.list;
      inside = c.requires.within;
      place_is = c.requires.place;
      near_is = c.slices_of.ensures near (subst (λ (b : List ℕ). AreOutlined b near c.args.near) (sym c.bytes-bytes.ensures.image) c.requires.near);
      rest_is = c.split_at.ensures.back ∙ ap (drop c.args.place) c.bytes-bytes.ensures.image;
    })
    (ap (λ (v : Version). entry_at v (option_map cell_of c.slices_of.result) (spot c.args.place c.split_at.result.1.now)) (sym (c.self.invariant.version ∙ ap (λ (f : FileContents). f.version) c.self.view_is)) ∙ c.in-Ok.ensures)).0

pub returns-clause-next : goal.returns-clause-next
returns-clause-next c =
    let file = c.args.self.now in
    let near = near_at file.version file.cells c.args.index in
    (entry_and_next file.version file.cells c.args.index c.args.place (option_map cell_of c.slices_of.result) c.split_at.result.1.now c.in-Ok.taken.same (cell_of c.in-Ok.taken.entry) (unread_of c.in-Ok.taken.rest)
    (record {
      list_is = c.bytes-bytes.ensures.list;
      inside = c.requires.within;
      place_is = c.requires.place;
      near_is = c.slices_of.ensures near (subst (λ (b : List ℕ). AreOutlined b near c.args.near) (sym c.bytes-bytes.ensures.image) c.requires.near);
      rest_is = c.split_at.ensures.back ∙ ap (drop c.args.place) c.bytes-bytes.ensures.image;
    })
    (ap (λ (v : Version). entry_at v (option_map cell_of c.slices_of.result) (spot c.args.place c.split_at.result.1.now)) (sym (c.self.invariant.version ∙ ap (λ (f : FileContents). f.version) c.self.view_is)) ∙ c.in-Ok.ensures)).1

pub returns-clause-same : goal.returns-clause-same
returns-clause-same c =
    let file = c.args.self.now in
    let near = near_at file.version file.cells c.args.index in
    sym (entry_and_next file.version file.cells c.args.index c.args.place (option_map cell_of c.slices_of.result) c.split_at.result.1.now c.in-Ok.taken.same (cell_of c.in-Ok.taken.entry) (unread_of c.in-Ok.taken.rest)
    (record {
      list_is = c.bytes-bytes.ensures.list;
      inside = c.requires.within;
      place_is = c.requires.place;
      near_is = c.slices_of.ensures near (subst (λ (b : List ℕ). AreOutlined b near c.args.near) (sym c.bytes-bytes.ensures.image) c.requires.near);
      rest_is = c.split_at.ensures.back ∙ ap (drop c.args.place) c.bytes-bytes.ensures.image;
    })
    (ap (λ (v : Version). entry_at v (option_map cell_of c.slices_of.result) (spot c.args.place c.split_at.result.1.now)) (sym (c.self.invariant.version ∙ ap (λ (f : FileContents). f.version) c.self.view_is)) ∙ c.in-Ok.ensures)).2
