use Rattle.std.proofs.Common.{◌-◌, [], ◌∷◌, ◌++◌, ap, ◌∙◌, None, Some, refl}
use Rattle.std.specs.Option.{option_map}
use Rattle.cell_key.specs.Views.{cell_of}
use Rattle.byte_fields.specs.Answers.{unread_of}
use Rattle.whole_row.specs.RowReading.{entries_at}
use Rattle.whole_row.proofs.Texts.{with_front, nothing_read, all_read, goes_on}
use Rattle.whole_row.proofs.TextAnswers.{refused}
use Rattle.whole_row.proofs.reading.take_entries.Goals as goal

pub loop-left-init : goal.loop-left-init
loop-left-init c = nothing_read c.args.row.now c.new-entries.result (entries_at c.args.row.now c.args.count None (unread_of c.args.input)) c.new-entries.ensures

pub returns-in_err-entry : goal.returns-in_err-entry
returns-in_err-entry c =
    let l = c.loop-left in
    refused _ c.from_residual.result c.in_err-entry.field-0.0 c.args.row.now l.entries l.left (option_map cell_of l.before) (unread_of l.rest) _ c.loop-left-test.true c.from_residual.ensures.1 c.in_err-entry.ensures l.invariant

pub loop-left-preserved : goal.loop-left-preserved
loop-left-preserved c =
    let l = c.loop-left in
    ap (λ front. with_front c.args.row.now front (entries_at c.args.row.now (l.left - 1) (Some (cell_of c.in_ok-entry.entry)) (unread_of c.in_ok-entry.behind))) c.in_ok-push.ensures
    ∙ ap (λ e. with_front c.args.row.now (l.entries ++ e ∷ []) (entries_at c.args.row.now (l.left - 1) (Some (cell_of c.in_ok-entry.entry)) (unread_of c.in_ok-entry.behind))) c.in_ok-of.ensures
    ∙ goes_on c.args.row.now l.entries l.left (l.left - 1) (option_map cell_of l.before) (unread_of l.rest) (cell_of c.in_ok-entry.entry) (unread_of c.in_ok-entry.behind) _ c.loop-left-test.true refl c.in_ok-entry.ensures l.invariant

pub returns : goal.returns
returns c = all_read c.args.row.now c.loop-left.entries c.loop-left.left (option_map cell_of c.loop-left.before) (unread_of c.loop-left.rest) _ c.loop-left-test.false c.loop-left.invariant
