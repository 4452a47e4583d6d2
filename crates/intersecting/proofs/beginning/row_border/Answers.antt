use Rattle.std.proofs.Common.{sym, ap, ◌∙◌}
use Rattle.cell_key.specs.Ranges.{cut_of}
use Rattle.cell_key.specs.Views.{key_of}
use Rattle.tablet_model.specs.Cuts.{is_behind}
use Rattle.intersecting.specs.Searches.{among}
use Rattle.intersecting.proofs.Beginnings.{behind_row, past_row}
use Rattle.intersecting.proofs.beginning.row_border.Goals as goal

pub returns-in-At-clause-same : goal.returns-in-At-clause-same
returns-in-At-clause-same c = λ none d shaped. behind_row (key_of c.in-At.key) d.key (sym (ap (λ s. among (cut_of s)) c.in-At.is) ∙ none) shaped ∙ sym (ap (λ s. is_behind (cut_of s) d.key) c.in-At.is)

pub returns-in-Past-clause-same : goal.returns-in-Past-clause-same
returns-in-Past-clause-same c = λ none d shaped. past_row (key_of c.in-Past.key) d.key (sym (ap (λ s. among (cut_of s)) c.in-Past.is) ∙ none) shaped ∙ sym (ap (λ s. is_behind (cut_of s) d.key) c.in-Past.is)
