-- Stored files as files of the model. All of this is this project's own.
use Rattle.std.specs.Arc.{arc_value}
use Rattle.tablet_model.specs.Store.{File}
use Rattle.tablet_view.specs.declared.files.StoredFile.{StoredFile}

-- its number, and the entries of what it shares
abbrev pub file_of : StoredFile → File
file_of f = record { id = f.id; cells = (arc_value f.file).cells }
