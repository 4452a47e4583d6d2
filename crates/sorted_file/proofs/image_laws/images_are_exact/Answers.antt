use Rattle.byte_fields.proofs.Fields.{in_bytes}
use Rattle.sorted_file.proofs.ImageLaws.{image_again, image_take}
use Rattle.sorted_file.proofs.image_laws.images_are_exact.Goals as goal

pub returns-clause-read : goal.returns-clause-read
returns-clause-read c = image_again

pub returns-clause-image : goal.returns-clause-image
returns-clause-image c = λ bytes file are e. (image_take bytes file (in_bytes bytes are) e).0

pub returns-clause-list : goal.returns-clause-list
returns-clause-list c = λ bytes file are e. (image_take bytes file (in_bytes bytes are) e).1
