-- What a file has, by its fields (this project's own).
use Rattle.std.specs.Prelude.{◌≡◌, length}
use Rattle.sorted_file.specs.Contents.{FileContents}
use Rattle.sorted_file.specs.Image.{block_places, image_of}
use Rattle.sorted_file.specs.Lists.{IsFileList}
use Rattle.sorted_file.specs.Answers.{contents_in}
use Rattle.sorted_file.specs.declared.file.SortedFile.TheInside.{Inside}

-- the version of a file, and its entries
abbrev pub file_contents : Inside → FileContents
file_contents f = contents_in f.bytes

-- the bytes are the image of the entries in the version, and the blocks and the count are the entries'
pub record IsFile (f : Inside) : Type 0 where
  pub version : f.version ≡ (file_contents f).version
  pub image : f.bytes ≡ image_of (file_contents f).version (file_contents f).cells
  pub list : IsFileList (file_contents f).cells
  pub blocks : f.blocks.items ≡ block_places (file_contents f).version (file_contents f).cells
  pub count : f.count ≡ length (file_contents f).cells
