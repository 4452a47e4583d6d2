-- What a core tells of itself. All of this is this project's own.
use Rattle.std.specs.Prelude.{◌≡◌, length, map, option_map}
use Rattle.tablet_model.specs.Sorted.{sorted}
use Rattle.tablet_model.specs.Store.{File}
use Rattle.compactor.specs.Jobs.{is_behind, job_of}
use Rattle.tablet_core.specs.State.{CoreState}
use Rattle.compactor.specs.declared.file_sets.FileCount.{FileCount}
use Rattle.tablet_core.specs.declared.status.StoreStatus.{StoreStatus}

-- a file's number, and how many entries it has
abbrev pub count_of : File → FileCount
count_of f = record { id = f.id; count = length f.cells }

-- how much there is in each part of a core; its files in the order of their numbers, its jobs in that of theirs
pub record IsStatusOf (k : CoreState) (s : StoreStatus) : Type 0 where
  pub log : s.log ≡ length k.view.log
  pub memory : s.memory ≡ length k.view.memory
  pub frozen : s.frozen ≡ option_map (λ z. length z) k.view.frozen
  pub files : s.files ≡ map count_of k.view.files
  pub jobs : map job_of s.jobs ≡ sorted is_behind k.jobs
