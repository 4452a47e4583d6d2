use Rattle.iter_config.proofs.Prefixes.{scans_run_all}
use Rattle.iter_config.proofs.laws.scans_run_all_iterators.Goals as goal

pub returns : goal.returns
returns c = scans_run_all
