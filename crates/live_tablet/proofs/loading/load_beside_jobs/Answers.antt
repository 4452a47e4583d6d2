use Rattle.tablet_view.proofs.Orders.{extends_trans}
use Rattle.live_tablet.proofs.Runs.{on_ok}
use Rattle.live_tablet.proofs.loading.load_beside_jobs.Goals as goal

pub returns-clause-extends : goal.returns-clause-extends
returns-clause-extends g c =
    on_ok c.begin_jobs.result (λ begun. extends_trans _ _ _ begun (extends_trans _ _ _ c.in_ok-install_jobs.ensures.extends c.in_ok-done.ensures.extends)) c.begin_jobs.ensures.extends
