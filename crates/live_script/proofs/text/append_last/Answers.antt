use Rattle.std.proofs.Common.{◌+◌, ap}
use Rattle.live_script.specs.Texts.{final_text}
use Rattle.live_script.proofs.Texts.{numbered_next}
use Rattle.live_script.proofs.text.append_last.Goals as goal

pub loop-walk-preserved : goal.loop-walk-preserved
loop-walk-preserved c = (
  ap (λ n. n + 1) c.loop-walk.invariant.0,
  numbered_next final_text c.args.walks.now c.loop-walk.walk-index c.loop-walk.number c.walk-item.result c.args.text.now c.loop-walk.text c.append_final.new.text c.loop-walk-test.true c.walk-item.is
      c.loop-walk.invariant.0 c.loop-walk.invariant.1 c.in_ok-append_final.ensures,
)
