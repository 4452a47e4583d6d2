use Rattle.std.proofs.Common.{◌∙◌}
use Rattle.live_tablet.proofs.Scans.{scans_on}
use Rattle.live_tablet.proofs.scan.Scan.fetch.Goals as goal

pub invariant_of-self : goal.invariant_of-self
invariant_of-self g c =
    let said = c.in-Ok.ensures in
    let inside = c.self.inside in (
      said.same.mode ∙ c.self.invariant.0,
      c.self.invariant.1,
      λ whole.
          let kept = c.is_lost-self-inside.ensures whole in
          scans_on c.fetch.new.self inside.session inside.least inside.batch inside.fetches c.is_lost-self-inside.new.fetches c.in-Ok.fetched inside.ended
          kept.1 (c.self.invariant.2 kept.0) said.same said.extends said.walk said.enough said.ended,
    )
