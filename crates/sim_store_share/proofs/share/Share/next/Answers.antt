use Rattle.std.proofs.Common.{ap, sym, ◌∙◌}
use Rattle.sim_standard.specs.Drivers.{next_time}
use Rattle.sim_store_share.proofs.Held.{least-known, own-drivers}
use Rattle.sim_store_share.proofs.share.Share.next.Goals as goal

pub returns-clause-value : goal.returns-clause-value
returns-clause-value c =
    let e = c.bring_up_to_date.ensures in
    c.least.ensures ∙ (least-known c.bring_up_to_date.new.times c.self.inside.drivers (e.sized ∙ c.self.invariant.sized) e.timed
    c.in_ok-bring_up_to_date.ensures.current
    ∙ ap next_time (sym (own-drivers c.self.inside.drivers c.self.inside.variables c.args.self.now c.self.view_is c.self.invariant.owned)))
