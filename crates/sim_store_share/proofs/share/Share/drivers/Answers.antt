use Rattle.std.proofs.Common.{ap, sym, ◌∙◌, length}
use Rattle.sim_store_share.proofs.Held.{own-drivers}
use Rattle.sim_store_share.proofs.share.Share.drivers.Goals as goal

pub returns : goal.returns
returns c =
    ap length c.flat.ensures
    ∙ ap length (sym (own-drivers c.self.inside.drivers c.self.inside.variables c.args.self.now c.self.view_is c.self.invariant.owned))
