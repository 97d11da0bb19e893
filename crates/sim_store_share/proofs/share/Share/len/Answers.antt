use Rattle.std.proofs.Common.{sym, ◌∙◌}
use Rattle.sim_store_share.proofs.Held.{own-count}
use Rattle.sim_store_share.proofs.share.Share.len.Goals as goal

pub returns : goal.returns
returns c = c.len.ensures ∙ sym (own-count c.self.inside.drivers c.self.inside.variables c.args.self.now c.self.view_is c.self.invariant.owned)
