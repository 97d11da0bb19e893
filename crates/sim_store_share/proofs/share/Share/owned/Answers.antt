use Rattle.std.proofs.Common.{sym, ◌∙◌, arith}
use Rattle.sim_store_share.proofs.Contents.{same_owned}
use Rattle.sim_store_share.proofs.Held.{own-at, own-count}
use Rattle.sim_store_share.proofs.share.Share.owned.Goals as goal

pub row-requires : goal.row-requires
row-requires c =
    omega (arith, c.requires, own-count c.self.inside.drivers c.self.inside.variables c.args.self.now c.self.view_is c.self.invariant.owned)

pub row-requires-2 : goal.row-requires-2
row-requires-2 c =
    omega (
      arith,
      c.requires,
      own-count c.self.inside.drivers c.self.inside.variables c.args.self.now c.self.view_is c.self.invariant.owned,
      c.self.invariant.owned,
    )

pub returns : goal.returns
returns c =
    same_owned c.row.ensures c.row-2.ensures
    ∙ sym (own-at c.self.inside.drivers c.self.inside.variables c.args.self.now c.self.view_is c.self.invariant.owned c.args.place)
