use Rattle.std.proofs.Common.{rules}
use Rattle.sim_run_listing.proofs.Gathering.{goes_on, fails, takes_none}
use Rattle.sim_run_listing.proofs.block.write_whole.Goals as goal

pub loop-rest-preserved : goal.loop-rest-preserved
loop-rest-preserved g c = let p = goes_on _ _ _ _ _ _ c.loop-rest.invariant c.in-Ok.ensures.bytes in p

pub returns-in-Ok-eq0-clause-part : goal.returns-in-Ok-eq0-clause-part
returns-in-Ok-eq0-clause-part g c = takes_none _ _ _ _ _ c.loop-rest.invariant (search rules) (search rules)

pub returns-in-Ok-eq0-2-clause-part : goal.returns-in-Ok-eq0-2-clause-part
returns-in-Ok-eq0-2-clause-part g c = fails _ _ _ _ _ c.loop-rest.invariant (search rules) (search rules)
