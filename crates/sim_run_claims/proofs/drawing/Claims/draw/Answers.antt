use Rattle.std.proofs.Common.{rules}
use Rattle.sim_run_claims.proofs.TableSteps.{draws}
use Rattle.sim_run_claims.proofs.drawing.Claims.draw.Goals as goal

pub fetch_add-found-requires : goal.fetch_add-found-requires
fetch_add-found-requires c = (search rules, search rules, draws _ _ _ _ (search rules) (search rules))

pub returns-then-found-self-clause-allowed : goal.returns-then-found-self-clause-allowed
returns-then-found-self-clause-allowed c _ = (c.if-found-self.true, c.fetch_add-found.ensures.2.1 (rw c.requires.1 c.if-found-self.true))
