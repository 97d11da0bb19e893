use Rattle.std.proofs.Common.{refl}
use Rattle.sim_containers.proofs.Sets.{no_member}
use Rattle.sim_containers.proofs.numbers.NumberSet.is_empty.Goals as goal

pub returns-in-None : goal.returns-in-None
returns-in-None c = (λ _. no_member c.args.self.now c.in-None.ensures, λ _. refl)
