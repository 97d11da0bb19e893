use Rattle.std.proofs.Common.{arith}
use Rattle.sim_containers.proofs.Ranges.{beyond_end}
use Rattle.sim_containers.proofs.Sets.{no_member}
use Rattle.sim_containers.proofs.numbers.NumberSet.is_clear.Goals as goal

pub returns : goal.returns
returns c = λ _. no_member c.args.self.now (λ m le. beyond_end c.self.inside.marks c.self.inside.bits c.self.inside.list.items _ c.self.inside.is_listed
    c.self.inside.end c.args.self.now c.self.invariant c.self.view_is m (omega (arith, le, c.if-self-gt0.false)))
