use Rattle.std.proofs.lemmas.Grind.{common_steps}
use Rattle.std.proofs.Common.{◌≡◌, None, rules, arith}
use Rattle.sim_containers.specs.Times.{time_of}
use Rattle.sim_containers.proofs.Queues.{joined_front}
use Rattle.sim_containers.proofs.times.TimeQueue.put.Goals as goal

pub invariant_of-self : goal.invariant_of-self
invariant_of-self c =
    let free : time_of c.self.inside.times.items c.args.driver ≡ None = search rules in
    joined_front c.self.inside.times.items c.self.inside.front_time c.self.inside.later_time c.self.inside.front c.self.inside.later c.insert.new.self _
    c.args.driver free c.insert.ensures
    c.self.invariant

pub returns-then-eq-clause-ok : goal.returns-then-eq-clause-ok
returns-then-eq-clause-ok c = grind (arith, common_steps)

pub insert-requires : goal.insert-requires
insert-requires c = grind (arith, common_steps)
