use Rattle.std.proofs.Common.{◌∙◌, ap, arith, false, set, sym}
use Rattle.std.proofs.lemmas.List.{set-get_or}
use Rattle.sim_containers.proofs.Ranges.{beyond_end}
use Rattle.sim_containers.proofs.numbers.NumberSet.remove.Goals as goal

pub returns-then-number-self : goal.returns-then-number-self
returns-then-number-self c =
    let none = beyond_end c.self.inside.marks c.self.inside.bits c.self.inside.list.items _ c.self.inside.is_listed c.self.inside.end
    c.args.self.now c.self.invariant c.self.view_is c.args.number (omega (arith, c.if-number-self.true)) in
    sym (set-get_or c.args.self.now c.args.number false) ∙ ap (set c.args.self.now c.args.number) none
