use Rattle.std.proofs.Common.{◌≡◌, drop, map}
use Rattle.sim_flat_design.specs.Bodies.{all}
use Rattle.sim_exec_code.specs.Fitting as spec
use Rattle.sim_exec_code.proofs.rising.conditionals_rise.Given as goal

abbrev pub invariant-loop-conditional : goal.invariant-loop-conditional
invariant-loop-conditional l =
    all (map spec.conditional_rises (drop l.conditional-index l.conditionals)) ≡ all (map spec.conditional_rises l.conditionals)
