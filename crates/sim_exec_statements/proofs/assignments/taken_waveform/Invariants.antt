use Rattle.std.proofs.Common.{◌≡◌, drop}
use Rattle.sim_standard.specs.Expressions as values
use Rattle.sim_exec_statements.proofs.assignments.taken_waveform.Given as goal

-- no waveform so far is taken
abbrev pub invariant-loop-conditional : goal.invariant-loop-conditional
invariant-loop-conditional g l =
    values.taken_waveform (g.N.Nets.look l.nets) l.variables (drop l.conditional-index l.conditional-items) l.assignment.otherwise
    ≡ values.taken_waveform (g.N.Nets.look l.nets) l.variables l.fn.assignment.conditional l.fn.assignment.otherwise
