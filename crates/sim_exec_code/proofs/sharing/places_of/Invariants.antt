use Rattle.std.proofs.Common.{ℕ, List, Option, take}
use Rattle.std.specs.List.{AllZip}
use Rattle.sim_flat_design.specs.Processes.{Process}
use Rattle.sim_exec_code.specs.Codes.{Program, IsCodeOf, IsCodeAt, code_at}
use Rattle.sim_exec_code.proofs.sharing.places_of.Given as goal

-- the indices so far are those of the processes' codes
abbrev pub invariant-loop-i : goal.invariant-loop-i
invariant-loop-i l = (codes : List (Option Program)) → AllZip (IsCodeAt l.processes) l.firsts codes
    → AllZip (λ (p : Process) (n : ℕ). IsCodeOf p.body (code_at codes n)) (take l.i l.processes) l.places.items
