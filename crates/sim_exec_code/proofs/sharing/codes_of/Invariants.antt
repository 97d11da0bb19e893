use Rattle.std.proofs.Common.{take}
use Rattle.std.specs.List.{AllZip}
use Rattle.sim_exec_code.specs.Codes.{IsCodeAt}
use Rattle.sim_exec_code.proofs.sharing.codes_of.Given as goal

-- the codes so far are those of these processes
abbrev pub invariant-loop-number : goal.invariant-loop-number
invariant-loop-number l = AllZip (IsCodeAt l.processes) (take l.number-index l.numbers) l.codes.items
