use Rattle.std.proofs.Common.{◌≡◌, ◌+◌, ◌-◌, ◌≤◌, length}
use Rattle.sim_text_tokens.specs.Scan.{line_len}
use Rattle.sim_text_tokens.proofs.scan.line_len.Given as goal

abbrev pub invariant-loop-rest : goal.invariant-loop-rest
invariant-loop-rest l = (length l.rest ≤ length l.fn.bytes) × ((length l.fn.bytes - length l.rest) + line_len l.rest ≡ line_len l.fn.bytes)

abbrev pub decreases-loop-rest : goal.decreases-loop-rest
decreases-loop-rest l = length l.rest
