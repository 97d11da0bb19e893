use Rattle.std.proofs.Common.{◌≡◌, ◌+◌, ◌-◌, ◌≤◌, length}
use Rattle.std.specs.Char.{is_ascii_alphanumeric}
use Rattle.sim_text_tokens.specs.Scan.{tail_len}
use Rattle.sim_text_tokens.proofs.scan.word_tail.Given as goal

abbrev pub invariant-loop-rest : goal.invariant-loop-rest
invariant-loop-rest l = (length l.rest ≤ length l.fn.bytes) × ((length l.fn.bytes - length l.rest) + tail_len is_ascii_alphanumeric l.rest ≡ tail_len
    is_ascii_alphanumeric l.fn.bytes)

abbrev pub decreases-loop-rest : goal.decreases-loop-rest
decreases-loop-rest l = length l.rest
