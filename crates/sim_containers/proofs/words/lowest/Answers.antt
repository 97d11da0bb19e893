use Rattle.std.proofs.Common.{w64}
use Rattle.std.specs.Int.{bit_at, trailing_zeros}
use Rattle.std.proofs.lemmas.Nat.Bits.{bit_at-trailing_zeros}
use Rattle.sim_containers.proofs.Bits.{one_bit, zero_bit}
use Rattle.sim_containers.proofs.words.lowest.Goals as goal

pub returns-clause-here : goal.returns-clause-here
returns-clause-here c = one_bit (bit_at c.args.word (trailing_zeros w64 c.args.word)) (bit_at-trailing_zeros w64 c.args.word c.requires c.ranges.word.fits).1

pub returns-clause-before : goal.returns-clause-before
returns-clause-before c i l = zero_bit (bit_at c.args.word i) ((bit_at-trailing_zeros w64 c.args.word c.requires c.ranges.word.fits).2 i l)
