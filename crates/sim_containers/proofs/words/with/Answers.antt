use Rattle.std.proofs.Common.{w64, ap, ℕ, eqb, sym, ◌∙◌, ◌*◌, ◌^◌, ◌%◌, ◌-◌, bit_and}
use Rattle.std.specs.Int.{bit_at}
use Rattle.std.specs.Int.RustNames.{bit_or}
use Rattle.std.proofs.lemmas.Nat.Bits.{bit_at_set_same, bit_at_set_other, bit_at_clear_same, bit_at_clear_other}
use Rattle.sim_containers.proofs.Bits.{one_bit, zero_bit}
use Rattle.sim_containers.proofs.words.with.Goals as goal

pub returns-then-is_set-clause-here : goal.returns-then-is_set-clause-here
returns-then-is_set-clause-here c =
    one_bit (bit_at (bit_or c.args.word (1 * 2 ^ c.args.place % 2 ^ 64)) c.args.place) (bit_at_set_same w64 c.args.word c.args.place c.requires)
    ∙ sym c.if-is_set.true

pub returns-then-is_set-clause-others : goal.returns-then-is_set-clause-others
returns-then-is_set-clause-others c i l other = ap (λ (b : ℕ). eqb b 1) (bit_at_set_other w64 c.args.word c.args.place c.requires i other)

pub returns-else-is_set-clause-here : goal.returns-else-is_set-clause-here
returns-else-is_set-clause-here c =
    zero_bit (bit_at (bit_and c.args.word (2 ^ 64 - 1 - 1 * 2 ^ c.args.place % 2 ^ 64)) c.args.place)
    (bit_at_clear_same w64 c.args.word c.args.place c.requires) ∙ sym c.if-is_set.false

pub returns-else-is_set-clause-others : goal.returns-else-is_set-clause-others
returns-else-is_set-clause-others c i l other = ap (λ (b : ℕ). eqb b 1) (bit_at_clear_other w64 c.args.word c.args.place c.requires i l other)
