use Rattle.std.proofs.Common.{◌≡◌, length, map}
use Rattle.std.specs.Char.{to_ascii_lowercase}
use Rattle.sim_text_tokens.specs.Pieces.{kind_in}
use Rattle.sim_text_tokens.proofs.words.find.Given as goal

abbrev pub invariant-loop-table : goal.invariant-loop-table
invariant-loop-table l = kind_in (map (λ e. (e.0.now, e.1)) l.table) (map to_ascii_lowercase l.word)
    ≡ kind_in (map (λ e. (e.0.now, e.1)) l.initial.table) (map to_ascii_lowercase l.word)

abbrev pub decreases-loop-table : goal.decreases-loop-table
decreases-loop-table l = length l.table
