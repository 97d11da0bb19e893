use Rattle.std.proofs.Common.{◌≡◌, map, length}
use Rattle.std.specs.Char.{to_ascii_lowercase}
use Rattle.std.specs.Str.{bytes_eq}
use Rattle.sim_text_tokens.proofs.words.is_same.Given as goal

abbrev pub invariant-loop-others : goal.invariant-loop-others
invariant-loop-others l = bytes_eq l.others (map to_ascii_lowercase l.bytes) ≡ bytes_eq l.lower (map to_ascii_lowercase l.word)

abbrev pub decreases-loop-others : goal.decreases-loop-others
decreases-loop-others l = length l.others
