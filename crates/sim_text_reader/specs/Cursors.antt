-- What is held of the tokens that a cursor reads.
-- Implementation only: what `simulate` promises does not rest on this file.
use Rattle.std.specs.List.{All}
use Rattle.sim_text_tokens.specs.Token.{HasWord}
use Rattle.sim_text_tree.specs.Input.{Input}

-- The text of each word among the tokens is a word.
abbrev pub AreSpelled : Input → Type 0
AreSpelled tokens = All (λ t. HasWord t.kind t.text) tokens
