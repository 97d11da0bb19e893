use Rattle.std.proofs.Common.{◌≤◌, length, arith}
use Rattle.sim_text_tokens.specs.Lexemes.{tokens_at}
use Rattle.sim_text.proofs.Texts.{is_short, only_in, read_within, not_too_long}
use Rattle.sim_text.proofs.text.parse_within.Goals as goal

pub returns-clause-only : goal.returns-clause-only
returns-clause-only c =
    only_in c.args.bytes c.args.source.now (tokens_at c.args.source.now c.in_ok-lexemes.lexemes.items) c.in_ok-lexemes.ensures.found c.file_of.result
    (rw c.as_slice.ensures.value at c.file_of.ensures.only)

pub returns-clause-read : goal.returns-clause-read
returns-clause-read c =
    let short : length c.args.source.now ≤ c.args.bytes =
    is_short c.args.bytes (length c.args.source.now) c.lexemes_within.result c.in_ok-lexemes.lexemes c.in_ok-lexemes.was c.lexemes_within.ensures.too_long in
    read_within c.args.bytes c.args.source.now (tokens_at c.args.source.now c.in_ok-lexemes.lexemes.items) short c.in_ok-lexemes.ensures.found
    c.file_of.result (rw c.as_slice.ensures.value at c.file_of.ensures.found) (rw c.as_slice.ensures.value at c.file_of.ensures.refused)

pub returns-clause-too_long : goal.returns-clause-too_long
returns-clause-too_long c =
    let short : length c.args.source.now ≤ c.args.bytes =
    is_short c.args.bytes (length c.args.source.now) c.lexemes_within.result c.in_ok-lexemes.lexemes c.in_ok-lexemes.was c.lexemes_within.ensures.too_long in (
      λ e. absurd (not_too_long (tokens_at c.args.source.now c.in_ok-lexemes.lexemes.items) (length c.args.source.now) c.file_of.result
          (rw c.as_slice.ensures.value at c.file_of.ensures.refused) e),
      λ h. absurd (omega (arith, h, short)),
    )
