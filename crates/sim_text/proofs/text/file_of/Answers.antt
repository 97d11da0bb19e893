use Rattle.sim_text_tokens.specs.Lexemes.{tokens_at}
use Rattle.std.proofs.Common.{subst, Ok, length, sym}
use Rattle.std.proofs.Common.{Err}
use Rattle.sim_text.specs.Faults.{IsFaultOf}
use Rattle.sim_text.proofs.Places.{found_of, only_of, refused_of}
use Rattle.sim_text.proofs.text.file_of.Goals as goal

pub returns-in-Ok-clause-found : goal.returns-in-Ok-clause-found
returns-in-Ok-clause-found c =
    found_of (tokens_at c.args.source.now c.args.lexemes.now) c.file.new.tokens (Ok c.in-Ok.found)
    (rw (c.new.ensures, c.in-Ok.is) at c.file.ensures)

pub returns-in-Ok-clause-only : goal.returns-in-Ok-clause-only
returns-in-Ok-clause-only c =
    only_of (tokens_at c.args.source.now c.args.lexemes.now) c.file.new.tokens (Ok c.in-Ok.found)
    (rw (c.new.ensures, c.in-Ok.is) at c.file.ensures)

pub returns-in-Err-clause-refused : goal.returns-in-Err-clause-refused
returns-in-Err-clause-refused c =
    subst (IsFaultOf (tokens_at c.args.source.now c.args.lexemes.now) (length c.args.source.now)) (sym c.fault_of.ensures)
    (refused_of (tokens_at c.args.source.now c.args.lexemes.now) c.file.new.tokens (Err c.in-Err.error)
    (rw (c.new.ensures, c.in-Err.is) at c.file.ensures) (length c.args.source.now))
