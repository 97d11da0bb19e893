use Rattle.std.proofs.Common.{arith, inl, rules, sym, ◌∙◌, map}
use Rattle.std.specs.Prelude.{string_bytes}
use Rattle.sim_run_session.specs.Run.{Lists}
use Rattle.sim_run_session.specs.Simulation.{HasDesignWithin}
use Rattle.sim_run_session.proofs.Programs.{has_run, quiet, status_1, status_2, status_3, stopped}
use Rattle.sim_run_session.proofs.program.session_with_hints.Goals as goal

pub returns-in-Ok-carry_out-clause-success : goal.returns-in-Ok-carry_out-clause-success
returns-in-Ok-carry_out-clause-success g c = λ _.
    inl (has_run (map string_bytes c.args.words.items) (g.R.Read.remaining c.args.input.now) c.in-Ok.request c.in-Ok.ensures.read
    c.in-Ok-carry_out.ensures.range
    (λ limits text options. HasDesignWithin limits text options (λ design. Lists design options (g.W.Write.contents c.args.out.now)
    (g.W.Write.contents c.carry_out.new.out)))
    c.in-Ok-carry_out.ensures.listed)

pub returns-in-Ok-carry_out-clause-text : goal.returns-in-Ok-carry_out-clause-text
returns-in-Ok-carry_out-clause-text g c = search rules

pub returns-in-Ok-carry_out-clause-quiet : goal.returns-in-Ok-carry_out-clause-quiet
returns-in-Ok-carry_out-clause-quiet g c = search rules

pub returns-clause-text : goal.returns-clause-text
returns-clause-text g c =
    λ is. status_1 (map string_bytes c.args.words.items) (g.R.Read.remaining c.args.input.now) c.in-Ok.request c.in-Ok.ensures.read
    c.in-Err-carry_out.failure (sym c.status_of_failure.ensures ∙ is) c.in-Err-carry_out.ensures.failed

pub returns-clause-words : goal.returns-clause-words
returns-clause-words g c =
    λ is. status_2 (map string_bytes c.args.words.items) (g.R.Read.remaining c.args.input.now) c.in-Ok.request c.in-Ok.ensures.read
    c.in-Err-carry_out.failure (sym c.status_of_failure.ensures ∙ is) c.in-Err-carry_out.ensures.failed

pub returns-clause-limit : goal.returns-clause-limit
returns-clause-limit g c =
    λ is. status_3 (map string_bytes c.args.words.items) (g.R.Read.remaining c.args.input.now) c.in-Ok.request c.in-Ok.ensures.read
    c.in-Err-carry_out.failure (g.W.Write.contents c.args.out.now) (g.W.Write.contents c.carry_out.new.out) (sym c.status_of_failure.ensures ∙ is)
    c.in-Err-carry_out.ensures.failed c.in-Err-carry_out.ensures.left

pub returns-clause-quiet : goal.returns-clause-quiet
returns-clause-quiet g c = λ some few.
    quiet (map string_bytes c.args.words.items) (g.R.Read.remaining c.args.input.now) c.in-Ok.request c.in-Ok.ensures.read
    c.in-Err-carry_out.failure (g.W.Write.contents c.args.out.now) (g.W.Write.contents c.carry_out.new.out) (omega (arith, c.status_of_failure.ensures, few))
    c.in-Err-carry_out.ensures.left

pub returns-clause-stopped : goal.returns-clause-stopped
returns-clause-stopped g c = λ is.
    stopped (map string_bytes c.args.words.items) (g.R.Read.remaining c.args.input.now) c.in-Ok.request c.in-Ok.ensures.read
    c.in-Err-carry_out.failure (g.W.Write.contents c.args.out.now) (g.W.Write.contents c.carry_out.new.out) (sym c.status_of_failure.ensures ∙ is)
    c.in-Err-carry_out.ensures.failed c.in-Err-carry_out.ensures.left
