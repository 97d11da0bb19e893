use Rattle.std.proofs.Common.{Ok}
use Rattle.sim_run_session.specs.Run.{Lists}
use Rattle.sim_run_options.specs.Limits.{bytes_of}
use Rattle.sim_run_session.specs.Simulation.{HasDesignWithin}
use Rattle.sim_run_session.proofs.Programs.{left_by, read_text, run_fails}
use Rattle.sim_run_session.proofs.Simulations.{in_range, in_range_else}
use Rattle.sim_run_session.proofs.program.carry_out.Goals as goal

pub returns-in-Ok-clause-listed : goal.returns-in-Ok-clause-listed
returns-in-Ok-clause-listed g c =
    let request = c.args.request.now in
    let listed = c.in-Ok.ensures.listed in
    read_text (bytes_of request.limits) (g.R.Read.remaining c.args.input.now) (g.R.Read.remaining c.read_source.new.input) c.in_ok-source.source.items
    (λ text. HasDesignWithin request.limits text request.options (λ design. Lists design request.options (g.W.Write.contents c.args.out.now)
    (g.W.Write.contents c.list.new.out)))
    c.in_ok-source.ensures.source listed.is_design.is_text.short listed

pub returns-in-Err-clause-failed : goal.returns-in-Err-clause-failed
returns-in-Err-clause-failed g c =
    run_fails c.args.request.now.limits (g.R.Read.remaining c.args.input.now) (g.R.Read.remaining c.read_source.new.input) c.in_ok-source.source.items
    c.args.request.now.options c.in-Err.refusal c.in_ok-source.ensures.source c.in-Err.ensures.refused
    (in_range_else c.in-Err.refusal _ c.in-Err.ensures.options)

pub returns-in-Err-clause-left : goal.returns-in-Err-clause-left
returns-in-Err-clause-left g c =
    left_by c.args.request.now.limits (g.R.Read.remaining c.args.input.now) (g.R.Read.remaining c.read_source.new.input) c.in_ok-source.source.items
    c.args.request.now.options (g.W.Write.contents c.args.out.now) (g.W.Write.contents c.list.new.out) c.in_ok-source.ensures.source
    c.args.request.now.streams c.in-Err.refusal c.in-Err.ensures.written

pub returns-in-Ok-clause-range : goal.returns-in-Ok-clause-range
returns-in-Ok-clause-range g c = in_range (Ok tt) _ c.in-Ok.ensures.options
