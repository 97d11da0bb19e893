use Rattle.std.proofs.Common.{subst}
use Rattle.sim_flat_design.specs.Designs.{Design}
use Rattle.sim_standard.specs.Behaviour.{behaviour_of}
use Rattle.sim_run_session.specs.Streaming.{IsListed}
use Rattle.sim_run_session.proofs.streaming.run_and_list.Goals as goal

pub returns-in-Some : goal.returns-in-Some
returns-in-Some g c =
    subst (λ (d : Design). IsListed (behaviour_of d) c.args.options.now (g.W.Write.contents c.args.out.now) (g.W.Write.contents c.list_run.new.out)
    c.list_run.result) c.in-Some.ensures.of.0 c.list_run.ensures
