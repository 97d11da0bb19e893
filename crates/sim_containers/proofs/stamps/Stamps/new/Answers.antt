use Rattle.std.proofs.Common.{◌∙◌, ap, arith}
use Rattle.sim_containers.specs.Numbers.{stamped}
use Rattle.sim_containers.proofs.Stamped.{none_stamped}
use Rattle.sim_containers.proofs.stamps.Stamps.new.Goals as goal

pub returns : goal.returns
returns c = ap (stamped 1) c.in_ok-stamps.ensures ∙ none_stamped c.args.count 1 (omega arith)
