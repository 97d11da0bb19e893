use Rattle.std.proofs.Common.{ap, length, arith, ◌∙◌}
use Rattle.sim_containers.proofs.Flat.{length-starts_from}
use Rattle.sim_containers.proofs.row_array.RowArray.len.Goals as goal

pub returns : goal.returns
returns g c = omega (arith, ap length c.self.view_is, ap length c.self.invariant.starting ∙ length-starts_from 0 _, c.len.ensures, c.self.inside.starts.ok)
