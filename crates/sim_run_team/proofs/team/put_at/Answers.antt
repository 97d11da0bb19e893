use Rattle.std.proofs.Common.{refl}
use Rattle.std.proofs.Math.Seq.{map-set_same}
use Rattle.sim_run_team.proofs.team.put_at.Goals as goal

pub returns-then-place-begun : goal.returns-then-place-begun
returns-then-place-begun g c = map-set_same (λ b. b.number) c.args.begun.now c.args.place _ c.index-begun-place.result refl
