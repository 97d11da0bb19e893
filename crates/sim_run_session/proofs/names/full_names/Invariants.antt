use Rattle.std.proofs.Common.{◌≡◌, map, take}
use Rattle.std.specs.Prelude.{string_bytes}
use Rattle.sim_flat_design.specs.Designs.{Net}
use Rattle.sim_run_session.proofs.names.full_names.Given as goal

-- the names of the nets so far
abbrev pub invariant-loop-net : goal.invariant-loop-net
invariant-loop-net l = map string_bytes l.names.items ≡ map (λ (n : Net). n.name) (take l.net-index l.nets)
