use Rattle.std.proofs.Common.{◌≡◌, drop}
use Rattle.sim_store_nets.specs.Tallies.{set_all}
use Rattle.sim_store_nets.proofs.tallies.set_each.Given as goal

-- what is left to do, done now, gives what all gives, done at first
abbrev pub invariant-loop-place : goal.invariant-loop-place
invariant-loop-place l = set_all (drop l.place-index l.places) l.value l.rows ≡ set_all l.places l.value l.initial.rows
