use Rattle.std.proofs.Common.{◌≡◌, length, map}
use Rattle.sim_run_listing.specs.ShortNames.{AreNames}
use Rattle.sim_run_listing.proofs.short_name.short_names.Given as goal

abbrev pub invariant-loop-name : goal.invariant-loop-name
invariant-loop-name g l = AreNames (map g.N.Named.name_of l.fn.names) l.short.items × (length l.short.items ≡ l.name-index)
