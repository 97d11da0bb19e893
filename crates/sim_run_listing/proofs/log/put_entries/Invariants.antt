use Rattle.std.proofs.Common.{◌≡◌, map}
use Rattle.sim_run_listing.specs.Moments.{start_of}
use Rattle.sim_run_listing.proofs.Entries.{IsListed}
use Rattle.sim_run_listing.proofs.log.put_entries.Given as goal

abbrev pub invariant-loop-entry : goal.invariant-loop-entry
invariant-loop-entry g l = IsListed (g.W.Write.contents l.initial.out) l.initial.block (g.W.Write.contents l.out) l.block
    (map g.N.Named.name_of l.names) l.log l.times l.entries l.moment l.entry-index × (l.head.text ≡ start_of l.moment)
