use Rattle.std.proofs.Common.{ap, ◌∙◌}
use Rattle.std.specs.List.{fold}
use Rattle.sim_logic.specs.declared.logic.Logic.TheVariants.{Z}
use Rattle.sim_logic.specs.Tables.{resolution_table}
use Rattle.sim_store_nets.specs.Tallies.{resolution_by}
use Rattle.sim_store_nets.proofs.Resolving.{resolved-by}
use Rattle.sim_store_nets.proofs.tally.Tally.resolved.Goals as goal

pub returns : goal.returns
returns c =
    c.resolution.ensures ∙ (ap resolution_by c.as_slice.ensures.value ∙ (resolved-by c.self.inside.values.items c.self.inside.counts.items c.self.invariant
    ∙ ap (fold resolution_table Z) c.self.view_is))
