use Rattle.std.proofs.Common.{◌<◌, length, map, ap, sym, ◌∙◌, arith}
use Rattle.std.specs.List.{fold}
use Rattle.std.proofs.lemmas.List.{length-map}
use Rattle.sim_logic.specs.declared.logic.Logic.TheVariants.{Z}
use Rattle.sim_logic.specs.Tables.{resolution_table}
use Rattle.sim_store_nets.specs.Nets.{value_from}
use Rattle.sim_store_nets.proofs.Resolving.{resolved-many}
use Rattle.sim_store_nets.proofs.nets.several_value.Goals as goal

pub returns-in-Some : goal.returns-in-Some
returns-in-Some c =
    let row = map (value_from c.args.driving.now) c.args.sources.now in
    let many : 1 < length row = omega (arith, length-map c.args.sources.now (value_from c.args.driving.now), c.if-sources-lt-MANY.false) in
    c.in-Some.ensures.value ∙ (ap (fold resolution_table Z) (c.requires c.in-Some.ensures.some) ∙ sym (resolved-many row many))
