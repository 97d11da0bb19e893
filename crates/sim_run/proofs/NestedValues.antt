-- The cycle and elaboration's law take the same value for a source: the current value of a driver, or a constant. So what that law says for all values of
-- drivers holds for the values in a cycle.
use Rattle.std.proofs.Common.{◌≡◌, List, [], ◌∷◌, map, refl, ap, ◌∙◌}
use Rattle.std.specs.List.{AllZip}
use Rattle.sim_logic.specs.declared.logic.Logic.{Logic}
use Rattle.sim_logic.specs.Resolution.{resolved}
use Rattle.sim_logic.specs.Sources.{SourceTree}
use Rattle.sim_flat_design.specs.declared.design.Source.{Source}
use Rattle.sim_flat_design.specs.declared.design.Source.TheVariants as source
use Rattle.sim_flat_design.specs.Limits.{Limits}
use Rattle.sim_flat_design.specs.Designs.{Net, Design}
use Rattle.sim_flat_blocks.specs.declared.parts.Block.{Block}
use Rattle.sim_standard.specs.Drivers.{DriverState}
use Rattle.sim_standard.specs.State.{driver_at}
use Rattle.sim_standard.specs.Nets as cycle
use Rattle.sim_flat.specs.declared.top.Top.{Top}
use Rattle.sim_flat.specs.Hierarchies.{IsFlat}
use Rattle.sim_flat.specs.Laws.{HasValueOf, trees}
use Rattle.sim_flat.specs.Laws as flat
use Rattle.sim_flat.proofs.NestedNets.{nets_nested}
use Rattle.sim_run.specs.Laws.{HasNestedValue}

same_sources : (drivers : List DriverState) (ss : List Source)
    → map (cycle.source_value drivers) ss ≡ map (flat.source_value (λ d. (driver_at drivers d).value)) ss
same_sources drivers [] = refl
same_sources drivers (source.Driver n ∷ ss) = ap (λ (vs : List Logic). (driver_at drivers n).value ∷ vs) (same_sources drivers ss)
same_sources drivers (source.Constant v ∷ ss) = ap (λ (vs : List Logic). v ∷ vs) (same_sources drivers ss)

nested_value : (drivers : List DriverState) (t : SourceTree) (n : Net) → HasValueOf t n → HasNestedValue drivers t n
nested_value drivers t n h = ap (λ (vs : List Logic). resolved vs) (same_sources drivers n.sources) ∙ h (λ d. (driver_at drivers d).value)

each_value : (drivers : List DriverState) (ts : List SourceTree) (ns : List Net) → AllZip HasValueOf ts ns → AllZip (HasNestedValue drivers) ts ns
each_value drivers [] [] z = tt
each_value drivers [] (n ∷ ns) z = absurd z
each_value drivers (t ∷ ts) [] z = absurd z
each_value drivers (t ∷ ts) (n ∷ ns) z = (nested_value drivers t n z.0, each_value drivers ts ns z.1)

pub nested_values : (limits : Limits) (blocks : List Block) (top : Top) (design : Design) (drivers : List DriverState) → IsFlat limits blocks top design
    → AllZip (HasNestedValue drivers) (trees blocks top.block) design.nets
nested_values limits blocks top design drivers f = each_value drivers (trees blocks top.block) design.nets (nets_nested limits blocks top design f)
