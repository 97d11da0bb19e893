-- `==` of lists, from that of their items.
use Rattle.std.proofs.Common.{rules, tests}
use Rattle.std.proofs.lemmas.Slice.Eq.{slice_eq-Decides}
use Rattle.sim_flat_design.proofs.design.same_sources.Goals as goal

pub returns : goal.returns
returns c = slice_eq-Decides (λ a b. search (rules, tests)) _ _ _ c.eq.ensures
