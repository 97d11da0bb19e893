use Rattle.std.proofs.Common.{rules, ◌≡◌, sym, subst, length, List}
use Rattle.std.specs.List.{All}
use Rattle.sim_flat_design.specs.Designs.{Design, IsPlaced}
use Rattle.sim_flat_design.specs.Processes.{Process}
use Rattle.sim_flat_design.proofs.design.Design.processes.Goals as goal

-- src/design.rt:142:5
pub returns-clause-placed : goal.returns-clause-placed
returns-clause-placed c =
    let value : c.as_slice.result.now ≡ c.args.self.now.processes = search rules in
    subst (λ (xs : List Process). All (IsPlaced (length c.args.self.now.nets)) xs) (sym value)
    (subst (λ (d : Design). All (IsPlaced (length d.nets)) d.processes) c.self.view_is c.self.invariant.processes)
