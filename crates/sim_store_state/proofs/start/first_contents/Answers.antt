use Rattle.std.proofs.Common.{ap, sym, ◌∙◌}
use Rattle.sim_standard.specs.State.{all_drivers, driver_values}
use Rattle.sim_store_state.proofs.Starting.{first-idle, first-share, same-count, same-drivers}
use Rattle.sim_store_state.proofs.start.first_contents.Goals as goal

pub first-requires : goal.first-requires
first-requires c = record {
  owned = same-count c.args.design.now c.in_ok-drivers.drivers c.in_ok-drivers.variables c.in_ok-drivers.ensures.drivers c.in_ok-drivers.ensures.variables;
  idle = first-idle c.args.design.now c.in_ok-drivers.drivers c.in_ok-drivers.ensures.drivers;
}

pub returns : goal.returns
returns c =
    let all = c.in_ok-share.ensures ∙ first-share c.args.design.now c.in_ok-drivers.drivers c.in_ok-drivers.variables c.in_ok-drivers.ensures.drivers
    c.in_ok-drivers.ensures.variables in
    record {
      owned = all;
      driving = c.in_ok-driving.ensures ∙ ap driver_values (c.flat.ensures ∙ (same-drivers c.args.design.now c.in_ok-drivers.drivers
          c.in_ok-drivers.ensures.drivers ∙ ap all_drivers (sym all)));
    }
