-- A simulation may be sent to another thread, and shared with it.
use denote.Param.Send.{IsSend, IsSync, view_send, view_sync, sendable}
use Rattle.std.proofs.Crossing.{crosses}
use Rattle.sim_flat_design.proofs.Crossing.{design_send, design_sync}
use Rattle.sim_store_simulation.specs.contracts.simulation.Simulation as Simulation
use Rattle.sim_store_simulation.specs.contracts.simulation.Simulation.TheInside as Inside
use Rattle.sim_store_simulation.proofs.simulation.Contents.TheSendSync as contents

inside_send : IsSend Inside.the_row
inside_send = search (design_send, contents.the_send, contents.the_field_send, crosses, sendable) depth 20

inside_sync : IsSync Inside.the_row
inside_sync = search (design_sync, contents.the_sync, contents.the_field_sync, crosses, sendable) depth 20

pub simulation_send : IsSend Simulation.the_row
simulation_send = view_send Inside.the_row _ _ _ _ inside_send

pub simulation_sync : IsSync Simulation.the_row
simulation_sync = view_sync Inside.the_row _ _ _ _ inside_sync
