use denote.Exit as exit
use denote.Param.{param}
use denote.Param.Send.{IsSend, IsSync, sendable}
use Rattle.std.proofs.Common.{rules}
use Rattle.std.proofs.Crossing.{crosses}
use Rattle.std.specs.contracts.option.Option as Option
use Rattle.sim_exec_code.specs.contracts.frame.Frame as Frame
use Rattle.sim_store.specs.contracts.order.Answer as Answer
use Rattle.sim_store.specs.contracts.order.Order as Order
use Rattle.sim_store.proofs.Crossing.{order_send}
use Rattle.sim_store.proofs.order.Answer.TheSendSync as answers
use Rattle.sim_run_team.proofs.Crossing.{worker_send}
use Rattle.sim_run_session.specs.contracts.team.PhaseWork as PhaseWork
use Rattle.sim_run_session.specs.contracts.team.hire as hire
use Rattle.sim_run_session.proofs.team.hire.Goals as goal

pub spawn_scoped-requires-send-F : goal.spawn_scoped-requires-send-F
spawn_scoped-requires-send-F g c κs within =
    let r : IsSync g.row.R = search rules in
    let s : IsSend (hire.D-row g.row.D g.row.R g.row.E) = search rules in
    let y : IsSync (hire.D-row g.row.D g.row.R g.row.E) = search rules in
    let n : IsSend (param 0 g.row.D) = s in
    let o : IsSend (Order.the_row (param 0 g.row.D) g.D.DesignType) = order_send (param 0 g.row.D) g.D.DesignType n y in
    let a : IsSend (Answer.the_row (param 0 g.row.D) g.D.DesignType) = search (answers.the_send, crosses, sendable) depth 20 in
    let S = PhaseWork.the_row (param 0 g.row.D) in
    worker_send 1 _ exit.no _ S (Order.the_row (param 0 g.row.D) g.D.DesignType) (Answer.the_row (param 0 g.row.D) g.D.DesignType)
    (Option.the_row Frame.the_row) g.row.R _ _ o a r
