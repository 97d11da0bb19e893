use Rattle.sim_exec_statements.proofs.Places.{searched_ok, searched_err}
use Rattle.sim_exec.proofs.done.place_in.Goals as goal

pub returns-in-Ok : goal.returns-in-Ok
returns-in-Ok c = searched_ok c.args.numbers.now c.args.number c.in-Ok.place c.requires c.in-Ok.ensures.position

pub returns-in-Err : goal.returns-in-Err
returns-in-Err c = searched_err c.args.numbers.now c.args.number c.in-Err.field-0 c.requires c.in-Err.ensures.position
