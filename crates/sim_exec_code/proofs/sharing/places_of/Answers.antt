use Rattle.std.proofs.Common.{rules, arith}
use Rattle.std.proofs.lemmas.Grind.{common_steps}
use Rattle.sim_exec_code.proofs.SharedCodes.{one_placed}
use Rattle.sim_exec_code.proofs.sharing.places_of.Goals as goal

pub loop-i-preserved : goal.loop-i-preserved
loop-i-preserved c = λ codes made.
    let placed = one_placed codes c.args.processes.now c.loop-i.places.items c.loop-i.i c.checked.result c.index-processes-i.result c.loop-i-test.true
    c.index-processes-i.is (c.loop-i.invariant codes made) (c.checked.ensures codes made) in
    search rules

pub returns : goal.returns
returns c = grind (arith, common_steps)
