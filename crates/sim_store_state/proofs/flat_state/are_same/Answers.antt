-- Two lists of one length are the same if their items are.
use Rattle.std.proofs.Common.{rules, tests}
use Rattle.std.proofs.lemmas.Iterator.{YieldsList-from_slice, YieldsList-from_zip, same_from_all}
use Rattle.sim_store_state.proofs.flat_state.are_same.Goals as goal

pub returns-then-drivers-others : goal.returns-then-drivers-others
returns-then-drivers-others c =
    same_from_all c.all.new.self _ _ _ _ c.all.ensures.ran
    (YieldsList-from_zip (YieldsList-from_slice c.args.drivers.now cc) (YieldsList-from_slice c.args.others.now cc))
    (search rules) (λ x q k. search (rules, tests)) (λ x q k. search (rules, tests))
