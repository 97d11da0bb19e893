-- Two lists of equal length are equal if their items are.
use Rattle.std.proofs.Common.{rules, tests}
use Rattle.std.proofs.lemmas.Iterator.{YieldsList-from_slice, YieldsList-from_zip, same_from_all}
use Rattle.sim_flat_design.proofs.waveform.same_elements.Goals as goal

pub returns-then-elements-others : goal.returns-then-elements-others
returns-then-elements-others c =
    same_from_all c.all.new.self _ _ _ _ c.all.ensures.ran
    (YieldsList-from_zip (YieldsList-from_slice c.args.elements.now cc) (YieldsList-from_slice c.args.others.now cc))
    (search rules) (λ x q k. search (rules, tests)) (λ x q k. search (rules, tests))
