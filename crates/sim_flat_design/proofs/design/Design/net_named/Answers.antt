-- The position of the first net that has the name.
use Rattle.std.proofs.Common.{rules, tests}
use Rattle.std.proofs.lemmas.Iterator.{YieldsList-from_slice, IsFirst-from_position}
use Rattle.sim_flat_design.proofs.FirstNamed.{Has, Lacks, first_named_is}
use Rattle.sim_flat_design.proofs.design.Design.net_named.Goals as goal

pub returns : goal.returns
returns c =
    first_named_is c.args.name.now c.args.self.now.nets c.position.result
    (IsFirst-from_position c.position.new.self _ _ (Has c.args.name.now) (Lacks c.args.name.now) c.position.ensures.ran
    (YieldsList-from_slice c.args.self.now.nets cc)
    (λ x q k. search (rules, tests)) (λ x q k. search (rules, tests)))
