use Rattle.std.proofs.Common.{length, rules, tests}
use Rattle.sim_flat_graph.specs.Search.{searched}
use Rattle.sim_flat_graph.specs.Recursion.{marked}
use Rattle.sim_flat_graph.proofs.Recursions.{none_earlier}
use Rattle.sim_flat_graph.proofs.Searches.{marks_reached}
use Rattle.sim_flat_graph.proofs.recursion.least_ahead.Goals as goal

pub returns-then-not-has_earlier : goal.returns-then-not-has_earlier
returns-then-not-has_earlier c =
    let g = c.args.back.now in
    let marks = (searched g c.args.number (length g)).marks in
    record {
      marks = marks;
      reached = λ n. marks_reached g c.args.number n c.requires.whole c.requires.number;
      least = none_earlier (marked marks) c.args.known c.args.instances.now (search (rules, tests));
    }
