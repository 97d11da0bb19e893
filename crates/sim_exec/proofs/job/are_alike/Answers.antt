use Rattle.std.proofs.Common.{rules, arith, IsTrue}
use Rattle.sim_exec.proofs.Alike.{alike_at}
use Rattle.sim_exec.proofs.job.are_alike.Goals as goal

pub returns-then-not-are_of_one_type : goal.returns-then-not-are_of_one_type
returns-then-not-are_of_one_type c = (
  λ no. absurd cc,
  λ e.
      let same : IsTrue c.are_of_one_type.result = c.are_of_one_type.ensures.1
      (alike_at c.args.variables.now c.args.others.now c.loop-i.i _ _ (omega (arith, c.loop-i-test.true)) (search rules) e) in
      search rules,
)
