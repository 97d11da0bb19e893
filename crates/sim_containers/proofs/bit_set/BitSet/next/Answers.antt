use Rattle.std.proofs.Common.{◌≡◌, arith, ℕ, List, true, subst, MatchOption}
use Rattle.sim_containers.specs.Words.{has, IsNext, NoneFrom}
use Rattle.sim_containers.proofs.Sets.{below_bound, next_read, none_beyond}
use Rattle.sim_containers.proofs.bit_set.BitSet.next.Goals as goal

pub returns-then-from-self : goal.returns-then-from-self
returns-then-from-self c m le =
    none_beyond c.self.inside.words.items c.self.inside.tops.items c.self.inside.count c.self.inside.end c.args.self.now c.self.invariant c.self.view_is m
    (omega (arith, le, c.if-from-self.true))

pub next_number-requires-clause-fits : goal.next_number-requires-clause-fits
next_number-requires-clause-fits c n here =
    below_bound c.self.inside.words.items c.self.inside.tops.items c.self.inside.count c.self.inside.end c.self.invariant n
    (subst (λ (words : List ℕ). has words n ≡ true) c.as_slice.ensures.value here)

pub returns : goal.returns
returns c =
    next_read c.self.inside.words.items c.self.inside.tops.items c.self.inside.count c.self.inside.end c.args.self.now c.self.invariant c.self.view_is
    c.args.from c.next_number.result (subst (λ (words : List ℕ). MatchOption c.next_number.result (NoneFrom (has words) c.args.from) (IsNext
    (has words) c.args.from))
    c.as_slice.ensures.value c.next_number.ensures)
