use Rattle.sim_containers.proofs.Bits.{first_left, none_left}
use Rattle.sim_containers.proofs.words.next_bit.Goals as goal

pub returns-then-rest-eq0 : goal.returns-then-rest-eq0
returns-then-rest-eq0 c = none_left c.args.word c.args.from c.if-rest-eq0.true

pub returns : goal.returns
returns c = first_left c.args.word c.args.from c.lowest.result c.ranges.word.fits c.lowest.ensures.here c.lowest.ensures.before
