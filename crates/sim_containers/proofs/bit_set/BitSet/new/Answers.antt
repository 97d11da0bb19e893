use Rattle.sim_containers.proofs.Sets.{no_members}
use Rattle.sim_containers.proofs.bit_set.BitSet.new.Goals as goal

pub returns : goal.returns
returns c = no_members _ c.args.count c.in_ok-words.ensures.none
