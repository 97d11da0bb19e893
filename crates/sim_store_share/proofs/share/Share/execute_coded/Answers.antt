use Rattle.sim_store_share.proofs.InTurn.{turn-idle}
use Rattle.sim_store_share.proofs.share.Share.execute_coded.Goals as goal

pub returns-then-idle-gt0-clause-turn : goal.returns-then-idle-gt0-clause-turn
returns-then-idle-gt0-clause-turn c =
    turn-idle c.args.reading.now c.args.numbers.now c.count_idle-idle.result c.args.self.now c.requires.reading c.count_idle-idle.ensures.within
    c.count_idle-idle.ensures.idle c.requires.each
