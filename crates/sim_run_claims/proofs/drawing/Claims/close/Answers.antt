use Rattle.sim_run_claims.proofs.TableSteps.{last_each_once, last_all, last_overdrawn}
use Rattle.sim_run_claims.proofs.drawing.Claims.close.Goals as goal

pub returns-clause-each_once : goal.returns-clause-each_once
returns-clause-each_once c x =
    let last = last_each_once _ _ _ _ _ _ c.close_with-closed.ensures.values.2 c.word-word.ensures c.requires.whole in
    let key = c.args.self.keyed in
    let least = c.min.ensures in
    rw (least, key) (last x)

pub returns-clause-all : goal.returns-clause-all
returns-clause-all c =
    let last = last_all _ _ _ _ _ _ c.close_with-closed.ensures.values.2 c.word-word.ensures c.requires.whole in
    let key = c.args.self.keyed in
    let least = c.min.ensures in
    rw (least, key) last

pub returns-clause-overdrawn : goal.returns-clause-overdrawn
returns-clause-overdrawn c has =
    let last = last_overdrawn _ _ _ _ _ _ c.close_with-closed.ensures.values.2 c.word-word.ensures in
    let key = c.args.self.keyed in
    let least = c.min.ensures in
    rw (least, key) (last has)
