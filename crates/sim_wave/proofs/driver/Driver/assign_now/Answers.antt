use Rattle.std.proofs.Common.{◌≡◌, List, subst, OnOk}
use Rattle.sim_standard.specs.Drivers.{Transaction}
use Rattle.sim_wave.proofs.Replacing.{replaced}
use Rattle.sim_wave.proofs.driver.Driver.assign_now.Goals as goal

pub returns-clause-ok : goal.returns-clause-ok
returns-clause-ok c =
    subst (λ (xs : List Transaction). OnOk c.edit.result (c.edit.new.self ≡ record c.args.self.now { pending = xs }))
    (replaced c.args.self.now.pending c.args.now c.args.value c.requires.later) c.edit.ensures.ok

pub returns-clause-same : goal.returns-clause-same
returns-clause-same c = replaced c.args.self.now.pending c.args.now c.args.value c.requires.later

pub returns-in-Few-clause-same : goal.returns-in-Few-clause-same
returns-in-Few-clause-same c = replaced c.args.self.now.pending c.args.now c.args.value c.requires.later
