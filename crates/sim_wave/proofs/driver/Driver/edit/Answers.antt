use Rattle.std.proofs.Common.{◌≡◌, ap, arith}
use Rattle.sim_standard.specs.Drivers.{DriverState}
use Rattle.sim_wave.specs.Rising.{RisesFrom}
use Rattle.sim_wave.specs.Pending.{transactions_of}
use Rattle.sim_wave.proofs.Rising.{RisesFrom-earlier, edit-rises}
use Rattle.sim_wave.proofs.driver.Driver.edit.Goals as goal

pub returns-clause-later : goal.returns-clause-later
returns-clause-later c =
    let was : transactions_of c.self.inside.pending ≡ c.args.self.now.pending = ap (λ (w : DriverState). w.pending) c.self.view_is in
    let later : RisesFrom c.args.now (transactions_of c.self.inside.pending) = rw was c.requires.later in
    edit-rises c.edit.result c.args.now (transactions_of c.self.inside.pending) (transactions_of c.edit.new.self) c.args.delay c.args.elements.now
    c.requires.some later c.requires.rise c.edit.ensures.ok c.edit.ensures.err

pub invariant_of-self-2 : goal.invariant_of-self-2
invariant_of-self-2 c =
    let was : transactions_of c.self.inside.pending ≡ c.args.self.now.pending = ap (λ (w : DriverState). w.pending) c.self.view_is in
    let later : RisesFrom c.args.now (transactions_of c.self.inside.pending) = rw was c.requires.later in
    RisesFrom-earlier 0 c.args.now (transactions_of c.edit.new.self) (omega arith)
    (edit-rises c.edit.result c.args.now (transactions_of c.self.inside.pending) (transactions_of c.edit.new.self) c.args.delay c.args.elements.now
    c.requires.some later c.requires.rise c.edit.ensures.ok c.edit.ensures.err)
