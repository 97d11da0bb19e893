use Rattle.std.proofs.Common.{ap, sym, ◌∙◌, ◌∷◌, []}
use Rattle.std.proofs.lemmas.List.{get_or_default}
use Rattle.sim_standard.specs.Drivers.{DriverState, next_time, taken}
use Rattle.sim_standard.proofs.Names.{no_driver}
use Rattle.sim_containers.specs.RowArray.{joined}
use Rattle.sim_store_share.proofs.taking.take_one.Goals as goal

pub returns-clause-told : goal.returns-clause-told
returns-clause-told c = λ known here others.
    let driver = c.item_mut.ensures.value
    ∙ get_or_default (joined c.args.drivers.now) c.args.number c.item_mut.result.now no_driver c.requires.number in
    c.put_new.ensures.told known
    (here ∙ sym (c.take_from-value.ensures.next ∙ ap (λ (w : DriverState). next_time (w ∷ [])) (c.take_from-value.ensures.after ∙ ap
    (taken c.args.time) driver)))
    others
