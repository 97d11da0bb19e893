use Rattle.std.proofs.Common.{refl, sym, ◌∙◌}
use Rattle.sim_store_share.proofs.Times.{only_next}
use Rattle.sim_store_share.proofs.execution.assign_to.Goals as goal

pub returns-then-this-ne0 : goal.returns-then-this-ne0
returns-then-this-ne0 g c =
    let e = c.execute_now.ensures in
    let d = c.execute_now.new.driver in
    record { ok = e.ok; next_is = e.next ∙ sym (only_next c.args.time d d.pending refl e.pending); pending = e.pending; value = e.value }

pub returns-else-this-ne0 : goal.returns-else-this-ne0
returns-else-this-ne0 g c =
    let e = c.execute.ensures in
    let d = c.execute.new.driver in
    record { ok = e.ok; next_is = e.next ∙ sym (only_next c.args.time d d.pending refl e.pending); pending = e.pending; value = e.value }
