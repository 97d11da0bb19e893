use Rattle.std.proofs.Common.{◌≡◌, ◌-◌, take, arith}
use Rattle.std.proofs.lemmas.List.{take-append-drop}
use Rattle.sim_standard.specs.Editing.{before}
use Rattle.sim_standard.proofs.Keeping.{kept_places-marked_of}
use Rattle.sim_wave.proofs.Rising.{before-take}
use Rattle.sim_wave.proofs.edit.kept_by.Goals as goal

pub returns-in-Transport-clause-kept : goal.returns-in-Transport-clause-kept
returns-in-Transport-clause-kept c =
    let old = c.args.pending.now in
    let end = c.count_before-end.result in
    let at = c.count_before-end.ensures in
    let front : before c.args.first.0 old ≡ take end old =
    before-take c.args.first.0 old end (omega arith) at.below (λ k g h. at.above k g (omega arith)) in
    rw (c.in-Transport.is, front) (take-append-drop end (take end old))

pub returns-clause-kept : goal.returns-clause-kept
returns-clause-kept c =
    let old = c.args.pending.now in
    let end = c.count_before-end.result in
    let at = c.count_before-end.ensures in
    let front : before c.args.first.0 old ≡ take end old =
    before-take c.args.first.0 old end (omega arith) at.below (λ k g h. at.above k g (omega arith)) in
    rw (c.in-Inertial.is, front)
    (kept_places-marked_of (c.args.first.0 - c.in-Inertial.reject) c.args.first.1 c.count_before-front.result c.chain_start-back.result end old
    c.count_before-front.ensures.within c.chain_start-back.ensures.within (omega arith)
    c.chain_start-back.ensures.chain c.chain_start-back.ensures.broken
    c.count_before-front.ensures.below c.count_before-front.ensures.above)
