use Rattle.std.proofs.Common.{◌≡◌, ◌∷◌, [], ap, arith, sym, rules, ◌∙◌}
use Rattle.sim_store_state.specs.Log.{changes_of}
use Rattle.sim_store_state.specs.Sensitive.{is_resumed_by}
use Rattle.sim_store_state.proofs.Sensitivity.{among-both, changes-only, resumed-by-one, sensitive-event}
use Rattle.sim_store_state.proofs.Skips.{resumed-by-changes}
use Rattle.sim_store_state.proofs.resumption.find_resumed_by_one.Goals as goal

pub returns-in-Some-clause-found : goal.returns-in-Some-clause-found
returns-in-Some-clause-found c is nets processes p changes long w =
    let one : changes_of c.args.entries.now ≡ (c.in-Some.net, c.in-Some._value) ∷ [] =
    changes-only c.args.entries.now _ (search rules) ∙ c.in-Some.ensures in
    c.set_rising.ensures.rising is p ∙ (among-both _ p
    ∙ (sym (resumed-by-one c.args.sensitive.now (changes_of c.args.entries.now) p c.in-Some.net c.in-Some._value one)
    ∙ (ap (λ cs. is_resumed_by c.args.sensitive.now cs p) changes
    ∙ (resumed-by-changes nets c.args.sensitive.now 0 p (omega (arith, long)) ∙ sensitive-event nets c.args.sensitive.now processes p long w))))
