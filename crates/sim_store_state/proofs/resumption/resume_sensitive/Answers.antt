use Rattle.std.proofs.Common.{arith, ◌∙◌, ◌||◌, ap}
use Rattle.std.proofs.lemmas.List.{take_all}
use Rattle.sim_containers.specs.Numbers.{is_in}
use Rattle.sim_store_state.specs.Log.{changes_of}
use Rattle.sim_store_state.specs.Sensitive.{is_resumed_by}
use Rattle.sim_store_state.proofs.Sensitivity.{resumed-by-entry}
use Rattle.sim_store_state.proofs.resumption.resume_sensitive.Goals as goal

pub loop-entry-preserved : goal.loop-entry-preserved
loop-entry-preserved c = record {
  sized = c.resume_entry.ensures.sized ∙ c.loop-entry.invariant.sized;
  members = λ p lt. resumed-by-entry c.args.sensitive.now c.args.entries.now c.loop-entry.entry-index p _ (is_in c.args.resumed.now p) _ _
      c.loop-entry-test.true (c.loop-entry.invariant.members p lt)
      (c.resume_entry.ensures.members p (omega (arith, lt, c.loop-entry.invariant.sized)));
}

pub returns-clause-members : goal.returns-clause-members
returns-clause-members c p lt =
    c.loop-entry.invariant.members p lt ∙ ap (λ es. is_resumed_by c.args.sensitive.now (changes_of es) p || is_in c.args.resumed.now p)
    (take_all c.loop-entry.entry-index c.args.entries.now (omega (arith, c.loop-entry-test.false)))
