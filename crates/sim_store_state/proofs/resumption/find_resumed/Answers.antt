use Rattle.std.proofs.Common.{ℕ, List, ◌≡◌, ◌||◌, ◌∙◌, ap, length, arith, false}
use Rattle.std.proofs.lemmas.List.{get_or-replicate, length-replicate}
use Rattle.sim_logic.specs.declared.logic.Logic.{Logic}
use Rattle.sim_containers.specs.Numbers.{is_in}
use Rattle.sim_store_state.specs.Log.{changes_of}
use Rattle.sim_store_state.specs.Sensitive.{is_resumed_by}
use Rattle.sim_store_nets.proofs.Booleans.{or_false}
use Rattle.sim_store_state.proofs.Sensitivity.{sensitive-event}
use Rattle.sim_store_state.proofs.Skips.{resumed-by-changes}
use Rattle.sim_store_state.proofs.resumption.find_resumed.Goals as goal

pub returns : goal.returns
returns c =
    let same : length c.clear.new.self ≡ length c.args.resumed.now = ap length c.clear.ensures ∙ length-replicate (length c.args.resumed.now) false in
    let by = λ (cs : List (ℕ × Logic)). is_resumed_by c.args.sensitive.now cs in
    record {
      sized = c.resume_sensitive.ensures.sized ∙ same;
      found = λ nets processes p changes long w lt.
          let none : is_in c.clear.new.self p ≡ false =
          ap (λ d. is_in d p) c.clear.ensures ∙ get_or-replicate (length c.args.resumed.now) p false false lt in
          c.resume_sensitive.ensures.members p (omega (arith, lt, same)) ∙ (ap (λ b. by (changes_of c.args.entries.now) p || b) none
          ∙ (or_false (by (changes_of c.args.entries.now) p) ∙ (ap (λ cs. by cs p) changes
          ∙ (resumed-by-changes nets c.args.sensitive.now 0 p (omega (arith, long)) ∙ sensitive-event nets c.args.sensitive.now processes p long w))));
    }
