use Rattle.std.proofs.Common.{ℕ, ◌≡◌, ◌<◌, ◌||◌, length, take}
use Rattle.sim_containers.specs.Numbers.{is_in}
use Rattle.sim_store_state.specs.Log.{changes_of}
use Rattle.sim_store_state.specs.Sensitive.{is_resumed_by}
use Rattle.sim_store_state.proofs.resumption.resume_sensitive.Given as goal

-- those that are sensitive to the nets so far are resumed
abbrev pub invariant-loop-entry : goal.invariant-loop-entry
invariant-loop-entry l = record {
  sized : length l.resumed ≡ length l.initial.resumed;
  members : (p : ℕ) → p < length l.initial.resumed
      → is_in l.resumed p ≡ (is_resumed_by l.sensitive (changes_of (take l.entry-index l.entries)) p || is_in l.initial.resumed p);
}
