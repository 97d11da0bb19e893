-- The records of a run, with the names of its nets.
use Rattle.std.proofs.Common.{◌≡◌, ◌<◌, ℕ, List, length, sym, subst}
use Rattle.std.specs.List.{All}
use Rattle.sim_standard.specs.declared.record.Record.{Record}
use Rattle.sim_standard.specs.Records.{IsNamed}
use Rattle.sim_run_listing.specs.Listing.{IsHistory}

-- the records of a run are a history of the nets' names
pub is_history : (names : List (List ℕ)) (records : List Record) (nets : ℕ) → length names ≡ nets → 0 < length records → All (IsNamed nets) records
    → IsHistory names records
is_history names records nets e begun named = record {
  begun = begun;
  named = subst (λ (n : ℕ). All (IsNamed n) records) (sym e) named;
}
