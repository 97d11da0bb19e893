-- How many changes the records of a run have.
use Rattle.std.proofs.Common.{ℕ, zero, suc, ◌+◌, ◌*◌, ◌≡◌, ◌≤◌, List, [], ◌++◌, Option, None, Some, option_to_list, map, length}
use Rattle.std.proofs.Common.{ap, arith, length-append, append-nil}
use Rattle.std.proofs.lemmas.List.{length-map}
use Rattle.std.proofs.lemmas.List.FromFn.{length-enumerate_from}
use Rattle.std.specs.List.{All, enumerate_from}
use Rattle.sim_flat_design.specs.Designs.{Design, most}
use Rattle.sim_flat_design.specs.Processes.{IsProcess}
use Rattle.sim_standard.specs.declared.record.Record.{Record}
use Rattle.sim_standard.specs.State.{State}
use Rattle.sim_standard.specs.Initialization.{first_state}
use Rattle.sim_standard.specs.Records.{all_changes, records_to}
use Rattle.sim_standard.specs.Cycle.{ended}
use Rattle.sim_standard.proofs.Names.{first_record, numbered_value, record_of}
use Rattle.sim_standard.proofs.Parallel.{FitsCycles, ended_fits, first_nets}
use Rattle.sim_store_state.proofs.Logged.{all_changes-push, changes-few}

-- each record has at most one change of each net, and a design has at most so many nets
pub changes-bounded : (d : Design) → All IsProcess d.processes → length d.nets ≤ most → (k : ℕ) → length (all_changes (records_to d k)) ≤ suc k * most
unfolding records_to
changes-bounded d is few zero =
    let nets = (first_state d).nets in
    omega (
      arith,
      few,
      first_nets d,
      length-map (enumerate_from 0 nets) numbered_value,
      length-enumerate_from 0 nets,
      ap length (all_changes-push [] (first_record d)),
    )
changes-bounded d is few (suc k) = go (ended d (suc k)) (ended_fits d is (suc k)) (changes-bounded d is few k)
  where
    go : (o : Option State) → FitsCycles d (suc k) o → length (all_changes (records_to d k)) ≤ suc k * most
        → length (all_changes (records_to d k ++ map record_of (option_to_list o))) ≤ suc (suc k) * most
    go None f bound = omega (arith, bound, ap (λ (rs : List Record). length (all_changes rs)) (append-nil (records_to d k)))
    go (Some s) f bound =
        let fits = f.0 in
        omega (
          arith,
          bound,
          few,
          fits,
          changes-few s.nets,
          ap length (all_changes-push (records_to d k) (record_of s)),
          length-append (all_changes (records_to d k)) (record_of s).changes,
        )
