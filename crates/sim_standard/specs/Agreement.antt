-- What records say of a net: its value, and its number of changes (IEEE 1076-2008, 14.7.3.4).
use Rattle.std.specs.Prelude.{ℕ, ◌==◌, List, Bool, Option, None, Some, length, drop}
use Rattle.std.specs.List.{filter, fold}
use Rattle.sim_logic.specs.declared.logic.Logic.{Logic}
use Rattle.sim_standard.specs.declared.record.Record.{Record}
use Rattle.sim_standard.specs.Records.{all_changes}

-- whether a change is of this net
abbrev pub is_of : ℕ → ℕ × Logic → Bool
is_of net change = change.0 == net

-- the changes of a net in the records, in their order
abbrev pub changes_of : List Record → ℕ → List (ℕ × Logic)
changes_of records net = filter (is_of net) (all_changes records)

-- the value of a net by the records: that of its last change, since each of its changes gives it a value in turn; none if it has no change
abbrev pub value_by : List Record → ℕ → Option Logic
value_by records net = fold (λ before (change : ℕ × Logic). Some change.1) None (changes_of records net)

-- the number of changes of a net in the records after the first, which is that of the initialization
abbrev pub total_of : List Record → ℕ → ℕ
total_of records net = length (changes_of (drop 1 records) net)
