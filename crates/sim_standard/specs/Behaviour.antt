-- How a design behaves, as far as a run shows it.
use Rattle.std.specs.Prelude.{ℕ, List, Option, map}
use Rattle.sim_flat_design.specs.Designs.{Design, Net}
use Rattle.sim_standard.specs.declared.record.Record.{Record}
use Rattle.sim_standard.specs.Records.{records_to}
use Rattle.sim_standard.specs.Cycle.{Following, next_in}

-- the names of the nets by number; the records of the initialization and of the first n cycles, by n; and what follows n cycles, by n (IEEE 1076-2008, 14.7.5)
pub record Behaviour : Type 0 where
  pub names : List (List ℕ)
  pub records : ℕ → List Record
  pub next : ℕ → Option Following

-- the behaviour of the design by the standard's cycle
abbrev pub behaviour_of : Design → Behaviour
behaviour_of design = record {
  names = map (λ (n : Net). n.name) design.nets;
  records = records_to design;
  next = next_in design;
}
