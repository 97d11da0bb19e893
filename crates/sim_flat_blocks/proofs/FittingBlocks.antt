-- A process whose parts are in range fits a block.
use Rattle.std.proofs.Common.{◌≡◌, ℕ, true, List, length, Option, Some, None, refl, sym, subst, Bool}
use Rattle.std.specs.List.{All}
use Rattle.sim_flat_design.specs.declared.held.Held.{Held}
use Rattle.sim_flat_design.specs.declared.statement.Statement.{Statement}
use Rattle.sim_flat_design.specs.Bodies.{fits, objects_of, statement_fits}
use Rattle.sim_flat_design.specs.Processes.{rising}
use Rattle.sim_flat_design.proofs.Fitting.{all_are}
use Rattle.sim_flat_blocks.specs.BlockProcesses.{AreListed, AreThere, FitsBlocks, block_process, sensitivity_of}
use Rattle.sim_flat_blocks.proofs.ReadsBelow.{reads_there}

pub body_fits : (objects drivers : ℕ) (vs : List Held) (xs : List Statement) → All (λ x. statement_fits objects drivers vs x ≡ true) xs
    → fits (record { objects = objects; drivers = drivers; variables = vs; statements = xs }) ≡ true
unfolding fits
body_fits objects drivers vs xs h = all_are (statement_fits objects drivers vs) xs h

sensitive_there : (objects : ℕ) (listed : Option (List ℕ)) (reads : List ℕ) → AreListed objects listed → AreThere objects reads
    → AreThere objects (sensitivity_of listed reads)
sensitive_there objects None reads h g = g
sensitive_there objects (Some places) reads h g = h

pub block_process_fits : (objects : ℕ) (postponed : Bool) (listed : Option (List ℕ)) (targets : List ℕ) (vs : List Held) (xs : List Statement)
    → All (λ x. statement_fits objects (length targets) vs x ≡ true) xs → AreThere objects targets → AreListed objects listed
    → FitsBlocks objects (block_process objects postponed listed targets vs xs)
block_process_fits objects postponed listed targets vs xs h g k b e = record {
  objects = sym e;
  drivers = refl;
  reads = refl;
  sensitivity = subst (λ (n : ℕ). AreThere n (sensitivity_of listed (rising (objects_of xs)))) (sym e)
      (sensitive_there objects listed (rising (objects_of xs)) k
      (reads_there objects (length targets) vs xs (all_are (statement_fits objects (length targets) vs) xs h)));
  targets = subst (λ (n : ℕ). AreThere n targets) (sym e) g;
}
