use Rattle.std.proofs.Common.{ℕ, List, sym, ◌∙◌, subst}
use Rattle.std.specs.List.{All}
use Rattle.sim_flat_design.specs.Processes.{Process}
use Rattle.sim_exec_code.specs.Codes.{AreCodesOf}
use Rattle.sim_store_state.specs.InTurn as turn
use Rattle.sim_store_simulation.specs.Contents.{unmarked_of}
use Rattle.sim_store_simulation.proofs.Assignments.{all-held, unmarked-executable}
use Rattle.sim_store_simulation.proofs.simulation.execute_unmarked.Goals as goal

pub execute-requires : goal.execute-requires
execute-requires c =
    let m = c.args.contents.now in
    let numbers = c.as_slice.ensures.value ∙ c.in_ok-numbers.ensures in
    let is = sym c.processes.ensures.value in
    record {
      time = c.requires.of.state.early;
      codes = subst (λ (ps : List Process). AreCodesOf ps m.compiled.codes) is c.requires.of.compiled.codes_are;
      frame = c.requires.of.compiled.frame_fits;
      each = subst (λ (ns : List ℕ). All (turn.IsExecutable c.processes.result.now m.time m.state.owned) ns) (sym numbers)
          (subst (λ (ps : List Process). All (turn.IsExecutable ps m.time m.state.owned) (unmarked_of m.due m.deposited)) is
          (unmarked-executable c.args.design.now m c.requires.of));
    }

pub returns-clause-of : goal.returns-clause-of
returns-clause-of c =
    let m = c.args.contents.now in
    let numbers = c.as_slice.ensures.value ∙ c.in_ok-numbers.ensures in
    let held = all-held c.args.design.now m c.requires.of c.execute.new.self
    (subst (λ (ns : List ℕ). turn.AreExecuted c.args.design.now.processes m.time ns m.state c.execute.new.self) numbers
    (subst (λ (ps : List Process). turn.AreExecuted ps m.time c.as_slice.result.now m.state c.execute.new.self) c.processes.ensures.value
    c.in_ok-execute.ensures.ok)) in
    record {
      compiled = rw c.in_ok-execute.ensures.frame c.requires.of.compiled;
      marked = c.requires.of.marked;
      state = held;
      marks_sized = c.requires.of.marks_sized;
      counts = c.requires.of.counts;
    }

pub returns-clause-complete : goal.returns-clause-complete
returns-clause-complete c p lt resumed =
    let m = c.args.contents.now in
    let numbers = c.as_slice.ensures.value ∙ c.in_ok-numbers.ensures in
    let held = all-held c.args.design.now m c.requires.of c.execute.new.self
    (subst (λ (ns : List ℕ). turn.AreExecuted c.args.design.now.processes m.time ns m.state c.execute.new.self) numbers
    (subst (λ (ps : List Process). turn.AreExecuted ps m.time c.as_slice.result.now m.state c.execute.new.self) c.processes.ensures.value
    c.in_ok-execute.ensures.ok)) in
    held.due_are p lt ∙ resumed
