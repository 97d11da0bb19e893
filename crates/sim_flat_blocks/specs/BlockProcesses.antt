-- The processes of an architecture, each translated once for all instances, with names as positions (IEEE 1076-2008, 11.3, 11.6, 14.7.2).
use Rattle.std.specs.Prelude.{ℕ, ◌≡◌, ◌<◌, Bool, List, [], ◌∷◌, ◌++◌, Option, Some, None, length, map}
use Rattle.std.specs.List.{All}
use Rattle.sim_flat_design.specs.declared.held.Held.{Held}
use Rattle.sim_flat_design.specs.declared.statement.Statement.{Statement}
use Rattle.sim_flat_design.specs.Bodies.{objects_of}
use Rattle.sim_flat_design.specs.Processes.{rising}
use Rattle.sim_flat_scope.specs.Scopes.{Lookup, Region, means}
use Rattle.sim_text_tree.specs.Name.{Name}
use Rattle.sim_text_tree.specs.declared.unit.Process.{Process}
use Rattle.sim_text_tree.specs.declared.unit.Sensitivity.{Sensitivity}
use Rattle.sim_text_tree.specs.declared.unit.Sensitivity.TheVariants as sensitivity
use Rattle.sim_text_tree.specs.declared.waveform.ConcurrentSignalAssignment.{ConcurrentSignalAssignment}
use Rattle.sim_flat_scope.specs.Regions.{process_region}
use Rattle.sim_flat_bodies.specs.Statements.{concurrent_of, gathered, sequential_of, target_of, targets_of}
use Rattle.sim_flat_blocks.specs.declared.parts.BlockProcess.{BlockProcess}
use Rattle.sim_flat_blocks.specs.declared.parts.Block.{Block}
use Rattle.sim_flat_blocks.specs.Blocks.{IsBlockProcess, size}
use Rattle.sim_flat_blocks.specs.FirstValues.{first_values}

-- the signals and ports of these names, in order
unfoldable pub named_objects : Lookup → List Name → List ℕ
named_objects look [] = []
named_objects look (n ∷ ns) = target_of (look n.text) ++ named_objects look ns

-- the signals and ports of a sensitivity list; none for `all`
unfoldable pub listed : Lookup → Sensitivity → Option (List ℕ)
listed look sensitivity.All = None
listed look (sensitivity.Names ns) = Some (named_objects look ns)

-- the sensitivity of a process: the listed signals and ports, or all that it reads
abbrev pub sensitivity_of : Option (List ℕ) → List ℕ → List ℕ
sensitivity_of None reads = reads
sensitivity_of (Some ns) reads = ns

-- a process, from whether it is postponed, its sensitivity list, its targets, its variables and its statements
abbrev pub block_process : ℕ → Bool → Option (List ℕ) → List ℕ → List Held → List Statement → BlockProcess
block_process objects postponed listed targets variables statements = record {
  sensitivity = sensitivity_of listed (rising (objects_of statements));
  reads = rising (objects_of statements);
  targets = targets;
  postponed = postponed;
  body = record { objects = objects; drivers = length targets; variables = variables; statements = statements };
}

-- a process statement of an architecture with this number of ports and signals (11.3)
unfoldable pub translated_process : Region → ℕ → Process → BlockProcess
translated_process architecture objects p =
    let look = means (process_region architecture p) architecture in
    let targets = targets_of look p.statements in
    block_process objects p.postponed (listed look p.sensitivity) targets (first_values architecture p) (map (sequential_of look targets) p.statements)

-- a concurrent signal assignment, which is sensitive to all that it reads (11.6)
unfoldable pub translated_assignment : Region → ℕ → ConcurrentSignalAssignment → BlockProcess
translated_assignment architecture objects a =
    let look = means [] architecture in
    let targets = gathered [] (target_of (look a.target.text)) in
    block_process objects a.postponed None targets [] (concurrent_of look targets a ∷ [])

-- A process fits each block with this number of ports and signals.
abbrev pub FitsBlocks : ℕ → BlockProcess → Type 0
FitsBlocks objects t = (b : Block) → size b ≡ objects → IsBlockProcess b t

-- These positions are in range.
abbrev pub AreThere : ℕ → List ℕ → Type 0
AreThere objects places = All (λ (n : ℕ). n < objects) places

-- If there is a list of positions, they are in range.
abbrev pub AreListed : ℕ → Option (List ℕ) → Type 0
AreListed objects None = Unit {0}
AreListed objects (Some places) = AreThere objects places
