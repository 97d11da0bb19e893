-- The number of ports and signals of an architecture (IEEE 1076-2008, 3.3, 6.4.2.3, 6.5.2), and names in that range.
use Rattle.std.specs.Prelude.{ℕ, ◌+◌, ◌<◌, List, [], ◌∷◌, ◌++◌, length}
use Rattle.sim_flat_scope.specs.declared.scope.Meaning.{Meaning}
use Rattle.sim_flat_scope.specs.declared.scope.Meaning.TheVariants as m
use Rattle.sim_flat_scope.specs.Scopes.{Region}
use Rattle.sim_text_tree.specs.Name.{Name}
use Rattle.sim_text_tree.specs.declared.declaration.PortDeclaration.{PortDeclaration}
use Rattle.sim_text_tree.specs.declared.declaration.Declaration.{Declaration}
use Rattle.sim_text_tree.specs.declared.declaration.Declaration.TheVariants as declaration
use Rattle.sim_flat_scope.specs.DeclaredNames.{port_names}

-- the names of the signals of a declaration
abbrev pub signals_declared : Declaration → List Name
signals_declared (declaration.Signal o) = o.names
signals_declared (declaration.Component c) = []

-- the names of signals
unfoldable pub signal_names : List Declaration → List Name
signal_names [] = []
signal_names (d ∷ ds) = signals_declared d ++ signal_names ds

-- the number of ports and signals
unfoldable pub object_count : List PortDeclaration → List Declaration → ℕ
object_count ps ds = length (port_names ps) + length (signal_names ds)

-- A meaning is in range for this number of ports and signals and without variables.
abbrev pub IsBelow : ℕ → Meaning → Type 0
IsBelow count (m.Port object mode type) = object < count
IsBelow count (m.Signal object type) = object < count
IsBelow count (m.Variable place type) = ⊥
IsBelow count _ = Unit {0}

-- Each name of a region has a meaning with this property.
abbrev pub AllMean : (Meaning → Type 0) → Region → Type 0
AllMean P [] = Unit {0}
AllMean P (d ∷ ds) = P d.1 × AllMean P ds

-- The meanings of a region are in range for this number of ports and signals and without variables.
abbrev pub AreBelow : ℕ → Region → Type 0
AreBelow count region = AllMean (IsBelow count) region
