-- The ports of an entity or a component, one by one.
use Rattle.std.specs.Prelude.{List, [], ◌∷◌, ◌++◌, Option}
use Rattle.sim_text_tree.specs.Name.{Name}
use Rattle.sim_text_tree.specs.declared.declaration.Mode.{Mode}
use Rattle.sim_text_tree.specs.declared.declaration.Initial.{Initial}
use Rattle.sim_text_tree.specs.declared.declaration.PortDeclaration.{PortDeclaration}
use Rattle.sim_flat_scope.specs.Regions.{mode_of}

-- a port: its name, mode, type mark and default expression
pub record Port : Type 0 where
  pub name : Name
  pub mode : Mode
  pub mark : Name
  pub initial : Option Initial

-- the port of a declaration with this name
abbrev pub port_of : PortDeclaration → Name → Port
port_of p n = record { name = n; mode = mode_of p.mode; mark = p.mark; initial = p.initial }

-- the ports of a declaration
unfoldable pub ports_named : PortDeclaration → List Name → List Port
ports_named p [] = []
ports_named p (n ∷ ns) = port_of p n ∷ ports_named p ns

-- the ports of declarations, in order
unfoldable pub ports_of : List PortDeclaration → List Port
ports_of [] = []
ports_of (p ∷ ps) = ports_named p p.names ++ ports_of ps
