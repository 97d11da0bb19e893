-- A block has as many ports and signals as its architecture declares: by recursion on the declarations.
use Rattle.std.proofs.Common.{◌≡◌, ◌+◌, List, [], ◌∷◌, map, length, refl}
use Rattle.std.proofs.lemmas.List.{length-append, length-map}
use Rattle.sim_text_tree.specs.Name.{Name}
use Rattle.sim_text_tree.specs.declared.declaration.Declaration.{Declaration}
use Rattle.sim_text_tree.specs.declared.declaration.Declaration.TheVariants as declaration
use Rattle.sim_text_tree.specs.declared.declaration.PortDeclaration.{PortDeclaration}
use Rattle.sim_flat_scope.specs.Scopes.{Lookup}
use Rattle.sim_flat_scope.specs.DeclaredNames.{port_names}
use Rattle.sim_flat_scope.specs.Ports.{ports_named, ports_of}
use Rattle.sim_flat_scope.specs.Regions.{ports_region}
use Rattle.sim_flat_blocks.specs.Below.{object_count, signal_names}
use Rattle.sim_flat_blocks.specs.Plans.{block_ports, object, port, seen, signals_of}

ports_named_count : (p : PortDeclaration) (ns : List Name) → length (ports_named p ns) ≡ length ns
unfolding ports_named
ports_named_count p [] = refl
ports_named_count p (n ∷ ns) = rw (ports_named_count p ns) refl

ports_count : (ps : List PortDeclaration) → length (ports_of ps) ≡ length (port_names ps)
unfolding ports_of port_names
ports_count [] = refl
ports_count (p ∷ ps) = rw (
  length-append (ports_named p p.names) (ports_of ps),
  length-append p.names (port_names ps),
  ports_named_count p p.names,
  ports_count ps,
) refl

signals_count : (look : Lookup) (ds : List Declaration) → length (signals_of look ds) ≡ length (signal_names ds)
unfolding signals_of signal_names
signals_count look [] = refl
signals_count look (declaration.Signal o ∷ ds) = rw (
  length-append (map (object look o.mark o.initial) o.names) (signals_of look ds),
  length-append o.names (signal_names ds),
  length-map o.names (object look o.mark o.initial),
  signals_count look ds,
) refl
signals_count look (declaration.Component c ∷ ds) = signals_count look ds

pub size_is : (look : Lookup) (ps : List PortDeclaration) (ds : List Declaration)
    → length (block_ports ps) + length (signals_of look ds) ≡ object_count ps ds
unfolding object_count block_ports
size_is look ps ds = rw (length-map (ports_of ps) (port (seen (ports_region [] ps))), ports_count ps, signals_count look ds) refl
