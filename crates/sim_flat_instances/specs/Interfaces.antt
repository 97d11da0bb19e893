-- The ports of an entity or a component: their positions, and whether two lists are alike (IEEE 1076-2008, 6.5.6.3, 6.8).
use Rattle.std.specs.Prelude.{ℕ, ◌&&◌, List, [], ◌∷◌, Bool, true, false, Option}
use Rattle.std.specs.Str.{bytes_eq}
use Rattle.sim_text_tree.specs.declared.declaration.Mode.{Mode}
use Rattle.sim_text_tree.specs.declared.declaration.Mode.TheVariants.{In, Out, Inout}
use Rattle.sim_flat_scope.specs.Ports.{Port}
use Rattle.sim_flat_instances.specs.Places.{first_place}

-- whether a port has this name
abbrev pub is_named : List ℕ → Port → Bool
is_named n p = bytes_eq n p.name.text

-- the position of the first port with this name
unfoldable pub port_place : List Port → List ℕ → Option ℕ
port_place ports n = first_place (is_named n) 0 ports

-- whether two modes are the same
abbrev pub same_mode : Mode → Mode → Bool
same_mode In In = true
same_mode Out Out = true
same_mode Inout Inout = true
same_mode _ _ = false

-- whether two ports have the same name, mode and type mark; default expressions may differ
abbrev pub is_like : Port → Port → Bool
is_like p q = bytes_eq p.name.text q.name.text && (same_mode p.mode q.mode && bytes_eq p.mark.text q.mark.text)

-- whether the ports of two lists are pairwise the same
unfoldable pub are_alike : List Port → List Port → Bool
are_alike [] [] = true
are_alike [] (q ∷ qs) = false
are_alike (p ∷ ps) [] = false
are_alike (p ∷ ps) (q ∷ qs) = is_like p q && are_alike ps qs
