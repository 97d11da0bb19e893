-- Loops over the associations and over the ports of a map.
use Rattle.std.proofs.Common.{ℕ, ◌≡◌, ◌+◌, ◌<◌, ◌≤◌, List, [], ◌∷◌, ◌++◌, length, get_or, drop, Option, ap, sym, ◌∙◌}
use Rattle.std.proofs.lemmas.List.{drop_all}
use Rattle.std.specs.Option.{option_or}
use Rattle.sim_text_tree.specs.declared.unit.Association.{Association}
use Rattle.sim_flat_scope.specs.Ports.{Port}
use Rattle.sim_flat_scope.specs.declared.fault.Fault.{Fault}
use Rattle.sim_flat_scope.specs.Faults.{earliest}
use Rattle.sim_flat_scope.proofs.Faults.{of_both}
use Rattle.sim_flat_instances.specs.Places.{where_at}
use Rattle.sim_flat_instances.specs.PortMaps.{port_of, is_port, first_of_port}
use Rattle.sim_flat_instances.proofs.PlaceLoops.{opened, or_again, or_none}

-- ---- faults of items in turn

module _ {X : Type 0} (faults : ℕ → List X → List Fault) (each : ℕ → X → List Fault) (xs : List X) (i : ℕ) (known start : Option Fault) where
  pub one_more : ((at : ℕ) (x : X) (rest : List X) → faults at (x ∷ rest) ≡ each at x ++ faults (at + 1) rest) → (x : X) → i < length xs → x ≡ get_or xs i x
      → (more : Option Fault) → more ≡ earliest known (each i x) → earliest known (faults i (drop i xs)) ≡ start
      → earliest more (faults (i + 1) (drop (i + 1) xs)) ≡ start
  one_more cons x below is more step so_far =
      let rest : List X = drop (i + 1) xs in
      rw step (sym (of_both known (each i x) (faults (i + 1) rest))
      ∙ (ap (earliest known) (sym (cons i x rest) ∙ ap (faults i) (opened xs i x below is)) ∙ so_far))

  pub no_more : faults i [] ≡ [] → length xs ≤ i → earliest known (faults i (drop i xs)) ≡ start → known ≡ start
  unfolding earliest
  no_more nothing done so_far =
      ap (earliest known) (sym nothing ∙ ap (faults i) (sym (drop_all i xs done))) ∙ so_far

-- ---- first associations of ports

module _ (ports : List Port) (p : ℕ) (xs : List Association) (i : ℕ) (known all : Option ℕ) where
  pub association_step : (x : Association) → i < length xs → x ≡ get_or xs i x → (more : Option ℕ)
      → more ≡ option_or known (where_at (is_port (port_of ports i x.formal) p) i) → option_or known (first_of_port ports p i (drop i xs)) ≡ all
      → option_or more (first_of_port ports p (i + 1) (drop (i + 1) xs)) ≡ all
  unfolding first_of_port
  association_step x below is more step so_far = rw step
      (or_again known (where_at (is_port (port_of ports i x.formal) p) i) (first_of_port ports p (i + 1) (drop (i + 1) xs))
      ∙ (ap (λ (rest : List Association). option_or known (first_of_port ports p i rest)) (opened xs i x below is) ∙ so_far))

  pub associations_done : length xs ≤ i → option_or known (first_of_port ports p i (drop i xs)) ≡ all → known ≡ all
  unfolding first_of_port
  associations_done done so_far = sym (or_none known)
      ∙ (ap (λ (rest : List Association). option_or known (first_of_port ports p i rest)) (sym (drop_all i xs done)) ∙ so_far)
