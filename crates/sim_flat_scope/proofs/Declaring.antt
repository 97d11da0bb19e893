-- Regions, built piece by piece.
use Rattle.std.proofs.Common.{◌≡◌, ℕ, ◌+◌, ◌<◌, List, [], ◌∷◌, ◌++◌, length, get_or, drop, refl, ap, sym, ◌∙◌}
use Rattle.std.proofs.lemmas.List.{drop_more}
use Rattle.sim_flat_scope.specs.declared.scope.Meaning.{Meaning}
use Rattle.sim_flat_scope.specs.declared.scope.Meaning.TheVariants as m
use Rattle.sim_flat_scope.specs.Scopes.{Declared, Region, Lookup, declaring, with_first}
use Rattle.sim_text_tree.specs.Name.{Name}
use Rattle.sim_flat_scope.specs.Regions.{labels, naming, ports, port_objects, variables, variable_objects, declarations, declared, signal_count}
use Rattle.sim_flat_scope.specs.Regions.{component_count}
use Rattle.sim_text_tree.specs.declared.declaration.PortDeclaration.{PortDeclaration}
use Rattle.sim_text_tree.specs.declared.declaration.ObjectDeclaration.{ObjectDeclaration}
use Rattle.sim_text_tree.specs.declared.declaration.Declaration.{Declaration}

-- several declarations, and then more
pub declaring_both : (region : Region) (xs ys : List Declared) → declaring (declaring region xs) ys ≡ declaring region (xs ++ ys)
unfolding declaring
declaring_both region [] ys = refl
declaring_both region (x ∷ xs) ys = declaring_both (with_first region x.0 x.1) xs ys

-- one declaration
pub declaring_one : (region : Region) (n : List ℕ) (meaning : Meaning) → declaring region ((n, meaning) ∷ []) ≡ with_first region n meaning
unfolding declaring
declaring_one region n meaning = refl

labels_both : (ns more : List Name) → labels (ns ++ more) ≡ labels ns ++ labels more
unfolding labels
labels_both [] more = refl
labels_both (n ∷ ns) more = ap (λ (ds : List Declared). (n.text, m.Label) ∷ ds) (labels_both ns more)

-- several names, and then more
pub naming_both : (region : Region) (ns more : List Name) → naming (naming region ns) more ≡ naming region (ns ++ more)
naming_both region ns more = declaring_both region (labels ns) (labels more) ∙ ap (declaring region) (sym (labels_both ns more))

-- the rest of a list, one item further
pub opened : {X : Type 0} (xs : List X) (i : ℕ) (x : X) → i < length xs → x ≡ get_or xs i x → x ∷ drop (i + 1) xs ≡ drop i xs
opened xs i x below is = ap (λ y. y ∷ drop (i + 1) xs) is ∙ sym (drop_more xs i x below)

-- one iteration of a loop over port declarations
pub ports_step : (look : Lookup) (region more all : Region) (place after i : ℕ) (ps : List PortDeclaration) (p : PortDeclaration)
    → i < length ps → p ≡ get_or ps i p → declaring region (ports look place (drop i ps)) ≡ all
    → more ≡ declaring region (port_objects look place p) → after ≡ place + length p.names
    → declaring more (ports look after (drop (i + 1) ps)) ≡ all
unfolding ports
ports_step look region more all place after i ps p below is so_far made counted = rw (made, counted)
    (declaring_both region (port_objects look place p) (ports look (place + length p.names) (drop (i + 1) ps))
    ∙ (ap (λ (xs : List PortDeclaration). declaring region (ports look place xs)) (opened ps i p below is) ∙ so_far))

-- one iteration of a loop over variable declarations
pub variables_step : (look : Lookup) (region more all : Region) (place after i : ℕ) (os : List ObjectDeclaration) (o : ObjectDeclaration)
    → i < length os → o ≡ get_or os i o → declaring region (variables look place (drop i os)) ≡ all
    → more ≡ declaring region (variable_objects look place o) → after ≡ place + length o.names
    → declaring more (variables look after (drop (i + 1) os)) ≡ all
unfolding variables
variables_step look region more all place after i os o below is so_far made counted = rw (made, counted)
    (declaring_both region (variable_objects look place o) (variables look (place + length o.names) (drop (i + 1) os))
    ∙ (ap (λ (xs : List ObjectDeclaration). declaring region (variables look place xs)) (opened os i o below is) ∙ so_far))

-- one iteration of a loop over the declarations of an architecture
pub declarations_step : (look : Lookup) (region more all : Region) (s s' c c' i : ℕ) (ds : List Declaration) (d : Declaration)
    → i < length ds → d ≡ get_or ds i d → declaring region (declarations look s c (drop i ds)) ≡ all
    → more ≡ declaring region (declared look s c d) → s' ≡ s + signal_count d → c' ≡ c + component_count d
    → declaring more (declarations look s' c' (drop (i + 1) ds)) ≡ all
unfolding declarations
declarations_step look region more all s s' c c' i ds d below is so_far made signals components = rw (made, signals, components)
    (declaring_both region (declared look s c d) (declarations look (s + signal_count d) (c + component_count d) (drop (i + 1) ds))
    ∙ (ap (λ (xs : List Declaration). declaring region (declarations look s c xs)) (opened ds i d below is) ∙ so_far))

pub ruleset in_pieces = (declaring_both, declaring_one, naming_both)
