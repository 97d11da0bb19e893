-- Loops that record the faults of one item after another.
use Rattle.std.proofs.Common.{◌≡◌, ℕ, ◌+◌, ◌<◌, List, ◌∷◌, ◌++◌, length, get_or, drop, true, false, Bor, Option, refl, ap, sym, ◌∙◌}
use Rattle.sim_text_tree.specs.declared.declaration.PortDeclaration.{PortDeclaration}
use Rattle.sim_text_tree.specs.declared.declaration.ObjectDeclaration.{ObjectDeclaration}
use Rattle.sim_text_tree.specs.declared.declaration.Declaration.{Declaration}
use Rattle.sim_flat_scope.specs.declared.fault.Fault.{Fault}
use Rattle.sim_flat_scope.specs.Faults.{earliest}
use Rattle.sim_flat_scope.specs.Scopes.{Region, Lookup, with_first}
use Rattle.sim_flat_scope.specs.declared.scope.Meaning.TheVariants as m
use Rattle.sim_text_tree.specs.Name.{Name}
use Rattle.sim_flat_scope.specs.DeclaredNames.{named_by}
use Rattle.sim_flat_scope.proofs.Faults.{of_both}
use Rattle.sim_flat_scope.specs.DeclarationFaults.{name_faults, names_faults, object_faults, port_types, variable_types, declaration_faults}
use Rattle.sim_flat_scope.specs.DeclarationFaults.{declarations_faults}
use Rattle.sim_flat_scope.proofs.Declaring.{opened}

-- one iteration, if the faults of a list are those of its items
pub faults_step : {X : Type 0} (each : X → List Fault) (whole : List X → List Fault) → ((x : X) (xs : List X) → whole (x ∷ xs) ≡ each x ++ whole xs)
    → (known after all : Option Fault) (xs : List X) (i : ℕ) (x : X) → i < length xs → x ≡ get_or xs i x
    → earliest known (whole (drop i xs)) ≡ all → after ≡ earliest known (each x) → earliest after (whole (drop (i + 1) xs)) ≡ all
faults_step each whole of_cons known after all xs i x below is so_far noted = rw noted
    (sym (of_both known (each x) (whole (drop (i + 1) xs)))
    ∙ (ap (earliest known) (sym (of_cons x (drop (i + 1) xs)) ∙ ap whole (opened xs i x below is)) ∙ so_far))

pub port_types_cons : (look : Lookup) (p : PortDeclaration) (ps : List PortDeclaration) →
    port_types look (p ∷ ps) ≡ object_faults look false p.mark p.initial ++ port_types look ps
unfolding port_types
port_types_cons look p ps = refl

pub variable_types_cons : (look : Lookup) (o : ObjectDeclaration) (os : List ObjectDeclaration) →
    variable_types look (o ∷ os) ≡ object_faults look true o.mark o.initial ++ variable_types look os
unfolding variable_types
variable_types_cons look o os = refl

pub declarations_faults_cons : (region : Region) (d : Declaration) (ds : List Declaration) →
    declarations_faults region (d ∷ ds) ≡ declaration_faults region d ++ declarations_faults region ds
unfolding declarations_faults
declarations_faults_cons region d ds = refl

-- one iteration of a loop over names declared after those of a region
pub names_step : (known more : Region) (first after all : Option Fault) (ns : List (Bor Name)) (i : ℕ) (n : Bor Name) → i < length ns → n ≡ get_or ns i n
    → earliest first (names_faults known (named_by (drop i ns))) ≡ all → after ≡ earliest first (name_faults known n.now)
    → more ≡ with_first known n.now.text m.Label → earliest after (names_faults more (named_by (drop (i + 1) ns))) ≡ all
unfolding names_faults named_by
names_step known more first after all ns i n below is so_far noted declared = rw (noted, declared)
    (sym (of_both first (name_faults known n.now) (names_faults (with_first known n.now.text m.Label) (named_by (drop (i + 1) ns))))
    ∙ (ap (λ (xs : List (Bor Name)). earliest first (names_faults known (named_by xs))) (opened ns i n below is) ∙ so_far))
