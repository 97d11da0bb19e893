-- Items, and references to them.
use Rattle.std.proofs.Common.{ℕ, zero, suc, ◌≡◌, ◌+◌, List, [], ◌∷◌, ◌++◌, Bool, Option, Some, None, Bor, slice_get, refl, ap, sym, ◌∙◌}
use Rattle.std.specs.Option.{option_or, option_copied}
use Rattle.sim_text_tree.specs.declared.declaration.PortDeclaration.{PortDeclaration}
use Rattle.sim_text_tree.specs.declared.unit.Entity.{Entity}
use Rattle.sim_text_tree.specs.declared.unit.Architecture.{Architecture}
use Rattle.sim_flat_scope.specs.Ports.{Port}
use Rattle.sim_flat_instances.specs.Libraries.{Library, entities_at, bodies_at, first_entity, interfaces, declared_ports, ports_in, at_place}
use Rattle.sim_flat_instances.specs.Libraries.{interface_of, entity_of}
use Rattle.sim_flat_instances.specs.Places.{where_at, first_place, last_place}

pub first_entity_at : (test : Entity → Bool) (at : ℕ) (es : List (Bor Entity))
    → first_place (λ (e : Bor Entity). test e.now) at es ≡ first_place test at (entities_at es)
unfolding first_place entities_at
first_entity_at test at [] = refl
first_entity_at test at (e ∷ es) = ap (option_or (where_at (test e.now) at)) (first_entity_at test (at + 1) es)

pub last_architecture_at : (test : Architecture → Bool) (at : ℕ) (xs : List (Bor Architecture))
    → last_place (λ (a : Bor Architecture). test a.now) at xs ≡ last_place test at (bodies_at xs)
unfolding last_place bodies_at
last_architecture_at test at [] = refl
last_architecture_at test at (a ∷ xs) = ap (λ (o : Option ℕ). option_or o (where_at (test a.now) at)) (last_architecture_at test (at + 1) xs)

pub entities_at_more : (es : List (Bor Entity)) (e : Bor Entity) → entities_at (es ++ e ∷ []) ≡ entities_at es ++ e.now ∷ []
unfolding entities_at
entities_at_more [] e = refl
entities_at_more (x ∷ es) e = ap (λ (more : List Entity). x.now ∷ more) (entities_at_more es e)

pub architectures_at_more : (xs : List (Bor Architecture)) (a : Bor Architecture) → bodies_at (xs ++ a ∷ []) ≡ bodies_at xs ++ a.now ∷ []
unfolding bodies_at
architectures_at_more [] a = refl
architectures_at_more (x ∷ xs) a = ap (λ (more : List Architecture). x.now ∷ more) (architectures_at_more xs a)

pub interface_none : (l : Library) (es : List Entity) (n : List ℕ) → es ≡ l.entities → first_entity es n ≡ None → None ≡ interface_of l n
unfolding interface_of
interface_none l es n view none = ap (at_place (interfaces l.entities)) (sym none ∙ ap (λ (x : List Entity). first_entity x n) view)

pub interface_some : (l : Library) (es : List Entity) (n : List ℕ) (place : ℕ) (items : List (List Port)) → es ≡ l.entities → first_entity es n ≡ Some place
    → items ≡ interfaces es → slice_get items place ≡ interface_of l n
unfolding interface_of
interface_some l es n place items view some is =
    ap (λ (x : List (List Port)). slice_get x place) (is ∙ ap interfaces view)
    ∙ ap (at_place (interfaces l.entities)) (sym some ∙ ap (λ (x : List Entity). first_entity x n) view)

led_to : (es : List (Bor Entity)) (i : ℕ) → option_copied (slice_get es i) ≡ slice_get (entities_at es) i
unfolding entities_at
led_to [] i = refl
led_to (e ∷ es) zero = refl
led_to (e ∷ es) (suc i) = led_to es i

pub entity_none : (l : Library) (es : List Entity) (n : List ℕ) → es ≡ l.entities → first_entity es n ≡ None → None ≡ entity_of l n
unfolding entity_of
entity_none l es n view none = ap (at_place l.entities) (sym none ∙ ap (λ (x : List Entity). first_entity x n) view)

pub entity_some : (l : Library) (es : List (Bor Entity)) (n : List ℕ) (place : ℕ) (o : Option (Bor Entity)) → entities_at es ≡ l.entities
    → first_entity (entities_at es) n ≡ Some place → o ≡ slice_get es place → option_copied o ≡ entity_of l n
unfolding entity_of
entity_some l es n place o view some is =
    ap option_copied is
    ∙ (led_to es place
    ∙ (ap (λ (x : List Entity). slice_get x place) view ∙ ap (at_place l.entities) (sym some ∙ ap (λ (x : List Entity). first_entity x n) view)))

pub ports_none : (l : Library) (es : List Entity) (n : List ℕ) → es ≡ l.entities → first_entity es n ≡ None → None ≡ ports_in (entity_of l n)
ports_none l es n view none = ap ports_in (entity_none l es n view none)

-- the ports of the entity at a position
ports_at : (es : List Entity) (i : ℕ) → slice_get (declared_ports es) i ≡ ports_in (slice_get es i)
unfolding declared_ports
ports_at [] i = refl
ports_at (e ∷ es) zero = refl
ports_at (e ∷ es) (suc i) = ports_at es i

pub ports_some : (l : Library) (es : List Entity) (n : List ℕ) (place : ℕ) (items : List (List PortDeclaration)) → es ≡ l.entities
    → first_entity es n ≡ Some place → items ≡ declared_ports es → slice_get items place ≡ ports_in (entity_of l n)
unfolding entity_of
ports_some l es n place items view some is =
    ap (λ (x : List (List PortDeclaration)). slice_get x place) is
    ∙ (ports_at es place
    ∙ ap ports_in (ap (λ (x : List Entity). slice_get x place) view ∙ ap (at_place l.entities) (sym some ∙ ap (λ (x : List Entity). first_entity x n) view)))
