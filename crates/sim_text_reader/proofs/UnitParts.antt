-- Readers that the code splits into several functions: each function continues from the answer of the one before.
use Rattle.std.proofs.Common.{◌≡◌, refl, ℕ, Bool, true, false, if◌then◌else◌, List, [], ◌∷◌, Option}
use Rattle.sim_text_tokens.specs.declared.kind.Kind.{Kind}
use Rattle.sim_text_tokens.specs.declared.kind.Kind.TheVariants as k
use Rattle.sim_text_tree.specs.Name.{Name}
use Rattle.sim_text_tree.specs.Input.{Input, next}
use Rattle.sim_text_tree.specs.declared.declaration.Declaration.{Declaration}
use Rattle.sim_text_tree.specs.declared.declaration.ObjectDeclaration.{ObjectDeclaration}
use Rattle.sim_text_tree.specs.declared.declaration.PortDeclaration.{PortDeclaration}
use Rattle.sim_text_tree.specs.declared.unit.Sensitivity.{Sensitivity}
use Rattle.sim_text_tree.specs.declared.unit.Instantiated.{Instantiated}
use Rattle.sim_text_tree.specs.declared.unit.Instantiated.TheVariants as made
use Rattle.sim_text_tree.specs.declared.unit.Concurrent.TheVariants as c
use Rattle.sim_text_tree.specs.declared.unit.ContextItem.TheVariants as items
use Rattle.sim_text_grammar.specs.Readers.{ParseResult, Parser, and_then, pure, eat, expect, word, left, many_from}
use Rattle.sim_text_grammar.specs.Declarations.{names, object, initial, ports, port_list, component, component_end, declarations, repeated, variables}
use Rattle.sim_text_grammar.specs.Statements.{statements, label_again}
use Rattle.sim_text_grammar.specs.Concurrents.{associations, chosen, concurrents, entity_named, instance, port_map, postponed_again}
use Rattle.sim_text_grammar.specs.Concurrents.{process, process_body, sensitivity}
use Rattle.sim_text_grammar.specs.Units.{entity, architecture, architecture_body, item_by, selected_names, unit, units_of, goes_on}
use Rattle.sim_text_grammar.proofs.Parts.{within, beyond}

-- a result followed by a semicolon; below, one followed by a parenthesis
abbrev ended : {A : Type 0} → ParseResult A → ParseResult A
ended outcome = and_then outcome (λ a i. and_then (expect k.Semicolon i) (λ _. pure a))

abbrev closed : {A : Type 0} → ParseResult A → ParseResult A
closed outcome = and_then outcome (λ a i. and_then (expect k.RightParen i) (λ _. pure a))

-- ---- declarations

ports_written : (is_written : Bool) (i : Input)
    → (if is_written then (λ i. and_then (expect k.LeftParen i) (λ _ i. and_then (port_list i) (λ found i. and_then (expect k.RightParen i) (λ _ i.
    and_then (expect k.Semicolon i) (λ _. pure found))))) else pure []) i
    ≡ (if is_written then (λ i. and_then (expect k.LeftParen i) (λ _ i. and_then (port_list i) (λ found i.
    and_then (and_then (expect k.RightParen i) (λ _. expect k.Semicolon)) (λ _. pure found)))) else pure []) i
ports_written true i = beyond (expect k.LeftParen i) (λ _ i. beyond (port_list i) (λ found i. within (expect k.RightParen i) _ _ (λ _ i. refl)))
ports_written false i = refl

pub ports_in_parts : (i : Input) → ports i
    ≡ and_then (eat k.Port i) (λ is_written. if is_written then (λ i. and_then (expect k.LeftParen i) (λ _ i. and_then (port_list i) (λ found i.
    and_then (and_then (expect k.RightParen i) (λ _. expect k.Semicolon)) (λ _. pure found)))) else pure [])
unfolding ports
ports_in_parts i = beyond (eat k.Port i) ports_written

pub object_in_parts : (i : Input) → object i
    ≡ and_then (names i) (λ ns i. and_then (and_then (expect k.Colon i) (λ _. word)) (λ mark i. and_then (ended (initial i)) (λ first.
    pure (record { names = ns; mark = mark; initial = first }))))
unfolding object
object_in_parts i = beyond (names i) (λ ns i. within (expect k.Colon i) _ _ (λ _ i. beyond (word i) (λ mark i.
    within (initial i) _ _ (λ first i. within (expect k.Semicolon i) _ _ (λ _ i. refl)))))

pub component_end_in_parts : (name : Name) (is : Bool) (found : List PortDeclaration) (i : Input) → component_end name is found i
    ≡ and_then (and_then (expect k.End i) (λ _. expect k.Component)) (λ _ i. and_then (ended (repeated name.text i)) (λ again.
    pure (record { name = name; is = is; ports = found; name_repeated = again })))
unfolding component_end
component_end_in_parts name is found i = within (expect k.End i) _ _ (λ _ i. beyond (expect k.Component i) (λ _ i.
    within (repeated name.text i) _ _ (λ again i. within (expect k.Semicolon i) _ _ (λ _ i. refl))))

pub component_in_parts : (i : Input) → component i
    ≡ and_then (and_then (expect k.Component i) (λ _. word)) (λ name i. and_then (eat k.Is i) (λ is i. and_then (ports i) (λ found.
    component_end name is found)))
unfolding component
component_in_parts i = within (expect k.Component i) _ _ (λ _ i. refl)

-- ---- concurrent statements

pub process_body_in_parts : (label : Option Name) (postponed : Bool) (sensitive : Sensitivity) (is : Bool) (found : List ObjectDeclaration) (i : Input)
    → process_body label postponed sensitive is found i
    ≡ and_then (and_then (expect k.Begin i) (λ _. statements)) (λ body i. and_then (and_then (expect k.End i) (λ _ i.
    and_then (postponed_again postponed i) (λ word_again i. and_then (expect k.Process i) (λ _. pure word_again)))) (λ word_again i.
    and_then (ended (label_again label i)) (λ again. pure (record {
      label = label;
      postponed = postponed;
      sensitivity = sensitive;
      is = is;
      variables = found;
      statements = body;
      postponed_repeated = word_again;
      label_repeated = again;
    }))))
unfolding process_body
process_body_in_parts label postponed sensitive is found i = within (expect k.Begin i) _ _ (λ _ i. beyond (statements i) (λ body i.
    within (expect k.End i) _ _ (λ _ i. within (postponed_again postponed i) _ _ (λ word_again i. within (expect k.Process i) _ _ (λ _ i.
    within (label_again label i) _ _ (λ again i. within (expect k.Semicolon i) _ _ (λ _ i. refl)))))))

pub process_in_parts : (label : Option Name) (postponed : Bool) (i : Input) → process label postponed i
    ≡ and_then (and_then (expect k.Process i) (λ _. expect k.LeftParen)) (λ _ i. and_then (closed (sensitivity i)) (λ sensitive i.
    and_then (eat k.Is i) (λ is i. and_then (variables i) (λ found. process_body label postponed sensitive is found))))
unfolding process
process_in_parts label postponed i = within (expect k.Process i) _ _ (λ _ i. beyond (expect k.LeftParen i) (λ _ i.
    within (sensitivity i) _ _ (λ sensitive i. within (expect k.RightParen i) _ _ (λ _ i. refl))))

port_map_written : (is_written : Bool) (i : Input)
    → (if is_written then (λ i. and_then (expect k.Map i) (λ _ i. and_then (expect k.LeftParen i) (λ _ i. and_then (associations i) (λ found i.
    and_then (expect k.RightParen i) (λ _. pure found))))) else pure []) i
    ≡ (if is_written then (λ i. and_then (and_then (expect k.Map i) (λ _. expect k.LeftParen)) (λ _ i.
    and_then (associations i) (λ found i. and_then (expect k.RightParen i) (λ _. pure found)))) else pure []) i
port_map_written true i = within (expect k.Map i) _ _ (λ _ i. refl)
port_map_written false i = refl

pub port_map_in_parts : (i : Input) → port_map i
    ≡ and_then (eat k.Port i) (λ is_written. if is_written then (λ i. and_then (and_then (expect k.Map i) (λ _. expect k.LeftParen)) (λ _ i.
    and_then (associations i) (λ found i. and_then (expect k.RightParen i) (λ _. pure found)))) else pure [])
unfolding port_map
port_map_in_parts i = beyond (eat k.Port i) port_map_written

pub instance_in_parts : (label : Name) (unit : Instantiated) (i : Input) → instance label unit i
    ≡ and_then (ended (port_map i)) (λ found. pure (c.Instance (record { label = label; unit = unit; associations = found })))
unfolding instance
instance_in_parts label unit i = within (port_map i) _ _ (λ found i. within (expect k.Semicolon i) _ _ (λ _ i. refl))

pub entity_named_in_parts : (i : Input) → entity_named i
    ≡ and_then (word (next i)) (λ library i. and_then (and_then (expect k.Dot i) (λ _. word)) (λ entity i. and_then (chosen i) (λ architecture.
    pure (made.Entity library entity architecture))))
unfolding entity_named
entity_named_in_parts i = beyond (word (next i)) (λ library i. within (expect k.Dot i) _ _ (λ _ i. refl))

-- ---- units

pub library_clause_in_parts : (i : Input) → item_by k.Library i ≡ and_then (ended (names (next i))) (λ ns. pure (items.Library ns))
library_clause_in_parts i = within (names (next i)) _ _ (λ ns i. within (expect k.Semicolon i) _ _ (λ _ i. refl))

pub use_clause_in_parts : (i : Input) → item_by k.Use i ≡ and_then (expect k.Use i) (λ _ i. and_then (ended (selected_names i)) (λ ns. pure (items.Use ns)))
use_clause_in_parts i = beyond (expect k.Use i) (λ _ i. within (selected_names i) _ _ (λ ns i. within (expect k.Semicolon i) _ _ (λ _ i. refl)))

pub ruleset context_in_parts = (library_clause_in_parts, use_clause_in_parts)

pub units_in_parts : (i : Input) → units_of i ≡ and_then (and_then (unit i) (λ first. pure (first ∷ []))) (λ found i. many_from goes_on unit (left i) found i)
unfolding units_of
units_in_parts i = within (unit i) _ _ (λ first i. refl)

-- the end of a unit
abbrev unit_end : Kind → List ℕ → Parser (Bool × Bool)
unit_end its_word name i = and_then (expect k.End i) (λ _ i. and_then (eat its_word i) (λ w i. and_then (repeated name i) (λ again i.
    and_then (expect k.Semicolon i) (λ _. pure (w, again)))))

pub entity_in_parts : (i : Input) → entity i
    ≡ and_then (and_then (expect k.Entity i) (λ _. word)) (λ name i. and_then (and_then (expect k.Is i) (λ _. ports)) (λ found i.
    and_then (unit_end k.Entity name.text i) (λ ends.
    pure (record { name = name; ports = found; word_repeated = ends.0; name_repeated = ends.1 }))))
unfolding entity
entity_in_parts i = within (expect k.Entity i) _ _ (λ _ i. beyond (word i) (λ name i. within (expect k.Is i) _ _ (λ _ i. beyond (ports i) (λ found i.
    within (expect k.End i) _ _ (λ _ i. within (eat k.Entity i) _ _ (λ w i. within (repeated name.text i) _ _ (λ again i.
    within (expect k.Semicolon i) _ _ (λ _ i. refl))))))))

pub architecture_in_parts : (i : Input) → architecture i
    ≡ and_then (and_then (expect k.Architecture i) (λ _. word)) (λ name i. and_then (and_then (expect k.Of i) (λ _. word)) (λ entity i.
    and_then (and_then (expect k.Is i) (λ _. declarations)) (λ found. architecture_body name entity found)))
unfolding architecture
architecture_in_parts i = within (expect k.Architecture i) _ _ (λ _ i. beyond (word i) (λ name i. within (expect k.Of i) _ _ (λ _ i. beyond (word i)
    (λ entity i. within (expect k.Is i) _ _ (λ _ i. refl)))))

pub architecture_body_in_parts : (name entity : Name) (found : List Declaration) (i : Input) → architecture_body name entity found i
    ≡ and_then (and_then (expect k.Begin i) (λ _. concurrents)) (λ body i. and_then (unit_end k.Architecture name.text i) (λ ends.
    pure (record { name = name; entity = entity; declarations = found; statements = body; word_repeated = ends.0; name_repeated = ends.1 })))
unfolding architecture_body
architecture_body_in_parts name entity found i = within (expect k.Begin i) _ _ (λ _ i. beyond (concurrents i) (λ body i. within (expect k.End i) _ _ (λ _ i.
    within (eat k.Architecture i) _ _ (λ w i. within (repeated name.text i) _ _ (λ again i. within (expect k.Semicolon i) _ _ (λ _ i. refl))))))
