-- The names of an architecture and of a process are in range.
use Rattle.std.proofs.Common.{◌≡◌, ℕ, zero, suc, ◌+◌, ◌≤◌, Bool, true, List, [], ◌∷◌, ◌++◌, length, drop, slice_get, Option, Some, None, is_some}
use Rattle.std.proofs.Common.{refl, ap, ◌∙◌, arith}
use Rattle.std.specs.Str.{bytes_eq}
use Rattle.std.specs.Prelude.{codes}
use Rattle.std.proofs.lemmas.Bool.{lt-ltb}
use Rattle.std.proofs.lemmas.List.{length-append}
use Rattle.sim_text_tokens.proofs.Tests.{by_cases}
use Rattle.sim_flat_design.specs.declared.held.Held.{Held}
use Rattle.sim_flat_design.specs.Bodies.{is_bit, is_truth}
use Rattle.sim_flat_scope.specs.declared.scope.Type as ty
use Rattle.sim_flat_scope.specs.declared.scope.Type.TheVariants as type
use Rattle.sim_flat_scope.specs.declared.scope.Meaning.{Meaning}
use Rattle.sim_flat_scope.specs.declared.scope.Meaning.TheVariants as m
use Rattle.sim_flat_scope.specs.Scopes.{Region, Lookup, found, with_first, declaring, or_else, predefined, means}
use Rattle.sim_text_tree.specs.Name.{Name}
use Rattle.sim_text_tree.specs.declared.declaration.Mode.{Mode}
use Rattle.sim_text_tree.specs.declared.declaration.Initial.{Initial}
use Rattle.sim_text_tree.specs.declared.declaration.Initial.TheVariants as initial
use Rattle.sim_text_tree.specs.declared.declaration.PortDeclaration.{PortDeclaration}
use Rattle.sim_text_tree.specs.declared.declaration.ObjectDeclaration.{ObjectDeclaration}
use Rattle.sim_text_tree.specs.declared.declaration.Declaration.{Declaration}
use Rattle.sim_text_tree.specs.declared.declaration.Declaration.TheVariants as declaration
use Rattle.sim_text_tree.specs.declared.unit.Concurrent.{Concurrent}
use Rattle.sim_text_tree.specs.declared.unit.Process.{Process}
use Rattle.sim_flat_scope.specs.declared.region.Object.TheVariants as object
use Rattle.sim_flat_scope.specs.DeclaredNames.{port_names, concurrent_labels, statement_labels}
use Rattle.sim_flat_scope.specs.Regions.{labels, naming, objects, ports, variables, declarations, mark_type, port_labels, port_count, architecture_labels}
use Rattle.sim_flat_scope.specs.Regions.{ports_region, architecture_region, process_region}
use Rattle.sim_flat_bodies.specs.Within.{AreWithin, is_within}
use Rattle.sim_flat_blocks.specs.Below.{AllMean, AreBelow, IsBelow, object_count, signal_names}
use Rattle.sim_flat_blocks.specs.FirstValues.{declaring_look, first_bit, first_truth, first_value, first_values, value_of_each, values_of}

-- ---- regions in which all meanings have a property

module _ (P : Meaning → Type 0) where
  all_both : (xs ys : Region) → AllMean P xs → AllMean P ys → AllMean P (xs ++ ys)
  all_both [] ys h g = g
  all_both (x ∷ xs) ys h g = (h.0, all_both xs ys h.1 g)

  all_with_first : (ds : Region) (n : List ℕ) (x : Meaning) → AllMean P ds → P x → AllMean P (with_first ds n x)
  unfolding with_first
  all_with_first ds n x h p = by_cases (is_some (found ds n)) (λ t. rw t h) (λ t. rw t (all_both ds ((n, x) ∷ []) h (p, tt)))

  all_declaring : (ds xs : Region) → AllMean P ds → AllMean P xs → AllMean P (declaring ds xs)
  unfolding declaring
  all_declaring ds [] h g = h
  all_declaring ds (x ∷ xs) h g = all_declaring (with_first ds x.0 x.1) xs (all_with_first ds x.0 x.1 h g.0) g.1

  all_labels : P m.Label → (ns : List Name) → AllMean P (labels ns)
  unfolding labels
  all_labels p [] = tt
  all_labels p (n ∷ ns) = (p, all_labels p ns)

  all_naming : P m.Label → (ds : Region) (ns : List Name) → AllMean P ds → AllMean P (naming ds ns)
  all_naming p ds ns h = all_declaring ds (labels ns) h (all_labels p ns)

all_such : (P Q : Meaning → Type 0) → ((x : Meaning) → P x → Q x) → (ds : Region) → AllMean P ds → AllMean Q ds
all_such P Q f [] h = tt
all_such P Q f (d ∷ ds) h = (f d.1 h.0, all_such P Q f ds h.1)

-- ---- ports and signals

module _ (count : ℕ) where
  port_row : (mode : Mode) (type : Option ty.Type) (place : ℕ) (ns : List Name) → place + length ns ≤ count
      → AreBelow count (objects (object.Port mode type) place ns)
  unfolding objects
  port_row mode type place [] le = tt
  port_row mode type place (n ∷ ns) le = (omega arith, port_row mode type (place + 1) ns (omega arith))

  signal_row : (type : Option ty.Type) (place : ℕ) (ns : List Name) → place + length ns ≤ count
      → AreBelow count (objects (object.Signal type) place ns)
  unfolding objects
  signal_row type place [] le = tt
  signal_row type place (n ∷ ns) le = (omega arith, signal_row type (place + 1) ns (omega arith))

  ports_below : (look : Lookup) (place : ℕ) (ps : List PortDeclaration) → place + length (port_names ps) ≤ count → AreBelow count (ports look place ps)
  unfolding ports port_names
  ports_below look place [] le = tt
  ports_below look place (p ∷ ps) le =
      let e : length (p.names ++ port_names ps) ≡ length p.names + length (port_names ps) = length-append p.names (port_names ps) in
      all_both (IsBelow count) _ (ports look (place + length p.names) ps)
      (port_row _ _ place p.names (omega arith)) (ports_below look (place + length p.names) ps (omega arith))

  declarations_below : (look : Lookup) (s c : ℕ) (ds : List Declaration) → s + length (signal_names ds) ≤ count → AreBelow count (declarations look s c ds)
  unfolding declarations signal_names
  declarations_below look s c [] le = tt
  declarations_below look s c (declaration.Signal o ∷ ds) le =
      let e : length (o.names ++ signal_names ds) ≡ length o.names + length (signal_names ds) = length-append o.names (signal_names ds) in
      all_both (IsBelow count) _ (declarations look (s + length o.names) (c + 0) ds)
      (signal_row _ s o.names (omega arith)) (declarations_below look (s + length o.names) (c + 0) ds (omega arith))
  declarations_below look s c (declaration.Component x ∷ ds) le =
      (tt, declarations_below look (s + 0) (c + 1) ds (omega arith))

pub architecture_below : (ps : List PortDeclaration) (ds : List Declaration) (cs : List Concurrent)
    → AreBelow (object_count ps ds) (architecture_region ps ds cs)
unfolding architecture_region ports_region object_count
architecture_below ps ds cs =
    let count : ℕ = length (port_names ps) + length (signal_names ds) in
    let own : Lookup = means (port_labels ps) [] in
    let look : Lookup = means (architecture_labels ps ds cs) [] in
    let first : AreBelow count (declaring [] (ports own 0 ps)) =
    all_declaring (IsBelow count) [] (ports own 0 ps) tt (ports_below count own 0 ps (omega arith)) in
    let second : AreBelow count (declaring (declaring [] (ports own 0 ps)) (declarations look (port_count ps) 0 ds)) =
    all_declaring (IsBelow count) (declaring [] (ports own 0 ps)) (declarations look (port_count ps) 0 ds) first
    (declarations_below count look (port_count ps) 0 ds (omega arith)) in
    all_naming (IsBelow count) tt _ (concurrent_labels cs) second

-- ---- variables

-- whether a value has a type, if that is known
abbrev is_of : Option ty.Type → Held → Bool
is_of None value = true
is_of (Some type.Logic) value = is_bit (Some value)
is_of (Some type.Boolean) value = is_truth (Some value)

bit_first : (value : Option Initial) → is_bit (Some (first_bit value)) ≡ true
unfolding first_bit
bit_first None = refl
bit_first (Some (initial.Literal v at)) = refl
bit_first (Some (initial.Named n)) = refl

truth_first : (look : Lookup) (value : Option Initial) → is_truth (Some (first_truth look value)) ≡ true
unfolding first_truth
truth_first look None = refl
truth_first look (Some (initial.Literal v at)) = refl
truth_first look (Some (initial.Named n)) = refl

is_of_first : (look : Lookup) (type : Option ty.Type) (value : Option Initial) → is_of type (first_value look type value) ≡ true
unfolding first_value
is_of_first look None value = refl
is_of_first look (Some type.Logic) value = bit_first value
is_of_first look (Some type.Boolean) value = truth_first look value

at_drop : (vs : List Held) (place : ℕ) (x : Held) (rest : List Held) → drop place vs ≡ x ∷ rest → slice_get vs place ≡ Some x
at_drop [] zero x rest e = cc
at_drop [] (suc k) x rest e = cc
at_drop (v ∷ vs) zero x rest e = cc
at_drop (v ∷ vs) (suc k) x rest e = at_drop vs k x rest e

after_drop : (vs : List Held) (place : ℕ) (x : Held) (rest : List Held) → drop place vs ≡ x ∷ rest → drop (place + 1) vs ≡ rest
after_drop [] zero x rest e = cc
after_drop [] (suc k) x rest e = cc
after_drop (v ∷ vs) zero x rest e = cc
after_drop (v ∷ vs) (suc k) x rest e = let s : suc k + 1 ≡ suc (k + 1) = omega arith in rw s (after_drop vs k x rest e)

module _ (count : ℕ) (vs : List Held) where
  abbrev Fine : Meaning → Type 0
  Fine x = is_within count vs (Some x) ≡ true

  one_fine : (type : Option ty.Type) (place : ℕ) (value : Held) → slice_get vs place ≡ Some value → is_of type value ≡ true → Fine (m.Variable place type)
  unfolding is_within
  one_fine None place value e h = refl
  one_fine (Some type.Logic) place value e h = ap is_bit e ∙ h
  one_fine (Some type.Boolean) place value e h = ap is_truth e ∙ h

  row_fine : (type : Option ty.Type) (value : Held) → is_of type value ≡ true → (place : ℕ) (ns : List Name) (rest : List Held)
      → drop place vs ≡ value_of_each value ns ++ rest → AllMean Fine (objects (object.Variable type) place ns)
  unfolding objects value_of_each
  row_fine type value h place [] rest e = tt
  row_fine type value h place (n ∷ ns) rest e = (
    one_fine type place value (at_drop vs place value (value_of_each value ns ++ rest) e) h,
    row_fine type value h (place + 1) ns rest (after_drop vs place value (value_of_each value ns ++ rest) e),
  )

  after_row : (value : Held) (place : ℕ) (ns : List Name) (rest : List Held) → drop place vs ≡ value_of_each value ns ++ rest
      → drop (place + length ns) vs ≡ rest
  unfolding value_of_each
  after_row value place [] rest e = let s : place + 0 ≡ place = omega arith in rw s e
  after_row value place (n ∷ ns) rest e =
      let s : place + suc (length ns) ≡ place + 1 + length ns = omega arith in
      rw s (after_row value (place + 1) ns rest (after_drop vs place value (value_of_each value ns ++ rest) e))

  variables_fine : (look : Lookup) (place : ℕ) (os : List ObjectDeclaration) → drop place vs ≡ values_of look os → AllMean Fine (variables look place os)
  unfolding variables values_of
  variables_fine look place [] e = tt
  variables_fine look place (o ∷ os) e =
      let type : Option ty.Type = mark_type look true o.mark in
      let value : Held = first_value look type o.initial in
      all_both Fine (objects (object.Variable type) place o.names) (variables look (place + length o.names) os)
      (row_fine type value (is_of_first look type o.initial) place o.names (values_of look os) e)
      (variables_fine look (place + length o.names) os (after_row value place o.names (values_of look os) e))

  -- ---- the meaning of a name, from its regions

  below_fine : (x : Meaning) → IsBelow count x → Fine x
  unfolding is_within
  below_fine (m.Port object mode type) h = lt-ltb object count h
  below_fine (m.Signal object type) h = lt-ltb object count h
  below_fine (m.Variable place type) h = absurd h
  below_fine (m.Component place) h = refl
  below_fine m.Label h = refl
  below_fine (m.LogicMark resolved) h = refl
  below_fine m.BooleanMark h = refl
  below_fine (m.Truth b) h = refl
  below_fine (m.Edge rising) h = refl

  found_fine : (ds : Region) (n : List ℕ) → AllMean Fine ds → is_within count vs (found ds n) ≡ true
  unfolding found is_within
  found_fine [] n h = refl
  found_fine (d ∷ ds) n h = by_cases (bytes_eq n d.0) (λ t. rw t h.0) (λ t. rw t (found_fine ds n h.1))

  predefined_fine : (n : List ℕ) → is_within count vs (predefined n) ≡ true
  unfolding predefined is_within
  predefined_fine n =
      by_cases (bytes_eq n (codes "std_logic")) (λ t. rw t refl) (λ a.
      by_cases (bytes_eq n (codes "std_ulogic")) (λ t. rw (a, t) refl) (λ b.
      by_cases (bytes_eq n (codes "boolean")) (λ t. rw (a, b, t) refl) (λ c.
      by_cases (bytes_eq n (codes "true")) (λ t. rw (a, b, c, t) refl) (λ d.
      by_cases (bytes_eq n (codes "false")) (λ t. rw (a, b, c, d, t) refl) (λ e.
      by_cases (bytes_eq n (codes "rising_edge")) (λ t. rw (a, b, c, d, e, t) refl) (λ f.
      by_cases (bytes_eq n (codes "falling_edge")) (λ t. rw (a, b, c, d, e, f, t) refl) (λ g. rw (a, b, c, d, e, f, g) refl)))))))

  either_fine : (a b : Option Meaning) → is_within count vs a ≡ true → is_within count vs b ≡ true → is_within count vs (or_else a b) ≡ true
  either_fine None b h g = g
  either_fine (Some x) b h g = h

  means_fine : (inner outer : Region) → AllMean Fine inner → AllMean Fine outer → AreWithin (means inner outer) count vs
  unfolding means
  means_fine inner outer h g n =
      either_fine (found inner n) (or_else (found outer n) (predefined n)) (found_fine inner n h)
      (either_fine (found outer n) (predefined n) (found_fine outer n g) (predefined_fine n))

-- ---- the names of a process, and of a concurrent statement

pub process_within : (count : ℕ) (outer : Region) (p : Process) → AreBelow count outer
    → AreWithin (means (process_region outer p) outer) count (first_values outer p)
unfolding process_region first_values
process_within count outer p h =
    let look : Lookup = declaring_look outer p in
    let vs : List Held = values_of look p.variables in
    means_fine count vs _ outer
    (all_naming (Fine count vs) (below_fine count vs m.Label tt) _ (statement_labels p.statements)
    (all_declaring (Fine count vs) [] (variables look 0 p.variables) tt (variables_fine count vs look 0 p.variables refl)))
    (all_such (IsBelow count) (Fine count vs) (below_fine count vs) outer h)

pub concurrent_within : (count : ℕ) (outer : Region) → AreBelow count outer → AreWithin (means [] outer) count []
concurrent_within count outer h = means_fine count [] [] outer tt (all_such (IsBelow count) (Fine count []) (below_fine count []) outer h)
