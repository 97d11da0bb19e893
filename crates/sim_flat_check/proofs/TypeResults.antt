-- The results for each kind of expression, as equations, and as the code passes them on.
use Rattle.std.proofs.Common.{◌≡◌, ℕ, Bool, true, false, List, [], ◌∷◌, ◌++◌, ◌||◌, map, Option, Some, refl, sym, ap, ◌∙◌}
use Rattle.sim_logic.specs.declared.logic.Logic as value
use Rattle.sim_text_tree.specs.Name.{Name}
use Rattle.sim_logic.specs.declared.operator_symbol.Relational.{Relational}
use Rattle.sim_logic.specs.declared.operator_symbol.Logical.{Logical}
use Rattle.sim_text_tree.specs.declared.expression.Operand.{Operand}
use Rattle.sim_text_tree.specs.declared.expression.Expression.{Expression}
use Rattle.sim_text_tree.specs.declared.expression.Expression.TheVariants as e
use Rattle.sim_text_tree.specs.declared.expression.Expression.TheOpen as x
use Rattle.sim_text_tree.specs.declared.expression.Expression.TheFolds as folds
use Rattle.sim_text_tree.specs.declared.expression.Expression.TheViews as views
use Rattle.sim_flat_scope.specs.declared.scope.Type as ty
use Rattle.sim_flat_scope.specs.declared.scope.Type.TheVariants.{Logic, Boolean}
use Rattle.sim_flat_scope.specs.declared.fault.Fault.{Fault}
use Rattle.sim_flat_scope.specs.Faults.{earliest}
use Rattle.sim_flat_scope.specs.Scopes.{Lookup}
use Rattle.sim_flat_scope.proofs.Faults.{of_both}
use Rattle.sim_flat_check.specs.Types.{Judged, value_read, signal_read, function_called, boolean_unless, event_test, clash, common, joined, ambiguous}
use Rattle.sim_flat_check.specs.Types.{compared, comparison, literal, condition, chained, expression_rule, operand_rule, judged, judged_operand}
use Rattle.sim_flat_check.specs.Carried.{Carried, carried, carried_on, carried_compared, carried_through}

-- ---- the result for each kind of expression

module _ (look : Lookup) where
  pub literal_is : (v : value.Logic) (at : ℕ) → judged look (e.Literal v at) ≡ record { type = Some Logic; named = false; faults = [] }
  unfolding judged
  literal_is v at = ap (judged look) (sym (e.rolls-Literal v at))
      ∙ folds.fold-roll-Expression Judged (ℕ × Judged) (expression_rule look) (operand_rule look) (x.Literal v at)

  pub named_is : (n : Name) → judged look (e.Named n) ≡ value_read n.at (look n.text)
  unfolding judged
  named_is n = ap (judged look) (sym (e.rolls-Named n))
      ∙ folds.fold-roll-Expression Judged (ℕ × Judged) (expression_rule look) (operand_rule look) (x.Named n)

  pub event_is : (n : Name) → judged look (e.Event n) ≡ event_test (signal_read n.at (look n.text))
  unfolding judged
  event_is n = ap (judged look) (sym (e.rolls-Event n))
      ∙ folds.fold-roll-Expression Judged (ℕ × Judged) (expression_rule look) (operand_rule look) (x.Event n)

  pub call_is : (f a : Name) → judged look (e.Call f a) ≡ event_test (function_called f.at (look f.text) ++ signal_read a.at (look a.text))
  unfolding judged
  call_is f a = ap (judged look) (sym (e.rolls-Call f a))
      ∙ folds.fold-roll-Expression Judged (ℕ × Judged) (expression_rule look) (operand_rule look) (x.Call f a)

  pub parenthesized_is : (at : ℕ) (y : Expression) → judged look (e.Parenthesized at y) ≡ judged look y
  unfolding judged
  parenthesized_is at y = ap (judged look) (sym (e.rolls-Parenthesized at y))
      ∙ folds.fold-roll-Expression Judged (ℕ × Judged) (expression_rule look) (operand_rule look) (x.Parenthesized at y)

  pub not_is : (at : ℕ) (y : Expression) → judged look (e.Not at y) ≡ judged look y
  unfolding judged
  not_is at y = ap (judged look) (sym (e.rolls-Not at y))
      ∙ folds.fold-roll-Expression Judged (ℕ × Judged) (expression_rule look) (operand_rule look) (x.Not at y)

  pub condition_is : (at : ℕ) (y : Expression) → judged look (e.Condition at y) ≡ condition at (judged look y)
  unfolding judged
  condition_is at y = ap (judged look) (sym (e.rolls-Condition at y))
      ∙ folds.fold-roll-Expression Judged (ℕ × Judged) (expression_rule look) (operand_rule look) (x.Condition at y)

  pub comparison_is : (y : Expression) (b : Relational) (at : ℕ) (z : Expression) →
      judged look (e.Comparison y b at z) ≡ comparison (judged look y) at (judged look z)
  unfolding judged
  comparison_is y b at z = ap (judged look) (sym (e.rolls-Comparison y b at z))
      ∙ folds.fold-roll-Expression Judged (ℕ × Judged) (expression_rule look) (operand_rule look) (x.Comparison y b at z)

  pub chain_is : (b : Logical) (y : Expression) (os : List Operand) →
      judged look (e.Chain b y os) ≡ chained (judged look y) (map (judged_operand look) os)
  unfolding judged judged_operand
  chain_is b y os = ap (judged look) (sym (e.rolls-Chain b y os))
      ∙ folds.fold-roll-Expression Judged (ℕ × Judged) (expression_rule look) (operand_rule look) (x.Chain b y os)

  pub operand_is : (o : Operand) →
      judged_operand look o ≡ (let q : ℕ × Judged = ((views.out-Operand o).operator_at, judged look (views.out-Operand o).operand) in q)
  unfolding judged judged_operand
  operand_is o = folds.fold_out-Operand Judged (ℕ × Judged) (expression_rule look) (operand_rule look) o

  pub operand_made : (at : ℕ) (y : Expression) →
      judged_operand look (views.roll-Operand (record { operator_at = at; operand = y })) ≡ (let q : ℕ × Judged = (at, judged look y) in q)
  unfolding judged judged_operand
  operand_made at y =
      folds.fold-roll-Operand Judged (ℕ × Judged) (expression_rule look) (operand_rule look) (record { operator_at = at; operand = y })

-- ---- results passed on over operators

pub boolean_both : (fs gs : List Fault) → boolean_unless fs ≡ Some Boolean → boolean_unless (fs ++ gs) ≡ boolean_unless gs
boolean_both [] gs h = refl
boolean_both (f ∷ fs) gs h = cc

-- the result passed on from the function of a call to its argument
pub ruleset call_rules = (boolean_both, of_both)

carried_joined : (known : Option Fault) (a : Judged) (o : ℕ × Judged) → carried known (joined a o.0 o.1) ≡ carried_on (carried known a) o
unfolding joined carried carried_on
carried_joined known a o =
    ap (λ (f : Option Fault). let c : Carried = record { type = common a.type o.1.type; named = a.named || o.1.named; first = f } in c)
    (of_both known a.faults (o.1.faults ++ clash a.type o.1.type o.0))

carried_chained : (known : Option Fault) (look : Lookup) (a : Judged) (os : List Operand) →
    carried known (chained a (map (judged_operand look) os)) ≡ carried_through look (carried known a) os
unfolding chained carried_through
carried_chained known look a [] = refl
carried_chained known look a (o ∷ os) =
    carried_chained known look (joined a (judged_operand look o).0 (judged_operand look o).1) os
    ∙ ap (λ (c : Carried). carried_through look c os) (carried_joined known a (judged_operand look o))

carried_comparison : (known : Option Fault) (a : Judged) (at : ℕ) (b : Judged) →
    carried known (comparison a at b) ≡ carried_compared (carried_on (carried known a) (at, b)) at
unfolding comparison carried joined carried_on carried_compared earliest
carried_comparison known a at b =
    let type : Option ty.Type = common a.type b.type in
    let named : Bool = a.named || b.named in
    let more : List Fault = b.faults ++ clash a.type b.type at in
    let last : List Fault = ambiguous type named at in
    ap (λ (f : Option Fault). let c : Carried = record { type = compared type named; named = named; first = f } in c)
    (of_both known (a.faults ++ more) last ∙ ap (λ (f : Option Fault). earliest f last) (of_both known a.faults more))

-- ---- the result passed on by each kind of expression

module _ (look : Lookup) (known : Option Fault) (y : Expression) where
  pub carried_literal : (v : value.Logic) (at : ℕ) → y ≡ e.Literal v at →
      carried known (judged look y) ≡ record { type = Some Logic; named = false; first = known }
  unfolding carried earliest
  carried_literal v at is = ap (λ (z : Expression). carried known (judged look z)) is ∙ ap (carried known) (literal_is look v at)

  pub carried_named : (n : Name) → y ≡ e.Named n → carried known (judged look y) ≡ carried known (value_read n.at (look n.text))
  carried_named n is = ap (λ (z : Expression). carried known (judged look z)) is ∙ ap (carried known) (named_is look n)

  pub carried_event : (n : Name) → y ≡ e.Event n → carried known (judged look y)
      ≡ record { type = boolean_unless (signal_read n.at (look n.text)); named = true; first = earliest known (signal_read n.at (look n.text)) }
  unfolding carried event_test
  carried_event n is = ap (λ (z : Expression). carried known (judged look z)) is ∙ ap (carried known) (event_is look n)

  pub carried_call : (f a : Name) → y ≡ e.Call f a → carried known (judged look y)
      ≡ carried known (event_test (function_called f.at (look f.text) ++ signal_read a.at (look a.text)))
  carried_call f a is = ap (λ (z : Expression). carried known (judged look z)) is ∙ ap (carried known) (call_is look f a)

  pub carried_parenthesized : (at : ℕ) (z : Expression) → y ≡ e.Parenthesized at z → carried known (judged look y) ≡ carried known (judged look z)
  carried_parenthesized at z is = ap (λ (w : Expression). carried known (judged look w)) is ∙ ap (carried known) (parenthesized_is look at z)

  pub carried_not : (at : ℕ) (z : Expression) → y ≡ e.Not at z → carried known (judged look y) ≡ carried known (judged look z)
  carried_not at z is = ap (λ (w : Expression). carried known (judged look w)) is ∙ ap (carried known) (not_is look at z)

  pub carried_by_condition : (at : ℕ) (z : Expression) → y ≡ e.Condition at z →
      carried known (judged look y) ≡ carried_compared (carried_on (carried known literal) (at, judged look z)) at
  carried_by_condition at z is = ap (λ (v : Expression). carried known (judged look v)) is
      ∙ (ap (carried known) (condition_is look at z) ∙ carried_comparison known literal at (judged look z))

  pub carried_by_comparison : (z : Expression) (b : Relational) (at : ℕ) (w : Expression) → y ≡ e.Comparison z b at w →
      carried known (judged look y) ≡ carried_compared (carried_on (carried known (judged look z)) (at, judged look w)) at
  carried_by_comparison z b at w is = ap (λ (v : Expression). carried known (judged look v)) is
      ∙ (ap (carried known) (comparison_is look z b at w) ∙ carried_comparison known (judged look z) at (judged look w))

  pub carried_chain : (b : Logical) (z : Expression) (os : List Operand) → y ≡ e.Chain b z os →
      carried known (judged look y) ≡ carried_through look (carried known (judged look z)) os
  carried_chain b z os is = ap (λ (v : Expression). carried known (judged look v)) is
      ∙ (ap (carried known) (chain_is look b z os) ∙ carried_chained known look (judged look z) os)

pub ruleset carried_rules =
    (carried_literal, carried_named, carried_event, carried_call, carried_parenthesized, carried_not, carried_by_comparison, carried_chain)

-- ---- an operator and the operand after it

pub joined_on : (a : Carried) (at : ℕ) (b : Judged) (t : Option ty.Type) (n : Bool) (f f' : Option Fault) (s : Option ty.Type) (m : Bool)
    → (let c : Carried = record { type = t; named = n; first = f } in c) ≡ carried a.first b
    → s ≡ common a.type t → m ≡ a.named || n → f' ≡ earliest f (clash a.type t at)
    → (let c : Carried = record { type = s; named = m; first = f' } in c) ≡ carried_on a (at, b)
unfolding carried carried_on
joined_on a at b t n f f' s m h hs hm hf =
    let e1 : t ≡ b.type = ap (λ (c : Carried). c.type) h in
    let e2 : n ≡ b.named = ap (λ (c : Carried). c.named) h in
    let e3 : f ≡ earliest a.first b.faults = ap (λ (c : Carried). c.first) h in
    let e4 : earliest a.first (b.faults ++ clash a.type b.type at) ≡ earliest (earliest a.first b.faults) (clash a.type b.type at) =
    of_both a.first b.faults (clash a.type b.type at) in
    cc

pub operand_joined : (look : Lookup) (a : Carried) (o : Operand) (t : Option ty.Type) (n : Bool) (f f' : Option Fault) (s : Option ty.Type) (m : Bool)
    → (let c : Carried = record { type = t; named = n; first = f } in c) ≡ carried a.first (judged look (views.out-Operand o).operand)
    → s ≡ common a.type t → m ≡ a.named || n → f' ≡ earliest f (clash a.type t (views.out-Operand o).operator_at)
    → (let c : Carried = record { type = s; named = m; first = f' } in c) ≡ carried_on a (judged_operand look o)
operand_joined look a o t n f f' s m h hs hm hf =
    joined_on a (views.out-Operand o).operator_at (judged look (views.out-Operand o).operand) t n f f' s m h hs hm hf
    ∙ ap (carried_on a) (sym (operand_is look o))

pub literal_carried : (known : Option Fault) (t : Option ty.Type) (n : Bool) → t ≡ Some Logic → n ≡ false
    → (let c : Carried = record { type = t; named = n; first = known } in c) ≡ carried known literal
unfolding carried earliest
literal_carried known t n e d = cc

-- `??`, from the result for its operand
pub condition_carried : (look : Lookup) (known : Option Fault) (y : Expression) (at : ℕ) (z : Expression) → y ≡ e.Condition at z
    → (z' : Expression) → z' ≡ z → (left : Carried) → left ≡ carried known literal → (t : Option ty.Type) (n : Bool) (f : Option Fault)
    → (let c : Carried = record { type = t; named = n; first = f } in c) ≡ carried left.first (judged look z')
    → (s : Option ty.Type) (m : Bool) (f' : Option Fault) → s ≡ common left.type t → m ≡ left.named || n → f' ≡ earliest f (clash left.type t at)
    → (r : Carried) → r ≡ carried_compared (record { type = s; named = m; first = f' }) at → r ≡ carried known (judged look y)
condition_carried look known y at z is z' ez left hl t n f hr s m f' hs hm hf r h =
    h ∙ (ap (λ (a : Carried). carried_compared a at)
    (joined_on left at (judged look z) t n f f' s m (hr ∙ ap (λ (v : Expression). carried left.first (judged look v)) ez) hs hm hf)
    ∙ (ap (λ (a : Carried). carried_compared (carried_on a (at, judged look z)) at) hl
    ∙ sym (carried_by_condition look known y at z is)))

-- a comparison, from the results for its operands
pub comparison_carried : (look : Lookup) (known : Option Fault) (y z : Expression) (b : Relational) (at : ℕ) (w : Expression) → y ≡ e.Comparison z b at w
    → (z' w' : Expression) → z' ≡ z → w' ≡ w → (left : Carried) → left ≡ carried known (judged look z') → (t : Option ty.Type) (n : Bool) (f : Option Fault)
    → (let c : Carried = record { type = t; named = n; first = f } in c) ≡ carried left.first (judged look w')
    → (s : Option ty.Type) (m : Bool) (f' : Option Fault) → s ≡ common left.type t → m ≡ left.named || n → f' ≡ earliest f (clash left.type t at)
    → (r : Carried) → r ≡ carried_compared (record { type = s; named = m; first = f' }) at → r ≡ carried known (judged look y)
comparison_carried look known y z b at w is z' w' ez ew left hl t n f hr s m f' hs hm hf r h =
    h ∙ (ap (λ (a : Carried). carried_compared a at)
    (joined_on left at (judged look w) t n f f' s m (hr ∙ ap (λ (v : Expression). carried left.first (judged look v)) ew) hs hm hf)
    ∙ (ap (λ (a : Carried). carried_compared (carried_on a (at, judged look w)) at) (hl ∙ ap (λ (v : Expression). carried known (judged look v)) ez)
    ∙ sym (carried_by_comparison look known y z b at w is)))
