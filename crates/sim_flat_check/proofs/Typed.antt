-- An expression without faults has a type, provided each name with a value has one.
use Rattle.std.proofs.Common.{◌≡◌, ℕ, Bool, true, false, List, [], ◌∷◌, ◌++◌, map, Option, Some, None, is_some, ◌⊎◌, inl, inr, refl, sym, ap, subst}
use Rattle.sim_text_tree.specs.declared.declaration.Mode.TheVariants.{Out}
use Rattle.sim_text_tree.specs.declared.expression.Expression.{Expression}
use Rattle.sim_text_tree.specs.declared.expression.Expression.TheVariants as e
use Rattle.sim_text_tree.specs.declared.expression.Expression.TheOpen as o
use Rattle.sim_text_tree.specs.declared.expression.Expression.TheFolds as folds
use Rattle.sim_text_tree.specs.declared.expression.Expression.TheViews as views
use Rattle.sim_text_tree.specs.declared.expression.Operand.{Operand}
use Rattle.sim_flat_scope.specs.declared.scope.Meaning.{Meaning}
use Rattle.sim_flat_scope.specs.declared.scope.Meaning.TheVariants as m
use Rattle.sim_flat_scope.specs.declared.scope.Type as ty
use Rattle.sim_flat_scope.specs.declared.scope.Type.TheVariants.{Logic, Boolean}
use Rattle.sim_flat_scope.specs.declared.fault.Fault.{Fault}
use Rattle.sim_flat_scope.specs.Scopes.{Lookup}
use Rattle.sim_flat_check.specs.Types.{Judged, value_read, signal_read, function_called, event_test, clash, common, joined, ambiguous}
use Rattle.sim_flat_check.specs.Types.{compared, comparison, literal, chained, judged, judged_operand}
use Rattle.sim_text_tree.specs.Starts.{start_of}
use Rattle.sim_flat_check.specs.Waveforms.{condition_faults, value_faults}
use Rattle.sim_flat_check.specs.Laws.{has_type, AllTyped}
use Rattle.sim_flat_check.proofs.SoundWaveforms.{front_empty, back_empty}
use Rattle.sim_flat_check.proofs.TypeResults.{literal_is, named_is, event_is, call_is, parenthesized_is, not_is}
use Rattle.sim_flat_check.proofs.TypeResults.{condition_is, comparison_is, chain_is, operand_made}

-- It has a type, unless there is a fault in it.
abbrev pub IsTyped : Judged → Type 0
IsTyped j = j.faults ≡ [] → is_some j.type ≡ true

value_typed : (at : ℕ) (o : Option Meaning) → has_type o ≡ true → IsTyped (value_read at o)
unfolding value_read
value_typed at None h f = cc
value_typed at (Some (m.Port object Out t)) h f = cc
value_typed at (Some (m.Port object mode t)) h f = h
value_typed at (Some (m.Signal object t)) h f = h
value_typed at (Some (m.Variable place t)) h f = h
value_typed at (Some (m.Truth value)) h f = refl
value_typed at (Some _) h f = cc

test_typed : (fs : List Fault) → IsTyped (event_test fs)
unfolding event_test
test_typed [] f = refl
test_typed (x ∷ xs) f = cc

common_typed : (s t : Option ty.Type) (at : ℕ) → is_some s ≡ true → is_some t ≡ true → clash s t at ≡ [] → is_some (common s t) ≡ true
common_typed None t at h g c = cc
common_typed (Some Logic) None at h g c = cc
common_typed (Some Boolean) None at h g c = cc
common_typed (Some Logic) (Some Logic) at h g c = refl
common_typed (Some Boolean) (Some Boolean) at h g c = refl
common_typed (Some Logic) (Some Boolean) at h g c = cc
common_typed (Some Boolean) (Some Logic) at h g c = cc

joined_typed : (a : Judged) (at : ℕ) (b : Judged) → IsTyped a → IsTyped b → IsTyped (joined a at b)
unfolding joined
joined_typed a at b h g f =
    let c : List Fault = clash a.type b.type at in
    let r = back_empty a.faults (b.faults ++ c) f in
    common_typed a.type b.type at (h (front_empty a.faults (b.faults ++ c) f)) (g (front_empty b.faults c r)) (back_empty b.faults c r)

compared_typed : (t : Option ty.Type) (n : Bool) (at : ℕ) → is_some t ≡ true → ambiguous t n at ≡ [] → is_some (compared t n) ≡ true
compared_typed None n at h c = cc
compared_typed (Some Boolean) n at h c = refl
compared_typed (Some Logic) true at h c = refl
compared_typed (Some Logic) false at h c = cc

comparison_typed : (a : Judged) (at : ℕ) (b : Judged) → IsTyped a → IsTyped b → IsTyped (comparison a at b)
unfolding comparison
comparison_typed a at b h g f =
    let both : Judged = joined a at b in
    let last : List Fault = ambiguous both.type both.named at in
    compared_typed both.type both.named at (joined_typed a at b h g (front_empty both.faults last f)) (back_empty both.faults last f)

module _ (look : Lookup) (all : AllTyped look) where
  abbrev Holds : Expression → Type 0
  Holds x = IsTyped (judged look x)

  abbrev HoldsAfter : Operand → Type 0
  HoldsAfter x = IsTyped (judged_operand look x).1

  chained_typed : (a : Judged) → IsTyped a → (os : List ((x : Operand) × HoldsAfter x)) → IsTyped (chained a (map (judged_operand look) (map (λ q. q.0) os)))
  unfolding chained
  chained_typed a h [] = h
  chained_typed a h (q ∷ os) = chained_typed (joined a (judged_operand look q.0).0 (judged_operand look q.0).1)
      (joined_typed a (judged_operand look q.0).0 (judged_operand look q.0).1 h q.1) os

  abbrev DeclarativeRegion : Type 0
  DeclarativeRegion = (x : Expression) × Holds x

  abbrev PartAfter : Type 0
  PartAfter = (x : Operand) × HoldsAfter x

  of_parts : (y : o.Expression-F DeclarativeRegion PartAfter) → Holds (views.roll-Expression
      (folds.map-Expression _ _ _ _ (λ (q : DeclarativeRegion). q.0) (λ (q : PartAfter). q.0) y))
  of_parts (o.Literal v at) = subst Holds (sym (e.rolls-Literal v at)) (subst IsTyped (sym (literal_is look v at)) (λ f. refl))
  of_parts (o.Named n) = subst Holds (sym (e.rolls-Named n)) (subst IsTyped (sym (named_is look n)) (value_typed n.at (look n.text) (all n.text)))
  of_parts (o.Event n) = subst Holds (sym (e.rolls-Event n)) (subst IsTyped (sym (event_is look n)) (test_typed (signal_read n.at (look n.text))))
  of_parts (o.Call f a) = subst Holds (sym (e.rolls-Call f a))
      (subst IsTyped (sym (call_is look f a)) (test_typed (function_called f.at (look f.text) ++ signal_read a.at (look a.text))))
  of_parts (o.Parenthesized at q) = subst Holds (sym (e.rolls-Parenthesized at q.0)) (subst IsTyped (sym (parenthesized_is look at q.0)) q.1)
  of_parts (o.Not at q) = subst Holds (sym (e.rolls-Not at q.0)) (subst IsTyped (sym (not_is look at q.0)) q.1)
  of_parts (o.Condition at q) = subst Holds (sym (e.rolls-Condition at q.0))
      (subst IsTyped (sym (condition_is look at q.0)) (comparison_typed literal at (judged look q.0) (λ f. refl) q.1))
  of_parts (o.Comparison q b at r) = subst Holds (sym (e.rolls-Comparison q.0 b at r.0))
      (subst IsTyped (sym (comparison_is look q.0 b at r.0)) (comparison_typed (judged look q.0) at (judged look r.0) q.1 r.1))
  of_parts (o.Chain b q os) = subst Holds (sym (e.rolls-Chain b q.0 (map (λ p. p.0) os)))
      (subst IsTyped (sym (chain_is look b q.0 (map (λ p. p.0) os))) (chained_typed (judged look q.0) q.1 os))

  of_part : (y : o.Operand-F DeclarativeRegion PartAfter) → HoldsAfter
      (views.roll-Operand (folds.map-Operand _ _ _ _ (λ (q : DeclarativeRegion). q.0) (λ (q : PartAfter). q.0) y))
  of_part y = subst IsTyped (ap (λ (q : ℕ × Judged). q.1) (sym (operand_made look y.operator_at y.operand.0))) y.operand.1

  pub typed : (x : Expression) → Holds x
  typed = folds.ind-Expression Holds HoldsAfter
      (λ x y is. subst (λ z. Holds (views.roll-Expression z)) is (of_parts y))
      (λ x y is. subst (λ z. HoldsAfter (views.roll-Operand z)) is (of_part y))

-- of type boolean, or of type std_ulogic with a name in it
abbrev IsCondition : Option ty.Type → Bool → Type 0
IsCondition t named = (t ≡ Some Boolean) ⊎ ((t ≡ Some Logic) × (named ≡ true))

condition_left : (t : Option ty.Type) (named : Bool) (at : ℕ) → is_some t ≡ true → ambiguous t named at ≡ [] → IsCondition t named
condition_left None named at h f = cc
condition_left (Some Boolean) named at h f = inl refl
condition_left (Some Logic) true at h f = inr (refl, refl)
condition_left (Some Logic) false at h f = cc

pub condition_of_type : (look : Lookup) → AllTyped look → (x : Expression) → condition_faults look x ≡ []
    → IsCondition (judged look x).type (judged look x).named
unfolding condition_faults
condition_of_type look all x f =
    let j : Judged = judged look x in
    let last : List Fault = ambiguous j.type j.named (start_of x) in
    condition_left j.type j.named (start_of x) (typed look all x (front_empty j.faults last f)) (back_empty j.faults last f)

same_left : (t : ty.Type) (o : Option ty.Type) (at : ℕ) → is_some o ≡ true → clash (Some t) o at ≡ [] → o ≡ Some t
same_left t None at h f = cc
same_left Logic (Some Logic) at h f = refl
same_left Boolean (Some Boolean) at h f = refl
same_left Logic (Some Boolean) at h f = cc
same_left Boolean (Some Logic) at h f = cc

pub value_of_target : (look : Lookup) → AllTyped look → (target : ty.Type) (x : Expression) → value_faults look (Some target) x ≡ []
    → (judged look x).type ≡ Some target
unfolding value_faults
value_of_target look all target x f =
    let last : List Fault = clash (Some target) (judged look x).type (start_of x) in
    same_left target (judged look x).type (start_of x) (typed look all x (front_empty (judged look x).faults last f))
    (back_empty (judged look x).faults last f)
