-- Readers that the code splits into several functions: a call and its argument, and an assignment.
use Rattle.std.proofs.Common.{◌≡◌, refl, Option, Bool}
use Rattle.sim_text_tokens.specs.declared.kind.Kind.TheVariants as k
use Rattle.sim_text_tree.specs.Name.{Name}
use Rattle.sim_text_tree.specs.Input.{Input, next}
use Rattle.sim_text_tree.specs.declared.expression.Expression.TheVariants as e
use Rattle.sim_text_grammar.specs.Readers.{and_then, pure, expect, word}
use Rattle.sim_text_grammar.specs.Expressions.{named_by}
use Rattle.sim_text_grammar.specs.Waveforms.{assigned, delay, waveforms}
use Rattle.sim_text_grammar.proofs.Parts.{within, beyond}

pub call_in_parts : (function : Name) (i : Input) → named_by function k.LeftParen i
    ≡ and_then (and_then (word (next i)) (λ name i. and_then (expect k.RightParen i) (λ _. pure name))) (λ argument. pure (e.Call function argument))
call_in_parts function i = within (word (next i)) _ _ (λ name i. within (expect k.RightParen i) _ _ (λ _ i. refl))

pub assigned_in_parts : (label : Option Name) (postponed : Bool) (target : Name) (i : Input) → assigned label postponed target i
    ≡ and_then (and_then (expect k.SignalAssign i) (λ _. delay)) (λ d i.
    and_then (and_then (waveforms i) (λ found i. and_then (expect k.Semicolon i) (λ _. pure found))) (λ w.
    pure (record { label = label; postponed = postponed; target = target; delay = d; waveforms = w })))
unfolding assigned
assigned_in_parts label postponed target i = within (expect k.SignalAssign i) _ _ (λ _ i. beyond (delay i) (λ d i. within (waveforms i) _ _ (λ w i.
    within (expect k.Semicolon i) _ _ (λ _ i. refl))))
