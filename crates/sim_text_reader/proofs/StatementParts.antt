-- Readers that the code splits into several functions: a signal assignment, and the end of an if statement.
use Rattle.std.proofs.Common.{◌≡◌, refl, List, Option}
use Rattle.sim_text_tokens.specs.declared.kind.Kind.TheVariants as k
use Rattle.sim_text_tree.specs.Name.{Name}
use Rattle.sim_text_tree.specs.Input.{Input}
use Rattle.sim_text_tree.specs.declared.sequential.Branch.{Branch}
use Rattle.sim_text_tree.specs.declared.sequential.Sequential.{Sequential}
use Rattle.sim_text_tree.specs.declared.sequential.Statement.TheVariants as s
use Rattle.sim_text_grammar.specs.Readers.{and_then, pure, expect}
use Rattle.sim_text_grammar.specs.Statements.{if_end, label_again, signal_assigned}
use Rattle.sim_text_grammar.specs.Waveforms.{delay, waveform}
use Rattle.sim_text_grammar.proofs.Parts.{within, beyond}

pub if_end_in_parts : (label : Option Name) (found : List Branch) (last : Option (List Sequential)) (i : Input) → if_end label found last i
    ≡ and_then (and_then (expect k.End i) (λ _. expect k.If)) (λ _ i.
    and_then (and_then (label_again label i) (λ again i. and_then (expect k.Semicolon i) (λ _. pure again))) (λ again. pure (s.If found last again)))
unfolding if_end
if_end_in_parts label found last i = within (expect k.End i) _ _ (λ _ i. beyond (expect k.If i) (λ _ i.
    within (label_again label i) _ _ (λ again i. within (expect k.Semicolon i) _ _ (λ _ i. refl))))

pub signal_assigned_in_parts : (target : Name) (i : Input) → signal_assigned target i
    ≡ and_then (and_then (expect k.SignalAssign i) (λ _. delay)) (λ d i.
    and_then (and_then (waveform i) (λ found i. and_then (expect k.Semicolon i) (λ _. pure found))) (λ w.
    pure (s.Signal (record { target = target; delay = d; waveform = w }))))
unfolding signal_assigned
signal_assigned_in_parts target i = within (expect k.SignalAssign i) _ _ (λ _ i. beyond (delay i) (λ d i. within (waveform i) _ _ (λ w i.
    within (expect k.Semicolon i) _ _ (λ _ i. refl))))
