-- All ports without a required actual are one fault.
use Rattle.std.proofs.Common.{ℕ, ◌≡◌, ◌+◌, ◌&&◌, List, [], ◌∷◌, ◌++◌, Bool, true, false, cond, Option, Some, None, refl, ap, sym, ◌∙◌}
use Rattle.std.specs.List.{list_any}
use Rattle.sim_flat_scope.specs.Ports.{Port}
use Rattle.sim_flat_scope.specs.declared.fault.Fault.{Fault}
use Rattle.sim_flat_scope.specs.declared.fault.Kind.TheVariants as kind
use Rattle.sim_flat_scope.specs.Faults.{earliest, sooner, is_before, where_}
use Rattle.sim_flat_instances.specs.PortMaps.{PortMap, needs_actual, is_missed, missing_faults, required_from}

either : (b : Bool) (x : Option Fault) → cond b x x ≡ x
either true x = refl
either false x = refl

reported : (b : Bool) (g f : Fault) → is_before f g ≡ b → sooner (cond b (Some f) (Some g)) f ≡ cond b (Some f) (Some g)
reported true g f is = either (is_before f f) (Some f)
reported false g f is = rw is refl

-- recording a fault again changes nothing
again : (known : Option Fault) (f : Fault) → sooner (sooner known f) f ≡ sooner known f
again None f = either (is_before f f) (Some f)
again (Some g) f = reported (is_before f g) g f refl

perhaps_again : (b : Bool) (known : Option Fault) (f : Fault) → cond b (sooner (sooner known f) f) (sooner known f) ≡ sooner known f
perhaps_again true known f = again known f
perhaps_again false known f = refl

module _ (f : Fault) (missed : ℕ → Bool) where
  step : (needed missing : Bool) (place : ℕ) (places : List ℕ) (faults : List Fault) (known : Option Fault) → missed place ≡ missing
      → ((noted : Option Fault) → earliest noted faults ≡ cond (list_any missed places) (sooner noted f) noted)
      → earliest known (where_ (needed && missing) (f ∷ []) ++ faults) ≡ cond (list_any missed (cond needed (place ∷ []) [] ++ places)) (sooner known f) known
  unfolding earliest
  step false missing place places faults known is rest = rest known
  step true false place places faults known is rest = rw is (rest known)
  step true true place places faults known is rest = rw is (rest (sooner known f) ∙ perhaps_again (list_any missed places) known f)

missing_once : (map : PortMap) (label place : ℕ) (ps : List Port) (known : Option Fault)
    → earliest known (missing_faults map label place ps)
    ≡ cond (list_any (is_missed map) (required_from place ps)) (sooner known (record { kind = kind.PortMissing; at = label })) known
unfolding earliest missing_faults required_from
missing_once map label place [] known = refl
missing_once map label place (p ∷ ps) known =
    step (record { kind = kind.PortMissing; at = label }) (is_missed map) (needs_actual p) (is_missed map place) place (required_from (place + 1) ps)
    (missing_faults map label (place + 1) ps) known refl (λ noted. missing_once map label (place + 1) ps noted)

module _ (map : PortMap) (label : ℕ) (known : Option Fault) where
  reported_once : (b : Bool) → list_any (is_missed map) (required_from 0 map.ports) ≡ b
      → cond b (sooner known (record { kind = kind.PortMissing; at = label })) known ≡ earliest known (missing_faults map label 0 map.ports)
  reported_once b is =
      sym (missing_once map label 0 map.ports known
      ∙ ap (λ (x : Bool). cond x (sooner known (record { kind = kind.PortMissing; at = label })) known) is)

  -- with a port that lacks its actual
  pub some_missed : list_any (is_missed map) (required_from 0 map.ports) ≡ true
      → sooner known (record { kind = kind.PortMissing; at = label }) ≡ earliest known (missing_faults map label 0 map.ports)
  some_missed is = reported_once true is

  -- without one
  pub none_missed : list_any (is_missed map) (required_from 0 map.ports) ≡ false → known ≡ earliest known (missing_faults map label 0 map.ports)
  none_missed is = reported_once false is
