-- A process changes only what it owns, and does so as its statements do when executed on that alone.
use Rattle.std.proofs.Common.{◌≡◌, ◌<◌, ℕ, zero, List, length, sym, ap, ◌∙◌}
use Rattle.std.proofs.lemmas.List.{get_or-set_same, set-set, set-get_or}
use Rattle.sim_flat_design.specs.declared.statement.Statement.{Statement}
use Rattle.sim_flat_design.specs.Processes.{Process}
use Rattle.sim_flat_design.specs.Bodies.{objects_of}
use Rattle.sim_standard.specs.declared.net_view.NetView.{NetView}
use Rattle.sim_standard.specs.State.{State, Owned, owned_at}
use Rattle.sim_standard.specs.Expressions.{boolean_value}
use Rattle.sim_standard.specs.Statements.{own_steps, carried_out, executed}
use Rattle.sim_standard.specs.Processes.{seen, object_net, stepped, state_steps, place_in, owned_after}
use Rattle.sim_standard.proofs.Names.{nothing_owned, with_owned}
use Rattle.sim_standard.proofs.Alongside.{Keeps, each_of_all, all_go}

-- where the part of a state that a process sees has the nets of its ports and signals
abbrev pub part_net : Process → ℕ → ℕ
part_net p object = place_in p.reads (object_net p object)

-- what was put there is owned
pub owned-with : (p : ℕ) (own : Owned) (s : State) → p < length s.owned → owned_at (with_owned p own s).owned p ≡ own
owned-with p own s h = get_or-set_same s.owned p own nothing_owned h

with-twice : (p : ℕ) (a b : Owned) (s : State) → with_owned p b (with_owned p a s) ≡ with_owned p b s
with-twice p a b s = ap (λ (os : List Owned). record s { owned = os }) (set-set s.owned p a b)

pub with-itself : (p : ℕ) (s : State) → s ≡ with_owned p (owned_at s.owned p) s
with-itself p s = ap (λ (os : List Owned). record s { owned = os }) (sym (set-get_or s.owned p nothing_owned))

module _ (net : ℕ → ℕ) (process : ℕ) (s : State) (h : process < length s.owned) where
  -- the state is this one but for what the process owns
  abbrev pub Only : State → Owned → Type 0
  Only u own = u ≡ with_owned process own s

  step_keeps : (f : (ℕ → NetView) → ℕ → Owned → Owned) (u : State) (own : Owned) → Only u own → Only (stepped net process f u) (f (seen net s) s.time own)
  step_keeps f u own is =
      ap (stepped net process f) is
      ∙ (ap (λ (o : Owned). with_owned process (f (seen net s) s.time o) (with_owned process own s)) (owned-with process own s h)
      ∙ with-twice process own (f (seen net s) s.time own) s)

  keeps : Keeps (state_steps net process) (own_steps (seen net s) s.time) (λ k. Unit {0}) Only
  keeps = record {
    holds = λ c e u own is.
        ap (λ (w : State). boolean_value (seen net w) (owned_at w.owned process).variables c) is
        ∙ ap (λ (o : Owned). boolean_value (seen net s) o.variables c) (owned-with process own s h);
    signal = λ a e u own is. step_keeps (λ look now. (own_steps look now).signal a) u own is;
    logic_variable = λ place x e u own is. step_keeps (λ look now. (own_steps look now).logic_variable place x) u own is;
    boolean_variable = λ place x e u own is. step_keeps (λ look now. (own_steps look now).boolean_variable place x) u own is;
  }

  -- statements on the whole state
  pub only_owned : (xs : List Statement) → carried_out (state_steps net process) xs s
      ≡ with_owned process (executed (seen net s) s.time xs (owned_at s.owned process)) s
  unfolding executed
  only_owned xs =
      all_go (state_steps net process) (own_steps (seen net s) s.time) (λ k. Unit {0}) Only keeps xs (each_of_all (λ k. Unit {0}) (λ k. tt) (objects_of xs))
      s (owned_at s.owned process) (with-itself process s)

-- on a part, what the process owns afterwards
pub owned_after_is : (p : Process) (s : State) → zero < length s.owned → owned_after p s
    ≡ executed (seen (part_net p) s) s.time p.body.statements (owned_at s.owned 0)
unfolding owned_after
owned_after_is p s h =
    ap (λ (u : State). owned_at u.owned 0) (only_owned (part_net p) 0 s h p.body.statements)
    ∙ owned-with 0 (executed (seen (part_net p) s) s.time p.body.statements (owned_at s.owned 0)) s h
