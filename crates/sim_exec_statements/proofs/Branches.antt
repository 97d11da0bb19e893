-- A branch of an if statement: its statements are carried out, or the next branches are examined.
use Rattle.std.proofs.Common.{◌≡◌, ◌+◌, ◌<◌, ℕ, List, ◌∷◌, true, false, ◌||◌, length, drop, get_or, map, if◌then◌else◌, refl, sym, ap, ◌∙◌}
use Rattle.std.proofs.lemmas.List.{drop_more}
use Rattle.sim_flat_design.specs.declared.statement.Branch.{Branch}
use Rattle.sim_flat_design.specs.declared.statement.Statement.{Statement}
use Rattle.sim_flat_design.specs.declared.statement.Statement.TheViews as views
use Rattle.sim_standard.specs.declared.net_view.NetView.{NetView}
use Rattle.sim_standard.specs.State.{Owned}
use Rattle.sim_standard.specs.Statements.{Steps, in_turn, if_taken, statement_done, branch_done, own_steps}
use Rattle.sim_standard.proofs.Rules.{branch_is}
use Rattle.sim_exec_statements.specs.Branches.{one_holds}

module _ {S : Type 0} (steps : Steps S) (branches : List Branch) (i : ℕ) (b : Branch) where
  -- the branches from it on
  here : i < length branches → b ≡ get_or branches i b → drop i branches ≡ b ∷ drop (i + 1) branches
  here lt is = drop_more branches i b lt ∙ ap (λ (x : Branch). x ∷ drop (i + 1) branches) (sym is)

  looked_at : (otherwise : S → S) (own : S) → i < length branches → b ≡ get_or branches i b
      → if_taken (map (branch_done steps) (drop i branches)) otherwise own
      ≡ (if (branch_done steps b).holds own then (branch_done steps b).carried_out own
      else if_taken (map (branch_done steps) (drop (i + 1) branches)) otherwise own)
  unfolding if_taken
  looked_at otherwise own lt is = ap (λ (bs : List Branch). if_taken (map (branch_done steps) bs) otherwise own) (here lt is)

  pub taken_now : (statements : List Statement) (otherwise : S → S) (own new : S) → i < length branches → b ≡ get_or branches i b
      → statements ≡ (views.out-Branch b).statements → steps.holds (views.out-Branch b).condition own ≡ true
      → new ≡ in_turn (map (statement_done steps) statements) own
      → if_taken (map (branch_done steps) (drop i branches)) otherwise own ≡ new
  taken_now statements otherwise own new lt is at holds done =
      looked_at otherwise own lt is ∙ rw (branch_is steps b, holds) (sym (done ∙ ap (λ (ss : List Statement). in_turn (map (statement_done steps) ss) own) at))

  pub not_taken : (otherwise : S → S) (own : S) → i < length branches → b ≡ get_or branches i b
      → steps.holds (views.out-Branch b).condition own ≡ false
      → if_taken (map (branch_done steps) (drop i branches)) otherwise own ≡ if_taken (map (branch_done steps) (drop (i + 1) branches)) otherwise own
  not_taken otherwise own lt is holds = looked_at otherwise own lt is ∙ rw (branch_is steps b, holds) refl

module _ (look : ℕ → NetView) (now : ℕ) (branches : List Branch) (i : ℕ) (b : Branch) (own : Owned) where
  one_looked_at : i < length branches → b ≡ get_or branches i b
      → one_holds look now (drop i branches) own ≡ ((branch_done (own_steps look now) b).holds own || one_holds look now (drop (i + 1) branches) own)
  unfolding one_holds
  one_looked_at lt is = ap (λ (bs : List Branch). one_holds look now bs own) (here (own_steps look now) branches i b lt is)

  pub held_now : i < length branches → b ≡ get_or branches i b → (own_steps look now).holds (views.out-Branch b).condition own ≡ true
      → one_holds look now (drop i branches) own ≡ true
  held_now lt is holds = one_looked_at lt is ∙ rw (branch_is (own_steps look now) b, holds) refl

  pub not_held : i < length branches → b ≡ get_or branches i b → (own_steps look now).holds (views.out-Branch b).condition own ≡ false
      → one_holds look now (drop i branches) own ≡ one_holds look now (drop (i + 1) branches) own
  not_held lt is holds = one_looked_at lt is ∙ rw (branch_is (own_steps look now) b, holds) refl
