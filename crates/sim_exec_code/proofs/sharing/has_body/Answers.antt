use Rattle.std.proofs.Common.{◌≡◌, rules, tests, subst, sym, ◌∙◌}
use Rattle.sim_flat_design.specs.Bodies.{Body}
use Rattle.sim_exec_code.specs.Codes.{IsCodeOf, code_at}
use Rattle.sim_exec_code.proofs.sharing.has_body.Goals as goal

pub returns-in-Some : goal.returns-in-Some
returns-in-Some c = λ is codes made.
    let alike : c.body.result.now ≡ c.body-in-Some.result.now = c.same.ensures.0 (search (rules, tests)) in
    subst (λ (b : Body). IsCodeOf b (code_at codes c.args.code)) (sym c.body.ensures ∙ (alike ∙ c.body-in-Some.ensures)) (c.in-Some.ensures codes made)
