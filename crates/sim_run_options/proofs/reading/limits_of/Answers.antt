use Rattle.std.proofs.Common.{◌∙◌, ap, sym, codes, Bool}
use Rattle.std.specs.Prelude.{if◌then◌else◌, option_map}
use Rattle.clap.specs.Matches.{found_of}
use Rattle.clap.proofs.WalkLemmas.{first_value-rows}
use Rattle.sim_run_options.specs.Asks.{limits_by}
use Rattle.sim_run_options.specs.declared.limits.Limits.TheVariants.{Standard, Large}
use Rattle.sim_run_options.proofs.reading.limits_of.Goals as goal

pub returns-in-Some : goal.returns-in-Some
returns-in-Some c =
    let first = sym (first_value-rows (found_of c.args.matches.now) (codes "large")) ∙ (sym c.get_str.ensures ∙ ap (option_map (λ s. s.now)) c.in-Some.is) in
    sym (ap limits_by first ∙ ap (λ (b : Bool). if b then Large else Standard) (sym c.eq.ensures ∙ c.if-eq.true))

pub returns-in_default : goal.returns-in_default
returns-in_default c =
    let first = sym (first_value-rows (found_of c.args.matches.now) (codes "large")) ∙ (sym c.get_str.ensures ∙ ap (option_map (λ s. s.now)) c.in-Some.is) in
    sym (ap limits_by first ∙ ap (λ (b : Bool). if b then Large else Standard) (sym c.eq.ensures ∙ c.if-eq.false))

pub returns-in_default-2 : goal.returns-in_default-2
returns-in_default-2 c =
    let first = sym (first_value-rows (found_of c.args.matches.now) (codes "large")) ∙ (sym c.get_str.ensures ∙ ap (option_map (λ s. s.now)) c.in_default.is) in
    sym (ap limits_by first)
