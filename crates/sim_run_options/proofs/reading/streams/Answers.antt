use Rattle.std.proofs.Common.{◌∙◌, ap, sym, codes}
use Rattle.std.specs.Prelude.{option_map}
use Rattle.clap.specs.Matches.{found_of}
use Rattle.clap.proofs.WalkLemmas.{first_value-rows}
use Rattle.sim_run_options.specs.Asks.{is_set}
use Rattle.sim_run_options.proofs.reading.streams.Goals as goal

pub returns-in-Some : goal.returns-in-Some
returns-in-Some c =
    let row = first_value-rows (found_of c.args.matches.now) (codes "stream") in
    let first = sym row ∙ (sym c.get_str.ensures ∙ ap (option_map (λ s. s.now)) c.in-Some.is) in
    sym (ap is_set first ∙ (sym c.eq.ensures ∙ c.if-eq.true))

pub returns-in_default : goal.returns-in_default
returns-in_default c =
    let row = first_value-rows (found_of c.args.matches.now) (codes "stream") in
    let first = sym row ∙ (sym c.get_str.ensures ∙ ap (option_map (λ s. s.now)) c.in-Some.is) in
    sym (ap is_set first ∙ (sym c.eq.ensures ∙ c.if-eq.false))

pub returns-in_default-2 : goal.returns-in_default-2
returns-in_default-2 c =
    let row = first_value-rows (found_of c.args.matches.now) (codes "stream") in
    let first = sym row ∙ (sym c.get_str.ensures ∙ ap (option_map (λ s. s.now)) c.in_default.is) in
    sym (ap is_set first)
