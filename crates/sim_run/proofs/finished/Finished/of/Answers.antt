use Rattle.std.proofs.Common.{◌≡◌, length, map, ap, ◌∙◌, arith}
use Rattle.std.specs.Prelude.{string_bytes}
use Rattle.std.proofs.lemmas.List.{length-map}
use Rattle.sim_flat_design.specs.Designs.{Design, Net}
use Rattle.sim_standard.proofs.Records.{records-begun}
use Rattle.sim_run_listing.proofs.Histories.{is_history}
use Rattle.sim_run.proofs.finished.Finished.of.Goals as goal

pub new-requires-clause-history : goal.new-requires-clause-history
new-requires-clause-history c =
    let d = c.args.run.now.simulation.design in
    let k = c.args.run.now.simulation.cycles in
    let names : length (map string_bytes c.in_ok-names.names.items) ≡ length d.nets =
    ap length c.in_ok-names.ensures ∙ (length-map c.nets.result.now (λ (n : Net). n.name)
    ∙ (ap length c.nets.ensures.value ∙ ap (λ (e : Design). length e.nets) c.design.ensures)) in
    is_history (map string_bytes c.in_ok-names.names.items) c.in-Ok.records.items (length d.nets) names
    (omega (arith, ap length c.in-Ok.ensures.ok.1, records-begun d k)) c.in-Ok.ensures.named
