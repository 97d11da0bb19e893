use Rattle.std.proofs.Common.{rules, length, map, ap, ◌∙◌, ◌≡◌, arith}
use Rattle.std.proofs.lemmas.List.{length-map}
use Rattle.sim_flat_design.specs.Designs.{Design, Net}
use Rattle.sim_standard.proofs.Records.{records-begun}
use Rattle.sim_run_listing.proofs.Histories.{is_history}
use Rattle.sim_run_listing.specs.Listing.{listing}
use Rattle.sim_run_listing.specs.Writing.{AppendsPart}
use Rattle.sim_run_listing.proofs.Gathering.{on_err}
use Rattle.sim_run_session.specs.Run.{history_of}
use Rattle.sim_run_session.proofs.runs.write_run.Goals as goal

pub write_log-requires-clause-history : goal.write_log-requires-clause-history
write_log-requires-clause-history g c =
    let d = c.args.run.now.simulation.design in
    let names : length (map (λ (n : Net). n.name) c.nets.result.now) ≡ length d.nets =
    length-map c.nets.result.now (λ (n : Net). n.name) ∙ (ap length c.nets.ensures.value ∙ ap (λ (e : Design). length e.nets) c.design.ensures) in
    is_history (map (λ (n : Net). n.name) c.nets.result.now) c.history.result.now.records (length d.nets) names
    (omega (arith, ap length c.history.ensures.records, records-begun d c.args.run.now.simulation.cycles)) c.history.ensures.named

pub returns-in_err-write_log-clause-part : goal.returns-in_err-write_log-clause-part
returns-in_err-write_log-clause-part g c =
    let d = c.args.run.now.simulation.design in
    let names : map (λ (n : Net). n.name) c.nets.result.now ≡ map (λ (n : Net). n.name) d.nets =
    ap (map (λ (n : Net). n.name)) c.nets.ensures.value ∙ ap (λ (e : Design). map (λ (n : Net). n.name) e.nets) c.design.ensures in
    on_err _ (AppendsPart (g.W.Write.contents c.args.out.now) (g.W.Write.contents c.write_log.new.out)
    (listing (history_of c.args.run.now).names (history_of c.args.run.now).records))
    (rw (names, c.history.ensures.records) at c.in_err-write_log.ensures.part)

pub write_log-requires-clause-events : goal.write_log-requires-clause-events
write_log-requires-clause-events g c = search rules

pub write_log-requires-clause-early : goal.write_log-requires-clause-early
write_log-requires-clause-early g c = rw c.history.ensures.past (omega arith)
