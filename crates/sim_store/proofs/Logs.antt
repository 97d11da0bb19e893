-- A log, and those of its records that were given away, by the records of its run.
use Rattle.std.proofs.Common.{ℕ, ◌+◌, ◌≡◌, List, length, drop, ap, sym, ◌∙◌, arith, subst, length-append}
use Rattle.std.proofs.Math.Seq.{drop-append_seam}
use Rattle.std.proofs.lemmas.Grind.{flat_map-append}
use Rattle.std.proofs.lemmas.List.Elements.{All-drop}
use Rattle.std.specs.List.{All}
use Rattle.sim_standard.specs.declared.record.Record.{Record}
use Rattle.sim_standard.specs.Records.{IsNamed, all_changes, records_to}
use Rattle.sim_store_state.specs.Log.{Logged}
use Rattle.sim_store_simulation.specs.Simulation.{IsLogged, Simulation}

module _ {h : Simulation} {log : Logged} (l : IsLogged h log) where
  -- the records that are left
  pub rest-is : log.records ≡ drop log.past.records (records_to h.design h.cycles)
  rest-is = sym (ap (λ (n : ℕ). drop n (records_to h.design h.cycles)) l.records
      ∙ (ap (drop (length l.given)) (sym l.all) ∙ drop-append_seam l.given log.records))

  -- each of their changes is of a net
  pub rest-named : (nets : ℕ) → All (IsNamed nets) (records_to h.design h.cycles) → All (IsNamed nets) log.records
  rest-named nets all =
      subst (λ (rs : List Record). All (IsNamed nets) rs) (sym rest-is) (All-drop (IsNamed nets) log.past.records (records_to h.design h.cycles) all)

  -- both together are as many records as there are
  pub records-together : log.past.records + length log.records ≡ length (records_to h.design h.cycles)
  records-together = omega (arith, l.records, ap length l.all, length-append l.given log.records)

  -- and have as many changes
  pub changes-together : log.past.changes + length (all_changes log.records) ≡ length (all_changes (records_to h.design h.cycles))
  changes-together = omega (
    arith,
    l.changes,
    ap (λ (rs : List Record). length (all_changes rs)) l.all,
    ap length (flat_map-append (λ (r : Record). r.changes) l.given log.records),
    length-append (all_changes l.given) (all_changes log.records),
  )
