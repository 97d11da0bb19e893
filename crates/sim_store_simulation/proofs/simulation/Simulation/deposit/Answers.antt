use Rattle.std.proofs.Common.{ℕ, Bool, List, ◌≡◌, ◌<◌, true, length, set, MatchOption, ap, sym, ◌∙◌, subst, arith}
use Rattle.std.proofs.lemmas.List.{length-set}
use Rattle.sim_exec.specs.Jobs.{Job, result_of}
use Rattle.sim_standard.specs.State.{Owned, driver_values, owned_at}
use Rattle.sim_store_simulation.specs.Simulation.{Simulation, IsMissing, IsOwn, IsStateOf, kept_or, with_one}
use Rattle.sim_store_simulation.proofs.Going.{deposited-keeps, held-count, kept-result, kept-values, kept-variables, own-ready, own-result}
use Rattle.sim_store_simulation.specs.Contents.{simulation_of, simulation_with}
use Rattle.sim_store_simulation.proofs.Boxes.{held, shown}
use Rattle.sim_store_simulation.proofs.Listed.{marked-one}
use Rattle.sim_store_simulation.proofs.Walks.{one-gone}
use Rattle.sim_store_simulation.proofs.simulation.Simulation.deposit.Goals as goal

pub put_results-requires-clause-at : goal.put_results-requires-clause-at
put_results-requires-clause-at c =
    let kept = held c.self.inside.design c.deref_mut-contents.ensures.value c.self.invariant in
    let view = shown c.self.inside.design c.deref_mut-contents.ensures.value c.self.view_is in
    let n : c.number-number.result ≡ c.args.done.number = c.number-number.ensures ∙ ap (λ (j : Job). j.number) c.into_parts-job.ensures.job in
    let lt : c.args.done.number < length c.self.inside.design.processes =
    subst (λ (g : Simulation). c.args.done.number < length g.design.processes) (sym view) c.requires.missing.due.number in
    omega (arith, n, lt, held-count kept.state)

pub put_results-requires-clause-values : goal.put_results-requires-clause-values
put_results-requires-clause-values c =
    let m = c.deref_mut-contents.result.now in
    let kept = held c.self.inside.design c.deref_mut-contents.ensures.value c.self.invariant in
    let view = shown c.self.inside.design c.deref_mut-contents.ensures.value c.self.view_is in
    let s = c.self.inside in
    let job = c.args.done in
    let n : c.number-number.result ≡ job.number = c.number-number.ensures ∙ ap (λ (j : Job). j.number) c.into_parts-job.ensures.job in
    let own = subst (λ (g : Simulation). IsOwn g job) (sym view) c.requires.own in
    let miss = subst (λ (g : Simulation). IsMissing g job.number) (sym view) c.requires.missing in
    subst (λ (k : ℕ). MatchOption c.into_parts-job.result.1 (Unit {0})
    (λ r. driver_values r.drivers ≡ driver_values (owned_at m.state.owned k).drivers)) (sym n)
    (kept-values kept.state job own miss.due miss.fresh c.into_parts-job.result.1 c.into_parts-job.ensures.results)

pub put_results-requires-clause-variables : goal.put_results-requires-clause-variables
put_results-requires-clause-variables c =
    let m = c.deref_mut-contents.result.now in
    let kept = held c.self.inside.design c.deref_mut-contents.ensures.value c.self.invariant in
    let view = shown c.self.inside.design c.deref_mut-contents.ensures.value c.self.view_is in
    let s = c.self.inside in
    let job = c.args.done in
    let n : c.number-number.result ≡ job.number = c.number-number.ensures ∙ ap (λ (j : Job). j.number) c.into_parts-job.ensures.job in
    let own = subst (λ (g : Simulation). IsOwn g job) (sym view) c.requires.own in
    let miss = subst (λ (g : Simulation). IsMissing g job.number) (sym view) c.requires.missing in
    subst (λ (k : ℕ). MatchOption c.into_parts-job.result.1 (Unit {0}) (λ r. length r.variables ≡ length (owned_at m.state.owned k).variables)) (sym n)
    (kept-variables kept.state job own miss.due c.into_parts-job.ensures.ready c.into_parts-job.result.1 c.into_parts-job.ensures.results)

pub invariant_of-self : goal.invariant_of-self
invariant_of-self c =
    let m = c.deref_mut-contents.result.now in
    let kept = held c.self.inside.design c.deref_mut-contents.ensures.value c.self.invariant in
    let view = shown c.self.inside.design c.deref_mut-contents.ensures.value c.self.view_is in
    let s = c.self.inside in
    let h = simulation_of s.design m in
    let job = c.args.done in
    let i = kept.state in
    let held' = c.put_results.new.state in
    let n : c.number-number.result ≡ job.number = c.number-number.ensures ∙ ap (λ (j : Job). j.number) c.into_parts-job.ensures.job in
    let own = subst (λ (g : Simulation). IsOwn g job) (sym view) c.requires.own in
    let miss = subst (λ (g : Simulation). IsMissing g job.number) (sym view) c.requires.missing in
    let put : held' ≡ record {
      sources = m.state.sources;
      nets = m.state.nets;
      owned = set m.state.owned job.number (kept_or (owned_at m.state.owned job.number) c.into_parts-job.result.1);
    } =
    c.put_results.ensures ∙ ap (λ (k : ℕ). record {
      sources = m.state.sources;
      nets = m.state.nets;
      owned = set m.state.owned k (kept_or (owned_at m.state.owned k) c.into_parts-job.result.1);
    }) n in
    let now : held' ≡ record { sources = m.state.sources; nets = m.state.nets; owned = set m.state.owned job.number (result_of job) } =
    put ∙ ap (λ (w : Owned). record { sources = m.state.sources; nets = m.state.nets; owned = set m.state.owned job.number w })
    (kept-result i job own miss.fresh c.into_parts-job.result.1 c.into_parts-job.ensures.results) in
    let set_now : c.insert.new.self ≡ set m.deposited job.number true = c.insert.ensures ∙ ap (λ (k : ℕ). set m.deposited k true) n in
    let marks = marked-one s.design m i job.number miss c.insert.new.self set_now in
    record {
      compiled = kept.compiled;
      marked = kept.marked;
      state = subst (λ (w : List Bool). IsStateOf (record { design = h.design; cycles = h.cycles; phase = h.phase; deposited = w })
          m.time m.delta held'
          m.due m.waiting.waiting) (sym marks)
          (deposited-keeps i job.number (result_of job) held' (own-result i job own miss.due) (own-ready i job own c.into_parts-job.ensures.ready) now);
      marks_sized = ap length set_now ∙ (length-set m.deposited job.number true ∙ kept.marks_sized);
      counts = kept.counts;
    }

pub returns-clause-one : goal.returns-clause-one
returns-clause-one c =
    let m = c.deref_mut-contents.result.now in
    let kept = held c.self.inside.design c.deref_mut-contents.ensures.value c.self.invariant in
    let view = shown c.self.inside.design c.deref_mut-contents.ensures.value c.self.view_is in
    let s = c.self.inside in
    let job = c.args.done in
    let n : c.number-number.result ≡ job.number = c.number-number.ensures ∙ ap (λ (j : Job). j.number) c.into_parts-job.ensures.job in
    let miss = subst (λ (g : Simulation). IsMissing g job.number) (sym view) c.requires.missing in
    let set_now : c.insert.new.self ≡ set m.deposited job.number true = c.insert.ensures ∙ ap (λ (k : ℕ). set m.deposited k true) n in
    ap (simulation_with s.design m) (marked-one s.design m kept.state job.number miss c.insert.new.self set_now)
    ∙ ap (λ (g : Simulation). with_one g job.number) view

pub returns-clause-gone : goal.returns-clause-gone
returns-clause-gone c missing =
    let m = c.deref_mut-contents.result.now in
    let kept = held c.self.inside.design c.deref_mut-contents.ensures.value c.self.invariant in
    let view = shown c.self.inside.design c.deref_mut-contents.ensures.value c.self.view_is in
    let s = c.self.inside in
    let job = c.args.done in
    let h = simulation_of s.design m in
    let n : c.number-number.result ≡ job.number = c.number-number.ensures ∙ ap (λ (j : Job). j.number) c.into_parts-job.ensures.job in
    let miss = subst (λ (g : Simulation). IsMissing g job.number) (sym view) c.requires.missing in
    let set_now : c.insert.new.self ≡ set m.deposited job.number true = c.insert.ensures ∙ ap (λ (k : ℕ). set m.deposited k true) n in
    let there : job.number < length h.deposited = omega (arith, miss.due.number, kept.state.sized) in
    one-gone h job.number there (subst (λ (g : Simulation). IsMissing g job.number)
    (ap (simulation_with s.design m) (marked-one s.design m kept.state job.number miss c.insert.new.self set_now)) missing)
