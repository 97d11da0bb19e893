use Rattle.std.proofs.Common.{◌++◌, List, length, take, drop, ap, sym, subst, arith}
use Rattle.std.proofs.lemmas.Result.{on_ok_weaker}
use Rattle.sim_standard.specs.State.{Owned}
use Rattle.sim_containers.specs.RowArray.{joined}
use Rattle.sim_containers.proofs.Flat.{written_back}
use Rattle.sim_store_nets.specs.Nets.{views_of}
use Rattle.sim_store_share.specs.InTurn as share
use Rattle.sim_store_state.specs.FlatState.{FlatState, held}
use Rattle.sim_store_state.specs.InTurn.{AreExecuted}
use Rattle.sim_store_state.proofs.InTurn.{executed-of}
use Rattle.sim_store_state.proofs.flat_state.FlatState.execute.Goals as goal

pub returns-clause-ok : goal.returns-clause-ok
returns-clause-ok c =
    let s = c.self.inside in
    let r = c.reading_of-reading.result in
    let new = c.execute_in_shares.new.shares in
    let shares = written_back new s.shares.items s.shares.len
    (omega (arith, c.execute_in_shares.auto.shares, ap length c.as_mut_slice.ensures.value, s.shares.ok)) in
    on_ok_weaker c.execute_in_shares.result
    (λ (e : share.AreExecuted r c.args.numbers.now (joined c.as_mut_slice.result.now) (joined new)).
    subst (λ (h : FlatState). AreExecuted c.args.processes.now c.args.time c.args.numbers.now h
    (held s.values (take s.shares.len (new ++ drop (length new) s.shares.items)) s.lists)) c.self.view_is
    (subst (λ (xs : List (List Owned)). AreExecuted c.args.processes.now c.args.time c.args.numbers.now (held s.values s.shares.items s.lists)
    (held s.values xs s.lists)) (sym shares)
    (executed-of r c.reading_of-reading.ensures.first c.args.processes.now c.args.time s.lists.sources (views_of s.values.present s.values.before)
    c.args.numbers.now (joined s.shares.items) (joined new) c.reading_of-reading.ensures.processes c.reading_of-reading.ensures.time
    c.reading_of-reading.ensures.nets
    (subst (λ (xs : List (List Owned)). share.AreExecuted r c.args.numbers.now (joined xs) (joined new)) c.as_mut_slice.ensures.value e))))
    c.execute_in_shares.ensures.executed
