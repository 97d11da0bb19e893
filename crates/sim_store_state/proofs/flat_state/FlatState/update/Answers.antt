use Rattle.std.proofs.Common.{◌≡◌, List, length, map, ap, sym, subst, arith, ◌∙◌}
use Rattle.sim_standard.specs.Drivers.{next_time}
use Rattle.sim_standard.specs.State.{Owned, all_drivers}
use Rattle.sim_containers.specs.RowArray.{joined}
use Rattle.sim_containers.proofs.Flat.{written_back}
use Rattle.sim_store_nets.specs.Lists.{NetValues}
use Rattle.sim_store_share.specs.Shares.{all_taken}
use Rattle.sim_store_state.specs.FlatState.{FlatState, IsConsistent, held}
use Rattle.sim_store_state.proofs.Contents.{held-updated, net-count}
use Rattle.sim_store_state.proofs.Shares.{joined-taken}
use Rattle.sim_store_state.proofs.Updated.{unresolved, update-keeps}
use Rattle.sim_store_state.proofs.flat_state.FlatState.update.Goals as goal

pub take_active-requires-clause-next : goal.take_active-requires-clause-next
take_active-requires-clause-next c =
    let owned = ap joined c.as_mut_slice.ensures.value ∙ ap (λ (h : FlatState). h.owned) c.self.view_is in
    ap (λ os. next_time (all_drivers os)) owned ∙ c.requires.time

pub append-requires-clause-unresolved : goal.append-requires-clause-unresolved
append-requires-clause-unresolved c =
    unresolved c.self.invariant (all_drivers (joined c.take_active.new.shares)) c.end_events.new.self c.take_active.new.lists c.take_active.ensures.lists
    c.end_events.ensures.values c.end_events.ensures.before

pub append-requires-clause-few : goal.append-requires-clause-few
append-requires-clause-few c =
    omega (arith, ap length c.end_events.ensures.values, net-count c.self.view_is c.self.invariant, c.requires.few)

pub append-requires-clause-room : goal.append-requires-clause-room
append-requires-clause-room c = record {
  time = c.requires.room.time;
  entries = omega (arith, ap length c.end_events.ensures.values, net-count c.self.view_is c.self.invariant, c.requires.room.entries);
}

pub append-requires-clause-countable : goal.append-requires-clause-countable
append-requires-clause-countable c n =
    omega (arith, ap length c.end_events.ensures.values, net-count c.self.view_is c.self.invariant, c.requires.countable n)

pub invariant_of-self : goal.invariant_of-self
invariant_of-self c =
    let s = c.self.inside in
    let shares = written_back c.take_active.new.shares s.shares.items s.shares.len
    (omega (arith, c.take_active.auto.shares, ap length c.as_mut_slice.ensures.value, s.shares.ok)) in
    let taken : c.take_active.new.shares ≡ map (all_taken c.args.time) s.shares.items =
    c.take_active.ensures.shares ∙ ap (map (all_taken c.args.time)) c.as_mut_slice.ensures.value in
    subst (λ (xs : List (List Owned)). IsConsistent c.append.new.values xs c.take_active.new.lists) (sym shares)
    (update-keeps c.self.invariant c.args.time c.append.new.values c.take_active.new.shares c.take_active.new.lists taken c.take_active.ensures.lists
    (ap (λ (v : NetValues). v.present) c.append.ensures.values)
    (ap (λ (v : NetValues). v.before) c.append.ensures.values ∙ c.end_events.ensures.before))

pub returns-clause-state : goal.returns-clause-state
returns-clause-state c =
    let s = c.self.inside in
    let shares = written_back c.take_active.new.shares s.shares.items s.shares.len
    (omega (arith, c.take_active.auto.shares, ap length c.as_mut_slice.ensures.value, s.shares.ok)) in
    let taken : c.take_active.new.shares ≡ map (all_taken c.args.time) s.shares.items =
    c.take_active.ensures.shares ∙ ap (map (all_taken c.args.time)) c.as_mut_slice.ensures.value in
    λ design state is.
    ap (λ (xs : List (List Owned)). held c.append.new.values xs c.take_active.new.lists) shares
    ∙ held-updated c.self.view_is c.self.invariant c.args.time c.append.new.values c.take_active.new.shares c.take_active.new.lists
    (ap joined taken ∙ joined-taken c.args.time s.shares.items) c.take_active.ensures.lists.sources c.take_active.ensures.lists.driving
    (ap (λ (v : NetValues). v.present) c.append.ensures.values)
    (ap (λ (v : NetValues). v.before) c.append.ensures.values ∙ c.end_events.ensures.before) design state is
