use Rattle.std.proofs.Common.{◌≡◌, ◌<◌, ◌≤◌, ◌+◌, [], List, length, get_or, ap, sym, subst, arith}
use Rattle.std.specs.List.{All}
use Rattle.sim_standard.specs.Drivers.{DriverState}
use Rattle.sim_standard.specs.State.{Owned, net_at, owned_at, driver_at}
use Rattle.sim_standard.proofs.Names.{no_driver}
use Rattle.sim_wave.specs.Rising.{RisesFrom}
use Rattle.sim_store_nets.specs.Nets.{views_of}
use Rattle.sim_store_share.proofs.Assigned.{driver-alone, driver-assigned, driver-was, driver-within, item-told, none-assigned}
use Rattle.sim_store_share.proofs.Held.{own-at, own-count}
use Rattle.sim_store_share.proofs.share.Share.assign.Goals as goal

pub row_bounds-start-requires : goal.row_bounds-start-requires
row_bounds-start-requires g c =
    omega (arith, c.requires.at, own-count c.self.inside.drivers c.self.inside.variables c.args.self.now c.self.view_is c.self.invariant.owned)

pub returns-then-position-end-clause-assigned : goal.returns-then-position-end-clause-assigned
returns-then-position-end-clause-assigned g c =
    let s = c.self.inside in
    let row = get_or s.drivers c.args.place [] in
    let is = own-at s.drivers s.variables c.args.self.now c.self.view_is c.self.invariant.owned c.args.place in
    let le : length row ≤ c.args.quick.now.driver =
    omega (arith, c.row_bounds-start.ensures.end, c.if-position-end.true, c.driver-position.ensures) in
    none-assigned (net_at (views_of c.args.nets.now.values.now c.args.nets.now.values_before.now)) c.args.time c.args.quick.now
    (owned_at c.args.self.now c.args.place).drivers
    (omega (arith, le, ap (λ (o : Owned). length o.drivers) is)) c.requires.pending

pub item_mut-requires : goal.item_mut-requires
item_mut-requires g c =
    let s = c.self.inside in
    let n = c.row_bounds-start.result.0 + c.driver-position.result in
    let at : c.args.place < length s.drivers =
    omega (arith, c.requires.at, own-count s.drivers s.variables c.args.self.now c.self.view_is c.self.invariant.owned) in
    let inside : c.driver-position.result < length (get_or s.drivers c.args.place []) =
    omega (arith, c.row_bounds-start.ensures.end, c.if-position-end.false) in
    driver-within s.drivers s.variables c.args.self.now c.self.view_is c.self.invariant.owned c.args.place c.driver-position.result n at inside
    (ap (λ m. m + c.driver-position.result) c.row_bounds-start.ensures.start) no_driver

pub assign_to-done-requires-clause-pending : goal.assign_to-done-requires-clause-pending
assign_to-done-requires-clause-pending g c =
    let s = c.self.inside in
    let k = c.driver-position.result in
    let n = c.row_bounds-start.result.0 + k in
    let row = get_or s.drivers c.args.place [] in
    let at : c.args.place < length s.drivers =
    omega (arith, c.requires.at, own-count s.drivers s.variables c.args.self.now c.self.view_is c.self.invariant.owned) in
    let inside : k < length row = omega (arith, c.row_bounds-start.ensures.end, c.if-position-end.false) in
    let was : c.item_mut.result.now ≡ driver_at row k =
    driver-was s.drivers s.variables c.args.self.now c.self.view_is c.self.invariant.owned c.args.place k n at inside
    (ap (λ m. m + k) c.row_bounds-start.ensures.start) no_driver c.item_mut.result.now c.item_mut.ensures.value in
    let own : (owned_at c.args.self.now c.args.place).drivers ≡ row =
    ap (λ (o : Owned). o.drivers) (own-at s.drivers s.variables c.args.self.now c.self.view_is c.self.invariant.owned c.args.place) in
    let pending : All (λ (d : DriverState). RisesFrom c.args.time d.pending) row =
    subst (λ (ds : List DriverState). All (λ (d : DriverState). RisesFrom c.args.time d.pending) ds) own c.requires.pending in
    subst (λ (d : DriverState). RisesFrom c.args.time d.pending) (sym was) (pending k no_driver inside)

pub put-requires : goal.put-requires
put-requires g c =
    let s = c.self.inside in
    let k = c.driver-position.result in
    let n = c.row_bounds-start.result.0 + k in
    let at : c.args.place < length s.drivers =
    omega (arith, c.requires.at, own-count s.drivers s.variables c.args.self.now c.self.view_is c.self.invariant.owned) in
    let inside : k < length (get_or s.drivers c.args.place []) = omega (arith, c.row_bounds-start.ensures.end, c.if-position-end.false) in
    let lt = driver-within s.drivers s.variables c.args.self.now c.self.view_is c.self.invariant.owned c.args.place k n at inside
    (ap (λ m. m + k) c.row_bounds-start.ensures.start) no_driver in
    omega (arith, lt, c.self.invariant.sized)

pub invariant_of-self : goal.invariant_of-self
invariant_of-self g c =
    let s = c.self.inside in
    let k = c.driver-position.result in
    let n = c.row_bounds-start.result.0 + k in
    let at : c.args.place < length s.drivers =
    omega (arith, c.requires.at, own-count s.drivers s.variables c.args.self.now c.self.view_is c.self.invariant.owned) in
    let inside : k < length (get_or s.drivers c.args.place []) = omega (arith, c.row_bounds-start.ensures.end, c.if-position-end.false) in
    let lt = driver-within s.drivers s.variables c.args.self.now c.self.view_is c.self.invariant.owned c.args.place k n at inside
    (ap (λ m. m + k) c.row_bounds-start.ensures.start) no_driver in
    item-told s.drivers s.variables s.times c.put.new.self s.taken n c.assign_to-done.new.driver c.assign_to-done.result.1 lt c.self.invariant
    c.put.ensures.sized c.put.ensures.told c.assign_to-done.ensures.next_is

pub returns-clause-alone : goal.returns-clause-alone
returns-clause-alone g c =
    let s = c.self.inside in
    let k = c.driver-position.result in
    let n = c.row_bounds-start.result.0 + k in
    let at : c.args.place < length s.drivers =
    omega (arith, c.requires.at, own-count s.drivers s.variables c.args.self.now c.self.view_is c.self.invariant.owned) in
    let inside : k < length (get_or s.drivers c.args.place []) = omega (arith, c.row_bounds-start.ensures.end, c.if-position-end.false) in
    driver-alone s.drivers s.variables c.args.self.now c.self.view_is c.self.invariant.owned c.args.place k n at inside
    (ap (λ m. m + k) c.row_bounds-start.ensures.start) c.assign_to-done.new.driver

pub returns-clause-assigned : goal.returns-clause-assigned
returns-clause-assigned g c =
    let s = c.self.inside in
    let k = c.driver-position.result in
    let n = c.row_bounds-start.result.0 + k in
    let at : c.args.place < length s.drivers =
    omega (arith, c.requires.at, own-count s.drivers s.variables c.args.self.now c.self.view_is c.self.invariant.owned) in
    let inside : k < length (get_or s.drivers c.args.place []) = omega (arith, c.row_bounds-start.ensures.end, c.if-position-end.false) in
    driver-assigned s.drivers s.variables c.args.self.now c.self.view_is c.self.invariant.owned c.args.place k n at inside
    (ap (λ m. m + k) c.row_bounds-start.ensures.start) c.assign_to-done.new.driver
    (net_at (views_of c.args.nets.now.values.now c.args.nets.now.values_before.now)) c.args.time c.args.quick.now c.assign_to-done.result.0
    c.assign_to-done.result.1 c.item_mut.result.now c.driver-position.ensures c.item_mut.ensures.value c.requires.pending c.assign_to-done.ensures
