use Rattle.std.proofs.Common.{◌-◌, ap, sym, subst, length, arith}
use Rattle.sim_exec_statements.specs.Ready.{IsReady}
use Rattle.sim_containers.proofs.Flat.{count, places_read, lent_back, viewed_again, put_there, put_alone}
use Rattle.sim_store_share.specs.InTurn.{process_in}
use Rattle.sim_store_share.proofs.Bodies.{body_as}
use Rattle.sim_store_share.proofs.Contents.{same_owned}
use Rattle.sim_store_share.proofs.body.execute_in_rows.Goals as goal

pub bounds-owned-requires : goal.bounds-owned-requires
bounds-owned-requires c =
    omega (arith, count c.drivers.invariant, ap length c.drivers.view_is, c.requires.drivers, ap length c.as_slice.ensures.value)

pub bounds-held-requires : goal.bounds-held-requires
bounds-held-requires c =
    omega (arith, count c.variables.invariant, ap length c.variables.view_is, c.requires.variables, ap length c.as_slice-2.ensures.value)

pub execute_between-requires : goal.execute_between-requires
execute_between-requires c =
    let p = c.args.number - c.args.reading.now.first in
    let q = places_read c.drivers.invariant c.drivers.view_is p _ _ _ _ c.requires.drivers c.as_slice.ensures.value c.as_mut_slice.ensures.value
    c.bounds-owned.ensures.start c.bounds-owned.ensures.end in
    let r = places_read c.variables.invariant c.variables.view_is p _ _ _ _ c.requires.variables c.as_slice-2.ensures.value
    c.as_mut_slice-2.ensures.value c.bounds-held.ensures.start c.bounds-held.ensures.end in
    let e = c.requires.executable in
    record {
      executable = record {
        reading = e.reading;
        frame = e.frame;
        number = e.number;
        ready = subst (IsReady (process_in c.args.reading.now c.args.number).body c.args.reading.now.time) (sym (same_owned q.holds r.holds)) e.ready;
      };
      owned = (q.order, q.within);
      held = (r.order, r.within);
    }

pub invariant_of-drivers : goal.invariant_of-drivers
invariant_of-drivers c =
    viewed_again (lent_back c.drivers.invariant c.drivers.view_is (c.args.number - c.args.reading.now.first) _ _ c.drivers.inside.flat.len
    c.execute_between.new.drivers _ _ c.requires.drivers c.as_slice.ensures.value c.as_mut_slice.ensures.value
    c.bounds-owned.ensures.start c.bounds-owned.ensures.end c.execute_between.ensures.drivers c.execute_between.auto.drivers c.drivers.inside.flat.ok.0)

pub invariant_of-variables : goal.invariant_of-variables
invariant_of-variables c =
    viewed_again (lent_back c.variables.invariant c.variables.view_is (c.args.number - c.args.reading.now.first) _ _ c.variables.inside.flat.len
    c.execute_between.new.variables _ _ c.requires.variables c.as_slice-2.ensures.value c.as_mut_slice-2.ensures.value
    c.bounds-held.ensures.start c.bounds-held.ensures.end c.execute_between.ensures.variables c.execute_between.auto.variables c.variables.inside.flat.ok.0)

pub returns-clause-drivers : goal.returns-clause-drivers
returns-clause-drivers c =
    let p = c.args.number - c.args.reading.now.first in
    let i = lent_back c.drivers.invariant c.drivers.view_is p _ _ c.drivers.inside.flat.len c.execute_between.new.drivers _ _ c.requires.drivers
    c.as_slice.ensures.value c.as_mut_slice.ensures.value
    c.bounds-owned.ensures.start c.bounds-owned.ensures.end c.execute_between.ensures.drivers c.execute_between.auto.drivers c.drivers.inside.flat.ok.0 in
    put_alone c.args.drivers.now p _ i c.requires.drivers

pub returns-clause-variables : goal.returns-clause-variables
returns-clause-variables c =
    let p = c.args.number - c.args.reading.now.first in
    let j = lent_back c.variables.invariant c.variables.view_is p _ _ c.variables.inside.flat.len c.execute_between.new.variables _ _ c.requires.variables
    c.as_slice-2.ensures.value c.as_mut_slice-2.ensures.value
    c.bounds-held.ensures.start c.bounds-held.ensures.end c.execute_between.ensures.variables c.execute_between.auto.variables c.variables.inside.flat.ok.0 in
    put_alone c.args.variables.now p _ j c.requires.variables

pub returns-clause-done : goal.returns-clause-done
returns-clause-done c =
    let p = c.args.number - c.args.reading.now.first in
    let q = places_read c.drivers.invariant c.drivers.view_is p _ _ _ _ c.requires.drivers c.as_slice.ensures.value c.as_mut_slice.ensures.value
    c.bounds-owned.ensures.start c.bounds-owned.ensures.end in
    let r = places_read c.variables.invariant c.variables.view_is p _ _ _ _ c.requires.variables c.as_slice-2.ensures.value
    c.as_mut_slice-2.ensures.value c.bounds-held.ensures.start c.bounds-held.ensures.end in
    let i = lent_back c.drivers.invariant c.drivers.view_is p _ _ c.drivers.inside.flat.len c.execute_between.new.drivers _ _ c.requires.drivers
    c.as_slice.ensures.value c.as_mut_slice.ensures.value
    c.bounds-owned.ensures.start c.bounds-owned.ensures.end c.execute_between.ensures.drivers c.execute_between.auto.drivers c.drivers.inside.flat.ok.0 in
    let j = lent_back c.variables.invariant c.variables.view_is p _ _ c.variables.inside.flat.len c.execute_between.new.variables _ _ c.requires.variables
    c.as_slice-2.ensures.value c.as_mut_slice-2.ensures.value
    c.bounds-held.ensures.start c.bounds-held.ensures.end c.execute_between.ensures.variables c.execute_between.auto.variables c.variables.inside.flat.ok.0 in
    body_as (same_owned q.holds r.holds)
    (sym (same_owned (put_there c.args.drivers.now p _ i c.requires.drivers) (put_there c.args.variables.now p _ j c.requires.variables)))
    c.execute_between.ensures.done
