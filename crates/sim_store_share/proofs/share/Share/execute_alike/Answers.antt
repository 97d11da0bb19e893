use Rattle.std.proofs.Common.{◌≡◌, ◌<◌, false, get_or, length, ap, ◌∙◌, arith}
use Rattle.sim_exec_code.specs.Guards.{is_missing}
use Rattle.sim_standard.specs.State.{net_at}
use Rattle.sim_store_share.specs.InTurn.{nets_in}
use Rattle.sim_store_share.proofs.InTurn.{assigned-done, assigned-kept, executable-still, kept-next, turn-next}
use Rattle.sim_store_share.proofs.share.Share.execute_alike.Goals as goal

pub assign-requires-clause-pending : goal.assign-requires-clause-pending
assign-requires-clause-pending c =
    let r = c.args.reading.now in
    let numbers = c.args.numbers.now in
    let place = c.loop-place.place in
    let lt : place < length numbers = omega (arith, c.loop-place-test.true) in
    (executable-still r numbers _ c.args.self.now c.loop-place.self (c.requires.each place 0 lt) c.loop-place.invariant.kept).ready.pending

pub returns-in_err-assign-clause-kept : goal.returns-in_err-assign-clause-kept
returns-in_err-assign-clause-kept c =
    let r = c.args.reading.now in
    let numbers = c.args.numbers.now in
    let place = c.loop-place.place in
    let old = c.args.self.now in
    let mid = c.loop-place.self in
    let new = c.assign.new.self in
    let lt : place < length numbers = omega (arith, c.loop-place-test.true) in
    let here = executable-still r numbers (get_or numbers place 0) old mid (c.requires.each place 0 lt) c.loop-place.invariant.kept in
    kept-next r numbers place old mid new lt c.loop-place.invariant.kept
    (assigned-kept r (get_or numbers place 0) c.in-Some.quick.now c.assign.result mid new here c.assign.ensures.alone c.assign.ensures.assigned)

pub loop-place-preserved : goal.loop-place-preserved
loop-place-preserved c =
    let r = c.args.reading.now in
    let numbers = c.args.numbers.now in
    let place = c.loop-place.place in
    let old = c.args.self.now in
    let mid = c.loop-place.self in
    let new = c.assign.new.self in
    let q = c.in-Some.quick.now in
    let n = get_or numbers place 0 in
    let i = c.loop-place.invariant in
    let e = c.in_ok-assign.ensures in
    let lt : place < length numbers = omega (arith, c.loop-place-test.true) in
    let here = executable-still r numbers n old mid (c.requires.each place 0 lt) i.kept in
    let occurs : is_missing (net_at (nets_in r)) q.edge ≡ false = ap (is_missing (net_at (nets_in r))) c.in-Some.ensures.edge ∙ c.requires.edge in
    record {
      turn = turn-next r numbers place old mid new lt i.turn
          (assigned-done r n q _ mid new here e.alone e.assigned c.requires.reading c.in-Some.ensures.does occurs);
      kept = kept-next r numbers place old mid new lt i.kept (assigned-kept r n q _ mid new here e.alone e.assigned);
    }
