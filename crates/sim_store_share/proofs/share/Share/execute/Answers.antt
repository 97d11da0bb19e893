use Rattle.std.proofs.Common.{◌+◌, ◌≡◌, ◌<◌, true, false, get_or, length, sym, ◌∙◌, arith}
use Rattle.std.proofs.lemmas.Slice.{between_to_end}
use Rattle.sim_exec_code.specs.Guards.{is_missing}
use Rattle.sim_standard.specs.State.{net_at}
use Rattle.sim_store_share.specs.InTurn.{nets_in}
use Rattle.sim_store_share.proofs.InTurn.{assigned-done, assigned-kept, executable-rest, executable-still, idle-done, kept-next, kept-rest}
use Rattle.sim_store_share.proofs.InTurn.{turn-idle, turn-next, turn-rest}
use Rattle.sim_store_share.proofs.share.Share.execute.Goals as goal

pub execute_coded-requires-clause-each : goal.execute_coded-requires-clause-each
execute_coded-requires-clause-each c =
    let r = c.args.reading.now in
    let numbers = c.args.numbers.now in
    let place = c.loop-place.place in
    let old = c.args.self.now in
    let mid = c.loop-place.self in
    let i = c.loop-place.invariant in
    let end = between_to_end numbers place (length numbers) (omega arith) in
    executable-rest r numbers _ place old mid end c.requires.each i.kept

pub returns-in_err-place-clause-kept : goal.returns-in_err-place-clause-kept
returns-in_err-place-clause-kept c =
    let r = c.args.reading.now in
    let numbers = c.args.numbers.now in
    let place = c.loop-place.place in
    let old = c.args.self.now in
    let mid = c.loop-place.self in
    let i = c.loop-place.invariant in
    let end = between_to_end numbers place (length numbers) (omega arith) in
    kept-rest r numbers _ place old mid c.execute_coded.new.self end i.kept c.execute_coded.ensures.kept

pub loop-place-preserved-in_default : goal.loop-place-preserved-in_default
loop-place-preserved-in_default c =
    let r = c.args.reading.now in
    let numbers = c.args.numbers.now in
    let place = c.loop-place.place in
    let old = c.args.self.now in
    let mid = c.loop-place.self in
    let i = c.loop-place.invariant in
    let end = between_to_end numbers place (length numbers) (omega arith) in
    record {
      frame = c.execute_coded.ensures.frame ∙ i.frame;
      turn = turn-rest r numbers _ place c.in_ok-place.field-0 old mid c.execute_coded.new.self end i.turn c.in_ok-place.ensures.turn;
      kept = kept-rest r numbers _ place old mid c.execute_coded.new.self end i.kept c.execute_coded.ensures.kept;
    }

pub loop-place-preserved-then-is_idle : goal.loop-place-preserved-then-is_idle
loop-place-preserved-then-is_idle c =
    let r = c.args.reading.now in
    let numbers = c.args.numbers.now in
    let place = c.loop-place.place in
    let old = c.args.self.now in
    let mid = c.loop-place.self in
    let i = c.loop-place.invariant in
    let lt : place < length numbers = omega (arith, c.loop-place-test.true) in
    let n = get_or numbers place 0 in
    let q = c.in-Some.quick.now in
    let here = executable-still r numbers n old mid (c.requires.each place 0 lt) i.kept in
    let end = between_to_end numbers (place + 1) (length numbers) (omega arith) in
    let missing : is_missing (net_at (nets_in r)) q.edge ≡ true = sym c.is_idle.ensures ∙ c.if-is_idle.true in
    let first = turn-next r numbers place old mid mid lt i.turn (idle-done r n q mid c.requires.reading c.in-Some.ensures.body here missing) in
    let rest = executable-rest r numbers _ (place + 1) old mid end c.requires.each i.kept in
    record {
      frame = i.frame;
      turn = turn-rest r numbers _ (place + 1) c.count_idle_after.result old mid mid end first
          (turn-idle r _ c.count_idle_after.result mid c.requires.reading c.count_idle_after.ensures.within c.count_idle_after.ensures.idle rest);
      kept = i.kept;
    }

pub assign-requires-clause-pending : goal.assign-requires-clause-pending
assign-requires-clause-pending c =
    let r = c.args.reading.now in
    let numbers = c.args.numbers.now in
    let place = c.loop-place.place in
    let old = c.args.self.now in
    let mid = c.loop-place.self in
    let i = c.loop-place.invariant in
    let lt : place < length numbers = omega (arith, c.loop-place-test.true) in
    let n = get_or numbers place 0 in
    let q = c.in-Some.quick.now in
    let here = executable-still r numbers n old mid (c.requires.each place 0 lt) i.kept in
    here.ready.pending

pub returns-in_err-assign-clause-kept : goal.returns-in_err-assign-clause-kept
returns-in_err-assign-clause-kept c =
    let r = c.args.reading.now in
    let numbers = c.args.numbers.now in
    let place = c.loop-place.place in
    let old = c.args.self.now in
    let mid = c.loop-place.self in
    let i = c.loop-place.invariant in
    let lt : place < length numbers = omega (arith, c.loop-place-test.true) in
    let n = get_or numbers place 0 in
    let q = c.in-Some.quick.now in
    let here = executable-still r numbers n old mid (c.requires.each place 0 lt) i.kept in
    kept-next r numbers place old mid c.assign.new.self lt i.kept
    (assigned-kept r n q c.assign.result mid c.assign.new.self here c.assign.ensures.alone c.assign.ensures.assigned)

pub loop-place-preserved-then-not-has_edge : goal.loop-place-preserved-then-not-has_edge
loop-place-preserved-then-not-has_edge c =
    let r = c.args.reading.now in
    let numbers = c.args.numbers.now in
    let place = c.loop-place.place in
    let old = c.args.self.now in
    let mid = c.loop-place.self in
    let i = c.loop-place.invariant in
    let lt : place < length numbers = omega (arith, c.loop-place-test.true) in
    let n = get_or numbers place 0 in
    let q = c.in-Some.quick.now in
    let here = executable-still r numbers n old mid (c.requires.each place 0 lt) i.kept in
    let occurs : is_missing (net_at (nets_in r)) q.edge ≡ false = sym c.is_idle.ensures ∙ c.if-is_idle.false in
    let new = c.assign.new.self in
    let a = c.assign.ensures in
    record {
      frame = i.frame;
      turn = turn-next r numbers place old mid new lt i.turn
          (assigned-done r n q _ mid new here c.in_ok-assign.ensures.alone c.in_ok-assign.ensures.assigned c.requires.reading c.in-Some.ensures.body occurs);
      kept = kept-next r numbers place old mid new lt i.kept (assigned-kept r n q c.assign.result mid new here a.alone a.assigned);
    }

pub execute_after-requires-clause-each : goal.execute_after-requires-clause-each
execute_after-requires-clause-each c =
    let r = c.args.reading.now in
    let numbers = c.args.numbers.now in
    let place = c.loop-place.place in
    let old = c.args.self.now in
    let mid = c.loop-place.self in
    let i = c.loop-place.invariant in
    let lt : place < length numbers = omega (arith, c.loop-place-test.true) in
    let n = get_or numbers place 0 in
    let q = c.in-Some.quick.now in
    let here = executable-still r numbers n old mid (c.requires.each place 0 lt) i.kept in
    let end = between_to_end numbers (place + 1) (length numbers) (omega arith) in
    let new = c.assign.new.self in
    let a = c.assign.ensures in
    let kept = kept-next r numbers place old mid new lt i.kept (assigned-kept r n q c.assign.result mid new here a.alone a.assigned) in
    executable-rest r numbers _ (place + 1) old new end c.requires.each kept

pub returns-in_err-place-2-clause-kept : goal.returns-in_err-place-2-clause-kept
returns-in_err-place-2-clause-kept c =
    let r = c.args.reading.now in
    let numbers = c.args.numbers.now in
    let place = c.loop-place.place in
    let old = c.args.self.now in
    let mid = c.loop-place.self in
    let i = c.loop-place.invariant in
    let lt : place < length numbers = omega (arith, c.loop-place-test.true) in
    let n = get_or numbers place 0 in
    let q = c.in-Some.quick.now in
    let here = executable-still r numbers n old mid (c.requires.each place 0 lt) i.kept in
    let end = between_to_end numbers (place + 1) (length numbers) (omega arith) in
    let new = c.assign.new.self in
    let a = c.assign.ensures in
    let kept = kept-next r numbers place old mid new lt i.kept (assigned-kept r n q c.assign.result mid new here a.alone a.assigned) in
    kept-rest r numbers _ (place + 1) old new c.execute_after.new.self end kept c.execute_after.ensures.kept

pub loop-place-preserved : goal.loop-place-preserved
loop-place-preserved c =
    let r = c.args.reading.now in
    let numbers = c.args.numbers.now in
    let place = c.loop-place.place in
    let old = c.args.self.now in
    let mid = c.loop-place.self in
    let i = c.loop-place.invariant in
    let lt : place < length numbers = omega (arith, c.loop-place-test.true) in
    let n = get_or numbers place 0 in
    let q = c.in-Some.quick.now in
    let here = executable-still r numbers n old mid (c.requires.each place 0 lt) i.kept in
    let end = between_to_end numbers (place + 1) (length numbers) (omega arith) in
    let occurs : is_missing (net_at (nets_in r)) q.edge ≡ false = sym c.is_idle.ensures ∙ c.if-is_idle.false in
    let new = c.assign.new.self in
    let a = c.assign.ensures in
    let kept = kept-next r numbers place old mid new lt i.kept (assigned-kept r n q c.assign.result mid new here a.alone a.assigned) in
    let first = turn-next r numbers place old mid new lt i.turn
    (assigned-done r n q _ mid new here c.in_ok-assign.ensures.alone c.in_ok-assign.ensures.assigned c.requires.reading c.in-Some.ensures.body occurs) in
    record {
      frame = i.frame;
      turn = turn-rest r numbers _ (place + 1) c.in_ok-place-2.field-0 old new c.execute_after.new.self end first c.in_ok-place-2.ensures.turn;
      kept = kept-rest r numbers _ (place + 1) old new c.execute_after.new.self end kept c.execute_after.ensures.kept;
    }
