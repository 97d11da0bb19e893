use Rattle.std.proofs.Common.{length, length-drop, take, drop, sym, subst, arith, ◌∙◌, ◌≡◌, ◌-◌}
use Rattle.std.proofs.lemmas.List.{take_all}
use Rattle.sim_containers.specs.RowArray.{joined}
use Rattle.sim_store_share.proofs.InTurn.{executable-rest, kept-rest, turn-rest}
use Rattle.sim_store_state.specs.FlatState.{AreShares}
use Rattle.sim_store_state.proofs.execution.execute_in_several.Goals as goal

pub execute_in_one-requires-clause-here : goal.execute_in_one-requires-clause-here
execute_in_one-requires-clause-here c =
    let numbers = c.args.numbers.now in
    let place = c.loop-place.place in
    let i = c.loop-place.invariant in
    let rest : take (length numbers - place) (drop place numbers) ≡ drop place numbers =
    take_all (length numbers - place) (drop place numbers) (omega (arith, length-drop place numbers)) in
    record {
      shared = subst AreShares (sym i.kept.counts) c.requires.shared;
      reading = c.requires.reading;
      from = c.requires.from;
      fits = λ n. omega (arith, c.requires.fits n, i.frame_is);
      each = executable-rest c.args.reading.now numbers _ place (joined c.args.shares.now) (joined c.loop-place.shares) rest c.requires.each i.kept.kept;
    }

pub returns-in_err-place-clause-kept : goal.returns-in_err-place-clause-kept
returns-in_err-place-clause-kept c =
    let numbers = c.args.numbers.now in
    let place = c.loop-place.place in
    let i = c.loop-place.invariant in
    let rest : take (length numbers - place) (drop place numbers) ≡ drop place numbers =
    take_all (length numbers - place) (drop place numbers) (omega (arith, length-drop place numbers)) in
    record {
      kept = kept-rest c.args.reading.now numbers _ place (joined c.args.shares.now) (joined c.loop-place.shares) (joined c.execute_in_one.new.shares) rest
          i.kept.kept c.execute_in_one.ensures.kept.kept;
      counts = c.execute_in_one.ensures.kept.counts ∙ i.kept.counts;
    }

pub loop-place-preserved : goal.loop-place-preserved
loop-place-preserved c =
    let numbers = c.args.numbers.now in
    let place = c.loop-place.place in
    let i = c.loop-place.invariant in
    let rest : take (length numbers - place) (drop place numbers) ≡ drop place numbers =
    take_all (length numbers - place) (drop place numbers) (omega (arith, length-drop place numbers)) in
    record {
      turn = turn-rest c.args.reading.now numbers _ place c.in_ok-place.field-0 (joined c.args.shares.now) (joined c.loop-place.shares)
          (joined c.execute_in_one.new.shares) rest i.turn c.in_ok-place.ensures.turn;
      kept = record {
        kept = kept-rest c.args.reading.now numbers _ place (joined c.args.shares.now) (joined c.loop-place.shares) (joined c.execute_in_one.new.shares) rest
            i.kept.kept c.execute_in_one.ensures.kept.kept;
        counts = c.execute_in_one.ensures.kept.counts ∙ i.kept.counts;
      };
      frame_is = c.execute_in_one.ensures.frame ∙ i.frame_is;
    }
