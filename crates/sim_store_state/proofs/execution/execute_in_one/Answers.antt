use Rattle.std.proofs.Common.{ℕ, ◌<◌, ◌≤◌, ◌+◌, ◌-◌, length, length-drop, get_or, take, drop, subst, arith, refl}
use Rattle.std.specs.List.{All}
use Rattle.std.proofs.lemmas.List.{length-take}
use Rattle.std.proofs.lemmas.List.Elements.{All-take}
use Rattle.sim_store_share.specs.InTurn.{IsExecutable}
use Rattle.sim_containers.specs.RowArray.{joined}
use Rattle.sim_store_state.proofs.InShares.{all-next, executable-in, executed-in, first-here, kept-in, IsHere}
use Rattle.sim_store_state.proofs.execution.execute_in_one.Goals as goal

pub execute-requires-clause-each : goal.execute-requires-clause-each
execute-requires-clause-each c =
    let r = c.args.reading.now in
    let numbers = c.args.numbers.now in
    let shares = c.args.shares.now in
    let at = c.place_of-place.ensures in
    let d = c.index-shares-place.result in
    let here = IsHere r c.requires.here.from shares at d d in
    let each : All here (take (1 + c.count_within-count.result) numbers) =
    all-next here numbers _ c.count_within-count.result c.requires.any refl (first-here r c.requires.here.from shares at d d)
    (subst (λ (m : ℕ). All (λ (n : ℕ). (get_or numbers 0 0 - c.place_of-place.result.1 ≤ n) × (n < get_or numbers 0 0 - c.place_of-place.result.1 + m))
    (take c.count_within-count.result (take (length numbers - 1) (drop 1 numbers)))) c.len.ensures c.count_within-count.ensures.each) in
    λ k e lt. executable-in r c.requires.here.from shares at d d _ (each k e lt)
    (All-take (IsExecutable r (joined shares)) (1 + c.count_within-count.result) numbers c.requires.here.each k e lt)

pub returns-in_err-execute-clause-kept : goal.returns-in_err-execute-clause-kept
returns-in_err-execute-clause-kept c =
    let some = c.requires.any in
    kept-in c.args.reading.now c.requires.here.from c.args.shares.now c.place_of-place.ensures c.index-shares-place.result c.execute.new.self
    c.args.numbers.now (1 + c.count_within-count.result) (omega (
      arith,
      c.count_within-count.ensures.within,
      length-drop 1 c.args.numbers.now,
      length-take (length c.args.numbers.now - 1)
          (drop 1 c.args.numbers.now),
      some,
    )) c.execute.ensures.kept

pub returns-clause-turn : goal.returns-clause-turn
returns-clause-turn c =
    let r = c.args.reading.now in
    let numbers = c.args.numbers.now in
    let shares = c.args.shares.now in
    let at = c.place_of-place.ensures in
    let d = c.index-shares-place.result in
    let some = c.requires.any in
    let here = IsHere r c.requires.here.from shares at d d in
    let each : All here (take (1 + c.count_within-count.result) numbers) =
    all-next here numbers _ c.count_within-count.result c.requires.any refl (first-here r c.requires.here.from shares at d d)
    (subst (λ (m : ℕ). All (λ (n : ℕ). (get_or numbers 0 0 - c.place_of-place.result.1 ≤ n) × (n < get_or numbers 0 0 - c.place_of-place.result.1 + m))
    (take c.count_within-count.result (take (length numbers - 1) (drop 1 numbers)))) c.len.ensures c.count_within-count.ensures.each) in
    record {
      within = omega (arith, c.count_within-count.ensures.within, length-drop 1 numbers, length-take (length numbers - 1) (drop 1 numbers), some);
      done = executed-in r c.requires.here.from shares at d c.execute.new.self (take
          (1 + c.count_within-count.result) numbers) each c.in_ok-execute.ensures.executed;
    }

pub returns-clause-kept : goal.returns-clause-kept
returns-clause-kept c =
    let some = c.requires.any in
    kept-in c.args.reading.now c.requires.here.from c.args.shares.now c.place_of-place.ensures c.index-shares-place.result c.execute.new.self
    c.args.numbers.now (1 + c.count_within-count.result) (omega (
      arith,
      c.count_within-count.ensures.within,
      length-drop 1 c.args.numbers.now,
      length-take (length c.args.numbers.now - 1)
          (drop 1 c.args.numbers.now),
      some,
    )) c.execute.ensures.kept
