use Rattle.std.proofs.Common.{ℕ, zero, suc, ◌<◌, ◌≤◌, ◌+◌, ◌∷◌, [], get_or, take, sym, subst, arith}
use Rattle.std.proofs.lemmas.List.{take_more}
use Rattle.std.proofs.lemmas.List.Elements.{All-append}
use Rattle.std.specs.List.{All}
use Rattle.sim_store_state.proofs.execution.count_within.Goals as goal

one : (P : ℕ → Type 0) (n : ℕ) → P n → All P (n ∷ [])
one P n p zero d lt = p
one P n p (suc k) d lt = absurd (omega (arith, lt))

pub loop-place-preserved : goal.loop-place-preserved
loop-place-preserved c =
    let numbers = c.args.numbers.now in
    let place = c.loop-place.place in
    let here : ℕ → Type 0 = λ n. (c.args.first ≤ n) × (n < c.args.first + c.args.count) in
    record {
      within = omega (arith, c.loop-place-test.true);
      each = subst (All here) (sym (take_more numbers place 0 c.loop-place-test.true))
          (All-append here (take place numbers) (get_or numbers place 0 ∷ []) c.loop-place.invariant.each
          (one here (get_or numbers place 0) (c.if-numbers-place.true, omega (arith, c.if-numbers-place.true, c.if-numbers-place-2.true))));
    }
