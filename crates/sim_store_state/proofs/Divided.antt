-- Shares into which processes are divided.
use Rattle.std.proofs.Common.{ℕ, ◌+◌, ◌<◌, ◌≤◌, ◌≡◌, List, [], length, get_or, sym, ◌∙◌, subst, arith}
use Rattle.std.proofs.Math.Decide.{dec_lt}
use Rattle.std.proofs.lemmas.List.{get_or-map, length-map}
use Rattle.sim_standard.specs.State.{Owned}
use Rattle.sim_store_share.specs.Dividing.{AreDivided}
use Rattle.sim_store_state.specs.FlatState.{AreShares, counts}

size-of : (xss : List (List Owned)) (p : ℕ) → p < length xss → get_or (counts xss) p 0 ≡ length (get_or xss p [])
size-of xss p lt = get_or-map (λ (xs : List Owned). length xs) xss p [] 0 lt

pub shares-divided : (each : ℕ) (owned : List Owned) (xss : List (List Owned)) → 0 < each → AreDivided each owned xss → AreShares (counts xss)
shares-divided each owned xss wide d = record {
  some = omega (arith, d.some, long);
  wide = λ more. omega (arith, first (omega (arith, more, long)), wide);
  full = λ p lt.
      let below : p + 1 < length xss = omega (arith, lt, long) in
      size-of xss p (omega (arith, below)) ∙ (d.full p below ∙ sym (first (omega (arith, below))));
  most = λ p lt. elim (dec_lt 1 (length xss)) [
    | yes h ↦ omega (arith, size-of xss p (omega (arith, lt, long)), d.most p, first h)
    | no h ↦ (let at : p ≡ 0 = omega (arith, h, lt, long) in
        subst (λ (m : ℕ). get_or (counts xss) m 0 ≤ get_or (counts xss) 0 0) (sym at) (omega arith))
  ];
}
  where
    long : length (counts xss) ≡ length xss
    long = length-map xss (λ (xs : List Owned). length xs)

    first : 1 < length xss → get_or (counts xss) 0 0 ≡ each
    first more = size-of xss 0 (omega (arith, more)) ∙ d.full 0 (omega (arith, more))
