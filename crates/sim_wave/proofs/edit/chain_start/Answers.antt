use Rattle.std.proofs.Common.{ℕ, ◌≡◌, ◌-◌, ◌≤◌, ◌⊎◌, inl, inr, ap, ◌∙◌, arith}
use Rattle.sim_standard.specs.Drivers.{transaction_at}
use Rattle.sim_wave.proofs.edit.chain_start.Goals as goal

last_or_further : (p k : ℕ) → p - 1 ≤ k → (k ≡ p - 1) ⊎ (p ≤ k)
last_or_further p k h = grind arith

pub loop-place-preserved : goal.loop-place-preserved
loop-place-preserved c =
    let here : (transaction_at c.args.pending.now (c.loop-place.place - 1)).1 ≡ c.args.value = (c.continues.ensures.0 c.if-continues.true).1 in
    record {
      within = omega arith;
      chain = λ k g h. elim (last_or_further c.loop-place.place k g) [
        | inl at ↦ ap (λ (i : ℕ). (transaction_at c.args.pending.now i).1) at ∙ here
        | inr further ↦ c.loop-place.invariant.chain k further h
      ];
    }
