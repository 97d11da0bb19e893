-- Members of sets, by number.
use Rattle.std.proofs.Common.{ℕ, zero, suc, ◌≡◌, false, replicate, refl}
use Rattle.sim_containers.specs.Numbers.{is_in}

pub none-replicated : (n p : ℕ) → is_in (replicate n false) p ≡ false
none-replicated zero p = refl
none-replicated (suc n) zero = refl
none-replicated (suc n) (suc p) = none-replicated n p
