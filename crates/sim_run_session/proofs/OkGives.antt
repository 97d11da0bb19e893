-- The value that `ok` gives of a result is the one for which the result's clause holds.
use Rattle.std.proofs.Common.{◌≡◌, sym, ap, subst}
use Rattle.std.specs.Prelude.{Option, None, Some, Result, Ok, Err, IfOk}
use Rattle.std.specs.Result.{result_ok}
use Rattle.std.proofs.lemmas.Option.{none-some}

abbrev value_or : {T : Type 0} → T → Option T → T
value_or default None = default
value_or default (Some x) = x

pub ok_holds : {T E : Type 0} (r : Result T E) (P : T → Type 0) (x : T) → Some x ≡ result_ok r → IfOk r P → P x
ok_holds (Ok y) P x e p = subst P (sym (ap (value_or x) e)) p
ok_holds (Err y) P x e p = absurd (none-some x (sym e))
