-- What holds of an execution that did not fail.
use Rattle.std.proofs.Common.{◌≡◌, Bool, sym, subst}
use Rattle.std.specs.Prelude.{Result, Ok, Err, OnOk}
use Rattle.sim_store_share.specs.Executions.{without_value}

pub on_ok_without_value : {E : Type 0} (P : Type 0) (r : Result Bool E) (s : Result Unit E) → s ≡ without_value r → OnOk r P → OnOk s P
on_ok_without_value P (Ok done) s e h = subst (λ (t : Result Unit _). OnOk t P) (sym e) h
on_ok_without_value P (Err x) s e h = subst (λ (t : Result Unit _). OnOk t P) (sym e) h
