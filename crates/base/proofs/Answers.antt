-- A refusal is no acceptance.
use mathlib.Core.Path.{◌≡◌, ap}
use mathlib.Core.Bool.{true≢false}
use mathlib.Core.Logic.{◌≢◌}
use Rattle.std.specs.Prelude.{Result, Ok, Err, is_ok, is_err}

module _ {T E : Type 0} where
  pub err_not_ok : (e : E) (x : T) → Err e ≢ Ok x
  err_not_ok e x h = absurd (true≢false (ap is_err h))

  pub ok_not_err : (e : E) (x : T) → Ok x ≢ Err e
  ok_not_err e x h = absurd (true≢false (ap is_ok h))
