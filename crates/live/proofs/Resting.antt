-- What is answered of the bytes that are lent.
use mathlib.Core.Path.{◌≡◌, refl}
use mathlib.Core.List.{List}
use Prim.Native.Nat.{ℕ}
use Rattle.image.specs.Live.{held, rest_answer}
use Rattle.live_rig.specs.Shows.{rest_on}

pub rest_held : (b : List ℕ) → rest_on (held b) ≡ rest_answer b
unfolding rest_on rest_answer
rest_held b = refl
