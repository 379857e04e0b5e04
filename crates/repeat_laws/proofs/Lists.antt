-- A list so many times in a row, a product of one factor more, and the creates of two lists.
use mathlib.Core.Path.{◌≡◌, refl, sym}
use mathlib.Core.Bool.{Bool, true, false}
use mathlib.Core.List.{List, [], ◌∷◌, ◌++◌}
use Prim.Native.Nat.{ℕ, zero, suc, ◌+◌, ◌*◌, ◌-◌, ◌≤◌}
use native.Mathlib.Nat.{mul_comm, mul-suc}
use native.Mathlib.Omega.{arith}
use lib.Dec.{eqb}
use lib.ListN.{length, length-append}
use Rattle.base.specs.Choice.{pick}
use Rattle.plan.specs.Kinds.{op_create}
use Rattle.plan.specs.Programs.{Program}
use Rattle.plan.specs.Repeats.{times}
use Rattle.repeat_laws.specs.Left.{creates_in}

pub times_none : {A : Type 0} (l : List A) → times 0 l ≡ []
unfolding times
times_none l = refl

pub times_more : {A : Type 0} (n : ℕ) (l : List A) → 1 ≤ n → times n l ≡ l ++ times (n - 1) l
unfolding times
times_more zero l h = absurd (omega arith)
times_more (suc n) l h = let e : suc n - 1 ≡ n = omega arith in rw e refl

pub product_more : (n l : ℕ) → 1 ≤ n → n * l ≡ l + (n - 1) * l
product_more zero l h = absurd (omega arith)
product_more (suc n) l h = let e : suc n - 1 ≡ n = omega arith in rw (e, mul_comm (suc n) l, mul-suc l n, mul_comm l n) (omega arith)

pub length_times : {A : Type 0} (n : ℕ) (l : List A) → length (times n l) ≡ n * length l
unfolding times
length_times zero l = omega arith
length_times (suc n) l = rw (length-append l (times n l), length_times n l) (sym (rw (mul_comm (suc n) (length l), mul-suc (length l) n, mul_comm (length l) n) (omega arith)))

pub creates_append : (g h : Program) → creates_in (g ++ h) ≡ creates_in g ++ creates_in h
unfolding creates_in
creates_append [] h = refl
creates_append (i ∷ g) h = rw (creates_append g h) (go (eqb i.opcode op_create))
  where
    go : (b : Bool) → pick b (i ∷ creates_in g ++ creates_in h) (creates_in g ++ creates_in h) ≡ pick b (i ∷ creates_in g) (creates_in g) ++ creates_in h
    go true = refl
    go false = refl
