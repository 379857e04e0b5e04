-- `run_file` is the paper's run: 1 to 6 as at start, 8, and the trace as far as it fits.
use mathlib.Core.Path.{◌≡◌, refl, sym, ◌∙◌}
use mathlib.Core.Bool.{Bool, true, false, not}
use native.Mathlib.Omega.{arith}
use borrow.Author.Rules.{rules}
use borrow.Author.Tests.{not-true, not-false}
use Prim.Native.Nat.{ℕ, ◌≤◌}
use Rattle.base.specs.Choice.{within}
use Rattle.base.proofs.Tests.{within_low, within_high, within_both}
use Rattle.run.proofs.file.Opening.{opened_file, opened_passes, opened_begins}
use Rattle.run.proofs.file.Outcomes.{start_is, steps_few, processors_refused, file_refused, steps_refused, traced, traced_short}
use Rattle.run.proofs.file.run.run_file.Goals as goal

-- a test that was passed, and one that was not
module _ {r t : Bool} (e : r ≡ t) where
  passed : not r ≡ false → t ≡ true
  passed h = sym e ∙ not-false r h

  failed : not r ≡ true → t ≡ false
  failed h = sym e ∙ not-true r h

-- no such number of desks
outside : (n : ℕ) → (1 ≤ n → n ≤ 6 → ⊥) → within 1 6 n ≡ false
outside n h = go (within 1 6 n) refl
  where
    go : (b : Bool) → within 1 6 n ≡ b → within 1 6 n ≡ false
    go true e = absurd (h (within_low 1 6 n e) (within_high 1 6 n e))
    go false e = e

pub returns-then-processors-lt1 : goal.returns-then-processors-lt1
returns-then-processors-lt1 c =
    rw c.refused.ensures (processors_refused _ _ _ _ (outside c.args.processors (λ low high. omega arith)))

pub open-opened-requires : goal.open-opened-requires
open-opened-requires c = (refl, refl, refl, refl)

pub returns-then-not-steps_ok : goal.returns-then-not-steps_ok
returns-then-not-steps_ok c =
    rw c.refused-then-not-steps_ok.ensures
    (steps_refused _ _ _ _ (within_both 1 6 c.args.processors (omega arith) (omega arith)) (opened_file c.open-opened.ensures c.in-Ok.is) (failed c.steps_ok.ensures c.if-not-steps_ok.true-raw))

pub put_numbers-requires : goal.put_numbers-requires
put_numbers-requires c = (opened_passes c.open-opened.ensures c.in-Ok.is, refl)

pub drive-d-requires : goal.drive-d-requires
drive-d-requires c =
    (record { plan = _; begins = opened_begins c.open-opened.ensures c.in-Ok.is _ (within_both 1 6 c.args.processors (omega arith) (omega arith)) c.put_numbers.ensures }, steps_few _ (passed c.steps_ok.ensures c.if-not-steps_ok.false-raw))

pub returns-then-d : goal.returns-then-d
returns-then-d c =
    let q = within_both 1 6 c.args.processors (omega arith) (omega arith) in
    traced _ _ _ _ q (opened_file c.open-opened.ensures c.in-Ok.is) (passed c.steps_ok.ensures c.if-not-steps_ok.false-raw) (start_is _ _)
    (c.drive-d.ensures _ (opened_begins c.open-opened.ensures c.in-Ok.is _ q c.put_numbers.ensures)) c.if-d.true

pub returns-in-Err : goal.returns-in-Err
returns-in-Err c =
    rw c.refused-in-Err.ensures
    (file_refused _ _ _ _ (within_both 1 6 c.args.processors (omega arith) (omega arith)) _ (sym c.open-opened.ensures.answered ∙ c.in-Err.is))

pub returns-else-d : goal.returns-else-d
returns-else-d c =
    let q = within_both 1 6 c.args.processors (omega arith) (omega arith) in
    traced_short _ _ _ _ q (opened_file c.open-opened.ensures c.in-Ok.is) (passed c.steps_ok.ensures c.if-not-steps_ok.false-raw) (start_is _ _)
    (c.drive-d.ensures _ (opened_begins c.open-opened.ensures c.in-Ok.is _ q c.put_numbers.ensures)) c.if-d.false
