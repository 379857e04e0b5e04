-- The kind of a task's last executed instruction, as the arrays of a plan value hold it.
use mathlib.Core.Path.{◌≡◌, refl}
use mathlib.Core.Logic.{by_cases}
use Prim.Native.Nat.{ℕ, ◌+◌, ◌*◌, ◌-◌, ◌<◌}
use native.Mathlib.Decide.{dec_lt}
use native.Mathlib.Omega.{arith}
use lib.ListN.{get_or, get_or-eq_default}
use borrow.Author.Tests.{lt-ltb, le-ltb}
use Rattle.base.proofs.Tables.{length_table, get_d_table}
use Rattle.plan.specs.declared.Plan.{Plan}
use Rattle.plan.specs.Kinds.{no_instruction}
use Rattle.plan.specs.Programs.{slot_of, program_of}
use Rattle.rules.specs.declared.task.Task.{Task}
use Rattle.rules.specs.Places.{last_in}
use Rattle.rig_check.specs.system.Tasks.{last_kind}

pub last_kind_lem : (p : Plan) (k : ℕ) (x : Task) → (last_in (program_of p k) x).opcode ≡ last_kind p.lengths p.codes k x.pc
unfolding last_in
last_kind_lem p k x =
    let n = get_or p.lengths k 0 in
    let i = x.pc - 2 in
    by_cases (dec_lt 1 x.pc)
    (λ (h : 1 < x.pc).
    by_cases (dec_lt i n)
    (λ (q : i < n). rw (lt-ltb 1 x.pc h, lt-ltb i n q, get_d_table n (λ i. slot_of p (64 * k + i)) i no_instruction q) refl)
    (λ q.
    rw (
      lt-ltb 1 x.pc h,
      le-ltb i n (omega arith),
      get_or-eq_default (program_of p k) no_instruction {n = i} (rw (length_table n (λ i. slot_of p (64 * k + i))) (omega arith)),
    )
    refl))
    (λ h. rw (le-ltb 1 x.pc (omega arith)) refl)
