-- What stands where in what is derived from a plan.
use mathlib.Core.Path.{◌≡◌, refl, ◌∙◌}
use mathlib.Core.Bool.{true}
use mathlib.Core.Logic.{by_cases}
use Prim.Native.Nat.{ℕ, ◌+◌, ◌*◌, ◌-◌, ◌<◌, ◌≤◌}
use native.Mathlib.Omega.{arith}
use native.Mathlib.Decide.{dec_lt}
use lib.ListN.{length, get_or, get_or-eq_default}
use lib.Dec.{eqb}
use borrow.Author.Tests.{eqb-true}
use Rattle.std.specs.Prelude.{Ok}
use Rattle.base.specs.Lists.{table}
use Rattle.base.proofs.Slots.{row_of, place_of}
use Rattle.base.proofs.Tables.{length_table, get_d_table}
use Rattle.base.proofs.Tests.{and_left, and_right}
use Rattle.plan.specs.declared.Plan.{Plan}
use Rattle.plan.specs.Numbers.{channel_id}
use Rattle.plan.specs.Kinds.{op_create, op_send, op_receive, is_use}
use Rattle.plan.specs.Programs.{program_at, instruction_at, programs}
use Rattle.plan.specs.Users.{users, first_of}
use Rattle.plan.specs.Refusals.{plan_answer}
use Rattle.plan.proofs.Parts.{tasks_of_lem}
use Rattle.plan_laws.proofs.Answers.{sized, plan_passed}
use Rattle.plan_laws.proofs.Programs.{program_size, user_few}
use Rattle.rules.specs.Places.{send_number}
use Rattle.plan_index.specs.ends.Derived.{number_in, user_in, ends_of}

module _ (p : Plan) where
  -- channel c's sender and receiver, task u's parent
  pub sender_at_lem : (c : ℕ) → c ≤ 128 → get_or (ends_of p).senders c 0 ≡ first_of (users (programs p) op_send c)
  unfolding ends_of
  sender_at_lem c h = get_d_table 129 (user_in (programs p) op_send) c 0 (omega arith)

  pub receiver_at_lem : (c : ℕ) → c ≤ 128 → get_or (ends_of p).receivers c 0 ≡ first_of (users (programs p) op_receive c)
  unfolding ends_of
  receiver_at_lem c h = get_d_table 129 (user_in (programs p) op_receive) c 0 (omega arith)

  pub parent_at_lem : (u : ℕ) → u ≤ 128 → get_or (ends_of p).parents u 0 ≡ first_of (users (programs p) op_create u)
  unfolding ends_of
  parent_at_lem u h = get_d_table 129 (user_in (programs p) op_create) u 0 (omega arith)

  -- they are tasks of the plan, or none
  user_in_lem : (k a : ℕ) → get_or (table 129 (user_in (programs p) k)) a 0 ≤ p.tasks
  user_in_lem k a =
      by_cases
      (dec_lt a 129)
      (λ l. rw (get_d_table 129 (user_in (programs p) k) a 0 l) (omega (arith, user_few (programs p) k a, tasks_of_lem p)))
      (λ l.
      let behind : length (table 129 (user_in (programs p) k)) ≤ a = rw (length_table 129 (user_in (programs p) k)) (omega arith) in
      rw (get_or-eq_default (table 129 (user_in (programs p) k)) 0 behind) (omega arith))

  pub sender_in_lem : (c : ℕ) → get_or (ends_of p).senders c 0 ≤ p.tasks
  unfolding ends_of
  sender_in_lem = user_in_lem op_send

  pub receiver_in_lem : (c : ℕ) → get_or (ends_of p).receivers c 0 ≤ p.tasks
  unfolding ends_of
  receiver_in_lem = user_in_lem op_receive

  pub parent_in : (u : ℕ) → get_or (ends_of p).parents u 0 ≤ p.tasks
  unfolding ends_of
  parent_in = user_in_lem op_create

  -- the number of a send: instruction i + 1 of task t sends on channel c
  pub number_at : plan_answer (programs p) ≡ Ok tt → (t i c : ℕ) → 1 ≤ t → t ≤ p.tasks → i < length (program_at (programs p) (t - 1))
      → is_use op_send c (instruction_at (program_at (programs p) (t - 1)) i) ≡ true
      → get_or (ends_of p).numbers (64 * (t - 1) + i) 0 ≡ send_number (program_at (programs p) (t - 1)) (channel_id c) (i + 1)
  unfolding ends_of number_in
  number_at a t i c some few l e =
      let m = programs p in
      let x = instruction_at (program_at m (t - 1)) i in
      let tasks = tasks_of_lem p in
      let most = (sized m (plan_passed m a).sizes).tasks.few in
      let short : i < 64 = omega (arith, (program_size m a (t - 1) (omega arith)).few) in
      let sends = and_left (eqb x.opcode op_send) (eqb x.operand c) e in
      let on = eqb-true x.operand c (and_right (eqb x.opcode op_send) (eqb x.operand c) e) in
      get_d_table 4096 (number_in m) (64 * (t - 1) + i) 0 (omega arith) ∙ rw (row_of (t - 1) i short, place_of (t - 1) i short, sends, on) refl
