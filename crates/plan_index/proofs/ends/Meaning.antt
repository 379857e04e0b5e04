-- What is derived from the slots of a plan value is what its meaning says.
use mathlib.Core.Path.{◌≡◌, refl, sym, ◌∙◌, ap}
use mathlib.Core.Bool.{Bool, true, false}
use mathlib.Core.List.{List}
use mathlib.Core.Logic.{by_cases}
use Prim.Native.Nat.{ℕ, suc, ◌+◌, ◌*◌, ◌/◌, ◌%◌, ◌<◌, ◌≤◌}
use native.Mathlib.Omega.{arith}
use native.Mathlib.Decide.{dec_lt}
use lib.ListN.{length, get_or, get_or-eq_default}
use lib.Dec.{eqb}
use borrow.Author.Tests.{lt-ltb, le-ltb, eq-eqb}
use Rattle.std.specs.Prelude.{Ok}
use Rattle.base.specs.Choice.{pick}
use Rattle.base.specs.Lists.{table}
use Rattle.base.proofs.Folds.{fold_same}
use Rattle.base.proofs.Sums.{sum_at_most}
use Rattle.base.proofs.Tables.{get_d_table, table_same}
use Rattle.base.proofs.Tests.{and_both, and_false, within_high}
use Rattle.plan.specs.declared.Instruction.{Instruction}
use Rattle.plan.specs.declared.Plan.{Plan}
use Rattle.plan.specs.declared.TaskId.{TaskId}
use Rattle.plan.specs.Numbers.{channel_id}
use Rattle.plan.specs.Kinds.{op_send, is_use, no_instruction}
use Rattle.plan.specs.Programs.{program_at, slot_of, in_slot, programs}
use Rattle.plan.specs.Refusals.{instruction_ok, plan_answer}
use Rattle.plan.proofs.Parts.{tasks_of_lem, no_program_of, count_of_lem, instruction_of_lem}
use Rattle.plan_laws.proofs.Answers.{plan_passed}
use Rattle.plan_laws.proofs.Ends.{sends_on_lem}
use Rattle.plan_laws.proofs.Programs.{program_size, instruction_fine, send_operand}
use Rattle.plan_value.specs.Slots.{slot_in}
use Rattle.plan_value.specs.Sizes.{sizes_in}
use Rattle.plan_value.specs.Firsts.{Firsts}
use Rattle.plan_value.proofs.Sized.{sizes_of, few_tasks}
use Rattle.rules.specs.Places.{send_number}
use Rattle.plan_index.specs.ends.Derived.{number_in, ends_of}
use Rattle.plan_index.specs.ends.Numbers.{SendsFitAll, Unsent, sent_in, sent_before, slot_number, send_numbers}

module _ (p : Plan) where
  -- how many sends there are up to an instruction
  sent_of : (k i c : ℕ) → k < p.tasks → i ≤ get_or p.lengths k 0
      → sent_in p.codes k i c ≡ send_number (program_at (programs p) k) (channel_id c) i
  unfolding send_number
  sent_of k i c h l = fold_same ◌+◌ 0 i _ _ (λ j q. ap (λ (x : Instruction). pick (is_use op_send c x) 1 0) (sym (instruction_of_lem p k j h (omega arith))))

  -- the number in a slot that is used, and in one that is not
  used_number : (s : ℕ) → s / 64 < p.tasks → s % 64 < get_or p.lengths (s / 64) 0
      → pick (eqb (slot_of p s).opcode op_send) (slot_number p.codes s) 0 ≡ number_in (programs p) s
  unfolding number_in
  used_number s h l =
      let whole : 64 * (s / 64) + s % 64 ≡ s = omega arith in
      let slot : in_slot (programs p) s ≡ slot_of p s = rw whole at (instruction_of_lem p (s / 64) (s % 64) h l) in
      rw (slot, sent_of (s / 64) (s % 64 + 1) (slot_of p s).operand h (omega arith)) refl

  no_number : (s : ℕ) → length (program_at (programs p) (s / 64)) ≤ s % 64 → 0 ≡ number_in (programs p) s
  unfolding number_in
  no_number s h = rw (get_or-eq_default (program_at (programs p) (s / 64)) no_instruction h) refl

  numbers_of_lem : send_numbers p.tasks p.lengths p.codes ≡ table 4096 (number_in (programs p))
  numbers_of_lem =
      table_same 4096 _ (number_in (programs p))
      (λ s b.
      by_cases
      (dec_lt (s / 64) p.tasks)
      (λ h.
      by_cases
      (dec_lt (s % 64) (get_or p.lengths (s / 64) 0))
      (λ l. simp (lt-ltb (s / 64) p.tasks h, lt-ltb (s % 64) (get_or p.lengths (s / 64) 0) l) (used_number s h l))
      (λ l. simp (le-ltb (s % 64) (get_or p.lengths (s / 64) 0) (omega arith), and_false) (no_number s (omega (arith, count_of_lem p (s / 64) h)))))
      (λ h. simp (le-ltb (s / 64) p.tasks (omega arith)) (no_number s (rw (no_program_of p (s / 64) (omega arith)) (omega arith)))))

module _ (p : Plan) (a : plan_answer (programs p) ≡ Ok tt) where
  pub sizes : sizes_in p.tasks p.lengths ≡ true
  sizes = sym (sizes_of p) ∙ (plan_passed (programs p) a).sizes

  pub tasks_few : p.tasks ≤ 64
  tasks_few = few_tasks p.tasks p.lengths sizes

  pub sends_fit : SendsFitAll p.tasks p.lengths p.codes
  sends_fit k h =
      let m = programs p in
      let l : k < length m = rw (tasks_of_lem p) h in
      let count = count_of_lem p k h in (
        rw (← count) (program_size m a k l).few,
        λ i q e.
            let fine : instruction_ok (length m) (slot_of p (64 * k + i)) ≡ true =
            rw (instruction_of_lem p k i h q) at (instruction_fine m a k l i (rw count q)) in
            within_high 1 128 (slot_of p (64 * k + i)).operand (send_operand (length m) (slot_of p (64 * k + i)) fine e),
      )

  -- a task that sends on a channel is the only one
  unsent_by : (k i j n : ℕ) → k < p.tasks → i < get_or p.lengths k 0 → (slot_of p (64 * k + i)).opcode ≡ op_send → j < k → n < get_or p.lengths j 0
      → is_use op_send (slot_of p (64 * k + i)).operand (slot_of p (64 * j + n)) ≡ false
  unsent_by k i j n h l e b q = go (is_use op_send (slot_of p (64 * k + i)).operand (slot_of p (64 * j + n))) refl
    where
      go : (u : Bool) → is_use op_send (slot_of p (64 * k + i)).operand (slot_of p (64 * j + n)) ≡ u → u ≡ false
      go false z = refl
      go true z =
          let m = programs p in
          let c = (slot_of p (64 * k + i)).operand in
          let here : is_use op_send c (slot_of p (64 * k + i)) ≡ true = and_both (eqb (slot_of p (64 * k + i)).opcode op_send) (eqb c c) (eq-eqb (slot_of p (64 * k + i)).opcode op_send e) (eq-eqb c c refl) in
          let mine = sends_on_lem m a c k i (rw (tasks_of_lem p) h) (rw (count_of_lem p k h) l) (rw (instruction_of_lem p k i h l) here) in
          let other = sends_on_lem m a c j n (rw (tasks_of_lem p) (omega arith)) (rw (count_of_lem p j (omega arith)) q) (rw (instruction_of_lem p j n (omega arith) q) z) in
          absurd (let same : suc k ≡ suc j = ap (λ (t : TaskId). t.0) (sym mine ∙ other) in omega arith)

  pub unsent : (k : ℕ) → k < p.tasks → Unsent p.codes k (get_or p.lengths k 0) (table 129 (sent_before p.lengths p.codes k))
  unsent k h i l e =
      let c = (slot_of p (64 * k + i)).operand in
      let none : (j : ℕ) → j < k → sent_in p.codes j (get_or p.lengths j 0) c ≤ 0 =
      λ j b. omega (arith, sum_at_most 0 (get_or p.lengths j 0) (λ n. pick (is_use op_send c (slot_in p.codes (64 * j + n))) 1 0) (λ n q. rw (unsent_by k i j n h l e b q) (omega arith))) in
      let all = sum_at_most 0 k (λ j. sent_in p.codes j (get_or p.lengths j 0) c) none in
      get_d_table 129 (sent_before p.lengths p.codes k) c 0 (omega (arith, (sends_fit k h).1 i l e)) ∙ omega (arith, all)

  pub send_numbers_of : send_numbers p.tasks p.lengths p.codes ≡ (ends_of p).numbers
  unfolding ends_of
  send_numbers_of = numbers_of_lem p

  -- the tables, together
  pub ends_of_lem : {senders receivers parents numbers : List ℕ} → Firsts (programs p) parents senders receivers → numbers ≡ (ends_of p).numbers
      → record { senders = senders; receivers = receivers; parents = parents; numbers = numbers } ≡ ends_of p
  unfolding ends_of
  ends_of_lem f n = λ i. record { senders = f.senders i; receivers = f.receivers i; parents = f.parents i; numbers = n i }
