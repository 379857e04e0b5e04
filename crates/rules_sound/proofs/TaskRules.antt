-- What the rules make of a task's record is not refused by 9.
use mathlib.Core.Path.{◌≡◌, refl}
use mathlib.Core.Bool.{Bool, true}
use Prim.Native.Nat.{ℕ, ◌+◌, ◌-◌, ◌<◌, ◌^◌}
use native.Mathlib.Omega.{arith}
use lib.ListN.{length}
use borrow.Author.Tests.{eqb-true, lt-ltb}
use Rattle.base.specs.Sets.{inserted}
use Rattle.plan.specs.declared.TaskId.{TaskId}
use Rattle.plan.specs.declared.Word.{Word}
use Rattle.plan.specs.Kinds.{op_send, op_receive}
use Rattle.plan.specs.Programs.{Program}
use Rattle.rules.specs.declared.task.Task.{Task}
use Rattle.rules.specs.declared.task.TaskState.TheVariants.{Ready, Waiting, Sending, Receiving}
use Rattle.rules.specs.Tasks.{state_number, is_in, with_state, with_word, with_overflow, advanced, readied, taking, is_childless}
use Rattle.rules.specs.Places.{next_in, last_in}
use Rattle.rules.specs.Local.{create_rule, sync_rule}
use Rattle.rules.specs.Sound.{task_ok}
use Rattle.rules_sound.specs.Settled.{Settled}
use Rattle.rules_sound.specs.Sites.{Acting}
use Rattle.base.proofs.Choices.{pick_either}
use Rattle.rules_sound.proofs.Settled.{acting_settled, settled_ok}

module _ (n m : ℕ) (g : Program) (x : Task) where
  -- a task that waited is ready again
  pub readied_ok : Settled n m (length g) x → task_ok n m g (readied x) ≡ true
  readied_ok s = settled_ok n m g (readied x) (omega arith) refl

  pub taking_ok : Settled n m (length g) x → (w : Word) → task_ok n m g (taking x w) ≡ true
  taking_ok s w = settled_ok n m g (taking x w) (omega arith) refl

  -- a task that has executed an instruction of kind k, which was not its last
  module _ (k : ℕ) (a : Acting n m g k x) where
    acts : Settled n m (length g) x
    acts = acting_settled n m g x k a

    -- it is ready still
    ready_ok_lem : (y : Task) → Settled n m (length g) y → is_in Ready y ≡ true → task_ok n m g y ≡ true
    ready_ok_lem y s e = settled_ok n m g y s (rw (eqb-true (state_number y.state) 1 e) refl)

    pub advanced_ok : task_ok n m g (advanced x) ≡ true
    advanced_ok = let s = acts in ready_ok_lem (advanced x) (omega arith) a.ready

    pub create_ok_lem : (u : TaskId) → inserted u.0 x.children < 2 ^ m → task_ok n m g (create_rule x u) ≡ true
    create_ok_lem u h = let s = acts in ready_ok_lem (create_rule x u) (omega arith) a.ready

    pub word_ok : (w : Word) (b : Bool) → task_ok n m g (advanced (with_overflow (with_word x w) b)) ≡ true
    word_ok w b = let s = acts in ready_ok_lem (advanced (with_overflow (with_word x w) b)) (omega arith) a.ready

    pub passing_ok : (w : Word) → task_ok n m g (advanced (taking x w)) ≡ true
    passing_ok w = let s = acts in settled_ok n m g (advanced (taking x w)) (omega arith) refl

    waiting_ok : task_ok n m g (advanced (with_state x Waiting)) ≡ true
    waiting_ok = let s = acts in settled_ok n m g (advanced (with_state x Waiting)) (omega arith) refl

    pub sync_ok : task_ok n m g (sync_rule x) ≡ true
    unfolding sync_rule
    sync_ok = pick_either (λ y. task_ok n m g y ≡ true) (is_childless x) (advanced x) (advanced (with_state x Waiting)) advanced_ok waiting_ok

    -- the instruction is the last that it has executed
    last_next : (y : Task) → y.pc ≡ x.pc + 1 → (last_in g y).opcode ≡ k
    unfolding last_in next_in
    last_next y e =
        let s = acts in
        let i : y.pc - 2 ≡ x.pc - 1 = omega arith in
        rw (lt-ltb 1 y.pc (omega arith), i) a.next

  pub sending_ok : Acting n m g op_send x → task_ok n m g (advanced (with_state x Sending)) ≡ true
  sending_ok a =
      let y = advanced (with_state x Sending) in
      let s = acts op_send a in
      settled_ok n m g y (omega arith) (rw (last_next op_send a y refl) refl)

  pub receiving_ok : Acting n m g op_receive x → task_ok n m g (advanced (with_state x Receiving)) ≡ true
  receiving_ok a =
      let y = advanced (with_state x Receiving) in
      let s = acts op_receive a in
      settled_ok n m g y (omega arith) (rw (last_next op_receive a y refl) refl)
