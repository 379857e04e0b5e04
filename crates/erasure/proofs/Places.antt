-- A task's place in a program without arguments: what it runs next and executed last, whether it is on a channel, and the number of a send.
use mathlib.Core.Path.{◌≡◌, refl}
use mathlib.Core.Bool.{Bool, true, false, ◌&&◌, ◌||◌, not}
use mathlib.Core.List.{map}
use Prim.Native.Nat.{ℕ, ◌-◌, ◌<◌}
use native.Mathlib.Omega.{arith}
use lib.Dec.{eqb, ltb}
use borrow.Author.Tests.{eqb-true}
use Rattle.base.proofs.Folds.{fold_same}
use Rattle.base.proofs.Tests.{and_left, and_right}
use Rattle.plan.specs.declared.ChannelId.{ChannelId}
use Rattle.plan.specs.Kinds.{op_send, op_receive, op_set}
use Rattle.plan.specs.Programs.{Program, instruction_at}
use Rattle.rules.specs.declared.task.Task.{Task}
use Rattle.rules.specs.declared.task.TaskState.{TaskState}
use Rattle.rules.specs.declared.task.TaskState.TheVariants.{Sending, Receiving}
use Rattle.rules.specs.Tasks.{is_in}
use Rattle.rules.specs.Places.{next_in, last_in, is_on, send_number}
use Rattle.rules.specs.Sound.{last_ok}
use Rattle.rules.specs.Erasures.{erased_instruction, erased_task}
use Rattle.erasure.proofs.Lists.{pick_map}
use Rattle.erasure.proofs.Programs.{other_erased, use_erased, instruction_erased}

and_same : (b p q : Bool) → (b ≡ true → p ≡ q) → b && p ≡ b && q
and_same true p q h = h refl
and_same false p q h = refl

module _ (g : Program) where
  pub number_erased : (c : ChannelId) (n : ℕ) → send_number (map erased_instruction g) c n ≡ send_number g c n
  unfolding send_number
  number_erased c n =
      fold_same _ _ n _ _ (λ i l. rw (instruction_erased g i, use_erased (instruction_at g i) op_send c.0 (omega arith)) refl)

  module _ (x : Task) where
    pub next_erased : next_in (map erased_instruction g) (erased_task x) ≡ erased_instruction (next_in g x)
    unfolding next_in
    next_erased = instruction_erased g (x.pc - 1)

    pub last_erased : last_in (map erased_instruction g) (erased_task x) ≡ erased_instruction (last_in g x)
    unfolding last_in erased_instruction
    last_erased = pick_map erased_instruction (ltb 1 x.pc) (λ e. instruction_erased g (x.pc - 2)) (λ e. refl)

    -- a task in state s, which only an instruction of kind k leads to
    on_erased : (s : TaskState) (k : ℕ) (c : ChannelId) → k < op_set → (is_in s x ≡ true → (last_in g x).opcode ≡ k)
        → is_on s (map erased_instruction g) c (erased_task x) ≡ is_on s g c x
    unfolding is_on
    on_erased s k c l h =
        rw last_erased (and_same (is_in s x) _ _ (λ e. rw (other_erased (last_in g x) k l (h e)) refl))

    -- one that 9 does not refuse
    module _ (h : last_ok g x ≡ true) (c : ChannelId) where
      pub sending_erased : is_on Sending (map erased_instruction g) c (erased_task x) ≡ is_on Sending g c x
      sending_erased =
          on_erased Sending op_send c (omega arith)
          (λ e. eqb-true (last_in g x).opcode op_send (rw e at (and_left (not (is_in Sending x) || eqb (last_in g x).opcode op_send) _ h)))

      pub receiving_erased : is_on Receiving (map erased_instruction g) c (erased_task x) ≡ is_on Receiving g c x
      receiving_erased =
          on_erased Receiving op_receive c (omega arith)
          (λ e. eqb-true (last_in g x).opcode op_receive (rw e at (and_right (not (is_in Sending x) || eqb (last_in g x).opcode op_send) _ h)))
