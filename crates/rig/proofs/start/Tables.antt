-- What is derived of an accepted plan fits the table of who uses what.
use mathlib.Core.Path.{◌≡◌, ◌∙◌, ap}
use mathlib.Core.Logic.{by_cases}
use Prim.Native.Nat.{ℕ, ◌≤◌, ◌<◌}
use native.Mathlib.Omega.{arith}
use native.Mathlib.Decide.{dec_lt}
use lib.ListN.{get_or, length, get_or-eq_default}
use borrow.Author.Tests.{le-leb, lt-leb}
use Rattle.std.specs.Prelude.{Ok}
use Rattle.base.proofs.Tables.{length_table}
use Rattle.plan.specs.declared.Plan.{Plan}
use Rattle.plan.specs.declared.TaskId.{TaskId}
use Rattle.plan.specs.Kinds.{op_create, op_send, op_receive}
use Rattle.plan.specs.Programs.{programs}
use Rattle.plan.specs.Refusals.{plan_answer}
use Rattle.plan.proofs.Parts.{tasks_of_lem}
use Rattle.plan_laws.proofs.Answers.{sized, plan_passed}
use Rattle.plan_laws.proofs.Parents.{no_parent}
use Rattle.plan_index.specs.ends.Derived.{user_in, ends_of}
use Rattle.plan_index.proofs.ends.Entries.{sender_in_lem, receiver_in_lem, parent_at_lem}
use Rattle.plan_index.specs.user_table.Built.{Few}

module _ (p : Plan) (a : plan_answer (programs p) ≡ Ok tt) where
  tasks_few : p.tasks ≤ 64
  tasks_few = omega (arith, tasks_of_lem p, (sized (programs p) (plan_passed (programs p) a).sizes).tasks.few)

  senders_long : length (ends_of p).senders ≡ 129
  unfolding ends_of
  senders_long = length_table 129 (user_in (programs p) op_send)

  receivers_long : length (ends_of p).receivers ≡ 129
  unfolding ends_of
  receivers_long = length_table 129 (user_in (programs p) op_receive)

  parents_long : length (ends_of p).parents ≡ 129
  unfolding ends_of
  parents_long = length_table 129 (user_in (programs p) op_create)

  -- no task above 64 is created
  parent_none : (t : ℕ) → 64 < t → get_or (ends_of p).parents t 0 ≡ 0
  parent_none t h =
      by_cases
      (dec_lt t 129)
      (λ l. parent_at_lem p t (omega arith) ∙ ap (λ (u : TaskId). u.0) (no_parent (programs p) a t (simp (le-leb 2 t (omega arith), lt-leb t (length (programs p)) (omega (arith, tasks_of_lem p, tasks_few))))))
      (λ l. get_or-eq_default (ends_of p).parents 0 {n = t} (omega (arith, parents_long)))

  pub few_ends : Few (ends_of p).senders (ends_of p).receivers (ends_of p).parents
  few_ends =
      record {
        senders_long = senders_long;
        receivers_long = receivers_long;
        parents_long = parents_long;
        sender = λ c. omega (arith, sender_in_lem p c, tasks_few);
        receiver = λ c. omega (arith, receiver_in_lem p c, tasks_few);
        parent = parent_none;
      }
