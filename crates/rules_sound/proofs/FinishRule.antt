-- A finish and an ended letter leave fine tasks, a fine entry for the parent and fine letters.
use mathlib.Core.Path.{◌≡◌, refl}
use mathlib.Core.Bool.{true, false, not}
use Prim.Native.Nat.{ℕ, ◌≤◌}
use lib.ListN.{length}
use Rattle.base.proofs.Choices.{pick_cases}
use Rattle.base.proofs.Tests.{within_both, and_right, and_both, within_low, within_high}
use Rattle.plan.specs.declared.TaskId.{TaskId}
use Rattle.plan.specs.Programs.{Program}
use Rattle.rules.specs.declared.task.Task.{Task}
use Rattle.rules.specs.declared.message.Message.TheVariants.{Terminated}
use Rattle.rules.specs.Numbers.{task_id, same_task, task_number_ok, same_processor}
use Rattle.rules.specs.Tasks.{is_at, state_number, is_in, advanced, with_state}
use Rattle.rules.specs.Local.{finish_rule}
use Rattle.rules.specs.Sound.{message_ok, known_ok, origin_ok}
use Rattle.rules_sound.specs.Settled.{Settled}
use Rattle.rules_sound.specs.Sites.{FineFinished, FineEnded}
use Rattle.rules_sound.proofs.LifeRules.{done_ok, without_child_ok}
use Rattle.rules_sound.proofs.Postings.{nothing_posted, message_posted, nothing_reply, message_reply}
use native.Mathlib.Omega.{arith}
use borrow.Author.Tests.{eqb-true, ltb-true}
use Rattle.base.specs.Sets.{member}
use Rattle.rules.specs.declared.channel.Hint.{Hint}
use Rattle.rules.specs.declared.system.ParentEntry.{ParentEntry}
use Rattle.rules.specs.declared.rule.Posting.TheVariants.{Nothing}
use Rattle.rules.specs.declared.task.TaskState.TheVariants.{Unborn, Ready, Done}
use Rattle.rules.specs.Hints.{newer, points_on}
use Rattle.rules.specs.Arrivals.{terminated_rule}
use Rattle.rules_sound.specs.Fine.{FineParent}
use Rattle.rules_sound.proofs.Origins.{same_origin, born_origin, lost_origin}
use Rattle.rules_sound.proofs.Cells.{counted_known, newer_known}
use Rattle.rules_sound.proofs.ParentRules.{holding_child_lem}

-- the end of task t with record x, whose own pointer is known where it has a parent
pub finish_fine : (n m : ℕ) (g gp : Program) (t : TaskId) (x parent : Task) (e : ParentEntry) → Settled n m (length g) x → is_in Ready x ≡ true
    → 1 ≤ t.0 → t.0 ≤ m → origin_ok n t.0 x ≡ true → FineParent n m e
    → FineFinished n m g gp x parent (finish_rule t x parent e)
unfolding finish_rule message_ok origin_ok
finish_fine n m g gp t x parent e s r l u own f =
    let Left = FineFinished n m g gp x parent in
    let done = done_ok n m g x s in
    let stays = born_origin Ready x (advanced (with_state x Done)) r refl refl refl in
    let along = newer e.hint x.origin in
    pick_cases Left (same_task t (task_id 1)) _ _
    (λ q.
    record { task = done; task_origin = stays; parent = λ h. h; parent_origin = same_origin parent; entry = f; posting = nothing_posted n m })
    (λ child.
    let born : is_in Unborn x ≡ false = rw (eqb-true (state_number x.state) 1 r) refl in
    let known : known_ok n x.origin ≡ true = rw (born, child) at own in
    let counted = newer_known n e.hint x.origin f.hint known in
    pick_cases Left (is_at x.processor parent) _ _
    (λ q.
    record {
      task = done;
      task_origin = stays;
      parent = λ h. without_child_ok n m gp parent h t;
      parent_origin = lost_origin parent t;
      entry = f;
      posting = nothing_posted n m;
    })
    (λ q.
    pick_cases Left (same_processor along.processor x.processor) _ _
    (λ q.
    record {
      task = done;
      task_origin = stays;
      parent = λ h. h;
      parent_origin = same_origin parent;
      entry = holding_child_lem n m e f t l u;
      posting = nothing_posted n m;
    })
    (λ q.
    record {
      task = done;
      task_origin = stays;
      parent = λ h. h;
      parent_origin = same_origin parent;
      entry = f;
      posting = message_posted n m (Terminated along t) (and_both (known_ok n along) (task_number_ok m t) counted (within_both 1 m t.0 l u));
    })))

-- an ended letter for child t
pub ended_fine : (n m : ℕ) (gp : Program) (parent : Task) (e : ParentEntry) (h : Hint) (t : TaskId)
    → task_number_ok m t ≡ true → FineParent n m e → FineEnded n m gp parent (terminated_rule parent e h t)
unfolding terminated_rule message_ok
ended_fine n m gp parent e h t number f =
    let Left = FineEnded n m gp parent in
    let stays : FineEnded n m gp parent (record { parent = parent; entry = e; posting = Nothing }) =
    record { parent = λ k. k; parent_origin = same_origin parent; entry = f; posting = nothing_reply n m } in
    pick_cases Left (not (member t.0 parent.children)) _ _
    (λ q. stays)
    (λ q.
    pick_cases Left (is_at h.processor parent) _ _
    (λ q.
    record {
      parent = λ k. without_child_ok n m gp parent k t;
      parent_origin = lost_origin parent t;
      entry = f;
      posting = nothing_reply n m;
    })
    (λ q.
    pick_cases Left (points_on e.hint h h.processor) _ _
    (λ on.
    let l = ltb-true h.moves e.hint.moves (and_right (not (same_processor e.hint.processor h.processor)) _ on) in
    let known = counted_known n e.hint f.hint (omega arith) in
    record {
      parent = λ k. k;
      parent_origin = same_origin parent;
      entry = f;
      posting =
          message_reply n m (Terminated e.hint t)
          (message_posted n m (Terminated e.hint t) (and_both (known_ok n e.hint) (task_number_ok m t) known number));
    })
    (λ q.
    record {
      parent = λ k. k;
      parent_origin = same_origin parent;
      entry = holding_child_lem n m e f t (within_low 1 m t.0 number) (within_high 1 m t.0 number);
      posting = nothing_reply n m;
    })))
