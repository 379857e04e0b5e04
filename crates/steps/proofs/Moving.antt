-- A move by its answer, and what it leaves.
use mathlib.Core.Path.{◌≡◌, refl, sym, ap, ◌∙◌}
use mathlib.Core.Bool.{true, false, true≢false}
use mathlib.Core.List.{List}
use Prim.Native.Nat.{ℕ, ◌+◌, ◌≤◌, ◌<◌}
use native.Mathlib.Omega.{arith}
use lib.Dec.{leb}
use lib.ListN.{length}
use borrow.Author.Tests.{le-leb, lt-leb}
use Rattle.std.specs.Prelude.{Ok, Err}
use Rattle.plan.specs.declared.TaskId.{TaskId}
use Rattle.plan.specs.declared.ProcessorId.{ProcessorId}
use Rattle.rules.specs.declared.task.Task.{Task}
use Rattle.rules.specs.declared.message.Message.{Message}
use Rattle.rules.specs.declared.rule.Posting.TheVariants.{Single}
use Rattle.rules.specs.Answers.{StepAnswer}
use Rattle.rules.specs.declared.system.TaskTable.{TaskTable}
use Rattle.rules.specs.declared.system.Channels.{Channels}
use Rattle.rules.specs.Answers.{is_accepted}
use Rattle.rules.specs.Tasks.{departed}
use Rattle.rules.specs.Hints.{hint}
use Rattle.rules.specs.Starts.{pointing}
use Rattle.rules.specs.Networks.{messages_of}
use Rattle.rules.specs.Systems.{store, task_in, task_stored}
use Rattle.rules_laws.proofs.Steps.{accepted_is}
use Rattle.rig_parts.specs.declared.sweep.CellRule.TheVariants.{Locate, DepartSending}
use Rattle.rig_parts.specs.declared.change.Change.{Change}
use Rattle.rig_parts.specs.Answers.{Verdict}
use Rattle.rig_parts.specs.Sweeps.{for_ends, parent_in}
use Rattle.rig_parts.specs.Fetches.{cell_put}
use Rattle.rig_parts.specs.MoveVerdicts.{move_change, move_refusal, judged_move}
use Rattle.rig_parts.specs.Answers.{verdict_of}
use Rattle.rig_parts.proofs.BoundsParts.{count_few}
use Rattle.rig_parts.proofs.BoundsReady.{processor_in, ready_counts_lem}
use Rattle.board.specs.declared.act.Act.{Act}
use Rattle.board.specs.declared.act.Size.{Size}
use Rattle.board.specs.Rigs.{RigOn}
use Rattle.board.specs.Lent.{Lent, lent, tasks_on, channels_on, parents_on, store_of, ParentPut}
use Rattle.board.specs.Acted.{Acted, StoredBy, act_of, refused_act}
use Rattle.steps.specs.Moves.{CanMove}
use Rattle.steps.proofs.Acting.{stored_none}

-- one letter fits behind fewer than 256
pub one_fits : (n used : ℕ) (m : Message) → used < 256 → leb (used + length (messages_of n (Single m))) 256 ≡ true
unfolding messages_of
one_fits n used m h = le-leb (used + 1) 256 (omega (arith, h))

pub one_over : (n used : ℕ) (m : Message) → 256 ≤ used → leb (used + length (messages_of n (Single m))) 256 ≡ false
unfolding messages_of
one_over n used m h = lt-leb (used + 1) 256 (omega (arith, h))

-- what is said, by the answer
pub said_of : (k : Change) (a : StepAnswer) → is_accepted (act_of (verdict_of k a)).answer ≡ is_accepted a
said_of k (Ok tt) = refl
said_of k (Err q) = refl

-- where it is no acceptance, it alone is said
refused_of : (k : Change) (a : StepAnswer) → is_accepted a ≡ false → refused_act a ≡ act_of (verdict_of k a)
refused_of k (Ok tt) h = absurd (true≢false h)
refused_of k (Err q) h = refl

-- a move, by its answer
module _ (m n : ℕ) (ts : TaskTable) (used : ℕ) (t : TaskId) (e : ProcessorId) where
  abbrev answer : StepAnswer
  answer = move_refusal m n ts used t e

  pub move_refused : is_accepted answer ≡ false → refused_act answer ≡ act_of (judged_move m n ts used t e)
  unfolding judged_move
  move_refused h = refused_of (move_change t (task_in ts t) e) answer h

  pub move_accepted : is_accepted answer ≡ true → judged_move m n ts used t e ≡ Ok (move_change t (task_in ts t) e)
  unfolding judged_move
  move_accepted h = ap (verdict_of (move_change t (task_in ts t) e)) (accepted_is answer h)

  pub move_said : is_accepted (act_of (judged_move m n ts used t e)).answer ≡ is_accepted answer
  unfolding judged_move
  move_said = said_of (move_change t (task_in ts t) e) answer

-- the task leaves, then its desk points to where it goes, then pointers follow it, then what it sent travels
module _ (ss rs hp hm op on notes board left₀ gone hp' hm' left : List ℕ) (t : TaskId) (e : ProcessorId) where
  pub move_acted : (x y : Task) (v : Verdict) {r : Act} → y ≡ departed x → v ≡ Ok (move_change t x e)
      → tasks_on left₀ ≡ task_stored (tasks_on board) t y → channels_on left₀ ≡ channels_on board → parents_on left₀ ≡ parents_on board
      → ParentPut x.processor t (pointing (parent_in (parents_on left₀) x.processor t) (hint e (x.moves + 1))) left₀ gone
      → StoredBy (for_ends rs t x.processor (Locate e (x.moves + 1))) (lent hp hm op on notes gone) (lent hp' hm' op on notes gone)
      → StoredBy (for_ends ss t x.processor DepartSending) (lent hp' hm' op on notes gone) (lent hp' hm' op on notes left)
      → r ≡ act_of v
      → Acted ss rs v (lent hp hm op on notes board) r (lent hp' hm' op on notes left)
  unfolding cell_put
  move_acted x y v ey ev et ek ep put located departed er =
      let d = x.processor in
      let same : store_of (lent hp hm op on notes gone) ≡ store_of (lent hp hm op on notes board) =
      ap (λ (z : Channels). store (record { hintprocessors = hp; hintmoves = hm; heldprocessors = op; heldnumbers = on; notes = notes }) z) (put.3 ∙ ek) in
      record {
        whole = departed.whole;
        act = er;
        tasks = departed.tasks ∙ located.tasks ∙ put.2 ∙ et ∙ rw (ev, ey) (sym (stored_none _ _));
        store = departed.store ∙ ap (for_ends ss t d DepartSending) (located.store ∙ ap (for_ends rs t d (Locate e (x.moves + 1))) same) ∙ rw ev refl;
        parents = departed.parents ∙ located.parents ∙ put.1 ∙ rw (ev, ep) refl;
      }

-- in a rig that 9 does not refuse a task can be moved
pub rig_moves : {codes numbers users : List ℕ} {n : Size} {l : Lent} → RigOn codes numbers users n l → (t : TaskId) → CanMove users l.board n.tasks t
rig_moves g t =
    record { whole = g.whole; indexed = g.indexed; few = count_few g.parts; counts = ready_counts_lem g.parts t; processor = processor_in g.parts t }
