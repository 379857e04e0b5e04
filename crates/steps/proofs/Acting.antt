-- What the acts share: a test that is made of numbers made wider, no task that is stored, and a refused step, which changes nothing.
use mathlib.Core.Path.{◌≡◌, refl, ◌∙◌}
use mathlib.Core.Bool.{Bool, false, true≢false}
use mathlib.Core.List.{List}
use Prim.Native.Nat.{ℕ}
use Rattle.std.specs.Prelude.{Ok, Err}
use Rattle.base.specs.Choice.{within}
use Rattle.rules.specs.declared.task.Task.{Task}
use Rattle.rules.specs.declared.step.StepRefusal.{StepRefusal}
use Rattle.rules.specs.declared.system.TaskTable.{TaskTable}
use Rattle.rules.specs.Numbers.{task_id}
use Rattle.rules.specs.Answers.{is_accepted}
use Rattle.rules.specs.Systems.{task_stored}
use Rattle.rig_parts.specs.Answers.{Verdict}
use Rattle.board.specs.declared.act.Act.{Act}
use Rattle.board.specs.Lent.{Lent, Whole}
use Rattle.board.specs.Acted.{Acted, act_of, refused_act}

pub tested : {r : Bool} {w v a b : ℕ} → r ≡ within 1 w v → w ≡ a → v ≡ b → r ≡ within 1 a b
tested h p q = h ∙ rw (p, q) refl

-- no task is stored
pub stored_none : (ts : TaskTable) (z : Task) → task_stored ts (task_id 0) z ≡ ts
unfolding task_stored
stored_none ts z = refl

-- what is said of a verdict is said of one that is the same
pub same_acted : {ss rs : List ℕ} {v u : Verdict} {l after : Lent} {r : Act} → v ≡ u → Acted ss rs u l r after → Acted ss rs v l r after
same_acted e h = rw e h

module _ (ss rs : List ℕ) (l : Lent) {r : Act} (w : Whole l.board) where
  pub refused_acted : (v : Verdict) (q : StepRefusal) → v ≡ Err q → r ≡ refused_act (Err q) → Acted ss rs v l r l
  refused_acted v q e h = rw e (record { whole = w; act = h; tasks = refl; store = refl; parents = refl })

  -- by what it is answered
  pub answered_acted : (v : Verdict) → is_accepted (act_of v).answer ≡ false → r ≡ act_of v → Acted ss rs v l r l
  answered_acted (Err q) e h = refused_acted (Err q) q refl h
  answered_acted (Ok k) e h = absurd (true≢false e)
