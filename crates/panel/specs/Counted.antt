-- Counts that grow by steps, and what is lent for the steps' answers to be those of a rig.
use Rattle.std.specs.Prelude.{◌≡◌, true, List, ◌++◌, ℕ, ◌≤◌, get_or, length, Ok, Err}
use Rattle.base.specs.Choice.{unless, within}
use Rattle.rules.specs.declared.step.Step.{Step}
use Rattle.rules.specs.Answers.{StepAnswer}
use Rattle.rules.specs.declared.step.StepRefusal.TheVariants.{NoMessage}
use Rattle.rules.specs.declared.system.System.{System}
use Rattle.rules.specs.declared.system.TaskTable.{TaskTable}
use Rattle.rules.specs.Numbers.{task_id, processor_id}
use Rattle.rules.specs.Sound.{system_ok}
use Rattle.rules.specs.Steps.{run_step, deliver_step, move_step, step_answer}
use Rattle.rules_laws.specs.Shapes.{Shaped}
use Rattle.rig_parts.specs.Facts.{Facts, facts_of, kept_in}
use Rattle.rig_parts.specs.RunVerdicts.{judged_run}
use Rattle.rig_parts.specs.MoveVerdicts.{move_refusal}
use Rattle.board.specs.declared.act.Size.{Size}
use Rattle.board.specs.Acted.{act_of}
use Rattle.board.specs.Lent.{Lent, tasks_of, kept_of}
use Rattle.board.specs.Rigs.{facts_in}
use Rattle.panel_laws.specs.Tallies.{tallied}

-- 27 counts, none above the limit
pub record Few (limit : ℕ) (counts : List ℕ) : Type 0 where
  pub long : length counts ≡ 27
  pub few : (a : ℕ) → get_or counts a 0 ≤ limit

-- to the counts of any steps those of `more` were added
abbrev pub CountsMore : System → List Step → List ℕ → List ℕ → Type 0
CountsMore r more before after = (ss : List Step) → before ≡ tallied r ss → after ≡ tallied r (ss ++ more)

-- runs are answered as by rig r
abbrev pub RunsAs : Facts → Size → Lent → System → Type 0
RunsAs f n l r = (t : ℕ) → (act_of (judged_run f n.processors (tasks_of l) (kept_of l) n.used (task_id t))).answer ≡ step_answer r (run_step t)

-- 14, unless the mail has a letter at position p
abbrev pub delivery_of : ℕ → ℕ → StepAnswer
delivery_of used p = unless (within 1 used p) (Err NoMessage) (Ok tt)

-- and deliveries, of so many letters
abbrev pub DeliversAs : ℕ → System → Type 0
DeliversAs used r = (p : ℕ) → delivery_of used p ≡ step_answer r (deliver_step p)

-- and moves, of these tasks
abbrev pub MovesAs : TaskTable → Size → System → Type 0
MovesAs ts n r = (t d : ℕ) → move_refusal n.tasks n.processors ts n.used (task_id t) (processor_id d) ≡ step_answer r (move_step t d)

-- rig r, which 9 does not refuse, is lent
pub record Lends (r : System) (codes numbers users : List ℕ) (n : Size) (l : Lent) : Type 0 where
  pub shaped : Shaped r
  pub sound : system_ok r ≡ true
  pub facts_of_lem : facts_in n.tasks codes numbers users ≡ facts_of r.plan
  pub processors : n.processors ≡ r.processors
  pub tasks : tasks_of l ≡ r.tasks
  pub kept : kept_of l ≡ kept_in r
  pub messages : n.used ≡ r.network.used
