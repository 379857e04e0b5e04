-- The answers that are found on what is lent are those of the rig.
use mathlib.Core.Path.{◌≡◌, refl, sym, ap, ◌∙◌}
use mathlib.Core.Bool.{Bool, true, false}
use mathlib.Core.Logic.{◌≢◌}
use mathlib.Core.List.{List}
use Prim.Native.Nat.{ℕ, ◌+◌, ◌<◌, ◌≤◌}
use native.Mathlib.Omega.{arith}
use lib.ListN.{length}
use borrow.Author.Tests.{le-leb}
use Rattle.std.specs.Prelude.{Ok, Err}
use Rattle.base.specs.Choice.{pick, within}
use Rattle.base.proofs.Tests.{within_low}
use Rattle.plan.specs.declared.TaskId.{TaskId}
use Rattle.plan.specs.declared.ProcessorId.{ProcessorId}
use Rattle.rules.specs.Answers.{StepAnswer}
use Rattle.rules.specs.declared.step.StepRefusal.TheVariants.{BadSystem, NoTask, NotReady, FinishWithChildren, NetworkFull, NoMessage, NoProcessor, AlreadyThere, MoveWithChildren, MovesSpent, BadStep}
use Rattle.rules.specs.declared.system.System.{System}
use Rattle.rules.specs.declared.system.TaskTable.{TaskTable}
use Rattle.rules.specs.Numbers.{task_id, processor_id}
use Rattle.rules.specs.Networks.{messages_of}
use Rattle.rules.specs.Systems.{task_in}
use Rattle.rules.specs.Runs.{next_of, run_answer, fits}
use Rattle.rules.specs.Deliver.{deliver_answer}
use Rattle.rules.specs.Moves.{moved, move_answer}
use Rattle.rules.specs.Sound.{system_ok}
use Rattle.rules.specs.Steps.{well_formed, kind_answer, ruled_answer, step_answer, run_step, deliver_step, move_step}
use Rattle.rules_laws.specs.Shapes.{Shaped}
use Rattle.rules_laws.proofs.Messages.{few_messages}
use Rattle.rules_sound.proofs.Sound.{sound}
use Rattle.network.specs.Positions.{position_of}
use Rattle.rig_parts.specs.declared.change.Change.{Change}
use Rattle.rig_parts.specs.Answers.{Verdict}
use Rattle.rig_parts.specs.Answers.{unless_refused, verdict_of}
use Rattle.rig_parts.specs.declared.kept.Kept.{Kept}
use Rattle.rig_parts.specs.Effects.{ran_of}
use Rattle.rig_parts.specs.Facts.{Facts, facts_of, kept_in}
use Rattle.rig_parts.specs.Fetches.{instruction_in}
use Rattle.rig_parts.specs.RunVerdicts.{fitting_in, ran_in, run_refusal, judged_run}
use Rattle.rig_parts.specs.MoveVerdicts.{move_refusal}
use Rattle.rig_parts.proofs.Runs.{run_answer_lem}
use Rattle.board.specs.declared.act.Size.{Size}
use Rattle.board.specs.Acted.{act_of}
use Rattle.board.specs.Lent.{Lent, tasks_of}
use Rattle.board.specs.Rigs.{facts_in}
use Rattle.panel.specs.Counted.{RunsAs, delivery_of, DeliversAs, MovesAs, Lends}

-- what is said of a verdict by an answer
said_of : (k : Change) (a : StepAnswer) → (act_of (verdict_of k a)).answer ≡ a
said_of k (Ok tt) = refl
said_of k (Err BadSystem) = refl
said_of k (Err NoTask) = refl
said_of k (Err NotReady) = refl
said_of k (Err FinishWithChildren) = refl
said_of k (Err NetworkFull) = refl
said_of k (Err NoMessage) = refl
said_of k (Err NoProcessor) = refl
said_of k (Err AlreadyThere) = refl
said_of k (Err MoveWithChildren) = refl
said_of k (Err MovesSpent) = refl
said_of k (Err BadStep) = refl

-- with fewer than 250 letters in the mail there is room for what a rule posts
roomy : (n used : ℕ) → n ≤ 6 → used < 250 → (k : Change) → fitting_in n used k ≡ Ok k
roomy n used few room k =
    let m = length (messages_of n k.outcome.posting) in
    rw (le-leb (used + m) 256 (omega (arith, few_messages n k.outcome.posting))) refl

-- so a run is refused by its first tests alone
pub run_roomy : (f : Facts) (n : ℕ) (ts : TaskTable) (s : Kept) (used : ℕ) → n ≤ 6 → used < 250 → (t : TaskId)
    → run_refusal f.codes f.tasks ts t ≡ (act_of (judged_run f n ts s used t)).answer
unfolding judged_run
run_roomy f n ts s used few room t =
    let k = ran_in f ts s t (instruction_in f.codes t (task_in ts t).pc) in
    let a = run_refusal f.codes f.tasks ts t in
    sym (ap (λ (v : Verdict). (act_of (unless_refused a v)).answer) (roomy n used few room k) ∙ said_of k a)

-- the answers of a rig that 9 does not refuse
module _ (r : System) (ok : system_ok r ≡ true) where
  run_ruled : (t : ℕ) → run_answer r (task_id t) ≡ step_answer r (run_step t)
  unfolding step_answer ruled_answer well_formed kind_answer
  run_ruled t = rw ok refl

  deliver_ruled : (p : ℕ) → deliver_answer r p ≡ step_answer r (deliver_step p)
  unfolding step_answer ruled_answer well_formed kind_answer
  deliver_ruled p = rw ok refl

  move_ruled : (t d : ℕ) → move_answer r (task_id t) (processor_id d) ≡ step_answer r (move_step t d)
  unfolding step_answer ruled_answer well_formed kind_answer
  move_ruled t d = rw ok refl

move_refused : (r : System) (t : TaskId) (e : ProcessorId) → move_refusal r.plan.tasks r.processors r.tasks r.network.used t e ≡ move_answer r t e
unfolding move_refusal move_answer moved fits
move_refused r t e = refl

-- a delivery, by the position of its letter
module _ (used p : ℕ) {q : ℕ} (at : q ≡ position_of used (deliver_step p)) where
  found : (b : Bool) → within 1 used p ≡ b → q ≡ pick b p 0
  unfolding position_of
  found b e = at ∙ rw e refl

  pub delivery_none : q ≡ 0 → (Err NoMessage) ≡ delivery_of used p
  delivery_none none = go (within 1 used p) refl
    where
      go : (b : Bool) → within 1 used p ≡ b → (Err NoMessage) ≡ delivery_of used p
      go true e = absurd (omega (arith, found true e, within_low 1 used p e))
      go false e = rw e refl

  pub delivery_some : q ≢ 0 → (Ok tt) ≡ delivery_of used p
  delivery_some some = go (within 1 used p) refl
    where
      go : (b : Bool) → within 1 used p ≡ b → (Ok tt) ≡ delivery_of used p
      go true e = rw e refl
      go false e = absurd (some (found false e))

-- runs and moves on parts that are those of rig r
module _ {n used : ℕ} {ts : TaskTable} (r : System) (o : system_ok r ≡ true) (d : n ≡ r.processors) (e : ts ≡ r.tasks) (m : used ≡ r.network.used) where
  run_said : {f : Facts} {s : Kept} → Shaped r → f ≡ facts_of r.plan → s ≡ kept_in r → (t : TaskId)
      → (act_of (judged_run f n ts s used t)).answer ≡ run_answer r t
  run_said z g k t = rw (g, d, e, k, m, run_answer_lem r (sound r z o) t) (said_of (ran_of r t (next_of r t)) (run_answer r t))

  move_said : {count : ℕ} → count ≡ r.plan.tasks → (t : TaskId) (b : ProcessorId) → move_refusal count n ts used t b ≡ move_answer r t b
  move_said g t b = rw (g, d, e, m) (move_refused r t b)

module _ {r : System} {codes numbers users : List ℕ} {n : Size} {l : Lent} (g : Lends r codes numbers users n l) where
  pub runs_as : RunsAs (facts_in n.tasks codes numbers users) n l r
  runs_as t = run_said r g.sound g.processors g.tasks g.messages g.shaped g.facts_of_lem g.kept (task_id t) ∙ run_ruled r g.sound t

  pub delivers_as : DeliversAs n.used r
  unfolding deliver_answer
  delivers_as p = ap (λ (u : ℕ). delivery_of u p) g.messages ∙ deliver_ruled r g.sound p

  pub moves_as : MovesAs (tasks_of l) n r
  moves_as t d =
      move_said r g.sound g.processors g.tasks g.messages (ap (λ (f : Facts). f.tasks) g.facts_of_lem) (task_id t) (processor_id d) ∙ move_ruled r g.sound t d
