-- A move: what is computed on the parts of a rig is what the rules say of the rig.
use mathlib.Core.Path.{◌≡◌, refl, sym}
use Prim.Native.Nat.{◌+◌}
use Rattle.plan.specs.declared.TaskId.{TaskId}
use Rattle.plan.specs.declared.ProcessorId.{ProcessorId}
use Rattle.rules.specs.declared.system.System.{System}
use Rattle.rules.specs.Tasks.{departed}
use Rattle.rules.specs.Cells.{hint}
use Rattle.rules.specs.Systems.{task_at, with_task}
use Rattle.rules.specs.Runs.{fits}
use Rattle.rules.specs.Moves.{moved, move_answer}
use Rattle.rig_parts.specs.declared.sweep.Sweep.TheVariants.{Departure}
use Rattle.rig_parts.specs.MoveVerdicts.{move_change, move_refusal, judged_move}
use Rattle.rig_parts.specs.Effects.{effect_of}
use Rattle.rig_parts.specs.Answers.{verdict_of}
use Rattle.rig_parts.proofs.Effects.{alone_effect}
use Rattle.rig_parts.proofs.Sweeps.{departure_swept}

module _ (r : System) (t : TaskId) (e : ProcessorId) where
  pub move_effect : moved r t e ≡ effect_of r (move_change t (task_at r t) e)
  unfolding moved
  move_effect =
      let x = task_at r t in
      let d = x.processor in
      let h = hint e (x.moves + 1) in
      rw (departure_swept (with_task r t (departed x)) t d h) (sym (alone_effect r d _ t (Departure t d h)))

  pub move_answer_lem : judged_move r.plan.tasks r.processors r.tasks r.network.used t e ≡ verdict_of (move_change t (task_at r t) e) (move_answer r t e)
  unfolding judged_move move_refusal move_answer fits effect_of
  move_answer_lem = rw (move_effect) refl
