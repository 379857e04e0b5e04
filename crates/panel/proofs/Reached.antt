-- What a run leaves of what is lent is the rig that its steps reach.
use mathlib.Core.Path.{◌≡◌, sym, ap, ◌∙◌}
use mathlib.Core.List.{List}
use Prim.Native.Nat.{ℕ}
use Rattle.rules.specs.declared.message.Network.{Network}
use Rattle.rules.specs.declared.step.Step.{Step}
use Rattle.rules.specs.declared.system.System.{System}
use Rattle.rules.specs.declared.system.TaskTable.{TaskTable}
use Rattle.rules.specs.Panel.{panel_steps, panel}
use Rattle.rules.specs.Steps.{steps}
use Rattle.rig_parts.specs.declared.kept.Kept.{Kept}
use Rattle.rig_parts.specs.Facts.{Facts}
use Rattle.rig_parts.specs.Turns.{Rig}
use Rattle.board.specs.Lent.{Lent, tasks_of, kept_of}
use Rattle.board.specs.Rigs.{facts_in}
use Rattle.run.specs.all_steps.Writes.{turns_of, RanTo}
use Rattle.run.proofs.file.Traces.{stood_in}
use Rattle.panel_laws.specs.Tallies.{tallied}
use Rattle.panel_laws.proofs.Tallies.{panel_counts}
use Rattle.panel_laws.proofs.Inside.{inside}
use Rattle.panel.specs.Counted.{Lends}

module _ (codes numbers users : List ℕ) (count n : ℕ) {ts : TaskTable} {k : Network} {s : Kept} (g : Rig (facts_in count codes numbers users) n ts k s) (xs : List Step)
    (l : Lent) (k' : Network) {before progress after : List ℕ}
    (h : RanTo (turns_of (facts_in count codes numbers users) n ts k s xs) before (tasks_of l) k' (kept_of l) progress after) where
  abbrev then_rig : System
  then_rig = (steps g.parts.system xs).system

  pub run_lends : Lends then_rig codes numbers users (record { tasks = count; processors = n; used = k'.used }) l
  run_lends =
      let w = stood_in g xs in
      let p = w.rig.parts in
      let e = w.system in
      record {
        shaped = rw e at p.shaped;
        sound = rw e at p.sound;
        facts_of_lem = rw e at p.facts_of_lem;
        processors = rw e at p.processors;
        tasks = h.tasks ∙ (rw e at p.tasks);
        kept = h.kept ∙ (rw e at p.kept);
        messages = ap (λ (q : Network). q.used) h.network ∙ (rw e at p.messages);
      }

  -- so its counts are the panel
  pub run_shows : (q : List ℕ) → q ≡ tallied then_rig (panel_steps count n) → q ≡ panel then_rig
  run_shows q e =
      let there = run_lends in
      e
      ∙ ap (λ (m : ℕ). tallied then_rig (panel_steps m n)) (ap (λ (f : Facts). f.tasks) there.facts_of_lem)
      ∙ ap (λ (d : ℕ). tallied then_rig (panel_steps then_rig.plan.tasks d)) there.processors
      ∙ sym (panel_counts then_rig (inside then_rig there.sound))
