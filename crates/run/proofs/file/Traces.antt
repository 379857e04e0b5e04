-- The steps on the parts of a rig that 9 does not refuse are its steps; their lines, those of the marked tasks and the last are the trace.
use mathlib.Core.Path.{◌≡◌, refl, sym, ◌∙◌, ap}
use mathlib.Core.Bool.{Bool}
use mathlib.Core.List.{List, [], ◌∷◌, ◌++◌, append_assoc}
use Prim.Native.Nat.{ℕ, ◌≤◌}
use Rattle.rules.specs.declared.message.Network.{Network}
use Rattle.rules.specs.declared.step.Report.{Report}
use Rattle.rules.specs.declared.step.Step.{Step}
use Rattle.rules.specs.declared.system.TaskTable.{TaskTable}
use Rattle.rules.specs.declared.system.System.{System}
use Rattle.rig_parts.specs.declared.kept.Kept.{Kept}
use Rattle.rules.specs.Steps.{History, steps_by, steps, ruled_steps, quiescent}
use Rattle.rules.specs.Trace.{step_lines, over_lines, end_line}
use Rattle.rules.specs.StepFiles.{trace_lines}
use Rattle.rules_sound.proofs.Sound.{sound}
use Rattle.rules_sound.proofs.Kept.{ruled_steps_lem}
use Rattle.rig_parts.specs.Facts.{Facts}
use Rattle.rig_parts.specs.Rests.{rest_in}
use Rattle.rig_parts.specs.Turns.{Rig, turn_of}
use Rattle.rig_parts.proofs.Rigs.{rig_turn, rig_next, rig_next_system, rig_rest}
use Rattle.trace.specs.Lines.{end_text}
use Rattle.trace.proofs.Lines.{end_of}
use Rattle.run.specs.all_steps.Writes.{Turns, turns_of, RanTo, WrittenBy, LinesNext, LineNext}
use Rattle.run.specs.file.Writes.{mark_lines}

-- the parts then are those of a rig, which is what the steps leave, and these are their reports
pub record Stood (f : Facts) (n : ℕ) (h : Turns) (w : History) : Type 0 where
  pub rig : Rig f n h.tasks h.network h.kept
  pub system : rig.parts.system ≡ w.system
  pub reports : h.reports ≡ w.reports

stood : (f : Facts) (n : ℕ) {ts : TaskTable} {k : Network} {s : Kept} (g : Rig f n ts k s) (xs : List Step)
    → Stood f n (turns_of f n ts k s xs) (ruled_steps g.parts.system xs)
unfolding turns_of steps_by
stood f n {ts = ts} {k = k} {s = s} g [] = record { rig = g; system = refl; reports = refl }
stood f n {ts = ts} {k = k} {s = s} g (x ∷ xs) =
    let t = turn_of f n ts k s x in
    let i = stood f n {ts = t.tasks} {k = t.network} {s = t.kept} (rig_next g x) xs in
    let e = rig_next_system g x in
    record { rig = i.rig; system = i.system ∙ rw e refl; reports = rw (i.reports, e, rig_turn g x) refl }

-- the mail is never over-full
pub rig_messages : {f : Facts} {n : ℕ} {ts : TaskTable} {k : Network} {s : Kept} → Rig f n ts k s → k.used ≤ 256
rig_messages g = rw g.network (sound g.parts.system g.parts.shaped g.parts.sound).network.used

-- the lines of reports, of the marked tasks and the last line, of a rig
lines_of : {hs ps : List Report} {ts : TaskTable} {m used : ℕ} {b : Bool} (r : System)
    → hs ≡ ps → ts ≡ r.tasks → m ≡ r.plan.tasks → b ≡ quiescent r → used ≡ r.network.used
    → (step_lines 0 hs ++ mark_lines ts m) ++ (end_text b used ∷ []) ≡ step_lines 0 ps ++ (over_lines r ++ (end_line r ∷ []))
unfolding over_lines mark_lines
lines_of {ps = ps} r eh et em eb eu =
    rw (eh, et, em, eb, eu, end_of r) (append_assoc (step_lines 0 ps) (over_lines r) (end_text (quiescent r) r.network.used ∷ []))

-- the trace of a rig, by its parts
module _ {f : Facts} {n : ℕ} {ts : TaskTable} {k : Network} {s : Kept} (g : Rig f n ts k s) (xs : List Step) where
  abbrev pub ran_in : Turns
  ran_in = turns_of f n ts k s xs

  pub stood_in : Stood f n ran_in (steps g.parts.system xs)
  stood_in = rw (ruled_steps_lem g.parts.system xs g.parts.shaped g.parts.sound) at (stood f n g xs)

  trace_lines_lem : (b : Bool) → b ≡ rest_in f n ran_in.tasks ran_in.kept ran_in.network.used
      → trace_lines g.parts.system xs ≡ (step_lines 0 ran_in.reports ++ mark_lines ran_in.tasks f.tasks) ++ (end_text b ran_in.network.used ∷ [])
  unfolding trace_lines
  trace_lines_lem b e =
      let w = stood_in in
      let p = w.rig.parts in
      sym (lines_of (steps g.parts.system xs).system w.reports
      (p.tasks ∙ ap (λ (r : System). r.tasks) w.system)
      (ap (λ (x : Facts). x.tasks) p.facts_of_lem ∙ ap (λ (r : System). r.plan.tasks) w.system)
      (e ∙ rig_rest w.rig ∙ ap quiescent w.system)
      (ap (λ (q : Network). q.used) w.rig.network ∙ ap (λ (r : System). r.network.used) w.system))

  module _ {before : List ℕ} {all : TaskTable} {network : Network} {kept : Kept} {progress mid : List ℕ} (h : RanTo ran_in before all network kept progress mid) where
    pub ran_rig : Rig f n (all) (network) kept
    ran_rig = rw (h.tasks, h.network, h.kept) stood_in.rig

    -- the lines of the marked tasks and the last behind those of the steps
    pub driven : {marked after-marks last after : List ℕ} (b : Bool) → b ≡ rest_in f n (all) kept network.used
        → LinesNext (mark_lines all f.tasks) progress mid marked after-marks → LineNext (end_text b network.used) marked after-marks last after
        → WrittenBy (trace_lines g.parts.system xs) before last after
    driven b e m t =
        rw (trace_lines_lem b (rw (h.tasks, h.network, h.kept) at e))
        ((rw h.network at t).more _ before ((rw h.tasks at m).more _ before h.lines))
