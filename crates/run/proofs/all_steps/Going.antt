-- The loop over a list of steps: what the first of them have left and written.
use mathlib.Core.Path.{◌≡◌, refl, ◌∙◌}
use mathlib.Core.List.{List, [], ◌∷◌, ◌++◌}
use Prim.Native.Nat.{ℕ, ◌+◌, ◌≤◌}
use native.Mathlib.Nat.{zero-add}
use native.Mathlib.Numerals.{add-one}
use lib.ListN.{length}
use Rattle.base.specs.Lists.{table, table_before}
use Rattle.base.proofs.Tables.{table_more, length_table}
use Rattle.rules.specs.declared.message.Network.{Network}
use Rattle.rules.specs.declared.step.Step.{Step}
use Rattle.rules.specs.declared.system.TaskTable.{TaskTable}
use Rattle.rig_parts.specs.declared.kept.Kept.{Kept}
use Rattle.rules.specs.Trace.{step_line, step_lines}
use Rattle.rules.specs.StepFiles.{text}
use Rattle.rig_parts.specs.Facts.{Facts}
use Rattle.rig_parts.specs.declared.turn.Turn.{Turn}
use Rattle.rig_parts.specs.Turns.{turn_of, Rig}
use Rattle.rig_parts.proofs.Rigs.{rig_next}
use Rattle.trace.proofs.Filling.{filled_none}
use Rattle.trace.proofs.Texts.{step_lines_more}
use Rattle.run.specs.all_steps.Writes.{Turns, turns_of, RanTo, WrittenBy, LineNext, filled_by}
use Rattle.run.proofs.all_steps.Fits.{filled_written, written_room, written_length}
use Rattle.run.proofs.all_steps.Turns.{turns_append, turns_reports}

module _ (f : Facts) (n : ℕ) (ts : TaskTable) (k : Network) (s : Kept) (at : ℕ → Step) where
  -- what the first j steps leave
  abbrev pub first_turns : ℕ → Turns
  first_turns j = turns_of f n ts k s (table j at)

  -- the lines of the first j steps
  abbrev pub first_lines : ℕ → List (List ℕ)
  first_lines j = step_lines 0 (first_turns j).reports

  -- the parts then are a rig's, and the lines of those steps are written into o
  pub record Going (o : List ℕ) (j : ℕ) (all : TaskTable) (messages : Network) (store : Kept) (progress out : List ℕ) : Type 0 where
    pub rig : Rig f n all messages store
    pub tasks : all ≡ (first_turns j).tasks
    pub network : messages ≡ (first_turns j).network
    pub kept : store ≡ (first_turns j).kept
    pub lines : WrittenBy (first_lines j) o progress out
    pub two : length progress ≡ 2

  pub going_start : (o progress : List ℕ) → progress ≡ 0 ∷ 0 ∷ [] → Rig f n ts k s → Going o 0 ts k s progress o
  unfolding table table_before turns_of step_lines text
  going_start o progress e g = rw e (record { rig = g; tasks = refl; network = refl; kept = refl; lines = filled_written [] (filled_none o); two = refl })

  module _ {o : List ℕ} {j : ℕ} {all : TaskTable} {messages : Network} {store : Kept} {progress out : List ℕ} (g : Going o j all messages store progress out) where
    pub going_room : filled_by progress ≤ length out
    going_room = written_room g.lines

    pub going_length : length out ≡ length o
    going_length = written_length g.lines

    pub going_done : RanTo (first_turns j) o all messages store progress out
    going_done = record { lines = g.lines; two = g.two; tasks = g.tasks; network = g.network; kept = g.kept }

    -- a step more
    module _ {t : Turn} (q : t ≡ turn_of f n all messages store (at j)) where
      abbrev line : List ℕ
      line = step_line (j + 1) t.report

      more_turns : first_turns (j + 1)
          ≡ record { reports = (first_turns j).reports ++ (t.report ∷ []); tasks = t.tasks; network = t.network; kept = t.kept }
      more_turns =
          rw (table_more j at, turns_append f n ts k s (table j at) (at j ∷ []), ← g.tasks, ← g.network, ← g.kept, q) (unfold turns_of in refl)

      more_lines : first_lines (j + 1) ≡ first_lines j ++ (line ∷ [])
      more_lines =
          rw (more_turns, step_lines_more 0 (first_turns j).reports t.report, turns_reports f n ts k s (table j at), length_table j at, zero-add j, add-one j)
          refl

      pub going_more : {progress' out' : List ℕ} → LineNext line progress out progress' out' → Going o (j + 1) t.tasks t.network t.kept progress' out'
      going_more e =
          record {
            rig = rw q (rig_next g.rig (at j));
            tasks = rw more_turns refl;
            network = rw more_turns refl;
            kept = rw more_turns refl;
            lines = rw more_lines (e.more (first_lines j) o g.lines);
            two = e.long ∙ g.two;
          }
