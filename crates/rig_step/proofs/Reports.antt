-- What is decided of a step is what the step says.
use mathlib.Core.Path.{◌≡◌, refl, sym, ap, ◌∙◌, subst}
use mathlib.Core.List.{List}
use Prim.Native.Nat.{ℕ}
use Rattle.std.specs.Prelude.{Ok, Err}
use Rattle.rules.specs.declared.message.Network.{Network}
use Rattle.rules.specs.declared.step.Step.{Step}
use Rattle.rules.specs.declared.system.TaskTable.{TaskTable}
use Rattle.rig_parts.specs.declared.kept.Kept.{Kept}
use Rattle.rules.specs.Networks.{message_at, dequeued}
use Rattle.rig_parts.specs.Answers.{Verdict}
use Rattle.rig_parts.specs.Facts.{Facts, PartsOf}
use Rattle.rig_parts.specs.Openings.{opened_in}
use Rattle.rig_parts.specs.declared.turn.Turn.{Turn}
use Rattle.rig_parts.specs.Turns.{settled, carried_out, turn_of}
use Rattle.network.specs.Positions.{position_of}
use Rattle.board.specs.declared.act.Act.{Act}
use Rattle.board.specs.declared.act.Size.{Size}
use Rattle.board.specs.Lent.{Lent, tasks_of, kept_of}
use Rattle.board.specs.Rigs.{facts_in, RigOn}
use Rattle.rig_step.specs.Rigs.{RigWith}
use Rattle.board.specs.Acted.{act_of}
use Rattle.board.specs.Verdicts.{step_verdict}
use Rattle.run.proofs.all_steps.Acting.{report_of, other_turn, message_turn}

settled_says : (ss rs : List ℕ) (n : ℕ) (v : Verdict) (ts : TaskTable) (k : Network) (s : Kept) → report_of (act_of v) ≡ (settled ss rs n v ts k s).report
unfolding carried_out
settled_says ss rs n (Err q) ts k s = refl
settled_says ss rs n (Ok y) ts k s = refl

module _ (f : Facts) (n : ℕ) (ts : TaskTable) (k : Network) (s : Kept) (x : Step) where
  -- a step that delivers no letter
  pub other_says : position_of k.used x ≡ 0 → {r : Act} → r ≡ act_of (step_verdict f n ts s k.used x) → report_of r ≡ (turn_of f n ts k s x).report
  other_says none e =
      ap report_of e
      ∙ settled_says f.senders f.receivers n (step_verdict f n ts s k.used x) ts k s
      ∙ ap (λ (t : Turn). t.report) (other_turn f n ts k s x none)

  -- a step that delivers the letter at position p
  pub message_says : (p : ℕ) → p ≡ position_of k.used x → (p ≡ 0 → ⊥) → {r : Act} → r ≡ act_of (Ok (opened_in f ts s (message_at k p))) → report_of r ≡ (turn_of f n ts k s x).report
  message_says p at some e =
      ap report_of e
      ∙ settled_says f.senders f.receivers n (Ok (opened_in f ts s (message_at k p))) ts (dequeued k p) s
      ∙ ap (λ (t : Turn). t.report) (message_turn f n ts k s x p at some)

-- what is lent is a rig, whatever its mail
pub rig_on : {codes numbers users : List ℕ} {n : Size} {k : Network} {l : Lent} → RigWith codes numbers users n k l → RigOn codes numbers users n l
rig_on {codes} {numbers} {users} {n} {k} {l} g =
    record {
      whole = g.whole;
      parts = subst (λ (u : ℕ). PartsOf (facts_in n.tasks codes numbers users) n.processors (tasks_of l) (kept_of l) u) (sym g.messages) g.rig.parts;
      indexed = g.indexed;
    }
