-- A rule about one channel, applied: its site is fine, and with a fine outcome the rig stands.
use mathlib.Core.Path.{◌≡◌}
use mathlib.Core.Bool.{true}
use mathlib.Core.Logic.{by_cases}
use Prim.Native.Nat.{◌≤◌}
use native.Mathlib.Omega.{arith}
use native.Mathlib.Decide.{ℕ_discrete}
use lib.Dec.{eqb}
use Rattle.base.proofs.Tests.{and_left}
use Rattle.plan.specs.declared.TaskId.{TaskId}
use Rattle.plan.specs.declared.ProcessorId.{ProcessorId}
use Rattle.plan.specs.declared.ChannelId.{ChannelId}
use Rattle.plan.specs.Programs.{Program}
use Rattle.rules.specs.declared.task.Task.{Task}
use Rattle.rules.specs.declared.task.TaskState.{TaskState}
use Rattle.rules.specs.declared.rule.Site.{Site}
use Rattle.rules.specs.declared.rule.Posting.{Posting}
use Rattle.rules.specs.declared.rule.Outcome.{Outcome}
use Rattle.rules.specs.declared.system.System.{System}
use Rattle.rules.specs.Tasks.{is_in}
use Rattle.rules.specs.Places.{last_in, is_on}
use Rattle.rules.specs.Systems.{task_at, with_task, task_in}
use Rattle.rules.specs.Effects.{site_at, with_outcome, applied}
use Rattle.rules.specs.Sound.{task_ok}
use Rattle.rules_sound.specs.Sites.{FineSite, FineOutcome}
use Rattle.rules_sound.specs.Sound.{program_in}
use Rattle.rules_sound.specs.Stands.{Whole, FineEffect}
use Rattle.rules_sound.proofs.Rigs.{task_stands, cell_fine, cell_stands, same_stands}
use Rattle.rules_sound.proofs.Origins.{origin_kept}

on_in : (s : TaskState) (g : Program) (c : ChannelId) (x : Task) → is_on s g c x ≡ true → is_in s x ≡ true
unfolding is_on
on_in s g c x h = and_left (is_in s x) (eqb (last_in g x).operand c.0) h

module _ (r : System) (w : Whole r) where
  -- a task that is at a desk is one of the rig's
  pub here_fine : (t : TaskId) → t.0 ≤ r.plan.tasks → 1 ≤ (task_at r t).processor.0 → task_ok r.processors r.plan.tasks (program_in r.plan t) (task_at r t) ≡ true
  unfolding task_in
  here_fine t h l =
      by_cases
      (ℕ_discrete t.0 0)
      (λ (e : t.0 ≡ 0). absurd (let z : 1 ≤ 0 = rw e at l in omega arith))
      (λ e. w.holds.tasks t (omega arith) h)

  module _ (few : r.plan.tasks ≤ 64) (s u : TaskId) (sh : s.0 ≤ r.plan.tasks) (uh : u.0 ≤ r.plan.tasks)
      (c : ChannelId) (d : ProcessorId) (dl : 1 ≤ d.0) (dh : d.0 ≤ 6) (cl : 1 ≤ c.0) (ch : c.0 ≤ 128) where
    site_fine : FineSite r.processors r.plan.tasks (program_in r.plan u) (site_at r s u c d)
    unfolding site_at
    site_fine =
        record {
          here = here_fine u uh;
          sending = on_in _ _ c (task_at r s);
          receiving = on_in _ _ c (task_at r u);
          cell = cell_fine _ _ _ r w d c dl dh cl ch;
        }

    module _ (Q : Posting → Type 0) where
      outcome_fine : (o : Outcome) → FineOutcome r.processors r.plan.tasks (program_in r.plan s) (program_in r.plan u) Q (site_at r s u c d) o
          → FineEffect r.processors r.plan r.network Q (with_outcome r s u c d o)
      unfolding site_at with_outcome
      outcome_fine o f =
          let n = r.processors in
          let p = r.plan in
          let k = r.network in
          let first = same_stands n p k r w few s o.sender sh (λ l. f.sender (w.holds.tasks s l sh)) f.sender_origin in
          let both =
          task_stands n p k (with_task r s o.sender) first few u o.receiver uh (λ l. f.receiver (w.holds.tasks u l uh))
          (λ l. origin_kept n u.0 (task_at r u) o.receiver f.receiver_origin (w.holds.origins u l uh)) in
          record { system = cell_stands n p k (with_task (with_task r s o.sender) u o.receiver) both d c dl dh cl ch o.cell f.cell; posting = f.posting }

      -- a rule that leaves a fine outcome at each fine site
      pub applied_fine : (rule : Site → Outcome)
          → (FineSite r.processors r.plan.tasks (program_in r.plan u) (site_at r s u c d)
          → FineOutcome r.processors r.plan.tasks (program_in r.plan s) (program_in r.plan u) Q (site_at r s u c d) (rule (site_at r s u c d)))
          → FineEffect r.processors r.plan r.network Q (applied r s u c d rule)
      applied_fine rule h = outcome_fine (rule (site_at r s u c d)) (h site_fine)
