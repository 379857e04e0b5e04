-- A rule about one channel at one desk, applied to a rig without words.
use mathlib.Core.Path.{◌≡◌, refl, ap, ◌∙◌}
use mathlib.Core.Bool.{true}
use Prim.Native.Nat.{◌≤◌}
use Rattle.std.specs.Prelude.{Ok}
use Rattle.plan.specs.declared.TaskId.{TaskId}
use Rattle.plan.specs.declared.ProcessorId.{ProcessorId}
use Rattle.plan.specs.declared.ChannelId.{ChannelId}
use Rattle.plan.specs.Refusals.{plan_answer}
use Rattle.rules.specs.declared.rule.Site.{Site}
use Rattle.rules.specs.declared.rule.Outcome.{Outcome}
use Rattle.rules.specs.declared.system.System.{System}
use Rattle.rules.specs.Systems.{task_at, with_task, entry_at, channel_at, meaning, task_program}
use Rattle.rules.specs.Effects.{site_at, with_outcome, applied}
use Rattle.rules.specs.Sound.{last_ok}
use Rattle.rules.specs.Erasures.{erase}
use Rattle.erasure.specs.Erased.{erased_site, erased_outcome, erased_effect}
use Rattle.erasure.proofs.Places.{sending_erased, receiving_erased}
use Rattle.erasure.proofs.Systems.{task_erased, with_task_lem, with_cell_lem, program_of_lem}

-- what is asked of a rig, of all that 9 looks at: its plan is accepted, and a sending or receiving task has last executed such an instruction
pub record Readable (r : System) : Type 0 where
  pub plan : plan_answer (meaning r) ≡ Ok tt
  pub last : (t : TaskId) → t.0 ≤ r.plan.tasks → last_ok (task_program r t) (task_at r t) ≡ true

outcome_erased : (r : System) (s u : TaskId) (c : ChannelId) (d : ProcessorId) (o : Outcome)
    → with_outcome (erase r) s u c d (erased_outcome o) ≡ erased_effect (with_outcome r s u c d o)
unfolding with_outcome
outcome_erased r s u c d o =
    rw (with_task_lem r s o.sender, with_task_lem (with_task r s o.sender) u o.receiver, with_cell_lem (with_task (with_task r s o.sender) u o.receiver) d c o.cell) refl

module _ (r : System) (k : Readable r) (s u : TaskId) (hs : s.0 ≤ r.plan.tasks) (hu : u.0 ≤ r.plan.tasks) (c : ChannelId) (d : ProcessorId) where
  site_erased : site_at (erase r) s u c d ≡ erased_site (site_at r s u c d)
  unfolding site_at erase entry_at channel_at
  site_erased =
      rw (
        program_of_lem r k.plan s,
        program_of_lem r k.plan u,
        task_erased r s,
        task_erased r u,
        sending_erased (task_program r s) (task_at r s) (k.last s hs) c,
        receiving_erased (task_program r u) (task_at r u) (k.last u hu) c,
      )
      refl

  -- a rule of the rig, and the one that it is without words
  pub applied_erased : (rule bare : Site → Outcome) → ((x : Site) → bare (erased_site x) ≡ erased_outcome (rule x))
      → applied (erase r) s u c d bare ≡ erased_effect (applied r s u c d rule)
  applied_erased rule bare h =
      ap (λ x. with_outcome (erase r) s u c d (bare x)) site_erased
      ∙ ap (with_outcome (erase r) s u c d) (h (site_at r s u c d))
      ∙ outcome_erased r s u c d (rule (site_at r s u c d))
