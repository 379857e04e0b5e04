-- The parts of a rig that 9 does not refuse are at rest where no run is accepted.
use mathlib.Core.Path.{◌≡◌, refl}
use mathlib.Core.Bool.{true, false, not, ◌&&◌}
use mathlib.Core.Logic.{by_cases}
use Prim.Native.Nat.{ℕ, suc, ◌+◌, ◌≤◌}
use native.Mathlib.Omega.{arith}
use native.Mathlib.Decide.{ℕ_discrete}
use lib.ListN.{length}
use borrow.Author.Tests.{ne_eqb, le-leb}
use Rattle.base.proofs.Folds.{fold_same}
use Rattle.plan.specs.declared.TaskId.{TaskId}
use Rattle.rules.specs.declared.system.TaskTable.{TaskTable}
use Rattle.rig_parts.specs.declared.kept.Kept.{Kept}
use Rattle.rules.specs.Numbers.{task_id}
use Rattle.rules.specs.Answers.{is_accepted}
use Rattle.rules.specs.Networks.{messages_of}
use Rattle.rules_laws.proofs.Messages.{few_messages}
use Rattle.rig_parts.specs.declared.change.Change.{Change}
use Rattle.rig_parts.specs.Facts.{Facts, PartsOf}
use Rattle.rig_parts.specs.RunVerdicts.{run_refusal, judged_run, fitting_in, ran_in}
use Rattle.rig_parts.specs.Rests.{is_refused, rest_in}
use Rattle.rig_parts.proofs.AtRest.{refused_by}
use Rattle.rig_parts.proofs.BoundsParts.{processors_few}
use Rattle.rig_parts.proofs.BoundsReady.{next_at}
use Rattle.rig.specs.rest.Rests.{quiet_in}
use Rattle.rig.proofs.rest.Quiet.{stuck_after}

-- with no letter in the mail there is room for what a rule posts
fits : (n : ℕ) → n ≤ 6 → (k : Change) → is_refused (fitting_in n 0 k) ≡ false
fits n few k =
    let m = length (messages_of n k.outcome.posting) in
    rw (le-leb (0 + m) 256 (omega (arith, few_messages n k.outcome.posting))) refl

-- so the first tests alone refuse
run_stuck : (f : Facts) (n : ℕ) (ts : TaskTable) (s : Kept) → n ≤ 6 → (t : TaskId)
    → is_refused (judged_run f n ts s 0 t) ≡ not (is_accepted (run_refusal f.codes f.tasks ts t))
unfolding judged_run
run_stuck f n ts s few t =
    let k = ran_in f ts s t (next_at f ts t) in
    refused_by (run_refusal f.codes f.tasks ts t) (fitting_in n 0 k) (fits n few k)

pub rest_quiet : {f : Facts} {n : ℕ} {ts : TaskTable} {s : Kept} {used : ℕ} → PartsOf f n ts s used
    → rest_in f n ts s used ≡ quiet_in f.tasks f.codes ts used
unfolding rest_in quiet_in
rest_quiet {f} {n} {ts} {s} {used} p =
    by_cases
    (ℕ_discrete used 0)
    (λ (e : used ≡ 0).
    rw e
    (fold_same ◌&&◌ true f.tasks (λ k. is_refused (judged_run f n ts s 0 (task_id (suc k)))) (stuck_after f.tasks f.codes ts)
    (λ k l. run_stuck f n ts s (processors_few p) (task_id (suc k)))))
    (λ e. rw (ne_eqb used 0 e) refl)
