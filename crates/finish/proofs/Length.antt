-- How long the answer can be: at most 9 bytes for the first line (`yes 4096`) and 6 for each of 64 tasks (`63 64`).
use mathlib.Core.Path.{◌≡◌, refl, sym, ap, ◌∙◌}
use mathlib.Core.Bool.{Bool, true, false}
use mathlib.Core.List.{List, [], ◌∷◌, ◌++◌, map, map-append}
use Prim.Native.Nat.{ℕ, zero, suc, ◌+◌, ◌*◌, ◌≤◌, ◌<◌}
use native.Mathlib.Omega.{arith}
use lib.ListN.{length, length-append}
use Rattle.std.specs.Prelude.{Ok}
use Rattle.base.specs.Choice.{pick}
use Rattle.base.specs.Range.{fold, joined}
use Rattle.base.proofs.Choices.{pick_either}
use Rattle.base.proofs.Sums.{sum_at_most}
use Rattle.plan.specs.declared.Plan.{Plan}
use Rattle.plan.specs.declared.TaskId.{TaskId}
use Rattle.plan.specs.Kinds.{op_send, op_receive}
use Rattle.plan.specs.Layout.{count_of}
use Rattle.plan.specs.Programs.{programs}
use Rattle.plan.specs.Refusals.{plan_answer}
use Rattle.plan.proofs.Parts.{tasks_of_lem}
use Rattle.plan_laws.proofs.Canonical.{fits}
use Rattle.plan_laws.proofs.Programs.{user_few}
use Rattle.rules.specs.declared.step.Step.{Step}
use Rattle.rules.specs.declared.task.TaskState.TheVariants.{Sending, Receiving}
use Rattle.rules.specs.declared.system.System.{System}
use Rattle.rules.specs.Numbers.{task_id}
use Rattle.rules.specs.Tasks.{is_in}
use Rattle.rules.specs.Places.{last_in}
use Rattle.rules.specs.Systems.{task_at, task_program, meaning}
use Rattle.rules.specs.Finish.{is_stuck, verdict, depends_on, Stuck, stuck_at, stuck_list, stuck_line, verdict_line, finish_lines}
use Rattle.rules.specs.StepFiles.{text}
use Rattle.trace.specs.Lines.{verdict_word}
use Rattle.trace.proofs.Decimals.{few_digits}
use Rattle.trace.proofs.Lines.{verdict_length}
use Rattle.trace.proofs.Putting.{two_length}
use Rattle.trace.proofs.Texts.{text_append}
use Rattle.claim.specs.Statement.{from}
use Rattle.claim.specs.Work.{work_of}
use Rattle.claim.proofs.Demand3.{demand_3}
use Rattle.claim.proofs.Lowest.{lowest_few}
use Rattle.claim.proofs.Whole.{list_kept}
use Rattle.finish.specs.Files.{lines_after, longest_answer}

stuck_short : (t u : ℕ) → t ≤ 64 → u ≤ 64 → length (stuck_line (record { task = task_id t; on = task_id u })) ≤ 6
unfolding stuck_line
stuck_short t u a b = omega (arith, two_length t u, few_digits 1 t (omega arith), few_digits 1 u (omega arith))

verdict_short : (b : Bool) (n : ℕ) → n ≤ 4096 → length (verdict_line b n) ≤ 9
verdict_short b n l = omega (arith, verdict_length b n, few_digits 3 n (omega arith), word b)
  where
    word : (b : Bool) → length (verdict_word b) ≤ 3
    word true = omega arith
    word false = omega arith

-- the lines of the list, each task depending on one of 64
list_short : (r : System) → ((t : TaskId) → (depends_on r t).0 ≤ 64) → (n : ℕ) → n ≤ 64
    → length (text (map stuck_line (joined n (λ k. stuck_at r (task_id (suc k)))))) ≤ 6 * n
unfolding fold text stuck_at
list_short r few zero l = omega arith
list_short r few (suc n) l =
    let front = joined n (λ k. stuck_at r (task_id (suc k))) in
    let t = task_id (suc n) in
    let last = stuck_at r t in
    let one : length (text (map stuck_line last)) ≤ 6 =
    pick_either (λ (xs : List Stuck). length (text (map stuck_line xs)) ≤ 6) (is_stuck (task_at r t)) (record { task = t; on = depends_on r t } ∷ []) []
    (omega (arith, stuck_short (suc n) (depends_on r t).0 l (few t), length-append (stuck_line (record { task = t; on = depends_on r t })) []))
    (omega arith) in
    rw (map-append stuck_line front last, text_append (map stuck_line front) (map stuck_line last))
    (omega (arith, length-append (text (map stuck_line front)) (text (map stuck_line last)), list_short r few n (omega arith), one))

module _ (n : ℕ) (p : Plan) (ss : List Step) (some : 1 ≤ n) (few : n ≤ 6) (a : plan_answer (programs p) ≡ Ok tt) where
  abbrev rig : System
  rig = (from n p ss).system

  plan : rig.plan ≡ p
  plan = (list_kept n p some few a ss).plan

  depends_few : (t : TaskId) → (depends_on rig t).0 ≤ 64
  unfolding depends_on
  depends_few t =
      let m = (fits (programs p) a).few in
      let same : length (meaning rig) ≡ length (programs p) = ap (λ (z : Plan). length (programs z)) plan in
      let P : TaskId → Type 0 = λ u. u.0 ≤ 64 in
      let x = task_at rig t in
      let c = (last_in (task_program rig t) x).operand in
      pick_either P (is_in Sending x) _ _ (omega (arith, m, same, user_few (meaning rig) op_receive c))
      (pick_either P (is_in Receiving x) _ _ (omega (arith, m, same, user_few (meaning rig) op_send c)) (lowest_few 64 x.children))

  pub lines_short : length (text (lines_after n p ss)) ≤ longest_answer
  unfolding finish_lines stuck_list text
  lines_short =
      let m = programs p in
      let fine = fits m a in
      let most = sum_at_most 64 (length m) (count_of m) (λ k l. fine.short k) in
      let tasks = fine.few in
      let count : rig.plan.tasks ≡ length m = ap (λ (z : Plan). z.tasks) plan ∙ sym (tasks_of_lem p) in
      let runs = (demand_3 n p ss some few a).few_runs in
      let first = verdict_line (verdict rig) (work_of n p ss) in
      let rest = text (map stuck_line (joined rig.plan.tasks (λ k. stuck_at rig (task_id (suc k))))) in
      omega (arith, length-append first rest, verdict_short (verdict rig) (work_of n p ss) (omega (arith, runs, most)), list_short rig depends_few rig.plan.tasks (omega arith))
