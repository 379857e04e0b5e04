use mathlib.Core.List.{List}
use mathlib.Core.Path.{◌≡◌, refl, sym, ap, ◌∙◌}
use mathlib.Core.Bool.{true, false, Bool}
use mathlib.Core.Logic.{by_cases}
use Prim.Native.Nat.{ℕ, ◌+◌, ◌-◌}
use native.Mathlib.Decide.{ℕ_discrete}
use native.Mathlib.Omega.{arith}
use borrow.Author.Rules.{rules}
use Rattle.std.specs.Prelude.{Ok, Err, is_ok}
use Rattle.rules.specs.Answers.{is_accepted}
use Rattle.rules.specs.Answers.{StepAnswer}
use Rattle.rules.specs.declared.system.TaskTable.{TaskTable}
use Rattle.rules.specs.Numbers.{task_id}
use Rattle.rig_parts.specs.RunVerdicts.{run_refusal}
use Rattle.rig_parts.proofs.Answers.{not_accepted}
use Rattle.board.specs.Lent.{tasks_on}
use Rattle.finish.specs.Searches.{can_run}
use Rattle.finish.proofs.search.search.Goals as goal

-- an answer is Ok where it refuses nothing
ok_accepted : (q : StepAnswer) → is_ok q ≡ is_accepted q
ok_accepted (Ok tt) = refl
ok_accepted (Err q) = sym (not_accepted q)

-- whether a task can run, by what a run of it answers
asked : (codes : List ℕ) (count : ℕ) (ts : TaskTable) (t : ℕ) {q : StepAnswer} {r : Bool}
    → q ≡ run_refusal codes count ts (task_id t) → r ≡ is_ok q → can_run codes count ts t ≡ r
asked codes count ts t {q} e h = sym (h ∙ ok_accepted q ∙ ap is_accepted e)

pub loop-k-init : goal.loop-k-init
loop-k-init c = λ t l h. absurd (omega arith)

pub returns-then-is_ok : goal.returns-then-is_ok
returns-then-is_ok c =
    record { some = λ ne. (omega arith, omega arith, asked c.args.codes.now c.args.count (tasks_on c.args.board.now) (c.loop-k.k + 1) c.run_refusal.ensures c.is_ok.ensures.value ∙ c.if-is_ok.true); none = λ e. absurd (omega arith) }

pub loop-k-preserved : goal.loop-k-preserved
loop-k-preserved c =
    let k = c.loop-k.k in
    λ t low high.
    by_cases (ℕ_discrete t (k + 1))
    (λ (e : t ≡ k + 1). rw e (asked c.args.codes.now c.args.count (tasks_on c.args.board.now) (c.loop-k.k + 1) c.run_refusal.ensures c.is_ok.ensures.value ∙ c.if-is_ok.false))
    (λ ne. c.loop-k.invariant t low (omega arith))

pub returns : goal.returns
returns c = record { some = λ ne. absurd (omega arith); none = λ e t low high. c.loop-k.invariant t low (omega arith) }
