-- `move_refusal`: each test in its order.
use mathlib.Core.Path.{◌≡◌, refl, sym, ap, ◌∙◌}
use mathlib.Core.Bool.{true, false}
use Prim.Native.Nat.{◌<◌}
use native.Mathlib.Nat.{lt_of_le_of_lt}
use native.Mathlib.Omega.{arith}
use lib.Dec.{eqb}
use borrow.Author.Rules.{rules}
use borrow.Author.Tests.{not-true, not-false, eq-eqb, ne_eqb}
use Rattle.base.specs.Choice.{within}
use Rattle.base.proofs.Tests.{within_high}
use Rattle.rules.specs.declared.task.Task.{Task}
use Rattle.rules.specs.declared.task.TaskState.TheVariants.{Ready}
use Rattle.rules.specs.Numbers.{processor_id}
use Rattle.rules.specs.Tasks.{is_in, is_at}
use Rattle.rules.specs.Systems.{task_in}
use Rattle.rig_parts.specs.MoveVerdicts.{move_refusal}
use Rattle.board.specs.Lent.{tasks_on}
use Rattle.steps.proofs.Moving.{one_fits, one_over}
use Rattle.steps.proofs.Acting.{tested}
use Rattle.steps.proofs.moves.move_refusal.Goals as goal
use Rattle.steps.proofs.moves.move_refusal.Goals.{After-is_at, After-is_in, After-is_within, After-is_within-2, Else-is_at, Else-not-is_in, Else-not-is_within, Else-not-is_within-2, Else-x-eq9999, Start}

-- where each test comes from
abbrev first : After-is_within → Start
first c = c.before.before.before

abbrev second : After-is_within-2 → Else-not-is_within
second c = c.before.before.before

abbrev fetched : After-is_in → Else-not-is_within-2
fetched c = c.before.before

abbrev from2 : Else-not-is_within-2 → Start
from2 c = first (second c.before).before

abbrev from3 : Else-not-is_in → Start
from3 c = from2 (fetched c.before)

abbrev from4 : Else-is_at → Start
from4 c = from3 c.before.before

abbrev from5 : Else-x-eq9999 → Start
from5 c = from4 c.before.before

-- a number of desks has 8 bits
narrow : (s : Start) → s.args.n.processors < 256
narrow s = search rules

-- the task that is asked for
abbrev found : Start → Task
found s = task_in (tasks_on s.args.board.now) s.args.t

-- what each test says
numbered : (c : After-is_within) → c.is_within.result ≡ within 1 (first c).args.n.tasks (first c).args.t.0
numbered c = tested c.is_within.ensures c.wide8.ensures c.wide8-2.ensures

placed : (c : After-is_within-2) → c.is_within-2.result ≡ within 1 (first (second c).before).args.n.processors (first (second c).before).args.to
placed c = tested c.is_within-2.ensures c.wide8-3.ensures c.wide16.ensures

readied : (c : After-is_in) → c.is_in.result ≡ is_in Ready (found (from2 (fetched c)))
readied c = c.is_in.ensures ∙ ap (is_in Ready) c.task_at-x.ensures

there : (c : After-is_at) → c.is_at.result ≡ is_at (processor_id (from3 c.before).args.to) (found (from3 c.before))
there c = c.is_at.ensures ∙ ap (is_at (processor_id (from3 c.before).args.to)) c.task_at-x.ensures

moves_are : (c : Else-is_at) → c.task_at-x.result.moves ≡ (found (from4 c)).moves
moves_are c = ap (λ (x : Task). x.moves) c.task_at-x.ensures

-- what a test that is passed says
in_count : (c : Else-not-is_within) → within 1 (first c.before).args.n.tasks (first c.before).args.t.0 ≡ true
in_count c = sym (numbered c.before) ∙ not-false _ c.if-not-is_within.false-raw

to_processor : (c : Else-not-is_within-2) → within 1 (from2 c).args.n.processors (from2 c).args.to ≡ true
to_processor c = sym (placed c.before) ∙ not-false _ c.if-not-is_within-2.false-raw

ready : (c : Else-not-is_in) → is_in Ready (found (from3 c)) ≡ true
ready c = sym (readied c.before) ∙ not-false _ c.if-not-is_in.false-raw

elsewhere : (c : Else-is_at) → is_at (processor_id (from4 c).args.to) (found (from4 c)) ≡ false
elsewhere c = sym (there c.before) ∙ c.if-is_at.false

unspent : (c : Else-x-eq9999) → eqb (found (from5 c)).moves 9999 ≡ false
unspent c = ap (λ k. eqb k 9999) (sym (moves_are c.before.before)) ∙ ne_eqb _ _ c.if-x-eq9999.false

pub returns-then-not-is_within : goal.returns-then-not-is_within
unfolding move_refusal
returns-then-not-is_within c = rw (sym (numbered c.before) ∙ not-true _ c.if-not-is_within.true-raw) refl

pub returns-then-not-is_within-2 : goal.returns-then-not-is_within-2
unfolding move_refusal
returns-then-not-is_within-2 c = rw (in_count (second c.before), sym (placed c.before) ∙ not-true _ c.if-not-is_within-2.true-raw) refl

pub task_at-x-requires : goal.task_at-x-requires
task_at-x-requires c = omega (arith, (from2 c).requires, within_high 1 (from2 c).args.n.tasks (from2 c).args.t.0 (in_count (second c.before)))

pub overflow_cast-e : goal.overflow_cast-e
overflow_cast-e c = record { fits = lt_of_le_of_lt (within_high 1 _ _ (to_processor c.before)) (narrow (from2 c.before)) }

pub returns-then-not-is_in : goal.returns-then-not-is_in
unfolding move_refusal
returns-then-not-is_in c =
    let s = fetched c.before in
    rw (in_count (second s.before), to_processor s, sym (readied c.before) ∙ not-true _ c.if-not-is_in.true-raw) refl

pub returns-then-is_at : goal.returns-then-is_at
unfolding move_refusal
returns-then-is_at c =
    let r = c.before.before in
    let s = fetched r.before in
    rw (in_count (second s.before), to_processor s, ready r, sym (there c.before) ∙ c.if-is_at.true) refl

pub returns-then-x-eq9999 : goal.returns-then-x-eq9999
unfolding move_refusal
returns-then-x-eq9999 c =
    let w = c.before.before in
    let r = w.before.before in
    let s = fetched r.before in
    rw (in_count (second s.before), to_processor s, ready r, elsewhere w, ap (λ k. eqb k 9999) (sym (moves_are w)) ∙ eq-eqb _ _ c.if-x-eq9999.true) refl

pub returns-then-n-ge256 : goal.returns-then-n-ge256
unfolding move_refusal
returns-then-n-ge256 c =
    let u = c.before.before in
    let w = u.before.before in
    let r = w.before.before in
    let s = fetched r.before in
    rw (in_count (second s.before), to_processor s, ready r, elsewhere w, unspent u, one_over _ _ _ c.if-n-ge256.true) refl

pub returns : goal.returns
unfolding move_refusal
returns c =
    let u = c.before.before in
    let w = u.before.before in
    let r = w.before.before in
    let s = fetched r.before in
    rw (in_count (second s.before), to_processor s, ready r, elsewhere w, unspent u, one_fits _ (from5 u).args.n.used _ (omega (arith, c.if-n-ge256.false))) refl
