-- A verdict carried out on a board, and its letters posted, is the turn.
use mathlib.Core.Path.{◌≡◌, refl, ap, ◌∙◌}
use mathlib.Core.Bool.{Bool, true, false}
use mathlib.Core.List.{List}
use Prim.Native.Nat.{ℕ, ◌≤◌, ◌+◌}
use native.Mathlib.Omega.{arith}
use lib.Dec.{eqb}
use lib.ListN.{length}
use borrow.Author.Tests.{eqb-true}
use Rattle.std.specs.Prelude.{Ok, Err}
use Rattle.base.specs.Choice.{unless, within}
use Rattle.base.proofs.Choices.{pick_either}
use Rattle.base.proofs.Tests.{within_low}
use Rattle.rules.specs.declared.message.Network.{Network}
use Rattle.rules.specs.declared.step.Report.{Report}
use Rattle.rules.specs.declared.step.Step.{Step}
use Rattle.rules.specs.declared.system.TaskTable.{TaskTable}
use Rattle.rules.specs.declared.system.Store.{Store}
use Rattle.rules.specs.declared.system.Parents.{Parents}
use Rattle.rig_parts.specs.declared.kept.Kept.{Kept}
use Rattle.rules.specs.Numbers.{task_id, processor_id}
use Rattle.rules.specs.Networks.{enqueued_all, messages_of, message_at, dequeued}
use Rattle.rules.specs.Steps.{is_run, is_deliver, is_move, well_formed}
use Rattle.rig_parts.specs.Answers.{Verdict}
use Rattle.rig_parts.specs.Facts.{PartsOf, Facts}
use Rattle.rig_parts.specs.Feasible.{verdict_ok}
use Rattle.rig_parts.specs.Openings.{opened_in}
use Rattle.rig_parts.proofs.BoundsParts.{used_few}
use Rattle.rig_parts.proofs.BoundsVerdicts.{run_feasible, move_feasible}
use Rattle.rig_parts.specs.declared.turn.Turn.{Turn}
use Rattle.rig_parts.specs.Turns.{turned, settled, carried_out, delivered_turn, turn_of}
use Rattle.rig_parts.proofs.Feasible.{change_room}
use Rattle.network.specs.Positions.{position_of}
use Rattle.board.specs.declared.act.Act.{Act}
use Rattle.board.specs.Verdicts.{step_verdict}
use Rattle.board.specs.Lent.{Lent, tasks_of, kept_of}
use Rattle.board.specs.Acted.{Acted, act_of}

-- what a step says, without what it posts
abbrev pub report_of : Act → Report
report_of r = record { answer = r.answer; received = r.received }

-- what is said, the tasks, the mail and the store then
turned_as : (n : ℕ) (k : Network) {r q : Act} {ts us : TaskTable} {s v : Kept} → r ≡ q → ts ≡ us → s ≡ v
    → turned (report_of r) ts (enqueued_all k (messages_of n r.posting)) s ≡ turned (report_of q) us (enqueued_all k (messages_of n q.posting)) v
turned_as n k {r} {q} {ts} {us} {s} {v} e p d =
    let g : Act → TaskTable → Kept → Turn = λ z y w. turned (report_of z) y (enqueued_all k (messages_of n z.posting)) w in
    ap (λ (z : Act). g z ts s) e ∙ ap (λ (z : TaskTable). g q z s) p ∙ ap (λ (z : Kept). g q us z) d

-- what is kept for channels, and for parents
pub both_kept : {s v : Store} {ps us : Parents} → s ≡ v → ps ≡ us → ◌≡◌ {A = Kept} (record { store = s; parents = ps }) (record { store = v; parents = us })
both_kept e p = rw (e, p) refl

-- a verdict carried out, and its letters posted
module _ (senders receivers : List ℕ) (n : ℕ) (k : Network) (before after : Lent) (r : Act) where
  pub acted_turn : (v : Verdict) → Acted senders receivers v before r after
      → turned (report_of r) (tasks_of after) (enqueued_all k (messages_of n r.posting)) (kept_of after) ≡ settled senders receivers n v (tasks_of before) k (kept_of before)
  unfolding carried_out enqueued_all messages_of
  acted_turn (Err q) a = turned_as n k a.act a.tasks (both_kept a.store a.parents)
  acted_turn (Ok x) a = turned_as n k a.act a.tasks (both_kept a.store a.parents)

-- by a test
by_bool : {P : Type 0} (b : Bool) → (b ≡ true → P) → (b ≡ false → P) → P
by_bool true p q = p refl
by_bool false p q = q refl

-- a step that delivers no letter
module _ (f : Facts) (n : ℕ) (ts : TaskTable) (k : Network) (s : Kept) (x : Step) where
  pub other_turn : position_of k.used x ≡ 0 → settled f.senders f.receivers n (step_verdict f n ts s k.used x) ts k s ≡ turn_of f n ts k s x
  unfolding turn_of step_verdict well_formed delivered_turn position_of
  other_turn none =
      by_bool (is_run x)
      (λ e. rw e (by_bool (eqb x.number 0) (λ y. rw y refl) (λ y. rw y refl)))
      (λ e.
      by_bool (is_deliver x)
      (λ d.
      rw (e, d)
      (by_bool (eqb x.task 0)
      (λ y. rw y (by_bool (within 1 k.used x.number) (λ w. absurd (some (within_low 1 k.used x.number w) (rw (d, y, w) at none))) (λ w. rw w refl)))
      (λ y. rw y refl)))
      (λ d. rw (e, d) (by_bool (is_move x) (λ m. rw m refl) (λ m. rw m refl))))
    where
      some : {m : ℕ} → 1 ≤ m → m ≡ 0 → ⊥
      some h e = omega arith

  -- a step that delivers the letter at position p
  pub message_turn : (p : ℕ) → p ≡ position_of k.used x → (p ≡ 0 → ⊥)
      → settled f.senders f.receivers n (Ok (opened_in f ts s (message_at k p))) ts (dequeued k p) s ≡ turn_of f n ts k s x
  unfolding turn_of well_formed delivered_turn position_of
  message_turn p at some =
      by_bool (is_deliver x)
      (λ d.
      let two = eqb-true x.kind 2 d in
      let e : is_run x ≡ false = rw two refl in
      by_bool (eqb x.task 0)
      (λ y.
      by_bool (within 1 k.used x.number)
      (λ w. let q : p ≡ x.number = rw (d, y, w) at at in rw (e, d, y, w, q) refl)
      (λ w. absurd (some (rw (d, y, w) at at))))
      (λ y. absurd (some (rw (d, y) at at))))
      (λ d. absurd (some (rw d at at)))

-- what was carried out, with the mail then, is the turn
module _ (f : Facts) (n : ℕ) (k : Network) (x : Step) (before after : Lent) (r : Act) {k' : Network} where
  pub delivered_made : (p : ℕ) → p ≡ position_of k.used x → (p ≡ 0 → ⊥)
      → Acted f.senders f.receivers (Ok (opened_in f (tasks_of before) (kept_of before) (message_at k p))) before r after
      → k' ≡ enqueued_all (dequeued k p) (messages_of n r.posting) → turned (report_of r) (tasks_of after) k' (kept_of after) ≡ turn_of f n (tasks_of before) k (kept_of before) x
  delivered_made p at some a e =
      ap (λ (z : Network). turned (report_of r) (tasks_of after) z (kept_of after)) e
      ∙ acted_turn f.senders f.receivers n (dequeued k p) before after r (Ok (opened_in f (tasks_of before) (kept_of before) (message_at k p))) a
      ∙ message_turn f n (tasks_of before) k (kept_of before) x p at some

  pub other_made : position_of k.used x ≡ 0
      → Acted f.senders f.receivers (step_verdict f n (tasks_of before) (kept_of before) k.used x) before r after
      → k' ≡ enqueued_all k (messages_of n r.posting) → turned (report_of r) (tasks_of after) k' (kept_of after) ≡ turn_of f n (tasks_of before) k (kept_of before) x
  other_made none a e =
      ap (λ (z : Network). turned (report_of r) (tasks_of after) z (kept_of after)) e
      ∙ acted_turn f.senders f.receivers n k before after r (step_verdict f n (tasks_of before) (kept_of before) k.used x) a
      ∙ other_turn f n (tasks_of before) k (kept_of before) x none

-- of one or the other
either : (P : Verdict → Type 0) (t : Bool) (a b : Verdict) → P a → P b → P (unless t a b)
either P true a b p q = q
either P false a b p q = p

-- there is room for what is posted
room_of : (n used : ℕ) (v : Verdict) → used ≤ 256 → verdict_ok n used v ≡ true → used + length (messages_of n (act_of v).posting) ≤ 256
unfolding messages_of
room_of n used (Err q) few ok = omega arith
room_of n used (Ok y) few ok = change_room n used y ok

-- a step that delivers nothing has room for its letters
pub step_room : {f : Facts} {n : ℕ} {ts : TaskTable} {s : Kept} {used : ℕ} (p : PartsOf f n ts s used) (x : Step) {r : Act}
    → r ≡ act_of (step_verdict f n ts s used x) → used + length (messages_of n r.posting) ≤ 256
unfolding step_verdict
step_room {f} {n} {ts} {s} {used} p x e =
    let Ok : Verdict → Type 0 = λ v. verdict_ok n used v ≡ true in
    rw e
    (room_of n used (step_verdict f n ts s used x) (used_few p)
    (either Ok (well_formed x) _ _ refl
    (pick_either Ok (is_run x) _ _ (run_feasible p (task_id x.task))
    (pick_either Ok (is_deliver x) _ _ refl (move_feasible p (task_id x.task) (processor_id x.number))))))
