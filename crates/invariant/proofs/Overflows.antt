-- Which tasks are marked: a run marks its task if that adds over the top, and no other step changes a mark.
use mathlib.Core.Path.{◌≡◌, refl, sym, ◌∙◌}
use mathlib.Core.Bool.{Bool, true, false, ◌&&◌, ◌||◌, or-false}
use mathlib.Core.List.{List}
use Prim.Native.Nat.{ℕ}
use lib.Dec.{eqb}
use borrow.Author.Tests.{eqb-true, eq-eqb, ne_eqb}
use Rattle.std.specs.Prelude.{Ok}
use Rattle.base.specs.Sets.{removed}
use Rattle.base.proofs.Choices.{pick_either}
use Rattle.base.proofs.Tests.{and_both}
use Rattle.plan.specs.declared.TaskId.{TaskId}
use Rattle.plan.specs.declared.ChannelId.{ChannelId}
use Rattle.plan.specs.declared.Instruction.{Instruction}
use Rattle.plan.specs.declared.Word.{Word}
use Rattle.plan.specs.Numbers.{task_id}
use Rattle.plan.specs.Kinds.{op_create, op_finish, op_send, op_receive, op_add, is_finish, is_use}
use Rattle.plan.specs.Programs.{Programs}
use Rattle.plan.specs.Users.{sender_of, receiver_of, parent_of}
use Rattle.rules.specs.declared.task.Task.{Task}
use Rattle.rules.specs.declared.task.TaskState.TheVariants.{Unborn, Waiting}
use Rattle.rules.specs.Reports.{Received}
use Rattle.rules.specs.declared.system.System.{System}
use Rattle.rules.specs.Tasks.{is_in, is_childless, with_children, readied, woken, born, departed, arrived, without_child, without_children}
use Rattle.rules.specs.Local.{create_rule}
use Rattle.rules.specs.Systems.{task_at, meaning}
use Rattle.rules.specs.Effects.{completed}
use Rattle.rules.specs.Runs.{next_of, ran, run_answer}
use Rattle.rules.specs.Sound.{system_ok}
use Rattle.rules_laws.specs.Shapes.{Shaped}
use Rattle.net.specs.States.{Net, at_task}
use Rattle.net.specs.Labels.{is_create}
use Rattle.net.specs.Effects.{is_overflow, overflow_after}
use Rattle.net.specs.Consistent.{Consistent}
use Rattle.channel.specs.Events.{Event}
use Rattle.transitions.specs.Readings.{Reading, reading}
use Rattle.transitions.specs.Views.{Histories}
use Rattle.transitions.specs.Transitions.{Ending, taken, onward, holds, Own, goes_on, waits, ChannelTransition, CreateTransition, Finishing, alone, near, away, finished, DeliverTransition, delivers, ends, arrives, MoveTransition}
use Rattle.transitions.specs.Agreement.{Running}
use Rattle.transitions.proofs.Updates.{task_cases, at_elim}
use Rattle.transitions.proofs.EndSteps.{end_step_overflow}
use Rattle.transitions.proofs.OwnTransitions.{own_changes}
use Rattle.transitions.proofs.CreateTransitions.{create_transition}
use Rattle.transitions.proofs.FinishTransitions.{finish_transition}
use Rattle.transitions.proofs.SendTransitions.{send_transition}
use Rattle.transitions.proofs.ReceiveTransitions.{receive_transition}
use Rattle.invariant.proofs.FamilyParts.{kept_one, kept_two}
use Rattle.rules.specs.declared.channel.Hint.{Hint}
use Rattle.rules.specs.Hints.{hint}

-- a task keeps its mark, and all do
abbrev SameMark : Task → Task → Type 0
SameMark x z = z.overflow ≡ x.overflow

abbrev pub SameMarks : (TaskId → Task) → (TaskId → Task) → Type 0
SameMarks before after = (t : TaskId) → SameMark (before t) (after t)

-- where one task changes, or two
module _ (f : TaskId → Task) where
  one_mark : (t : TaskId) (z : Task) → SameMark (f t) z → SameMarks f (at_task f t z)
  one_mark t z e u = kept_one SameMark (λ x. refl) f t z u (λ q. e)

  two_marks : (s t : TaskId) (y z : Task) → SameMark (f s) y → SameMark (f t) z → SameMarks f (at_task (at_task f s y) t z)
  two_marks s t y z d e u = kept_two SameMark (λ x. refl) f s t y z u (λ q. d) (λ q. e)

lost_mark : (x : Task) (t : TaskId) → SameMark x (without_child x t)
unfolding woken
lost_mark x t =
    let z = with_children x (removed t.0 x.children) in
    pick_either (SameMark x) (is_in Waiting z && is_childless z) (readied z) z refl refl

-- steps that change no mark
module _ (m : Programs) {x y : Reading} where
  finish_marks : {h : Histories} (t : TaskId) → Finishing m h x y t → SameMarks x.tasks y.tasks
  finish_marks t (alone e f l) = rw f (one_mark x.tasks t (finished (x.tasks t)) refl)
  finish_marks t (near ne f l) =
      let p = parent_of m t in
      rw f (two_marks x.tasks p t (without_child (x.tasks p) t) (finished (x.tasks t)) (lost_mark (x.tasks p) t) refl)
  finish_marks t (away along ne ways f l) = rw f (one_mark x.tasks t (finished (x.tasks t)) refl)

  module _ {h : Histories} where
    channel_marks : {e : Event} {got : Received} → ChannelTransition m h x y e got → SameMarks x.tasks y.tasks
    channel_marks transition =
        let c = transition.channel in
        rw transition.tasks
        (two_marks x.tasks (sender_of m c) (receiver_of m c) transition.sender transition.receiver
        (end_step_overflow transition.sender_end_step)
        (end_step_overflow transition.receiver_end_step))

    -- a child has none before its birth
    create_marks : {h' : Histories} (transition : CreateTransition m h h' x y) → (x.tasks transition.child).overflow ≡ false
        → SameMarks x.tasks y.tasks
    create_marks transition none =
        let t = transition.task in
        let u = transition.child in
        rw transition.tasks (two_marks x.tasks t u (create_rule (x.tasks t) u) (born (x.tasks t).processor (hint (x.tasks t).processor (x.tasks t).moves)) refl (sym none))

    ending_marks : (p : ℕ) (along : Hint) (t : TaskId) → Ending m h x y p along t → SameMarks x.tasks y.tasks
    ending_marks p along t (taken f l k) =
        let v = parent_of m t in
        rw f (one_mark x.tasks v (without_child (x.tasks v) t) (lost_mark (x.tasks v) t))
    ending_marks p along t (onward more f l k) = λ u. rw f refl
    ending_marks p along t (holds c f l k) = λ u. rw f refl

    pub deliver_marks : {got : Received} → DeliverTransition m h x y got → SameMarks x.tasks y.tasks
    deliver_marks (delivers p a transition) = channel_marks transition
    deliver_marks (ends transition) = ending_marks transition.p transition.along transition.task transition.ending
    deliver_marks (arrives transition) =
        let t = transition.task in
        let d = transition.at in
        rw transition.tasks (one_mark x.tasks t (without_children (arrived (x.tasks t) d) (x.parents t d.0).held) refl)

    pub move_marks : {h' : Histories} → MoveTransition m h h' x y → SameMarks x.tasks y.tasks
    move_marks transition = let t = transition.task in rw transition.tasks (one_mark x.tasks t (departed (x.tasks t)) refl)

-- an instruction of a task's own
own_mark : {i : Instruction} {x z : Task} → Own i x z → z.overflow ≡ x.overflow || is_overflow i x.word
unfolding overflow_after
own_mark (goes_on n j) = refl
own_mark {x = x} (waits k c) = rw k (sym (or-false x.overflow))

-- task u is the one that runs, t, and adds over the top
abbrev pub ran_over : System → TaskId → TaskId → Bool
ran_over r t u = eqb t.0 u.0 && is_overflow (next_of r u) (task_at r u).word

abbrev pub MarksAfter : System → TaskId → (TaskId → Task) → Type 0
MarksAfter r t after = (u : TaskId) → (after u).overflow ≡ (task_at r u).overflow || ran_over r t u

-- an accepted run of task t, by the kind of its instruction
module _ (r : System) (t : TaskId) where
  other_kind : (k : ℕ) → (next_of r t).opcode ≡ k → eqb k op_add ≡ false → (u : TaskId) → ran_over r t u ≡ false
  other_kind k e add =
      task_cases (λ u. ran_over r t u ≡ false) t (rw (eq-eqb t.0 t.0 refl, e, add) refl) (λ u ne. rw (ne_eqb t.0 u.0 (λ q. ne (sym q))) refl)

  same_after : (k : ℕ) → (next_of r t).opcode ≡ k → eqb k op_add ≡ false → (y : Reading) → SameMarks (reading r).tasks y.tasks → MarksAfter r t y.tasks
  unfolding reading
  same_after k e add y same u = rw (other_kind k e add u) (same u ∙ sym (or-false (task_at r u).overflow))

  own_after : (z : Task) → Own (next_of r t) (task_at r t) z → (y : Reading) → y.tasks ≡ at_task (reading r).tasks t z → MarksAfter r t y.tasks
  unfolding reading
  own_after z own y e =
      rw e
      (at_elim (λ u a. a.overflow ≡ (task_at r u).overflow || ran_over r t u) (task_at r) t z (rw (eq-eqb t.0 t.0 refl) (own_mark own))
      (λ u ne. rw (ne_eqb t.0 u.0 (λ q. ne (sym q))) (sym (or-false (task_at r u).overflow))))

  module _ (shaped : Shaped r) (ok : system_ok r ≡ true) (h : Histories) {s : Net} (consistent : Consistent (meaning r) s) {w : ChannelId → List Word}
      (run : Running (meaning r) h s (reading r) w) (a : run_answer r t ≡ Ok tt) where
    unborn_unmarked : (u : TaskId) → is_in Unborn ((reading r).tasks u) ≡ true → ((reading r).tasks u).overflow ≡ false
    unborn_unmarked u e = sym (run.agrees u).overflow ∙ consistent.unmarked u ((run.agrees u).born ∙ rw e refl)

    pub run_marks : ((u : TaskId) → is_use op_create u.0 (next_of r t) ≡ true → is_in Unborn ((reading r).tasks u) ≡ true)
        → MarksAfter r t (reading (completed (ran r t))).tasks
    run_marks unborn = go (is_create i) (is_finish i) (eqb i.opcode op_send) (eqb i.opcode op_receive) refl refl refl refl
      where
        i : Instruction
        i = next_of r t

        y : Reading
        y = reading (completed (ran r t))

        go : (create finish send receive : Bool) → is_create i ≡ create → is_finish i ≡ finish → eqb i.opcode op_send ≡ send
            → eqb i.opcode op_receive ≡ receive
            → MarksAfter r t y.tasks
        go true finish send receive c f s e =
            let kind = eqb-true i.opcode op_create c in
            let child = unborn (task_id i.operand) (and_both _ _ c (eq-eqb i.operand i.operand refl)) in
            let (h', transition) = create_transition r shaped ok h run t a kind child in
            same_after op_create kind refl y (create_marks (meaning r) transition (unborn_unmarked transition.child transition.unborn))
        go false true send receive c f s e =
            let kind = eqb-true i.opcode op_finish f in
            let transition = finish_transition r shaped ok h run t a kind in
            same_after op_finish kind refl y (finish_marks (meaning r) transition.task transition.finishing)
        go false false true receive c f s e =
            let kind = eqb-true i.opcode op_send s in
            same_after op_send kind refl y (channel_marks (meaning r) (send_transition r shaped ok h run t a kind).1)
        go false false false true c f s e =
            let kind = eqb-true i.opcode op_receive e in
            same_after op_receive kind refl y (channel_marks (meaning r) (receive_transition r shaped ok h run t a kind).1)
        go false false false false c f s e =
            let (z, own, tasks) = own_changes r shaped ok h t a c f (rw (s, e) refl) in
            own_after z own y tasks
