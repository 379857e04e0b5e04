-- The steps of one task in the net: its own instruction, or nothing.
use mathlib.Core.Path.{◌≡◌, refl, sym, ap, ◌∙◌}
use mathlib.Core.Bool.{Bool, true, false, ◌||◌, or-false, or-true}
use mathlib.Core.List.{List, [], ◌∷◌, ◌++◌, append-nil}
use mathlib.Core.Logic.{◌≢◌}
use Prim.Native.Nat.{ℕ, suc, ◌+◌}
use native.Mathlib.Omega.{arith}
use lib.Dec.{eqb}
use lib.ListN.{length}
use borrow.Author.Tests.{eqb-true, ne_eqb, not-false}
use Rattle.std.specs.Prelude.{None, Ok}
use Rattle.base.specs.Choice.{within}
use Rattle.base.proofs.Tests.{and_left, and_right, and_false, tests_differ, within_low, within_high}
use Rattle.net.specs.Machines.{stop, take}
use Rattle.plan.specs.declared.TaskId.{TaskId}
use Rattle.plan.specs.declared.ChannelId.{ChannelId}
use Rattle.plan.specs.declared.Instruction.{Instruction}
use Rattle.plan.specs.declared.Word.{Word}
use Rattle.plan.specs.Kinds.{op_create, op_sync, op_set, op_add, is_use}
use Rattle.plan.specs.Programs.{Programs}
use Rattle.plan.specs.Refusals.{plan_answer}
use Rattle.rules.specs.declared.task.TaskState.TheVariants.{Unborn, Ready, Waiting, Receiving, Moving, Done}
use Rattle.rules.specs.declared.task.Task.{Task}
use Rattle.rules.specs.declared.message.Message.{Message}
use Rattle.rules.specs.declared.message.Message.TheVariants.{Migration}
use Rattle.rules.specs.Tasks.{is_in, is_childless, with_state, advanced, born, departed, arrived, without_children}
use Rattle.rules.specs.Local.{create_rule}
use Rattle.rules.specs.Steps.{word_on}
use Rattle.net.specs.States.{Net, at_task}
use Rattle.net.specs.Labels.{own, is_create, is_join, is_transfer}
use Rattle.net.specs.Guards.{next_of, children_complete, enabled}
use Rattle.net.specs.Effects.{word_after, overflow_after, effect}
use Rattle.net.specs.Consistent.{Consistent}
use Rattle.net.proofs.Stays.{born_kept}
use Rattle.net.proofs.Children.{complete_children, next_unborn, child_within}
use Rattle.transitions.specs.Readings.{Reading}
use Rattle.transitions.specs.Progress.{is_blocked, program_of}
use Rattle.transitions.specs.Messages.{message_on, words_in, messages_on}
use Rattle.transitions.specs.Views.{Histories}
use Rattle.transitions.specs.Transitions.{Runs, went_on, Own, goes_on, waits, OwnTransition, CreateTransition, ArrivalTransition, MoveTransition}
use Rattle.transitions.specs.Agreement.{coming_to, word_with, Agrees, PassedAlike, Running}
use Rattle.transitions.proofs.Updates.{at_elim}
use Rattle.transitions.proofs.Flats.{flat_post_nothing, flat_without}
use Rattle.transitions.proofs.Parents.{parent_other}
use Rattle.transitions.proofs.Tasks.{state_is, blocked_in, not_receiving, completed_free, completed_blocked, last_after, unborn_apart}
use Rattle.invariant.proofs.FamilyParts.{AllChildren}
use Rattle.invariant.proofs.Coming.{coming_none, coming_alike, agrees_born, agrees_completed, agrees_word, alike_agrees, unborn_not, agrees_free}
use Rattle.invariant.proofs.NetSteps.{Follows, AtNext, own_by, own_completed, own_word, own_overflow, own_born, own_passed, own_bears_none, own_apart, own_other}
use Rattle.invariant.proofs.NetSteps.{done_complete, ready_next}
use Rattle.invariant.proofs.ChildParts.{childless_done}
use Rattle.rules.specs.Hints.{hint}

-- nothing is received
pub follows_nothing : {m : Programs} {s : Net} {y : Reading} {w : ChannelId → List Word} → Follows m s y w
    → Follows m s y (λ d. w d ++ word_on d None)
unfolding word_on
follows_nothing {w = w} f =
    record {
      end = f.end;
      labels = f.labels;
      run = f.run;
      agrees = f.agrees;
      passed = λ d. f.passed d ∙ rw (append-nil (w d)) refl;
    }

-- an instruction that is neither set nor add leaves the word
pub word_same : (i : Instruction) (v : Word) (k : ℕ) → i.opcode ≡ k → eqb k op_set ≡ false → eqb k op_add ≡ false → word_after i v ≡ v
unfolding word_after
word_same i v k e p q = rw (e, p, q) refl

-- .. and one that is no add the mark
pub overflow_same : (i : Instruction) (v : Word) (b : Bool) (k : ℕ) → i.opcode ≡ k → eqb k op_add ≡ false → overflow_after i v b ≡ b
unfolding overflow_after
overflow_same i v b k e q = rw (e, q) (or-false b)

-- a task with no children, in a net with which the other tasks agree
pub childless_complete : (m : Programs) → plan_answer m ≡ Ok tt → (s : Net) → Consistent m s → (h : Histories) (y : Reading) → AllChildren m h y
    → (p : TaskId) → within 1 (length m) p.0 ≡ true → ((u : TaskId) → u.0 ≢ p.0 → Agrees m s y.messages u (y.tasks u))
    → is_childless (y.tasks p) ≡ true → children_complete m s p ≡ true
childless_complete m accepted s consistent h y kindred p number others e =
    let low = within_low 1 (length m) p.0 number in
    complete_children m accepted s consistent p low (within_high 1 (length m) p.0 number)
    (λ u parent b.
    let n = child_within m accepted p u low parent in
    let a = others u (λ q. parent_other m accepted u n (ap (λ (v : TaskId). v.0) parent ∙ sym q)) in
    done_complete m accepted s consistent a (childless_done (rw parent at (kindred u n)) e (unborn_not a b)))

module _ (m : Programs) (accepted : plan_answer m ≡ Ok tt) (s : Net) (consistent : Consistent m s)
    {h : Histories} {x : Reading} {w : ChannelId → List Word} (run : Running m h s x w) where
  -- no word and no receiver has to do with it
  module _ (y : Reading) (same : (c : ChannelId) → messages_on c y.messages ≡ messages_on c x.messages) where
    pub coming_same : (u : TaskId) (z : Task) → coming_to (program_of m u) y.messages z ≡ coming_to (program_of m u) x.messages z
    coming_same u z = coming_alike (program_of m u) z x.messages y.messages (λ c o. ap words_in (same c))

    pub passed_same : (s' : Net) → s'.passed ≡ s.passed → PassedAlike s' w y.messages
    passed_same s' e d = rw (same d, e) (run.passed d)

    -- no task changes
    pub same_follows : y.tasks ≡ x.tasks → Follows m s y w
    same_follows e =
        record {
          end = s;
          labels = [];
          run = stop;
          agrees = λ u. rw e (alike_agrees (run.agrees u) refl refl refl refl (coming_same u (x.tasks u)));
          passed = passed_same s refl;
        }

    -- one task changes, and the net stays
    pub still_follows : (t : TaskId) (z : Task) → y.tasks ≡ at_task x.tasks t z → Agrees m s y.messages t z → Follows m s y w
    still_follows t z e new =
        record {
          end = s;
          labels = [];
          run = stop;
          agrees =
              λ u. rw e
              (at_elim (λ v a. Agrees m s y.messages v a) x.tasks t z new
              (λ v ne. alike_agrees (run.agrees v) refl refl refl refl (coming_same v (x.tasks v))) u);
          passed = passed_same s refl;
        }

    -- one task changes by its own instruction
    pub own_follows : (t : TaskId) (z : Task) → enabled m s (own t) ≡ true → is_create (next_of m s t) ≡ false → y.tasks ≡ at_task x.tasks t z
        → Agrees m (effect m s (own t)) y.messages t z → Follows m s y w
    own_follows t z may none e new =
        record {
          end = effect m s (own t);
          labels = own t ∷ [];
          run = take (own t) may stop;
          agrees = λ u.
              rw e
              (at_elim (λ v a. Agrees m (effect m s (own t)) y.messages v a) x.tasks t z new
              (λ v ne. own_other m s t ne (own_bears_none m s t none v) (coming_same v (x.tasks v)) (run.agrees v))
              u);
          passed = passed_same (effect m s (own t)) (own_passed m s t);
        }

  -- a task that runs, in the net
  module _ (t : TaskId) (i : Instruction) (runs : Runs m x t i) where
    pub runs_next : AtNext m s t i
    runs_next = rw runs.next at (ready_next m accepted s consistent run t runs.ready runs.low runs.high)

    runs_quiet : coming_to (program_of m t) x.messages (x.tasks t) ≡ []
    runs_quiet = coming_none (program_of m t) (x.tasks t) x.messages (state_is Ready Receiving (x.tasks t) runs.ready)

    runs_born : s.born t ≡ true
    runs_born = agrees_born (run.agrees t) (state_is Ready Unborn (x.tasks t) runs.ready)

    runs_completed : suc (s.completed t) ≡ (x.tasks t).pc
    runs_completed =
        omega
        (arith, agrees_completed (run.agrees t) runs_quiet, completed_free (x.tasks t) (blocked_in (x.tasks t) Ready runs.ready), runs.low)

    runs_word : s.word t ≡ (x.tasks t).word
    runs_word = agrees_word (run.agrees t) runs_quiet

    -- whom it creates is unborn
    pub runs_unborn : (u : TaskId) → is_use op_create u.0 i ≡ true → is_in Unborn (x.tasks u) ≡ true
    runs_unborn u e =
        let late = next_unborn m accepted s consistent t u runs_next.active (rw runs_next.next e) in
        not-false _ (sym (run.agrees u).born ∙ late)

    -- it may do an instruction that is no transfer, where a join finds no children
    pub runs_own : is_transfer i ≡ false → (is_join i ≡ true → is_childless (x.tasks t) ≡ true) → enabled m s (own t) ≡ true
    runs_own alone join =
        own_by m s t runs_next alone
        (λ e. childless_complete m accepted s consistent h x run.children t runs.number (λ u ne. run.agrees u) (join e))

    -- after it
    pub ran_completed : (effect m s (own t)).completed t ≡ (x.tasks t).pc
    ran_completed = own_completed m s t ∙ runs_completed

    pub ran_word : (effect m s (own t)).word t ≡ word_after i (x.tasks t).word
    ran_word = own_word m s t ∙ rw (runs_next.next, runs_word) refl

    pub ran_overflow : (effect m s (own t)).overflow t ≡ overflow_after i (x.tasks t).word (x.tasks t).overflow
    ran_overflow = own_overflow m s t ∙ rw (runs_next.next, runs_word, (run.agrees t).overflow) refl

    pub ran_born : (effect m s (own t)).born t ≡ true
    ran_born = born_kept m s (own t) t runs_born

    -- it is ready again, one place on
    ran_agrees : (ns : List Message) (z : Task) → is_in Ready z ≡ true → z.pc ≡ (x.tasks t).pc + 1 → z.word ≡ word_after i (x.tasks t).word
        → z.overflow ≡ overflow_after i (x.tasks t).word (x.tasks t).overflow → Agrees m (effect m s (own t)) ns t z
    ran_agrees ns z r k v o =
        let f = blocked_in z Ready r in
        agrees_free ran_born (ran_overflow ∙ sym o) (state_is Ready Unborn z r) f (state_is Ready Done z r)
        (omega (arith, ran_completed, completed_free z f)) (ran_word ∙ sym v)

    -- it waits for its children
    waits_agrees : (ns : List Message) → i.opcode ≡ op_sync → is_childless (x.tasks t) ≡ false
        → Agrees m s ns t (advanced (with_state (x.tasks t) Waiting))
    unfolding word_with
    waits_agrees ns sync some =
        let z = advanced (with_state (x.tasks t) Waiting) in
        let none = coming_none (program_of m t) z ns refl in
        record {
          born = runs_born;
          completed = rw none (omega (arith, runs_completed, completed_blocked z refl));
          word = rw none runs_word;
          overflow = (run.agrees t).overflow;
          sync = λ e. ap (λ (j : Instruction). j.opcode) (last_after (program_of m t) (x.tasks t) z runs.low refl ∙ runs.next) ∙ sync;
          waits = λ e. some;
          done = λ e. absurd (tests_differ e refl);
        }

    own_case : (y : Reading) → y.messages ≡ x.messages → is_create i ≡ false → {z : Task} → Own i (x.tasks t) z → y.tasks ≡ at_task x.tasks t z
        → Follows m s y w
    own_case y l none (goes_on alone join) e =
        let z = went_on i (x.tasks t) in
        own_follows y (λ c. rw l refl) t z (runs_own alone join) (rw runs_next.next none) e (ran_agrees y.messages z runs.ready refl refl refl)
    own_case y l none (waits sync some) e =
        still_follows y (λ c. rw l refl) t (advanced (with_state (x.tasks t) Waiting)) e (waits_agrees y.messages sync some)

  -- sync, set and add
  pub own_transition_follows : {y : Reading} → OwnTransition m h x y → Follows m s y w
  own_transition_follows {y} transition = own_case transition.task transition.instruction transition.runs y transition.messages transition.not_create transition.own transition.tasks

  -- create
  module _ {h' : Histories} {y : Reading} (transition : CreateTransition m h h' x y) where
    create_kind : transition.instruction.opcode ≡ op_create
    create_kind = eqb-true transition.instruction.opcode op_create (and_left (eqb transition.instruction.opcode op_create) _ transition.creates)

    create_next : next_of m s transition.task ≡ transition.instruction
    create_next = (runs_next transition.task transition.instruction transition.runs).next

    child_other : transition.child.0 ≢ transition.task.0
    child_other = unborn_apart x.tasks transition.task transition.child transition.runs.ready transition.unborn

    child_unborn : s.born transition.child ≡ false
    child_unborn = (run.agrees transition.child).born ∙ rw transition.unborn refl

    -- who is born by it
    created_born : (v : TaskId) → (effect m s (own transition.task)).born v ≡ s.born v || is_use op_create v.0 transition.instruction
    created_born v = own_born m s transition.task v ∙ rw create_next refl

    other_born : (v : TaskId) → v.0 ≢ transition.child.0 → (effect m s (own transition.task)).born v ≡ s.born v
    other_born v ne =
        let i = transition.instruction in
        let operand = eqb-true i.operand transition.child.0 (and_right (eqb i.opcode op_create) _ transition.creates) in
        let not-this : is_use op_create v.0 i ≡ false =
        rw (operand, ne_eqb transition.child.0 v.0 (λ e. ne (sym e))) (and_false (eqb i.opcode op_create)) in
        created_born v ∙ rw not-this (or-false (s.born v))

    child_agrees : let d = (x.tasks transition.task).processor in
        Agrees m (effect m s (own transition.task)) y.messages transition.child (born d (hint d (x.tasks transition.task).moves))
    child_agrees =
        let u = transition.child in
        let d = (x.tasks transition.task).processor in
        let b : (effect m s (own transition.task)).born u ≡ true = created_born u ∙ rw transition.creates (or-true (s.born u)) in
        let (k, (v, o)) = own_apart m s transition.task u child_other in
        agrees_free b (o ∙ consistent.unmarked u child_unborn) refl refl refl (k ∙ consistent.idle u child_unborn ∙ sym (completed_free (born d (hint d (x.tasks transition.task).moves)) refl))
        (v ∙ consistent.wordless u child_unborn)

    pub create_follows : Follows m s y w
    create_follows =
        let t = transition.task in
        let i = transition.instruction in
        let same : (c : ChannelId) → messages_on c y.messages ≡ messages_on c x.messages = λ c. rw transition.messages refl in
        let s' = effect m s (own t) in
        record {
          end = s';
          labels = own t ∷ [];
          run = take (own t) (runs_own t i transition.runs (rw create_kind refl) (λ e. absurd (tests_differ e (rw create_kind refl)))) stop;
          agrees = λ u.
              rw transition.tasks
              (at_elim (λ v z. Agrees m s' y.messages v z) (at_task x.tasks t (create_rule (x.tasks t) transition.child)) transition.child _ child_agrees
              (λ v ne.
              at_elim (λ v z. v.0 ≢ transition.child.0 → Agrees m s' y.messages v z) x.tasks t (create_rule (x.tasks t) transition.child)
              (λ q. ran_agrees t i transition.runs y.messages (create_rule (x.tasks t) transition.child) transition.runs.ready refl
              (sym (word_same i _ op_create create_kind refl refl)) (sym (overflow_same i _ _ op_create create_kind refl)))
              (λ v q r. own_other m s t q (other_born v r) (coming_same y same v (x.tasks v)) (run.agrees v)) v ne)
              u);
          passed = passed_same y same s' (own_passed m s t);
        }

  -- a task that departs or arrives keeps its place, its word and its mark
  free_agrees : (t : TaskId) (ns : List Message) (z : Task) → is_in Unborn (x.tasks t) ≡ false → is_blocked (x.tasks t) ≡ false
      → is_in Unborn z ≡ false → is_blocked z ≡ false → is_in Done z ≡ false → z.pc ≡ (x.tasks t).pc → z.word ≡ (x.tasks t).word
      → z.overflow ≡ (x.tasks t).overflow → Agrees m s ns t z
  free_agrees t ns z b f zb zf zd k v o =
      let a = run.agrees t in
      let none = coming_none (program_of m t) (x.tasks t) x.messages (not_receiving (x.tasks t) f) in
      agrees_free (agrees_born a b) (a.overflow ∙ sym o) zb zf zd (omega (arith, agrees_completed a none, completed_free (x.tasks t) f, completed_free z zf))
      (agrees_word a none ∙ sym v)

  pub arrival_follows : {y : Reading} → ArrivalTransition m h x y → Follows m s y w
  unfolding message_on
  arrival_follows {y} transition =
      let t = transition.task in
      let z = x.tasks t in
      let here = without_children (arrived z transition.at) (x.parents t transition.at.0).held in
      still_follows y (λ c. rw transition.messages (flat_without (message_on c) x.messages transition.p transition.message refl)) t here
      transition.tasks
      (free_agrees t y.messages here (state_is Moving Unborn z transition.moving)
      (blocked_in z Moving transition.moving) refl refl refl refl refl refl)

  pub move_follows : {h' : Histories} {y : Reading} → MoveTransition m h h' x y → Follows m s y w
  unfolding message_on
  move_follows {y = y} transition =
      let t = transition.task in
      let z = x.tasks t in
      still_follows y (λ c. rw transition.messages (flat_post_nothing (message_on c) x.messages (Migration transition.to t) refl)) t (departed z) transition.tasks
      (free_agrees t y.messages (departed z) (state_is Ready Unborn z transition.ready) (blocked_in z Ready transition.ready) refl refl refl refl refl refl)
