-- A task that ends, in the net: its finish, and the sync of a parent that waited for it alone.
use mathlib.Core.Path.{◌≡◌, refl, ap, ◌∙◌}
use mathlib.Core.Bool.{Bool, true, false, not, ◌&&◌}
use mathlib.Core.List.{List, [], ◌∷◌, ◌++◌}
use mathlib.Core.Logic.{◌≢◌}
use Prim.Native.Nat.{ℕ, zero, suc, ◌-◌, ◌<◌}
use native.Mathlib.Omega.{arith}
use lib.Dec.{eqb}
use lib.ListN.{length, get_elem?}
use borrow.Author.Tests.{eqb-true, ne_eqb}
use Rattle.std.specs.Prelude.{Ok}
use Rattle.base.specs.Choice.{within}
use Rattle.base.specs.Sets.{removed}
use Rattle.base.proofs.Tests.{and_left, and_right, and_both, tests_differ, within_low, within_high, every_at, second_fails}
use Rattle.net.specs.Machines.{Run, stop, take}
use Rattle.net.proofs.Runs.{run_append}
use Rattle.plan.specs.declared.Refusal.TheVariants.{BadFinish}
use Rattle.plan.specs.declared.TaskId.{TaskId}
use Rattle.plan.specs.declared.ChannelId.{ChannelId}
use Rattle.plan.specs.declared.Instruction.{Instruction}
use Rattle.plan.specs.declared.Word.{Word}
use Rattle.plan.specs.Kinds.{op_sync, op_finish, is_finish}
use Rattle.plan.specs.Programs.{Program, Programs, instruction_at}
use Rattle.plan.specs.Users.{parent_of}
use Rattle.plan.specs.Refusals.{finish_ok, finishes_ok, structure_answer, plan_answer}
use Rattle.plan_laws.proofs.Answers.{unless_accepted, plan_passed}
use Rattle.rules.specs.declared.task.TaskState.TheVariants.{Unborn, Waiting, Receiving}
use Rattle.rules.specs.declared.task.Task.{Task}
use Rattle.rules.specs.declared.message.Message.TheVariants.{Terminated}
use Rattle.rules.specs.Tasks.{is_in, with_children, readied, woken, without_child}
use Rattle.rules.specs.Places.{next_in, last_in}
use Rattle.net.specs.States.{Net, at_task}
use Rattle.net.specs.Labels.{Label, own, is_create, takes_part}
use Rattle.net.specs.Guards.{is_active, next_of, enabled}
use Rattle.net.specs.Effects.{effect}
use Rattle.net.specs.Nets.{net}
use Rattle.net.specs.Consistent.{Consistent}
use Rattle.net.proofs.Stays.{born_kept, complete_stays, next_stays}
use Rattle.net.proofs.Consistent.{label_consistent}
use Rattle.transitions.specs.Readings.{Reading}
use Rattle.transitions.specs.Progress.{program_of, completed_by}
use Rattle.transitions.specs.Messages.{message_on, messages_on}
use Rattle.transitions.specs.Views.{Histories}
use Rattle.transitions.specs.Transitions.{finished, Finishing, alone, near, away, FinishTransition, EndedTransition, Ending, taken, onward, holds}
use Rattle.transitions.specs.Agreement.{coming_to, Agrees, PassedAlike, Running}
use Rattle.transitions.proofs.Updates.{at_task_lem, at_other, at_elim, task_cases}
use Rattle.transitions.proofs.Flats.{flat_post_nothing, flat_without}
use Rattle.transitions.proofs.Parents.{child_number, parent_number, parent_other}
use Rattle.transitions.proofs.Tasks.{state_is, blocked_in, completed_free, completed_blocked, last_some}
use Rattle.invariant.proofs.FamilyParts.{AllChildren}
use Rattle.invariant.proofs.ChildrenKept.{kindred_finish, kindred_ended}
use Rattle.invariant.proofs.Coming.{coming_none, agrees_born, agrees_completed, agrees_word, alike_agrees, agrees_quiet, agrees_free}
use Rattle.invariant.proofs.NetSteps.{Follows, AtNext, own_by, own_completed, own_word, own_overflow, own_passed, own_bears_none, own_other, waiting_next}
use Rattle.invariant.proofs.NetTasks.{word_same, overflow_same, coming_same, passed_same, own_follows, runs_next, runs_own, ran_completed, ran_word, ran_overflow, ran_born, same_follows}
use Rattle.invariant.proofs.NetTasks.{childless_complete}
use Rattle.rules.specs.declared.channel.Hint.{Hint}
use Rattle.channel.specs.Bags.{without}
use mathlib.Core.Option.{some}

-- a finish is the last of its program
last_finish : (g : Program) (i : ℕ) → finish_ok g ≡ true → i < length g → is_finish (instruction_at g i) ≡ true → suc i ≡ length g
unfolding finish_ok
last_finish [] i h l e = absurd (omega arith)
last_finish (j ∷ []) zero h l e = refl
last_finish (j ∷ []) (suc i) h l e = absurd (omega arith)
last_finish (j ∷ k ∷ g) zero h l e = absurd (tests_differ (and_left (not (is_finish j)) (finish_ok (k ∷ g)) h) (rw e refl))
last_finish (j ∷ k ∷ g) (suc i) h l e = ap suc (last_finish (k ∷ g) i (and_right (not (is_finish j)) (finish_ok (k ∷ g)) h) (omega arith) e)

finish_place : (m : Programs) → plan_answer m ≡ Ok tt → (t : TaskId) (i : ℕ) → within 1 (length m) t.0 ≡ true → i < length (program_of m t)
    → is_finish (instruction_at (program_of m t) i) ≡ true → suc i ≡ length (program_of m t)
unfolding structure_answer finishes_ok
finish_place m accepted t i n l e =
    let low = within_low 1 (length m) t.0 n in
    let high = within_high 1 (length m) t.0 n in
    let f = (unless_accepted (finishes_ok m) BadFinish _ (plan_passed m accepted).structure).0 in
    last_finish (program_of m t) i (every_at finish_ok m (t.0 - 1) [] (omega arith) f) l e

-- a task that takes no part stays at its instruction
next_kept : (m : Programs) (s : Net) (l : Label) (t : TaskId) {i : Instruction} → takes_part m t l ≡ false → AtNext m s t i
    → AtNext m (effect m s l) t i
unfolding is_active
next_kept m s l t idle at =
    record {
      active = and_both ((effect m s l).born t) _ (born_kept m s l t (and_left (s.born t) _ at.active))
          (rw (complete_stays m s l t idle) (and_right (s.born t) _ at.active));
      next = next_stays m s l t idle ∙ at.next;
    }

-- an ended letter is of no channel
no_channel_lem : (c : ChannelId) (o : Hint) (t : TaskId) → message_on c (Terminated o t) ≡ []
unfolding message_on
no_channel_lem c o t = refl

-- a task p loses a child, in the net s', which the run `before` has reached and in which the other tasks agree with the rig y
module _ (m : Programs) (accepted : plan_answer m ≡ Ok tt) {s s' : Net} {ls : List Label} (before : Run (net m) s ls s')
    (consistent : Consistent m s') (h : Histories) (y : Reading) (w : ChannelId → List Word) (passed : PassedAlike s' w y.messages) (kindred : AllChildren m h y)
    (p t : TaskId) (number : within 1 (length m) p.0 ≡ true) (others : (u : TaskId) → u.0 ≢ p.0 → Agrees m s' y.messages u (y.tasks u)) where
  all_agree : (z : Net) → Agrees m z y.messages p (y.tasks p) → ((u : TaskId) → u.0 ≢ p.0 → Agrees m z y.messages u (y.tasks u))
      → (u : TaskId) → Agrees m z y.messages u (y.tasks u)
  all_agree z one rest = task_cases (λ u. Agrees m z y.messages u (y.tasks u)) p one rest

  module _ (x : Task) (old : Agrees m s' y.messages p x) where
    -- it does not wait for this child alone
    lost_agrees : (k : ℕ) → is_in Waiting x && eqb k 0 ≡ false → Agrees m s' y.messages p (with_children x k)
    unfolding coming_to completed_by last_in
    lost_agrees k e =
        record {
          born = old.born;
          completed = old.completed;
          word = old.word;
          overflow = old.overflow;
          sync = old.sync;
          waits = λ q. second_fails (is_in Waiting x) (eqb k 0) e q;
          done = old.done;
        }

    -- it does, and goes on
    module _ (at : AtNext m s' p (last_in (program_of m p) x)) (waiting : is_in Waiting x ≡ true) where
      sync_next : (next_of m s' p).opcode ≡ op_sync
      sync_next = ap (λ (i : Instruction). i.opcode) at.next ∙ old.sync waiting

      woken_agrees : (k : ℕ) → Agrees m (effect m s' (own p)) y.messages p (readied (with_children x k))
      woken_agrees k =
          let z = readied (with_children x k) in
          let none = coming_none (program_of m p) x y.messages (state_is Waiting Receiving x waiting) in
          let l = last_some (program_of m p) x (omega (arith, old.sync waiting)) in
          agrees_free (born_kept m s' (own p) p (agrees_born old (state_is Waiting Unborn x waiting)))
          (own_overflow m s' p ∙ overflow_same (next_of m s' p) (s'.word p) (s'.overflow p) op_sync sync_next refl ∙ old.overflow) refl refl refl
          (omega (arith, own_completed m s' p, agrees_completed old none, completed_blocked x (blocked_in x Waiting waiting), completed_free z refl))
          (own_word m s' p ∙ word_same (next_of m s' p) (s'.word p) op_sync sync_next refl refl ∙ agrees_word old none)

    -- what becomes of it
    pub loses_follows : (is_in Waiting x ≡ true → AtNext m s' p (last_in (program_of m p) x)) → y.tasks p ≡ without_child x t → Follows m s y w
    unfolding woken
    loses_follows at new = go (is_in Waiting x && eqb k 0) refl
      where
        k : ℕ
        k = removed t.0 x.children

        go : (b : Bool) → is_in Waiting x && eqb k 0 ≡ b → Follows m s y w
        go false e =
            let q : y.tasks p ≡ with_children x k = new ∙ rw e refl in
            record { end = s'; labels = ls; run = before; agrees = all_agree s' (rw q (lost_agrees k e)) others; passed = passed }
        go true e =
            let q : y.tasks p ≡ readied (with_children x k) = new ∙ rw e refl in
            let waiting = and_left (is_in Waiting x) (eqb k 0) e in
            let here = at waiting in
            let may =
            own_by m s' p here (rw (old.sync waiting) refl)
            (λ j. childless_complete m accepted s' consistent h y kindred p number others (rw q (and_right (is_in Waiting x) (eqb k 0) e))) in
            let none : is_create (next_of m s' p) ≡ false = rw (sync_next here waiting) refl in
            record {
              end = effect m s' (own p);
              labels = ls ++ (own p ∷ []);
              run = run_append (net m) before (take (own p) may stop);
              agrees = all_agree (effect m s' (own p)) (rw q (woken_agrees here waiting k))
                  (λ u ne. own_other m s' p ne (own_bears_none m s' p none u) refl (others u ne));
              passed = λ d. rw (own_passed m s' p) (passed d);
            }

module _ (m : Programs) (accepted : plan_answer m ≡ Ok tt) (s : Net) (consistent : Consistent m s)
    {h : Histories} {x : Reading} {w : ChannelId → List Word} (run : Running m h s x w) where
  module _ {y : Reading} (transition : FinishTransition m h x y) where
    finish_kind : transition.instruction.opcode ≡ op_finish
    finish_kind = eqb-true transition.instruction.opcode op_finish transition.finishes

    may_finish : enabled m s (own transition.task) ≡ true
    may_finish = runs_own m accepted s consistent run transition.task transition.instruction transition.runs (rw finish_kind refl) (λ e. transition.childless)

    bears_none : is_create (next_of m s transition.task) ≡ false
    bears_none = rw ((runs_next m accepted s consistent run transition.task transition.instruction transition.runs).next, finish_kind) refl

    finished_agrees : Agrees m (effect m s (own transition.task)) y.messages transition.task (finished (x.tasks transition.task))
    unfolding next_in
    finished_agrees =
        let t = transition.task in
        let i = transition.instruction in
        let r = transition.runs in
        let z = finished (x.tasks t) in
        let low = r.low in
        let high = r.high in
        let last = finish_place m accepted t ((x.tasks t).pc - 1) r.number (omega arith) (rw r.next transition.finishes) in
        agrees_quiet (ran_born m accepted s consistent run t i r)
        (ran_overflow m accepted s consistent run t i r ∙ overflow_same i (x.tasks t).word (x.tasks t).overflow op_finish finish_kind refl) refl refl (λ e. omega arith) (coming_none (program_of m t) z y.messages refl)
        (omega (arith, ran_completed m accepted s consistent run t i r, completed_free z refl))
        (ran_word m accepted s consistent run t i r ∙ word_same i (x.tasks t).word op_finish finish_kind refl refl)

    near_follows : transition.task.0 ≢ 1
        → y.tasks ≡ at_task (at_task x.tasks (parent_of m transition.task) (without_child (x.tasks (parent_of m transition.task)) transition.task)) transition.task
        (finished (x.tasks transition.task))
        → y.messages ≡ x.messages → Follows m s y w
    unfolding takes_part
    near_follows one e l =
        let t = transition.task in
        let p = parent_of m t in
        let lost = without_child (x.tasks p) t in
        let low = within_low 1 (length m) t.0 transition.runs.number in
        let number = child_number (length m) t.0 transition.runs.number one in
        let other = parent_other m accepted t number in
        let same : (c : ChannelId) → messages_on c y.messages ≡ messages_on c x.messages = λ c. rw l refl in
        let s' = effect m s (own t) in
        let stay : (u : TaskId) → u.0 ≢ t.0 → Agrees m s' y.messages u (x.tasks u) =
        λ u ne. own_other m s t ne (own_bears_none m s t bears_none u) (coming_same m accepted s consistent run y same u (x.tasks u))
        (run.agrees u) in
        loses_follows m accepted (take (own t) may_finish stop) (label_consistent m accepted s consistent (own t) may_finish) h y w
        (passed_same m accepted s consistent run y same s' (own_passed m s t)) (kindred_finish m accepted run transition).children
        p t (parent_number m accepted t number)
        (λ u ne.
        rw e
        (at_elim (λ v z. v.0 ≢ p.0 → Agrees m s' y.messages v z) (at_task x.tasks p lost) t (finished (x.tasks t)) (λ q. finished_agrees)
        (λ v q r. rw (at_other x.tasks p v lost r) (stay v q)) u ne))
        (x.tasks p) (stay p other)
        (λ q. next_kept m s (own t) p (ne_eqb p.0 t.0 other) (waiting_next m accepted s consistent run p q))
        (rw e (at_other (at_task x.tasks p lost) t p (finished (x.tasks t)) other ∙ at_task_lem x.tasks p lost))

    finishing_follows : Finishing m h x y transition.task → Follows m s y w
    unfolding message_on
    finishing_follows (alone one e l) =
        own_follows m accepted s consistent run y (λ c. rw l refl) transition.task
        (finished (x.tasks transition.task)) may_finish bears_none e finished_agrees
    finishing_follows (away along one ways e l) =
        let t = transition.task in
        own_follows m accepted s consistent run y
        (λ c. rw l (flat_post_nothing (message_on c) x.messages (Terminated along t) refl)) t
        (finished (x.tasks t)) may_finish bears_none e finished_agrees
    finishing_follows (near one e l) = near_follows one e l

  pub finish_follows : {y : Reading} → FinishTransition m h x y → Follows m s y w
  finish_follows transition = finishing_follows transition transition.finishing

  -- an ended letter for child t, at place k of the mail
  module _ (y : Reading) (k : ℕ) (along : Hint) (t : TaskId) (message : get_elem? x.messages k ≡ some (Terminated along t))
      (number : within 2 (length m) t.0 ≡ true) (kindred : AllChildren m h y) where
    left : (c : ChannelId) → messages_on c (without x.messages k) ≡ messages_on c x.messages
    left c = flat_without (message_on c) x.messages k message (no_channel_lem c along t)

    ending_follows : Ending m h x y k along t → Follows m s y w
    ending_follows (taken e l same) =
        let p = parent_of m t in
        let lost = without_child (x.tasks p) t in
        let still : (c : ChannelId) → messages_on c y.messages ≡ messages_on c x.messages = λ c. rw l (left c) in
        let stay : (u : TaskId) → Agrees m s y.messages u (x.tasks u) =
        λ u. alike_agrees (run.agrees u) refl refl refl refl (coming_same m accepted s consistent run y still u (x.tasks u)) in
        loses_follows m accepted stop consistent h y w (passed_same m accepted s consistent run y still s refl) kindred p t
        (parent_number m accepted t number)
        (λ u ne. rw (e, at_other x.tasks p u lost ne) (stay u))
        (x.tasks p) (stay p) (waiting_next m accepted s consistent run p)
        (rw e (at_task_lem x.tasks p lost))
    ending_follows (onward more e l same) =
        let pointer = (x.parents (parent_of m t) along.processor.0).hint in
        same_follows m accepted s consistent run y
        (λ c. rw l (flat_post_nothing (message_on c) (without x.messages k) (Terminated pointer t) (no_channel_lem c pointer t) ∙ left c)) e
    ending_follows (holds c e l same) = same_follows m accepted s consistent run y (λ c. rw l (left c)) e

  pub ended_follows : {y : Reading} → EndedTransition m h x y → Follows m s y w
  ended_follows {y} transition =
      ending_follows y transition.p transition.along transition.task transition.message transition.number
      (kindred_ended m accepted run transition).children transition.ending
