-- Every step keeps every task in its place.
use mathlib.Core.Path.{◌≡◌, refl, sym, ◌∙◌}
use mathlib.Core.Bool.{true}
use mathlib.Core.Logic.{◌≢◌, ⊎_elim}
use mathlib.Core.List.{List, ◌++◌}
use mathlib.Core.Option.{some}
use Prim.Native.Nat.{ℕ, suc, ◌+◌, ◌≤◌}
use native.Mathlib.Numerals.{add-one}
use native.Mathlib.Omega.{arith}
use lib.ListN.{length, get_elem?, length-append}
use borrow.Author.Tests.{eqb-true}
use Rattle.base.specs.Choice.{within}
use Rattle.base.proofs.Tests.{within_low, within_high}
use Rattle.base.proofs.Updates.{updated_same}
use Rattle.plan.specs.declared.TaskId.{TaskId}
use Rattle.plan.specs.declared.ProcessorId.{ProcessorId}
use Rattle.plan.specs.declared.ChannelId.{ChannelId}
use Rattle.plan.specs.declared.Word.{Word}
use Rattle.plan.specs.Programs.{Programs}
use Rattle.plan.specs.Users.{sender_of, receiver_of, parent_of}
use Rattle.rules.specs.declared.task.TaskState.TheVariants.{Unborn, Ready, Moving}
use Rattle.rules.specs.declared.task.Task.{Task}
use Rattle.rules.specs.declared.message.Message.TheVariants.{Terminated, Migration}
use Rattle.rules.specs.Reports.{Received}
use Rattle.rules.specs.Tasks.{is_in, born, departed, arrived, without_child, without_children}
use Rattle.rules.specs.Local.{create_rule, holding_child}
use Rattle.rules_sound.proofs.Settled.{settled}
use Rattle.net.specs.States.{Net, at_task}
use Rattle.channel.specs.Bags.{one, without}
use Rattle.channel.specs.Updates.{at_number}
use Rattle.channel.specs.Events.{Event}
use Rattle.channel.proofs.Bags.{in_post, length_without}
use Rattle.transitions.specs.Readings.{Reading, kept_for}
use Rattle.transitions.specs.Progress.{program_of}
use Rattle.transitions.specs.Messages.{mover_to, movers_of}
use Rattle.transitions.specs.Views.{Histories}
use Rattle.transitions.specs.Transitions.{ChannelTransition, OwnTransition, CreateTransition, FinishTransition, Finishing, alone, near, away, EndedTransition, Ending, taken, onward, holds, ArrivalTransition, MoveTransition, sent_to, finished}
use Rattle.transitions.specs.Family.{Placed}
use Rattle.transitions.specs.Agreement.{Running}
use Rattle.transitions.proofs.Updates.{at_task_lem, at_other, task_cases, at_elim as at-task-elim}
use Rattle.transitions.proofs.Flats.{flat_post, flat_post_nothing, flat_without, flat_place, own_mover, other_mover, no_mover}
use Rattle.transitions.proofs.Tasks.{state_is, sends, receives, unchanged, IsUnborn, unborn_is}
use Rattle.transitions.proofs.EndSteps.{end_step_steady}
use Rattle.invariant.proofs.FamilyParts.{AllPlaced, SamePlace, same_placed, steady_place, kept_one, kept_two, own_steady, creator_place, same_pointers}
use Rattle.invariant.proofs.FamilyParts.{finished_place, lost_place, none_in}
use Rattle.rules.specs.declared.channel.Hint.{Hint}
use Rattle.rules.specs.declared.system.ParentEntry.{ParentEntry}
use Rattle.rules.specs.Hints.{hint}
use Rattle.rules.specs.Starts.{pointing}
use Rattle.rules.specs.Arrivals.{arrival_parent}
use Rattle.rules_sound.proofs.Born.{born_passed}
use Rattle.channel.proofs.Hints.{bear, depart, arrive}
use Rattle.channel.proofs.Updates.{at_elim}
use Rattle.transitions.proofs.Outcomes.{part_at}

-- where a task is sent
module _ (h : Histories) (t : TaskId) (k : ℕ) (d : ProcessorId) where
  pub sent_there : sent_to h t k d t ≡ at_number (h t) k d.0
  sent_there = at_task_lem h t (at_number (h t) k d.0)

  pub sent_other : (u : TaskId) → u.0 ≢ t.0 → sent_to h t k d u ≡ h u
  sent_other u ne = at_other h t u (at_number (h t) k d.0) ne

-- the pointers where desk d keeps e
hints_kept : (entries : ℕ → ParentEntry) (d : ℕ) (e : ParentEntry) → (λ x. (at_number entries d e x).hint) ≡ at_number (λ x. (entries x).hint) d e.hint
hints_kept entries d e = part_at (λ (o : ParentEntry). o.hint) entries d e

-- a birth, a departure and an arrival
module _ {n : ℕ} {history : ℕ → ℕ} {x : Task} {entries : ℕ → ParentEntry} {movers : List ℕ} (p : Placed n history x entries movers) where
  -- a task that is nowhere is named by no desk
  unnamed : x.processor.0 ≡ 0 → (d : ℕ) → 1 ≤ d → (entries d).hint.processor.0 ≡ d → ⊥
  unnamed z d l e = omega (arith, p.self d l e)

  born_placed : (d : ProcessorId) (own : Hint) → is_in Unborn x ≡ true → IsUnborn x → 1 ≤ d.0 → d.0 ≤ n
      → Placed n (at_number history 1 d.0) (born d own) (at_number entries d.0 (pointing (entries d.0) (hint d 1))) movers
  born_placed d own u is l f =
      let z : length movers ≡ 0 = rw (state_is Unborn Moving x u) at p.one_mover in
      let e = pointing (entries d.0) (hint d 1) in
      record {
        one_mover = z;
        address = λ k i. none_in movers z i;
        table = rw (hints_kept entries d.0 e) (bear d.0 l f (rw (is.unmoved, is.nowhere) at p.table));
        self =
            at_elim (λ k o. 1 ≤ k → o.hint.processor.0 ≡ k → d.0 ≡ k) entries d.0 e (λ a b. b)
            (λ k ne a b. absurd (unnamed is.nowhere k a b));
      }

  departed_placed : (e : ProcessorId) → is_in Ready x ≡ true → 1 ≤ x.processor.0 → x.processor.0 ≢ e.0 → 1 ≤ e.0 → e.0 ≤ n
      → Placed n (at_number history (suc x.moves) e.0) (departed x)
      (at_number entries x.processor.0 (pointing (entries x.processor.0) (hint e (x.moves + 1)))) (movers ++ one e.0)
  departed_placed e r stands other l f =
      let z : length movers ≡ 0 = rw (state_is Ready Moving x r) at p.one_mover in
      let d = x.processor.0 in
      let m = suc x.moves in
      let more = add-one x.moves in
      let o = pointing (entries d) (hint e (x.moves + 1)) in
      let sent : at_number history m e.0 (x.moves + 1) ≡ e.0 = rw more (updated_same (λ (i : ℕ). i) history m e.0) in
      record {
        one_mover = length-append movers (one e.0) ∙ rw z refl;
        address = λ k i. ⊎_elim (λ j. j ∙ sym sent) (λ j. none_in movers z j) (in_post movers i);
        table = rw (hints_kept entries d o, more) (depart d e.0 stands l f p.table);
        self =
            at_elim (λ k q. 1 ≤ k → q.hint.processor.0 ≡ k → 0 ≡ k) entries d o (λ a b. absurd (other (sym b)))
            (λ k ne a b. absurd (ne (sym (p.self k a b))));
      }

  arrived_placed : (d : ProcessorId) (k held : ℕ) → is_in Moving x ≡ true → x.processor.0 ≡ 0 → 1 ≤ x.moves → d.0 ≡ history x.moves
      → get_elem? movers k ≡ some d.0
      → Placed n history (without_children (arrived x d) held) (at_number entries d.0 (arrival_parent d x.moves)) (without movers k)
  arrived_placed d k held i nowhere count e l =
      let one : length movers ≡ 1 = rw i at p.one_mover in
      let z : length (without movers k) ≡ 0 = omega (arith, length_without movers k l) in
      let o = arrival_parent d x.moves in
      record {
        one_mover = z;
        address = λ k j. none_in (without movers _) z j;
        table = rw (hints_kept entries d.0 o) (arrive d.0 count e (rw nowhere at p.table));
        self =
            at_elim (λ k q. 1 ≤ k → q.hint.processor.0 ≡ k → d.0 ≡ k) entries d.0 o (λ a b. b)
            (λ k ne a b. absurd (unnamed nowhere k a b));
      }

module _ {m : Programs} {h : Histories} {s : Net} {x : Reading} {w : ChannelId → List Word} (r : Running m h s x w) where
  -- nobody's place changes
  same_places : (y : Reading) → y.processors ≡ x.processors → ((t : TaskId) → SamePlace (x.tasks t) (y.tasks t))
      → ((t : TaskId) (d : ℕ) → (y.parents t d).hint ≡ (x.parents t d).hint)
      → ((t : TaskId) → movers_of t y.messages ≡ movers_of t x.messages) → AllPlaced m h y
  same_places y n e k l t i = rw (n, l t) (same_pointers (k t) (same_placed (e t) (r.places t i)))

  same : (z : Task) → SamePlace z z
  same z = steady_place (unchanged z)

  -- nothing is kept otherwise
  still : {f : TaskId → ℕ → ParentEntry} → f ≡ x.parents → (t : TaskId) (d : ℕ) → (f t d).hint ≡ (x.parents t d).hint
  still e t d = rw e refl

  -- by each act: a step about a channel, of one task, an end
  pub places_channel : {y : Reading} {e : Event} {got : Received} → ChannelTransition m h x y e got → AllPlaced m h y
  places_channel {y} transition =
      let c = transition.channel in
      let i = steady_place (end_step_steady sends transition.sender_end_step) in
      let j = steady_place (end_step_steady receives transition.receiver_end_step) in
      same_places y transition.processors
      (λ t.
      rw transition.tasks
      (kept_two SamePlace same x.tasks (sender_of m c) (receiver_of m c) transition.sender transition.receiver t (λ e. i) (λ e. j)))
      (still transition.parents)
      transition.movers

  pub places_own : {y : Reading} → OwnTransition m h x y → AllPlaced m h y
  places_own {y} transition =
      let i = steady_place (own_steady transition.runs.ready transition.own) in
      same_places y transition.unseen.processors
      (λ t. rw transition.tasks (kept_one SamePlace same x.tasks transition.task transition.then t (λ e. i)))
      (still transition.parents)
      (λ t. rw transition.messages refl)

  pub places_finish : {y : Reading} → FinishTransition m h x y → AllPlaced m h y
  places_finish {y} transition = go transition.task (finished_place (x.tasks transition.task) transition.runs.ready) transition.finishing
    where
      go : (t : TaskId) → SamePlace (x.tasks t) (finished (x.tasks t)) → Finishing m h x y t → AllPlaced m h y
      go t i (alone e f l) =
          same_places y transition.unseen.processors
          (λ u. rw f (kept_one SamePlace same x.tasks t (finished (x.tasks t)) u (λ e. i)))
          (still transition.parents)
          (λ u. rw l refl)
      go t i (near ne f l) =
          let p = parent_of m t in
          let j = lost_place (x.tasks p) t in
          same_places y transition.unseen.processors
          (λ u. rw f (kept_two SamePlace same x.tasks p t (without_child (x.tasks p) t) (finished (x.tasks t)) u (λ e. j) (λ e. i)))
          (still transition.parents)
          (λ u. rw l refl)
      go t i (away along ne at f l) =
          same_places y transition.unseen.processors
          (λ u. rw f (kept_one SamePlace same x.tasks t (finished (x.tasks t)) u (λ e. i)))
          (still transition.parents)
          (λ u. rw l (flat_post_nothing (mover_to u) x.messages (Terminated along t) (no_mover u along t)))

  pub places_ended : {y : Reading} → EndedTransition m h x y → AllPlaced m h y
  places_ended {y} transition = go transition.ending
    where
      t : TaskId
      t = transition.task

      p : TaskId
      p = parent_of m t

      d : ℕ
      d = transition.along.processor.0

      -- the letter is no mover
      left : (u : TaskId) → movers_of u (without x.messages transition.p) ≡ movers_of u x.messages
      left u = flat_without (mover_to u) x.messages transition.p transition.message (no_mover u transition.along t)

      go : Ending m h x y transition.p transition.along t → AllPlaced m h y
      go (taken f l k) =
          same_places y transition.unseen.processors
          (λ u. rw f (kept_one SamePlace same x.tasks p (without_child (x.tasks p) t) u (λ e. lost_place (x.tasks p) t)))
          (still k)
          (λ u. rw l (left u))
      go (onward more f l k) =
          let pointer = (x.parents p d).hint in
          same_places y transition.unseen.processors
          (λ u. rw f (same (x.tasks u)))
          (still k)
          (λ u. rw l (flat_post_nothing (mover_to u) (without x.messages transition.p) (Terminated pointer t) (no_mover u pointer t) ∙ left u))
      go (holds c f l k) =
          same_places y transition.unseen.processors
          (λ u. rw f (same (x.tasks u)))
          (λ u e.
          rw k
          (at-task-elim (λ v o. (o e).hint ≡ (x.parents v e).hint) x.parents p (at_number (x.parents p) d (holding_child (x.parents p d) t))
          (at_elim (λ i o. o.hint ≡ (x.parents p i).hint) (x.parents p) d (holding_child (x.parents p d) t) refl (λ i ne. refl) e)
          (λ v ne. refl) u))
          (λ u. rw l (left u))

  -- task t changes its place, and nobody else
  one_place : (later : Histories) (y : Reading) (t : TaskId) → y.processors ≡ x.processors
      → (within 1 (length m) t.0 ≡ true → Placed x.processors (later t) (y.tasks t) (y.parents t) (movers_of t y.messages))
      → ((u : TaskId) → u.0 ≢ t.0 → later u ≡ h u)
      → ((u : TaskId) → u.0 ≢ t.0 → SamePlace (x.tasks u) (y.tasks u))
      → ((u : TaskId) → u.0 ≢ t.0 → y.parents u ≡ x.parents u)
      → ((u : TaskId) → u.0 ≢ t.0 → movers_of u y.messages ≡ movers_of u x.messages)
      → AllPlaced m later y
  one_place later y t n p f e k l =
      task_cases (λ u. within 1 (length m) u.0 ≡ true → Placed y.processors (later u) (y.tasks u) (y.parents u) (movers_of u y.messages)) t
      (λ i. rw n (p i))
      (λ u ne i. rw (n, f u ne, l u ne, k u ne) (same_placed (e u ne) (r.places u i)))

  -- what is kept for task t, and for another
  pub kept_own : {f : TaskId → ℕ → ParentEntry} (t : TaskId) (d : ℕ) (e : ParentEntry) → f ≡ kept_for x t d e → f t ≡ at_number (x.parents t) d e
  kept_own t d e k = rw k (at_task_lem x.parents t (at_number (x.parents t) d e))

  pub kept_other : {f : TaskId → ℕ → ParentEntry} (t : TaskId) (d : ℕ) (e : ParentEntry) → f ≡ kept_for x t d e → (u : TaskId) → u.0 ≢ t.0
      → f u ≡ x.parents u
  kept_other t d e k u ne = rw k (at_other x.parents t u (at_number (x.parents t) d e) ne)

  -- a birth, an arrival and a move
  pub places_create : {h' : Histories} {y : Reading} → CreateTransition m h h' x y → AllPlaced m h' y
  places_create {h'} {y} transition =
      let t = transition.task in
      let c = transition.child in
      let d = (x.tasks t).processor in
      let own = hint d (x.tasks t).moves in
      let e = pointing (x.parents c d.0) (hint d 1) in
      let made = at_task x.tasks t (create_rule (x.tasks t) c) in
      let here = settled x.processors (length m) (program_of m t) (x.tasks t) Ready refl transition.runs.ready (r.tasks t transition.runs.number) in
      one_place h' y c transition.processors
      (λ i.
      let is = unborn_is x.processors (length m) (program_of m c) (x.tasks c) (r.tasks c i) transition.unborn in
      rw (
        transition.tasks,
        at_task_lem made c (born d own),
        transition.messages,
        transition.history,
        sent_there h c 1 d,
        kept_own c d.0 e transition.parents,
      )
      (born_placed (r.places c i) d own transition.unborn is here.processor here.processor_few))
      (λ u ne. rw transition.history (sent_other h c 1 d u ne))
      (λ u ne.
      rw (transition.tasks, at_other made c u (born d own) ne)
      (kept_one SamePlace same x.tasks t (create_rule (x.tasks t) c) u (λ e. creator_place (x.tasks t) transition.runs.ready c)))
      (kept_other c d.0 e transition.parents)
      (λ u ne. rw transition.messages refl)

  -- a moving task is nowhere, and has a count
  pub moving_is : (t : TaskId) → within 1 (length m) t.0 ≡ true → is_in Moving (x.tasks t) ≡ true → ((x.tasks t).processor.0 ≡ 0) × (1 ≤ (x.tasks t).moves)
  moving_is t i e =
      let b = born_passed x.processors (length m) (program_of m t) (x.tasks t) (r.tasks t i) (state_is Moving Unborn (x.tasks t) e) in
      (eqb-true (x.tasks t).processor.0 0 (rw e at b.processor), within_low 1 9999 (x.tasks t).moves b.moves)

  pub places_arrival : {y : Reading} → ArrivalTransition m h x y → AllPlaced m h y
  places_arrival {y} transition =
      let t = transition.task in
      let d = transition.at in
      let held = (x.parents t d.0).held in
      let z = without_children (arrived (x.tasks t) d) held in
      let e = arrival_parent d (x.tasks t).moves in
      let k = flat_place (mover_to t) x.messages transition.p d.0 transition.message (own_mover t d) in
      let (nowhere, count) = moving_is t transition.number transition.moving in
      one_place h y t transition.processors
      (λ i.
      rw (transition.tasks, at_task_lem x.tasks t z, transition.messages, k.taken, kept_own t d.0 e transition.parents)
      (arrived_placed (r.places t i) d k.place held transition.moving nowhere count transition.sent k.at))
      (λ u ne. refl)
      (λ u ne. rw (transition.tasks, at_other x.tasks t u z ne) (same (x.tasks u)))
      (kept_other t d.0 e transition.parents)
      (λ u ne.
      rw transition.messages
      (flat_without (mover_to u) x.messages transition.p transition.message (other_mover u d t (λ e. ne (sym e)))))

  pub places_move : {h' : Histories} {y : Reading} → MoveTransition m h h' x y → AllPlaced m h' y
  places_move {h'} {y} transition =
      let t = transition.task in
      let d = transition.to in
      let k = suc (x.tasks t).moves in
      let z = departed (x.tasks t) in
      let from = (x.tasks t).processor.0 in
      let e = pointing (x.parents t from) (hint d ((x.tasks t).moves + 1)) in
      let here = settled x.processors (length m) (program_of m t) (x.tasks t) Ready refl transition.ready (r.tasks t transition.number) in
      one_place h' y t transition.processors
      (λ i.
      rw (
        transition.tasks,
        at_task_lem x.tasks t z,
        transition.messages,
        flat_post (mover_to t) x.messages (Migration d t) (one d.0) (own_mover t d),
        transition.history,
        sent_there h t k d,
        kept_own t from e transition.parents,
      )
      (departed_placed (r.places t i) d transition.ready here.processor transition.elsewhere
      (within_low 1 x.processors d.0 transition.processor)
      (within_high 1 x.processors d.0 transition.processor)))
      (λ u ne. rw transition.history (sent_other h t k d u ne))
      (λ u ne. rw (transition.tasks, at_other x.tasks t u z ne) (same (x.tasks u)))
      (kept_other t from e transition.parents)
      (λ u ne.
      rw transition.messages
      (flat_post_nothing (mover_to u) x.messages (Migration d t) (other_mover u d t (λ e. ne (sym e)))))
