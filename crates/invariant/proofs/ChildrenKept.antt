-- Every step but a birth keeps every child with its parent.
use mathlib.Core.Path.{◌≡◌, refl, sym, ap, ◌∙◌}
use mathlib.Core.Bool.{true}
use mathlib.Core.Logic.{◌≢◌, by_cases}
use mathlib.Core.List.{List, ◌++◌}
use Prim.Native.Nat.{◌≤◌, ℕ, suc, ◌+◌}
use native.Mathlib.Omega.{arith}
use lib.ListN.{length, get_elem?}
use Rattle.std.specs.Prelude.{Ok}
use Rattle.base.specs.Choice.{within}
use Rattle.base.specs.Sets.{member}
use Rattle.base.proofs.Tests.{within_low, within_high}
use Rattle.base.proofs.Sets.{other_inserted, removed_inside, removed_all_inside}
use Rattle.plan.specs.declared.TaskId.{TaskId}
use Rattle.plan.specs.declared.ChannelId.{ChannelId}
use Rattle.plan.specs.declared.Word.{Word}
use Rattle.plan.specs.Numbers.{task_id}
use Rattle.plan.specs.Programs.{Programs}
use Rattle.plan.specs.Users.{sender_of, receiver_of, parent_of}
use Rattle.plan.specs.Refusals.{plan_answer}
use Rattle.rules.specs.declared.task.TaskState.TheVariants.{Ready}
use Rattle.rules.specs.declared.task.Task.{Task}
use Rattle.rules.specs.declared.message.Message.TheVariants.{Terminated, Migration}
use Rattle.rules.specs.Reports.{Received}
use Rattle.rules.specs.Tasks.{is_in, departed, arrived, without_child, without_children}
use Rattle.rules.specs.Local.{holding_child}
use Rattle.rules_sound.proofs.Settled.{settled}
use Rattle.net.specs.States.{Net, at_task}
use Rattle.channel.specs.Bags.{one, without}
use Rattle.channel.specs.Events.{Event}
use Rattle.transitions.specs.Readings.{Reading, kept_for}
use Rattle.transitions.specs.Progress.{program_of}
use Rattle.transitions.specs.Messages.{ended_to, ended_of}
use Rattle.transitions.specs.Views.{Histories}
use Rattle.transitions.specs.Transitions.{ChannelTransition, OwnTransition, FinishTransition, Finishing, alone, near, away, EndedTransition, Ending, taken, onward, holds, ArrivalTransition, MoveTransition, finished}
use Rattle.transitions.specs.Family.{Child, Kin}
use Rattle.transitions.specs.Agreement.{Running}
use Rattle.transitions.proofs.Updates.{at_task_lem, at_other, task_cases, at_elim}
use Rattle.transitions.proofs.Flats.{flat_post, flat_post_nothing, flat_without, flat_place, own_ended, other_ended, no_ended, Sorted}
use Rattle.transitions.proofs.Parents.{child_number, parent_other, parent_number}
use Rattle.transitions.proofs.Tasks.{sends, receives, unchanged}
use Rattle.transitions.proofs.EndSteps.{end_step_steady}
use Rattle.invariant.proofs.FamilyParts.{ChildIn, AllChildren, Kindred, SameLife, SameFamily, same_child, steady_life, steady_family, kept_one, kept_two, own_steady}
use Rattle.invariant.proofs.FamilyParts.{lost_set, lost_life, lost_family, departed_life, arrived_life}
use Rattle.invariant.proofs.ChildParts.{near_child, away_child, ended_child, onward_child, held_child, departed_child, arrived_child}
use Rattle.invariant.proofs.PlacesKept.{sent_there, sent_other, kept_own, kept_other}
use native.Mathlib.Decide.{ℕ_discrete}
use Rattle.rules.specs.declared.channel.Hint.{Hint}
use Rattle.rules.specs.declared.system.ParentEntry.{ParentEntry}
use Rattle.rules.specs.Hints.{hint}
use Rattle.rules.specs.Starts.{pointing}
use Rattle.rules.specs.Arrivals.{arrival_parent}
use Rattle.channel.specs.Updates.{at_number}
use Rattle.channel.proofs.Hints.{pointed}
use Rattle.channel.proofs.Updates.{at_elim as at-number-elim}
use Rattle.plan_laws.proofs.Answers.{sized, plan_passed}
use mathlib.Core.Option.{some}

-- who is in a set was in it
abbrev Fewer : TaskId → Task → Task → Type 0
Fewer u x z = member u.0 z.children ≡ true → member u.0 x.children ≡ true

-- a task that loses child t
lost_fewer : (x : Task) (t u : TaskId) → 1 ≤ t.0 → 1 ≤ u.0 → Fewer u x (without_child x t)
lost_fewer x t u i j e = removed_inside t.0 x.children u.0 i j (rw (lost_set x t) at e)

module _ (m : Programs) (a : plan_answer m ≡ Ok tt) {h : Histories} {s : Net} {x : Reading} {w : ChannelId → List Word}
    (r : Running m h s x w) where
  -- a child of which nothing changes
  pub kept_child : (h' : Histories) (y : Reading) (u : TaskId) → within 2 (length m) u.0 ≡ true → h' (parent_of m u) ≡ h (parent_of m u)
      → SameFamily u (x.tasks (parent_of m u)) (y.tasks (parent_of m u)) → SameLife (x.tasks u) (y.tasks u)
      → ((d : ℕ) → member u.0 (y.parents (parent_of m u) d).held ≡ member u.0 (x.parents (parent_of m u) d).held)
      → ended_of u y.messages ≡ ended_of u x.messages → ChildIn m h' y u
  kept_child h' y u i e f l k o = rw (e, o) (same_child f l k (r.children u i))

  -- only a task's own children are in its set: those that were
  fewer_kin : (f : TaskId → Task) → ((p u : TaskId) → 1 ≤ u.0 → Fewer u (x.tasks p) (f p)) → Kin m f
  fewer_kin f g p u i e = r.kin p u i (g p u i e)

  -- nothing else is kept for parents
  alike : {f : TaskId → ℕ → ParentEntry} → f ≡ x.parents → (u p : TaskId) (d : ℕ) → member u.0 (f p d).held ≡ member u.0 (x.parents p d).held
  alike e u p d = rw e refl

  pub life : (z : Task) → SameLife z z
  life z = steady_life (unchanged z)

  pub family : (u : TaskId) (z : Task) → SameFamily u z z
  family u z = steady_family (unchanged z) u

  -- no family changes
  same_kindred : (y : Reading) → ((u : TaskId) → SameLife (x.tasks u) (y.tasks u))
      → ((u p : TaskId) → SameFamily u (x.tasks p) (y.tasks p)) → y.parents ≡ x.parents
      → ((u : TaskId) → ended_of u y.messages ≡ ended_of u x.messages)
      → Kindred m h y
  same_kindred y l f k e =
      record {
        children = λ u i. kept_child h y u i refl (f u (parent_of m u)) (l u) (alike k u (parent_of m u)) (e u);
        kin = fewer_kin y.tasks (λ p u i q. sym (f u p).members ∙ q);
      }

  -- by each act
  pub kindred_channel : {y : Reading} {e : Event} {got : Received} → ChannelTransition m h x y e got → Kindred m h y
  kindred_channel {y} transition =
      let c = transition.channel in
      let i = end_step_steady sends transition.sender_end_step in
      let j = end_step_steady receives transition.receiver_end_step in
      same_kindred y
      (λ u.
      rw transition.tasks
      (kept_two SameLife life x.tasks (sender_of m c) (receiver_of m c) transition.sender transition.receiver u (λ e. steady_life i) (λ e. steady_life j)))
      (λ u p.
      rw transition.tasks
      (kept_two (SameFamily u) (family u) x.tasks (sender_of m c) (receiver_of m c) transition.sender transition.receiver p (λ e. steady_family i u)
      (λ e. steady_family j u)))
      transition.parents
      transition.ended

  pub kindred_own : {y : Reading} → OwnTransition m h x y → Kindred m h y
  kindred_own {y} transition =
      let i = own_steady transition.runs.ready transition.own in
      same_kindred y
      (λ u. rw transition.tasks (kept_one SameLife life x.tasks transition.task transition.then u (λ e. steady_life i)))
      (λ u p. rw transition.tasks (kept_one (SameFamily u) (family u) x.tasks transition.task transition.then p (λ e. steady_family i u)))
      transition.parents
      (λ u. rw transition.messages refl)

  -- a task goes or comes: its children, and all others
  module _ (h' : Histories) (y : Reading) (t : TaskId) (z : Task) (d : ℕ) (e : ParentEntry) (tasks : y.tasks ≡ at_task x.tasks t z)
      (parents : y.parents ≡ kept_for x t d e) (there : (u : TaskId) → u.0 ≢ t.0 → h' u ≡ h u) (lives : SameLife (x.tasks t) z)
      (ended : (u : TaskId) → ended_of u y.messages ≡ ended_of u x.messages) where
    moved_kindred : ((u : TaskId) → within 2 (length m) u.0 ≡ true
        → Child u (h t) (x.tasks t) (x.tasks u) (x.parents t) (ended_of u x.messages)
        → Child u (h' t) z (x.tasks u) (at_number (x.parents t) d e) (ended_of u x.messages))
        → ((u : TaskId) → 1 ≤ u.0 → Fewer u (x.tasks t) z) → Kindred m h' y
    moved_kindred own fewer =
        record {
          children =
              λ u i.
              by_cases
              (ℕ_discrete (parent_of m u).0 t.0)
              (λ (q : (parent_of m u).0 ≡ t.0).
              let parent : parent_of m u ≡ t = ap task_id q in
              let other : u.0 ≢ t.0 = λ o. parent_other m a u i (q ∙ sym o) in
              let now : Child u (h' t) (y.tasks t) (y.tasks u) (y.parents t) (ended_of u y.messages) =
              rw (tasks, at_task_lem x.tasks t z, at_other x.tasks t u z other, kept_own r t d e parents, ended u) (own u i (rw parent at (r.children u i))) in
              rw parent now)
              (λ ne.
              kept_child h' y u i (there (parent_of m u) ne)
              (rw (tasks, at_other x.tasks t (parent_of m u) z ne) (family u (x.tasks (parent_of m u))))
              (rw tasks (kept_one SameLife life x.tasks t z u (λ o. lives)))
              (λ f. rw (kept_other r t d e parents (parent_of m u) ne) refl) (ended u));
          kin = fewer_kin y.tasks (λ p u i. rw tasks (kept_one (Fewer u) (λ k q. q) x.tasks t z p (λ o. fewer u i)));
        }

  pub kindred_move : {h' : Histories} {y : Reading} → MoveTransition m h h' x y → Kindred m h' y
  kindred_move {h'} {y} transition =
      let t = transition.task in
      let to = transition.to in
      let k = suc (x.tasks t).moves in
      let d = (x.tasks t).processor.0 in
      let e = pointing (x.parents t d) (hint to ((x.tasks t).moves + 1)) in
      let here = settled x.processors (length m) (program_of m t) (x.tasks t) Ready refl transition.ready (r.tasks t transition.number) in
      moved_kindred h' y t (departed (x.tasks t)) d e transition.tasks transition.parents
      (λ u ne. rw transition.history (sent_other h t k to u ne)) (departed_life (x.tasks t) transition.ready)
      (λ u. rw transition.messages (flat_post_nothing (ended_to u) x.messages (Migration to t) (no_ended u to t)))
      (λ u i c.
      rw (transition.history, sent_there h t k to)
      (departed_child c to.0 here.processor (at_number (x.parents t) d e)
      (at-number-elim (λ f o. o.held ≡ (x.parents t f).held) (x.parents t) d e refl (λ f ne. refl))))
      (λ u i q. q)

  pub kindred_arrival : {y : Reading} → ArrivalTransition m h x y → Kindred m h y
  kindred_arrival {y} transition =
      let t = transition.task in
      let d = transition.at in
      let held = (x.parents t d.0).held in
      let e = arrival_parent d (x.tasks t).moves in
      moved_kindred h y t (without_children (arrived (x.tasks t) d) held) d.0 e transition.tasks transition.parents (λ u ne. refl)
      (arrived_life (x.tasks t) d held transition.moving)
      (λ u. rw transition.messages (flat_without (ended_to u) x.messages transition.p transition.message (no_ended u d t)))
      (λ u i c.
      arrived_child c d (omega (arith, within_low 2 (length m) u.0 i))
      (omega (arith, within_high 2 (length m) u.0 i, (sized m (plan_passed m a).sizes).tasks.few)) transition.sent)
      (λ u i. removed_all_inside 64 held (x.tasks t).children u.0 i)

  -- child t and its parent change, and no other family
  one_child : (y : Reading) (t : TaskId) → (within 2 (length m) t.0 ≡ true → ChildIn m h y t)
      → ((u : TaskId) → u.0 ≢ t.0 → SameLife (x.tasks u) (y.tasks u))
      → ((u p : TaskId) → 1 ≤ u.0 → u.0 ≢ t.0 → SameFamily u (x.tasks p) (y.tasks p))
      → ((u p : TaskId) (d : ℕ) → 1 ≤ u.0 → u.0 ≢ t.0 → member u.0 (y.parents p d).held ≡ member u.0 (x.parents p d).held)
      → ((u : TaskId) → u.0 ≢ t.0 → ended_of u y.messages ≡ ended_of u x.messages)
      → AllChildren m h y
  one_child y t k l f o e =
      task_cases (λ u. within 2 (length m) u.0 ≡ true → ChildIn m h y u) t k
      (λ u ne i.
      let low = within_low 2 (length m) u.0 i in
      let some : 1 ≤ u.0 = omega arith in
      kept_child h y u i refl (f u (parent_of m u) some ne) (l u ne) (λ d. o u (parent_of m u) d some ne) (e u ne))

  -- an ended letter for child t, at place k of the mail
  module _ (y : Reading) (k : ℕ) (along : Hint) (t : TaskId) (message : get_elem? x.messages k ≡ some (Terminated along t))
      (number : within 2 (length m) t.0 ≡ true) (living : member t.0 (x.tasks (parent_of m t)).children ≡ true) where
    abbrev p : TaskId
    p = parent_of m t

    abbrev d : ℕ
    d = along.processor.0

    -- its place among the ended letters of its child
    place : Sorted (ended_to t) x.messages k along
    place = flat_place (ended_to t) x.messages k along message (own_ended t along)

    left : (u : TaskId) → u.0 ≢ t.0 → ended_of u (without x.messages k) ≡ ended_of u x.messages
    left u ne = flat_without (ended_to u) x.messages k message (other_ended u along t (λ o. ne (sym o)))

    one_is : 1 ≤ t.0
    one_is = omega (arith, within_low 2 (length m) t.0 number)

    ending : Ending m h x y k along t → Kindred m h y
    unfolding place
    ending (taken f l same) =
        let z = without_child (x.tasks p) t in
        let mine : y.tasks p ≡ z = rw f (at_task_lem x.tasks p z) in
        let child : y.tasks t ≡ x.tasks t = rw f (at_other x.tasks p t z (λ e. parent_other m a t number (sym e))) in
        record {
          children =
              one_child y t
              (λ i. rw (mine, child, l, place.taken, same) (ended_child (r.children t i) place.place along place.at living))
              (λ u ne. rw f (kept_one SameLife life x.tasks p z u (λ e. lost_life (x.tasks p) t)))
              (λ u v i ne. rw f (kept_one (SameFamily u) (family u) x.tasks p z v (λ e. lost_family (x.tasks p) t u one_is i (λ o. ne (sym o)))))
              (λ u v e i ne. alike same u v e)
              (λ u ne. rw l (left u ne));
          kin = fewer_kin y.tasks (λ v u i. rw f (kept_one (Fewer u) (λ q e. e) x.tasks p z v (λ e. lost_fewer (x.tasks p) t u one_is i)));
        }
    ending (onward more f l same) =
        let pointer = (x.parents p d).hint in
        let rest = without x.messages k in
        let here = r.places p (parent_number m a t number) in
        let ways = pointed (here.table.right d) (omega (arith, more)) in
        let now : ended_of t (rest ++ one (Terminated pointer t)) ≡ without (ended_of t x.messages) place.place ++ one pointer =
        flat_post (ended_to t) rest (Terminated pointer t) (one pointer) (own_ended t pointer) ∙ ap (λ (o : List Hint). o ++ one pointer) place.taken in
        record {
          children =
              one_child y t
              (λ i. rw (f, l, now, same) (onward_child (r.children t i) place.place along place.at pointer ways))
              (λ u ne. rw f (life (x.tasks u)))
              (λ u v i ne. rw f (family u (x.tasks v)))
              (λ u v e i ne. alike same u v e)
              (λ u ne.
              rw l (flat_post_nothing (ended_to u) rest (Terminated pointer t) (other_ended u pointer t (λ o. ne (sym o))) ∙ left u ne));
          kin = fewer_kin y.tasks (λ v u i q. rw f at q);
        }
    ending (holds c f l same) =
        let e = holding_child (x.parents p d) t in
        record {
          children =
              one_child y t
              (λ i.
              rw (f, l, place.taken, kept_own r p d e same)
              (held_child (r.children t i) place.place along place.at d c))
              (λ u ne. rw f (life (x.tasks u)))
              (λ u v i ne. rw f (family u (x.tasks v)))
              (λ u v j i ne.
              rw same
              (at_elim (λ n o. member u.0 (o j).held ≡ member u.0 (x.parents n j).held) x.parents p (at_number (x.parents p) d e)
              (at-number-elim (λ n o. member u.0 o.held ≡ member u.0 (x.parents p n).held) (x.parents p) d e
              (other_inserted t.0 (x.parents p d).held u.0 one_is i (λ o. ne (sym o))) (λ n ne. refl) j)
              (λ n ne. refl) v))
              (λ u ne. rw l (left u ne));
          kin = fewer_kin y.tasks (λ v u i q. rw f at q);
        }

  pub kindred_ended : {y : Reading} → EndedTransition m h x y → Kindred m h y
  kindred_ended {y} transition =
      ending y transition.p transition.along transition.task transition.message transition.number transition.living transition.ending

  module _ (y : Reading) (t : TaskId) (number : within 1 (length m) t.0 ≡ true) (ready : is_in Ready (x.tasks t) ≡ true) (parents : y.parents ≡ x.parents) where
    -- a task that finishes keeps its set
    finishes : (u : TaskId) → SameFamily u (x.tasks t) (finished (x.tasks t))
    finishes u = record { members = refl; processor = refl; moves = refl }

    apart : t.0 ≢ 1 → (parent_of m t).0 ≢ t.0
    apart first = parent_other m a t (child_number (length m) t.0 number first)

    finishing : Finishing m h x y t → Kindred m h y
    finishing (alone e f l) =
        let z = finished (x.tasks t) in
        record {
          children =
              one_child y t
              (λ j. absurd (omega (arith, within_low 2 (length m) t.0 j, ap (λ (v : TaskId). v.0) e)))
              (λ u ne. rw (f, at_other x.tasks t u z ne) (life (x.tasks u)))
              (λ u v j ne. rw f (kept_one (SameFamily u) (family u) x.tasks t z v (λ o. finishes u)))
              (λ u v d i ne. alike parents u v d)
              (λ u ne. rw l refl);
          kin = fewer_kin y.tasks (λ v u i. rw f (kept_one (Fewer u) (λ q e. e) x.tasks t z v (λ o q. q)));
        }
    finishing (near first f l) =
        let z = finished (x.tasks t) in
        let p = parent_of m t in
        let v = without_child (x.tasks p) t in
        let low = within_low 1 (length m) t.0 number in
        let parent : y.tasks p ≡ v = rw f (at_other (at_task x.tasks p v) t p z (apart first) ∙ at_task_lem x.tasks p v) in
        let child : y.tasks t ≡ z = rw f (at_task_lem (at_task x.tasks p v) t z) in
        record {
          children =
              one_child y t
              (λ j. rw (parent, child, l, parents) (near_child (r.children t j) ready))
              (λ u ne.
              rw (f, at_other (at_task x.tasks p v) t u z ne)
              (kept_one SameLife life x.tasks p v u (λ e. lost_life (x.tasks p) t)))
              (λ u q j ne.
              rw f
              (kept_two (SameFamily u) (family u) x.tasks p t v z q (λ e. lost_family (x.tasks p) t u low j (λ k. ne (sym k))) (λ e. finishes u)))
              (λ u q d i ne. alike parents u q d)
              (λ u ne. rw l refl);
          kin =
              fewer_kin y.tasks
              (λ q u i. rw f (kept_two (Fewer u) (λ o e. e) x.tasks p t v z q (λ e. lost_fewer (x.tasks p) t u low i) (λ e o. o)));
        }
    finishing (away along first ways f l) =
        let z = finished (x.tasks t) in
        let p = parent_of m t in
        let parent : y.tasks p ≡ x.tasks p = rw f (at_other x.tasks t p z (apart first)) in
        let child : y.tasks t ≡ z = rw f (at_task_lem x.tasks t z) in
        record {
          children =
              one_child y t
              (λ j.
              rw (parent, child, l, parents, flat_post (ended_to t) x.messages (Terminated along t) (one along) (own_ended t along))
              (away_child (r.children t j) ready along ways))
              (λ u ne. rw (f, at_other x.tasks t u z ne) (life (x.tasks u)))
              (λ u v j ne. rw f (kept_one (SameFamily u) (family u) x.tasks t z v (λ o. finishes u)))
              (λ u v d i ne. alike parents u v d)
              (λ u ne. rw l (flat_post_nothing (ended_to u) x.messages (Terminated along t) (other_ended u along t (λ o. ne (sym o)))));
          kin = fewer_kin y.tasks (λ v u i. rw f (kept_one (Fewer u) (λ q e. e) x.tasks t z v (λ o q. q)));
        }

  pub kindred_finish : {y : Reading} → FinishTransition m h x y → Kindred m h y
  kindred_finish {y} transition =
      finishing y transition.task transition.runs.number transition.runs.ready transition.parents transition.finishing
