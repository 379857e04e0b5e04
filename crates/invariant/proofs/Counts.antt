-- How often tasks have moved: a birth sets a count of one, a move adds one to the mover's, and no other step changes a count.
use Prim.Native.Nat.{ℕ, ◌+◌, ◌≤◌}
use native.Mathlib.Omega.{arith}
use Rattle.plan.specs.declared.TaskId.{TaskId}
use Rattle.plan.specs.Programs.{Programs}
use Rattle.plan.specs.Users.{sender_of, receiver_of, parent_of}
use Rattle.rules.specs.declared.task.Task.{Task}
use Rattle.rules.specs.Reports.{Received}
use Rattle.rules.specs.Tasks.{born, departed, arrived, without_child, without_children}
use Rattle.rules.specs.Local.{create_rule}
use Rattle.net.specs.States.{at_task}
use Rattle.channel.specs.Events.{Event}
use Rattle.transitions.specs.Readings.{Reading}
use Rattle.transitions.specs.Views.{Histories}
use Rattle.transitions.specs.Transitions.{OwnTransition, FinishTransition, EndedTransition, Ending, taken, onward, holds, ArrivalTransition, ChannelTransition, Finishing, alone, near, away, MoveTransition, RunTransition, transfers, owns, creates, finishes, DeliverTransition, delivers, ends, arrives, finished}
use Rattle.transitions.proofs.Tasks.{sends, receives}
use Rattle.transitions.proofs.EndSteps.{end_step_steady}
use Rattle.transitions.proofs.Updates.{at_elim}
use Rattle.invariant.proofs.FamilyParts.{own_steady, lost_place}
use mathlib.Core.Path.{◌≡◌, refl}
use Rattle.rules.specs.declared.channel.Hint.{Hint}
use Rattle.rules.specs.Hints.{hint}

-- where no count was above k, none is above `more` and k
pub record CountsRise (before after : TaskId → Task) (more : ℕ) : Type 0 where
  pub rise : (k : ℕ) → 1 ≤ k → ((t : TaskId) → (before t).moves ≤ k) → (t : TaskId) → (after t).moves ≤ more + k

-- no count changes
abbrev pub SameCounts : (TaskId → Task) → (TaskId → Task) → Type 0
SameCounts before after = (t : TaskId) → (after t).moves ≡ (before t).moves

same_rise : (f g : TaskId → Task) → SameCounts f g → CountsRise f g 0
same_rise f g e = record { rise = λ k low all t. omega (arith, e t, all t) }

-- one task is changed, or two
module _ (f : TaskId → Task) where
  one_count : (t : TaskId) (x : Task) → x.moves ≡ (f t).moves → SameCounts f (at_task f t x)
  one_count t x e = at_elim (λ u y. y.moves ≡ (f u).moves) f t x e (λ u ne. refl)

  two_counts : (s t : TaskId) (x y : Task) → x.moves ≡ (f s).moves → y.moves ≡ (f t).moves → SameCounts f (at_task (at_task f s x) t y)
  two_counts s t x y d e = at_elim (λ u z. z.moves ≡ (f u).moves) (at_task f s x) t y e (λ u ne. one_count s x d u)

  -- task t is born, or leaves
  risen : (more : ℕ) (g : TaskId → Task) (t : TaskId) (x : Task) → SameCounts f g → ((k : ℕ) → 1 ≤ k → (f t).moves ≤ k → x.moves ≤ more + k)
      → CountsRise f (at_task g t x) more
  risen more g t x e own =
      record { rise = λ k low all. at_elim (λ u y. y.moves ≤ more + k) g t x (own k low (all t)) (λ u ne. omega (arith, e u, all u)) }

module _ (m : Programs) {h : Histories} {x y : Reading} where
  -- no step but a birth and a move changes a count
  pub channel_counts : {e : Event} {got : Received} → ChannelTransition m h x y e got → SameCounts x.tasks y.tasks
  channel_counts transition =
      let c = transition.channel in
      rw transition.tasks
      (two_counts x.tasks (sender_of m c) (receiver_of m c) transition.sender transition.receiver
      (end_step_steady sends transition.sender_end_step).moves
      (end_step_steady receives transition.receiver_end_step).moves)

  pub own_counts : OwnTransition m h x y → SameCounts x.tasks y.tasks
  own_counts transition =
      rw transition.tasks (one_count x.tasks transition.task transition.then (own_steady transition.runs.ready transition.own).moves)

  finishing_counts : (t : TaskId) → Finishing m h x y t → SameCounts x.tasks y.tasks
  finishing_counts t (alone e f l) = rw f (one_count x.tasks t (finished (x.tasks t)) refl)
  finishing_counts t (near ne f l) =
      let p = parent_of m t in
      rw f (two_counts x.tasks p t (without_child (x.tasks p) t) (finished (x.tasks t)) (lost_place (x.tasks p) t).moves refl)
  finishing_counts t (away along ne ways f l) = rw f (one_count x.tasks t (finished (x.tasks t)) refl)

  pub finish_counts : FinishTransition m h x y → SameCounts x.tasks y.tasks
  finish_counts transition = finishing_counts transition.task transition.finishing

  ending_counts : (p : ℕ) (along : Hint) (t : TaskId) → Ending m h x y p along t → SameCounts x.tasks y.tasks
  ending_counts p along t (taken f l k) =
      let v = parent_of m t in
      rw f (one_count x.tasks v (without_child (x.tasks v) t) (lost_place (x.tasks v) t).moves)
  ending_counts p along t (onward more f l k) = λ u. rw f refl
  ending_counts p along t (holds c f l k) = λ u. rw f refl

  pub ended_counts : EndedTransition m h x y → SameCounts x.tasks y.tasks
  ended_counts transition = ending_counts transition.p transition.along transition.task transition.ending

  pub arrival_counts : ArrivalTransition m h x y → SameCounts x.tasks y.tasks
  arrival_counts transition =
      let t = transition.task in
      let d = transition.at in
      rw transition.tasks (one_count x.tasks t (without_children (arrived (x.tasks t) d) (x.parents t d.0).held) refl)

-- so they rise by a birth, which sets one, and by a move
module _ (m : Programs) {h : Histories} {x : Reading} where
  pub counts_run : {h' : Histories} {y : Reading} {got : Received} → RunTransition m h x h' y got → CountsRise x.tasks y.tasks 0
  counts_run {y = y} (transfers e transition) = same_rise x.tasks y.tasks (channel_counts m transition)
  counts_run {y = y} (owns transition) = same_rise x.tasks y.tasks (own_counts m transition)
  counts_run (creates transition) =
      let t = transition.task in
      let u = transition.child in
      let d = (x.tasks t).processor in
      let made = create_rule (x.tasks t) u in
      rw transition.tasks
      (risen x.tasks 0 (at_task x.tasks t made) u (born d (hint d (x.tasks t).moves)) (one_count x.tasks t made refl) (λ k low l. omega arith))
  counts_run {y = y} (finishes transition) = same_rise x.tasks y.tasks (finish_counts m transition)

  pub counts_deliver : {y : Reading} {got : Received} → DeliverTransition m h x y got → CountsRise x.tasks y.tasks 0
  counts_deliver {y} (delivers p a transition) = same_rise x.tasks y.tasks (channel_counts m transition)
  counts_deliver {y} (ends transition) = same_rise x.tasks y.tasks (ended_counts m transition)
  counts_deliver {y} (arrives transition) = same_rise x.tasks y.tasks (arrival_counts m transition)

  pub counts_move : {h' : Histories} {y : Reading} → MoveTransition m h h' x y → CountsRise x.tasks y.tasks 1
  counts_move transition =
      let t = transition.task in
      rw transition.tasks (risen x.tasks 1 x.tasks t (departed (x.tasks t)) (λ u. refl) (λ k low l. omega arith))
