-- Every act keeps the invariant of every channel: each view changes by one event or not at all. And task 1 gets no ended letter.
use mathlib.Core.Path.{◌≡◌, ap, ◌∙◌, refl}
use mathlib.Core.List.{List, [], ◌++◌}
use mathlib.Core.Option.{some}
use Prim.Native.Nat.{◌≤◌, ℕ}
use native.Mathlib.Omega.{arith}
use lib.ListN.{length, get_elem?}
use Rattle.base.proofs.Tests.{within_low}
use Rattle.plan.specs.declared.TaskId.{TaskId}
use Rattle.plan.specs.declared.ChannelId.{ChannelId}
use Rattle.plan.specs.declared.Word.{Word}
use Rattle.plan.specs.Numbers.{task_id}
use Rattle.plan.specs.Programs.{Programs}
use Rattle.rules.specs.declared.message.Message.TheVariants.{Terminated, Migration}
use Rattle.rules.specs.Reports.{Received}
use Rattle.rules.specs.declared.message.Message.{Message}
use Rattle.net.specs.States.{Net}
use Rattle.channel.specs.Views.{View}
use Rattle.channel.specs.Events.{Event, Change, none, event, guard, after, place, sender_born_lem, receiver_born_lem, sender_arrives_lem, receiver_arrives_lem}
use Rattle.channel.specs.Events.{sender_departs_lem, receiver_departs_lem}
use Rattle.channel.specs.Invariant.{Invariant}
use Rattle.channel.specs.Bags.{one, without}
use Rattle.channel.proofs.Keep.{change_keeps}
use Rattle.transitions.specs.Readings.{Reading}
use Rattle.transitions.specs.Messages.{ended_to, ended_of}
use Rattle.transitions.specs.Views.{Histories, view_of}
use Rattle.transitions.specs.Transitions as Transitions
use Rattle.transitions.specs.Transitions.{ChannelTransition, Unseen, Placing, sender_birth, receiver_birth, sender_arrival, receiver_arrival, Departing, sender_departure, Ending, taken, onward, holds}
use Rattle.transitions.specs.Transitions.{receiver_departure, Finishing, alone, near, away, MoveTransition, RunTransition, transfers, owns, creates, finishes, DeliverTransition}
use Rattle.transitions.specs.Transitions.{delivers, ends, arrives}
use Rattle.transitions.specs.Agreement.{Running}
use Rattle.transitions.proofs.Updates.{channel_cases}
use Rattle.transitions.proofs.Flats.{flat_post_nothing, flat_without, other_ended, no_ended}
use mathlib.Core.Logic.{◌≢◌}
use Rattle.rules.specs.declared.channel.Hint.{Hint}
use Rattle.plan.specs.Users.{parent_of}

-- a birth, an arrival or a departure is an event
placing_change : {v w : View} → Placing v w → Change v w
unfolding guard after
placing_change Transitions.Placing.none = none
placing_change (sender_birth d g) = event (place (sender_born_lem d)) g
placing_change (receiver_birth d g) = event (place (receiver_born_lem d)) g
placing_change (sender_arrival d g) = event (place (sender_arrives_lem d)) g
placing_change (receiver_arrival d g) = event (place (receiver_arrives_lem d)) g

departing_change : {v w : View} → Departing v w → Change v w
unfolding guard after
departing_change Transitions.Departing.none = none
departing_change (sender_departure g) = event (place sender_departs_lem) g
departing_change (receiver_departure e g) = event (place (receiver_departs_lem e)) g

-- the invariant of every channel, and a change of every view
abbrev Views : Programs → Histories → Reading → Type 0
Views m h y = (c : ChannelId) → 1 ≤ c.0 → c.0 ≤ 128 → Invariant (view_of m h y c)

abbrev pub Changes : Programs → Histories → Histories → Reading → Reading → Type 0
Changes m h h' x y = (c : ChannelId) → 1 ≤ c.0 → c.0 ≤ 128 → Change (view_of m h x c) (view_of m h' y c)

module _ (m : Programs) {h : Histories} {x : Reading} where
  -- a step about a channel, and one that no channel sees
  channel_changes : {y : Reading} {e : Event} {got : Received} → ChannelTransition m h x y e got → Changes m h h x y
  channel_changes {y} {e} transition =
      channel_cases (λ c. 1 ≤ c.0 → c.0 ≤ 128 → Change (view_of m h x c) (view_of m h y c)) transition.channel
      (λ l u. rw transition.view (event e transition.allowed))
      (λ c ne l u. rw (transition.others c l u ne) none)

  unseen_changes : {y : Reading} → Unseen m h x y → Changes m h h x y
  unseen_changes a c l u = rw (a.views c l u) none

  -- by each act
  pub changes_run : {h' : Histories} {y : Reading} {got : Received} → RunTransition m h x h' y got → Changes m h h' x y
  changes_run (transfers e transition) = channel_changes transition
  changes_run (owns transition) = unseen_changes transition.unseen
  changes_run (creates transition) = λ c l u. placing_change (transition.views c l u)
  changes_run (finishes transition) = unseen_changes transition.unseen

  pub changes_deliver : {y : Reading} {got : Received} → DeliverTransition m h x y got → Changes m h h x y
  changes_deliver (delivers p a transition) = channel_changes transition
  changes_deliver (ends transition) = unseen_changes transition.unseen
  changes_deliver (arrives transition) = λ c l u. placing_change (transition.views c l u)

  pub changes_move : {h' : Histories} {y : Reading} → MoveTransition m h h' x y → Changes m h h' x y
  changes_move transition c l u = departing_change (transition.views c l u)

module _ (m : Programs) {h : Histories} {s : Net} {x : Reading} {w : ChannelId → List Word} (run : Running m h s x w) where
  pub views_changed : (h' : Histories) (y : Reading) → Changes m h h' x y → Views m h' y
  views_changed h' y changes c l u = change_keeps (changes c l u) (run.views c l u)

  -- no ended letter names task 1: none leaves or comes that does
  still_root : {ms : List Message} → ms ≡ x.messages → ended_of (task_id 1) ms ≡ []
  still_root e = ap (ended_of (task_id 1)) e ∙ run.root

  posted_root : {ms : List Message} (a : Message) → ms ≡ x.messages ++ one a → ended_to (task_id 1) a ≡ [] → ended_of (task_id 1) ms ≡ []
  posted_root a e other = ap (ended_of (task_id 1)) e ∙ flat_post_nothing (ended_to (task_id 1)) x.messages a other ∙ run.root

  taken_root : {ms : List Message} (p : ℕ) {a : Message} → get_elem? x.messages p ≡ some a → ms ≡ without x.messages p
      → ended_to (task_id 1) a ≡ [] → ended_of (task_id 1) ms ≡ []
  taken_root p at e other = ap (ended_of (task_id 1)) e ∙ flat_without (ended_to (task_id 1)) x.messages p at other ∙ run.root

  finish_root : {y : Reading} (t : TaskId) → Finishing m h x y t → ended_of (task_id 1) y.messages ≡ []
  finish_root t (alone z e l) = still_root l
  finish_root t (near ne e l) = still_root l
  finish_root t (away along ne ways e l) = posted_root (Terminated along t) l (other_ended (task_id 1) along t ne)

  -- the letter of another task leaves, and may be forwarded
  ended_root : {y : Reading} (p : ℕ) (along : Hint) (t : TaskId) → get_elem? x.messages p ≡ some (Terminated along t) → t.0 ≢ 1
      → Ending m h x y p along t → ended_of (task_id 1) y.messages ≡ []
  ended_root p along t at ne (taken e l k) = taken_root p at l (other_ended (task_id 1) along t ne)
  ended_root p along t at ne (onward more e l k) =
      let pointer = (x.parents (parent_of m t) along.processor.0).hint in
      ap (ended_of (task_id 1)) l
      ∙ flat_post_nothing (ended_to (task_id 1)) (without x.messages p) (Terminated pointer t) (other_ended (task_id 1) pointer t ne)
      ∙ taken_root p at refl (other_ended (task_id 1) along t ne)
  ended_root p along t at ne (holds c e l k) = taken_root p at l (other_ended (task_id 1) along t ne)

  pub root_run : {h' : Histories} {y : Reading} {got : Received} → RunTransition m h x h' y got → ended_of (task_id 1) y.messages ≡ []
  root_run (transfers e transition) = transition.ended (task_id 1) ∙ run.root
  root_run (owns transition) = still_root transition.messages
  root_run (creates transition) = still_root transition.messages
  root_run (finishes transition) = finish_root transition.task transition.finishing

  pub root_deliver : {y : Reading} {got : Received} → DeliverTransition m h x y got → ended_of (task_id 1) y.messages ≡ []
  root_deliver (delivers p a transition) = transition.ended (task_id 1) ∙ run.root
  root_deliver (ends transition) =
      let l = within_low 2 (length m) transition.task.0 transition.number in
      ended_root transition.p transition.along transition.task transition.message (λ e. omega arith) transition.ending
  root_deliver (arrives transition) = taken_root transition.p transition.message transition.messages (no_ended (task_id 1) transition.at transition.task)

  pub root_move : {h' : Histories} {y : Reading} → MoveTransition m h h' x y → ended_of (task_id 1) y.messages ≡ []
  root_move transition = posted_root (Migration transition.to transition.task) transition.messages (no_ended (task_id 1) transition.to transition.task)
