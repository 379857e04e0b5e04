-- The parts of the measure; a step about one channel makes it smaller.
use mathlib.Core.Path.{◌≡◌, refl, ap, ◌∙◌}
use mathlib.Core.Logic.{◌≢◌}
use mathlib.Core.List.{List}
use Prim.Native.Nat.{ℕ, suc, ◌+◌, ◌-◌, ◌*◌, ◌<◌, ◌≤◌}
use native.Mathlib.Omega.{arith}
use Rattle.plan.specs.declared.TaskId.{TaskId}
use Rattle.plan.specs.declared.ChannelId.{ChannelId}
use Rattle.plan.specs.declared.Word.{Word}
use Rattle.plan.specs.Numbers.{channel_id}
use Rattle.plan.specs.Programs.{Programs}
use Rattle.plan.specs.Users.{sender_of, receiver_of, parent_of}
use Rattle.rules.specs.Reports.{Received}
use Rattle.net.specs.States.{Net, at_task}
use Rattle.channel.specs.Events.{Event, Transfer, Delivery, transfer, delivery, guard, after}
use Rattle.channel.specs.Measure.{measure}
use Rattle.channel.proofs.Measure.{delivery_falls, transfer_adds}
use Rattle.transitions.specs.Readings.{Reading}
use Rattle.transitions.specs.Progress.{unexecuted}
use Rattle.transitions.specs.Messages.{messages_on}
use Rattle.transitions.specs.Views.{Histories, view_of}
use Rattle.transitions.specs.Transitions.{Ran, by_sender, by_receiver, by_nobody, ChannelTransition}
use Rattle.transitions.specs.Agreement.{Running}
use Rattle.transitions.proofs.Updates.{task_cases}
use Rattle.invariant.specs.Weights.{instruction_weight, channel_count, channels_weight, tasks_weight, weight_of}
use Rattle.invariant.proofs.Work.{sum_change, Went, one_goes, nobody, work_went, place_other}
use Rattle.invariant.proofs.TaskWeights.{weight_same, weights_same}
use Rattle.invariant.proofs.Counts.{channel_counts}

module _ (m : Programs) where
  -- its parts
  pub split : (h : Histories) (x : Reading)
      → weight_of m h x ≡ instruction_weight * unexecuted m x.tasks + (channels_weight m h x + tasks_weight m h x)
  unfolding weight_of
  split h x = refl

  -- what a view has of the rig
  pub viewed : (h : Histories) (x : Reading) (c : ChannelId) → (view_of m h x c).processors ≡ x.processors
  unfolding view_of
  viewed h x c = refl

  pub seen : (h : Histories) (x : Reading) (c : ChannelId) → (view_of m h x c).messages ≡ messages_on c x.messages
  unfolding view_of
  seen h x c = refl

  -- so many instructions are executed, by the tasks whose places go on, and the measure is smaller
  pub record Less (h h' : Histories) (x y : Reading) (executed : ℕ) : Type 0 where
    pub places : Went m x.tasks y.tasks executed
    pub work : unexecuted m x.tasks ≡ executed + unexecuted m y.tasks
    pub weight : weight_of m h' y < weight_of m h x

  -- a step about one channel
  module _ {h : Histories} {x y : Reading} {e : Event} {got : Received} (transition : ChannelTransition m h x y e got) where
    abbrev c : ChannelId
    c = transition.channel

    spot : channel_id (suc (c.0 - 1)) ≡ c
    spot = ap channel_id (let q : suc (c.0 - 1) ≡ c.0 = let l = transition.low in omega arith in q)

    same_tasks : tasks_weight m h y ≡ tasks_weight m h x
    same_tasks =
        weights_same m h h x y
        (λ u is. weight_same m h h x y u refl (channel_counts m transition (parent_of m u)) transition.processors (transition.ended u) (transition.movers u))

    only_here : channels_weight m h y + measure (view_of m h x c) ≡ channels_weight m h x + measure (after e (view_of m h x c))
    only_here =
        let l = transition.low in
        let u = transition.high in
        let q =
        sum_change channel_count (λ k. measure (view_of m h y (channel_id (suc k)))) (λ k. measure (view_of m h x (channel_id (suc k)))) (c.0 - 1) (omega arith)
        (λ k b ne. ap measure (transition.others (channel_id (suc k)) (omega arith) (omega arith) (omega arith))) in
        let a = ap (λ d. measure (view_of m h x d)) spot in
        let b = ap (λ d. measure (view_of m h y d)) spot ∙ ap measure transition.view in
        omega (arith, q, a, b)

    other_places : (t : TaskId) → t.0 ≢ (sender_of m c).0 → t.0 ≢ (receiver_of m c).0 → (y.tasks t).pc ≡ (x.tasks t).pc
    other_places t ns nr =
        let first = at_task x.tasks (sender_of m c) transition.sender in
        place_other first y.tasks (receiver_of m c) transition.receiver transition.tasks t nr
        ∙ place_other x.tasks first (sender_of m c) transition.sender refl t ns

    -- the others, when one end stays
    rest_of : (s u : TaskId) → ((t : TaskId) → t.0 ≢ s.0 → t.0 ≢ u.0 → (y.tasks t).pc ≡ (x.tasks t).pc) → (y.tasks u).pc ≡ (x.tasks u).pc
        → (t : TaskId) → t.0 ≢ s.0 → (y.tasks t).pc ≡ (x.tasks t).pc
    rest_of s u f g = task_cases (λ t. t.0 ≢ s.0 → (y.tasks t).pc ≡ (x.tasks t).pc) u (λ ne. g) (λ t nu ns. f t ns nu)

    -- a transfer executes one instruction, a delivery none
    transfer_places : {k : Transfer} → Ran m (sender_of m c) (receiver_of m c) x.tasks y.tasks (transfer k) → Went m x.tasks y.tasks 1
    transfer_places (by_sender is more goes stays) =
        one_goes (sender_of m c) is more goes (λ t k. rest_of (sender_of m c) (receiver_of m c) other_places stays t)
    transfer_places (by_receiver is more goes stays) =
        one_goes (receiver_of m c) is more goes (λ t k. rest_of (receiver_of m c) (sender_of m c) (λ t nr ns. other_places t ns nr) stays t)

    delivery_places : {p : ℕ} {a : Delivery} → Ran m (sender_of m c) (receiver_of m c) x.tasks y.tasks (delivery p a) → Went m x.tasks y.tasks 0
    delivery_places (by_nobody a b) =
        nobody (λ t is.
        task_cases (λ t. (y.tasks t).pc ≡ (x.tasks t).pc) (sender_of m c) a (rest_of (sender_of m c) (receiver_of m c) other_places b) t)

  module _ {h : Histories} {s : Net} {x : Reading} {w : ChannelId → List Word} (run : Running m h s x w) where
    pub transfer_less : {y : Reading} {got : Received} (e : Transfer) → ChannelTransition m h x y (transfer e) got → Less h h x y 1
    unfolding guard after
    transfer_less {y} e transition =
        let v = view_of m h x transition.channel in
        let places = transfer_places transition transition.ran in
        let work = work_went places in
        let adds = transfer_adds e v (run.views transition.channel transition.low transition.high) transition.allowed in
        let few : v.processors ≤ 6 = rw (viewed h x transition.channel) run.few in
        record { places = places; work = work; weight = omega (arith, split h x, split h y, work, adds, few, only_here transition, same_tasks transition) }

    pub delivery_less : {y : Reading} {got : Received} (p : ℕ) (a : Delivery) → ChannelTransition m h x y (delivery p a) got → Less h h x y 0
    unfolding guard after
    delivery_less {y} p a transition =
        let v = view_of m h x transition.channel in
        let places = delivery_places transition transition.ran in
        let work = work_went places in
        let falls = delivery_falls p a v (run.views transition.channel transition.low transition.high) transition.allowed in
        record { places = places; work = work; weight = omega (arith, split h x, split h y, work, falls, only_here transition, same_tasks transition) }
