-- Each label of the machine leaves fewer goings on, so that it comes to rest.
use mathlib.Core.Path.{◌≡◌, ap}
use mathlib.Core.Bool.{true}
use mathlib.Core.List.{List, [], ◌∷◌}
use mathlib.Core.Logic.{◌≢◌, ◌⊎◌, inl, inr, ⊎_elim, by_cases}
use Prim.Native.Nat.{ℕ, zero, suc, ◌-◌, ◌≤◌, ◌<◌}
use native.Mathlib.Nat.{le_refl}
use native.Mathlib.Decide.{ℕ_discrete}
use native.Mathlib.Omega.{arith}
use lib.ListN.{length}
use Rattle.base.specs.Range.{sum_below}
use Rattle.base.proofs.Sums.{sum_less}
use Rattle.base.proofs.Updates.{updated_same, updated_other}
use Rattle.plan.specs.declared.TaskId.{TaskId}
use Rattle.plan.specs.declared.ChannelId.{ChannelId}
use Rattle.plan.specs.Numbers.{task_id}
use Rattle.plan.specs.Kinds.{op_send, op_receive}
use Rattle.plan.specs.Programs.{Programs}
use Rattle.plan.specs.Users.{sender_of, receiver_of}
use Rattle.plan.specs.Repeats.{written_out_plan}
use Rattle.plan.specs.RepeatPlaces.{place, go_on}
use Rattle.plan.specs.RepeatRefusals.{new_instructions_ok}
use Rattle.repeat_laws.specs.Left.{goings}
use Rattle.net.specs.Machines.{Run, stop, take, Normal}
use Rattle.net.specs.States.{Net, at_task}
use Rattle.net.specs.Labels.{Label, own, pass}
use Rattle.net.specs.Guards.{program_for, is_active, next_of, stands_at, enabled}
use Rattle.net.specs.Effects.{after_own, after_pass, effect}
use Rattle.net.specs.Nets.{net}
use Rattle.net.proofs.Parts.{same_task_lem, own_active, sender_stands, receiver_stands, stands_active, stands_opcode, ends_apart}
use Rattle.net.proofs.Halting.{Next, Halts}
use Rattle.net.proofs.Remaining.{active_short, active_task, reaches_normal}
use Rattle.repeats.specs.Machine.{Repeated, place_in, repeat_effect, repeat_machine}
use Rattle.repeats.specs.Beside.{Alike}
use Rattle.repeats.proofs.Tasks.{beside_less}
use Rattle.repeats.proofs.Follows.{kind_plain, program_fine, goes_plain, Follows, still, along, follows}

-- how often a task goes on from where it stands, and all tasks together
abbrev pub goings_of : Programs → Repeated → TaskId → ℕ
goings_of m s u = goings (program_for m u) (place_in s u)

unfoldable pub all_goings : Programs → Repeated → ℕ
all_goings m s = sum_below (length m) (λ k. goings_of m s (task_id (suc k)))

module _ (m : Programs) (fine : new_instructions_ok m ≡ true) (s : Repeated) (n : Net) (a : Alike m s n) where
  -- a task that goes on
  goes_less : (t : TaskId) → is_active m s.net t ≡ true → goings (program_for m t) (go_on (program_for m t) (place_in s t)) < goings_of m s t
  goes_less t active = beside_less (length m) (program_for m t) (program_fine m fine t) (a.tasks t) (active_short m s.net t active)

  -- .. by one
  stands_less : (t : TaskId) (k : ℕ) (c : ChannelId) → k < 8 → stands_at m s.net t k c ≡ true
      → goings (program_for m t) (place (suc (s.net.completed t)) (s.rounds t)) < goings_of m s t
  stands_less t k c few h =
      rw (← goes_plain m fine s n a t (kind_plain (next_of m s.net t) k (stands_opcode m s.net t k c h) few)) (goes_less t (stands_active m s.net t k c h))

  -- by an instruction of its own
  module _ (t : TaskId) (h : enabled m s.net (own t) ≡ true) where
    own_here : goings_of m (repeat_effect m s (own t)) t < goings_of m s t
    unfolding repeat_effect
    own_here = rw (updated_same, updated_same) (goes_less t (own_active m s.net t h))

    own_others : (u : TaskId) → u.0 ≢ t.0 → goings_of m (repeat_effect m s (own t)) u ≡ goings_of m s u
    unfolding repeat_effect effect after_own
    own_others u ne = simp updated_other

    own_all : (u : TaskId) → goings_of m (repeat_effect m s (own t)) u ≤ goings_of m s u
    own_all u =
        by_cases (ℕ_discrete u.0 t.0)
        (λ e. rw (same_task_lem u t e) (omega (arith, own_here)))
        (λ ne. omega (arith, own_others u ne))

  -- by a pass
  module _ (c : ChannelId) (h : enabled m s.net (pass c) ≡ true) where
    abbrev x : TaskId
    x = sender_of m c

    abbrev y : TaskId
    y = receiver_of m c

    pass_receiver : goings_of m (repeat_effect m s (pass c)) y < goings_of m s y
    unfolding repeat_effect effect after_pass
    pass_receiver = rw (updated_same) (stands_less y op_receive c (omega arith) (receiver_stands m s.net c h))

    pass_sender : goings_of m (repeat_effect m s (pass c)) x < goings_of m s x
    unfolding repeat_effect effect after_pass
    pass_sender =
        rw (updated_other _ (at_task s.net.completed x (suc (s.net.completed x))) y x (suc (s.net.completed y)) (ends_apart m s.net c h), updated_same)
        (stands_less x op_send c (omega arith) (sender_stands m s.net c h))

    pass_others : (u : TaskId) → u.0 ≢ x.0 → u.0 ≢ y.0 → goings_of m (repeat_effect m s (pass c)) u ≡ goings_of m s u
    unfolding repeat_effect effect after_pass
    pass_others u p q = simp updated_other

    pass_all : (u : TaskId) → goings_of m (repeat_effect m s (pass c)) u ≤ goings_of m s u
    pass_all u =
        by_cases (ℕ_discrete u.0 y.0)
        (λ e. rw (same_task_lem u y e) (omega (arith, pass_receiver)))
        (λ ne.
        by_cases (ℕ_discrete u.0 x.0)
        (λ e. rw (same_task_lem u x e) (omega (arith, pass_sender)))
        (λ no. omega (arith, pass_others u no ne)))

  less_at : (t : TaskId) (z : Repeated) → is_active m s.net t ≡ true → ((u : TaskId) → goings_of m z u ≤ goings_of m s u) → goings_of m z t < goings_of m s t
      → all_goings m z < all_goings m s
  unfolding all_goings
  less_at t z active all here =
      let (low, high) = active_task m s.net t active in
      let e : t ≡ task_id (suc (t.0 - 1)) = ap task_id (omega arith) in
      sum_less (length m) _ _ (λ k q. all (task_id (suc k))) (t.0 - 1) (omega arith) (rw (← e) here)

  pub label_less : (l : Label) → enabled m s.net l ≡ true → all_goings m (repeat_effect m s l) < all_goings m s
  label_less (own t) h = less_at t _ (own_active m s.net t h) (own_all t h) (own_here t h)
  label_less (pass c) h = less_at (sender_of m c) _ (stands_active m s.net (sender_of m c) op_send c (sender_stands m s.net c h)) (pass_all c h) (pass_sender c h)

-- some label may be taken, or none
pub next_label : (m : Programs) (s : Repeated) → Next (repeat_machine m) s ⊎ Normal (repeat_machine m) s
next_label m s = go (reaches_normal m s.net).run (reaches_normal m s.net).normal
  where
    go : {z : Net} {ls : List Label} → Run (net m) s.net ls z → Normal (net m) z → Next (repeat_machine m) s ⊎ Normal (repeat_machine m) s
    go stop normal = inr normal
    go (take l h r) normal = inl (record { label = l; may = h })

module _ (m : Programs) (fine : new_instructions_ok m ≡ true) where
  -- one label, and then to rest
  onward : (k : ℕ) → ((z : Repeated) (n : Net) → Alike m z n → all_goings m z ≤ k → Halts (repeat_machine m) z) → (s : Repeated) (n : Net) → Alike m s n
      → all_goings m s ≤ suc k → Next (repeat_machine m) s → Halts (repeat_machine m) s
  onward k rest s n a few x =
      let less = label_less m fine s n a x.label x.may in
      let h = go (follows m fine s n a x.label x.may) (omega arith) in
      record { labels = x.label ∷ h.labels; end = h.end; run = take x.label x.may h.run; normal = h.normal }
    where
      go : {z : Repeated} → Follows m z n x.label → all_goings m z ≤ k → Halts (repeat_machine m) z
      go {z} (still b) l = rest z n b l
      go {z} (along may b) l = rest z (effect (written_out_plan m) n x.label) b l

  ended : (s : Repeated) → Normal (repeat_machine m) s → Halts (repeat_machine m) s
  ended s normal = record { labels = []; end = s; run = stop; normal = normal }

  comes_by : (k : ℕ) (s : Repeated) (n : Net) → Alike m s n → all_goings m s ≤ k → Halts (repeat_machine m) s
  comes_by zero s n a few = ⊎_elim (λ x. absurd (omega (arith, label_less m fine s n a x.label x.may))) (ended s) (next_label m s)
  comes_by (suc k) s n a few = ⊎_elim (onward k (comes_by k) s n a few) (ended s) (next_label m s)

  pub comes_to_rest : (s : Repeated) (n : Net) → Alike m s n → Halts (repeat_machine m) s
  comes_to_rest s n a = comes_by (all_goings m s) s n a (le_refl (all_goings m s))
