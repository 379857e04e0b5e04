-- Where no label of the machine may be taken, none of the written-out plan's net may.
use mathlib.Core.Path.{◌≡◌, refl, ap}
use mathlib.Core.Bool.{Bool, true, false, not}
use mathlib.Core.List.{[]}
use mathlib.Core.Logic.{by_cases}
use Prim.Native.Nat.{ℕ, ◌-◌, ◌≤◌, ◌<◌}
use native.Mathlib.Decide.{ℕ_discrete, dec_lt}
use native.Mathlib.Omega.{arith}
use lib.ListN.{length, take, length-map, get_or-eq_default}
use borrow.Author.Tests.{eq-eqb, ne_eqb, lt-ltb, le-ltb, ltb-false, not-true}
use Rattle.std.specs.Prelude.{Ok}
use Rattle.base.proofs.Tests.{and_left, and_right, and_both, or_follows, is_false, tests_differ}
use Rattle.plan.specs.declared.TaskId.{TaskId}
use Rattle.plan.specs.declared.ChannelId.{ChannelId}
use Rattle.plan.specs.Kinds.{op_send, op_receive}
use Rattle.plan.specs.Programs.{Program, Programs}
use Rattle.plan.specs.Refusals.{plan_answer}
use Rattle.plan.specs.Users.{sender_of, receiver_of}
use Rattle.plan.specs.Repeats.{written_out, written_out_plan}
use Rattle.plan.specs.RepeatRefusals.{new_instructions_ok}
use Rattle.plan_laws.proofs.Programs.{program_size}
use Rattle.repeat_laws.specs.Left.{is_mark}
use Rattle.net.specs.Machines.{Normal}
use Rattle.net.specs.States.{Net}
use Rattle.net.specs.Consistent.{Consistent}
use Rattle.net.specs.Labels.{own, pass, is_join, is_transfer}
use Rattle.net.specs.Guards.{program_for, is_complete, is_active, next_of, stands_at, children_complete, is_free, enabled}
use Rattle.net.specs.Nets.{net}
use Rattle.net.proofs.Parts.{own_active, own_free, sender_stands, receiver_stands, stands_active}
use Rattle.net.proofs.Remaining.{active_short}
use Rattle.net.proofs.NextInstruction.{program_some}
use Rattle.repeats.specs.Machine.{Repeated, repeat_machine}
use Rattle.repeats.specs.Beside.{Alike}
use Rattle.repeats.proofs.Tasks.{beside_more, beside_short, beside_same}
use Rattle.repeats.proofs.Ends.{program_written, same_sender, same_receiver}
use Rattle.repeats.proofs.Children.{children_follow}
use Rattle.repeats.proofs.Follows.{mark_kind, program_fine}

-- nobody's program
none_0 : (m : Programs) (u : TaskId) → u.0 ≡ 0 → length (program_for m u) ≡ 0
unfolding program_for
none_0 m u e = rw (eq-eqb u.0 0 e) refl

none_past : (m : Programs) (u : TaskId) → (u.0 ≡ 0 → ⊥) → length m ≤ u.0 - 1 → length (program_for m u) ≡ 0
unfolding program_for
none_past m u ne h = rw (ne_eqb u.0 0 ne) (ap length (get_or-eq_default m [] {n = u.0 - 1} h))

module _ (m : Programs) (fine : new_instructions_ok m ≡ true) (accepted : plan_answer (written_out_plan m) ≡ Ok tt) (s : Repeated) (n : Net) (a : Alike m s n)
    (kept : Consistent (written_out_plan m) n) (normal : Normal (repeat_machine m) s) where
  -- a born task that is not at its program's end stands at neither a repeat nor its end: it could go on
  plain_here : (t : TaskId) → n.born t ≡ true → s.net.completed t < length (program_for m t) → is_mark (next_of m s.net t) ≡ false
  unfolding enabled is_active is_complete is_free
  plain_here t born more =
      is_false (is_mark (next_of m s.net t)) (λ e.
      let k = mark_kind (next_of m s.net t) e in
      tests_differ
      (and_both _ _ (and_both (s.net.born t) _ (rw a.born born) (rw (lt-ltb (s.net.completed t) (length (program_for m t)) more) refl))
      (rw (k 4 (omega arith), k 5 (omega arith), k 2 (omega arith), k 3 (omega arith)) refl))
      (normal (own t)))

  -- a task that is active there is active here, at the same instruction
  module _ (t : TaskId) (active : is_active (written_out_plan m) n t ≡ true) where
    abbrev g : Program
    g = program_for m t

    born_there : n.born t ≡ true
    unfolding is_active
    born_there = and_left (n.born t) _ active

    more : s.net.completed t < length g
    more =
        beside_more (length m) g (program_fine m fine t) (a.tasks t) (rw (program_written m t) at (active_short (written_out_plan m) n t active))

    plain : is_mark (next_of m s.net t) ≡ false
    plain = plain_here t born_there more

    active_here : is_active m s.net t ≡ true
    unfolding is_active is_complete
    active_here = and_both (s.net.born t) _ (rw a.born born_there) (rw (lt-ltb (s.net.completed t) (length g) more) refl)

    next_here : next_of (written_out_plan m) n t ≡ next_of m s.net t
    unfolding next_of
    next_here = rw (program_written m t) (beside_same (length m) g (program_fine m fine t) (a.tasks t) more plain)

  -- a task with instructions has some written out
  some_written : (u : TaskId) → 1 ≤ length (program_for m u) → 1 ≤ length (written_out (program_for m u))
  some_written u h =
      by_cases (ℕ_discrete u.0 0)
      (λ e. absurd (omega (arith, none_0 m u e)))
      (λ ne.
      by_cases (dec_lt (u.0 - 1) (length m))
      (λ l.
      rw (← program_written m u, program_some (written_out_plan m) u (omega arith))
      (program_size (written_out_plan m) accepted (u.0 - 1) (rw (length-map m written_out) l)).some)
      (λ l. absurd (omega (arith, none_past m u ne (omega arith)))))

  -- who is complete there has gone through its program here
  through : (u : TaskId) → length (written_out (program_for m u)) ≤ n.completed u → (b : Bool) → n.born u ≡ b → s.net.completed u < length (program_for m u) → ⊥
  unfolding next_of
  through u all true e more = omega (arith, beside_short (length m) (program_for m u) (program_fine m fine u) (a.tasks u) more (plain_here u e more))
  through u all false e more = omega (arith, kept.idle u e, some_written u (omega arith))

  pub complete_here : (u : TaskId) → is_complete (written_out_plan m) n u ≡ true → is_complete m s.net u ≡ true
  unfolding is_complete
  complete_here u h =
      let g = program_for m u in
      let past = rw (program_written m u) at (ltb-false (n.completed u) (length (program_for (written_out_plan m) u)) (not-true _ h)) in
      by_cases (dec_lt (s.net.completed u) (length g))
      (λ more. absurd (through u (omega (arith, past)) (n.born u) refl more))
      (λ done. rw (le-ltb (s.net.completed u) (length g) (omega arith)) refl)

  -- so no label may be taken there
  own_normal : (t : TaskId) → enabled (written_out_plan m) n (own t) ≡ true → ⊥
  unfolding enabled is_free children_complete
  own_normal t h =
      let active = own_active (written_out_plan m) n t h in
      let i = next_of m s.net t in
      let free = rw (next_here t active) at (own_free (written_out_plan m) n t h) in
      tests_differ
      (and_both (is_active m s.net t) _ (active_here t active)
      (and_both (not (is_transfer i)) _ (and_left (not (is_transfer i)) _ free)
      (or_follows (not (is_join i)) _ _
      (λ all.
      children_follow (written_out_plan m) m n s.net complete_here (take (n.completed t) (written_out (program_for m t))) (take (s.net.completed t) (program_for m t))
      (a.tasks t).created (rw (program_written m t) at all))
      (and_right (not (is_transfer i)) _ free))))
      (normal (own t))

  stands_here : (t : TaskId) (k : ℕ) (c : ChannelId) → stands_at (written_out_plan m) n t k c ≡ true → stands_at m s.net t k c ≡ true
  unfolding stands_at
  stands_here t k c h =
      let active = stands_active (written_out_plan m) n t k c h in
      and_both (is_active m s.net t) _ (active_here t active) (rw (← next_here t active) (and_right (is_active (written_out_plan m) n t) _ h))

  pass_normal : (c : ChannelId) → enabled (written_out_plan m) n (pass c) ≡ true → ⊥
  unfolding enabled new_instructions_ok
  pass_normal c h =
      let send = rw (← same_sender m fine c) at (sender_stands (written_out_plan m) n c h) in
      let receive = rw (← same_receiver m fine c) at (receiver_stands (written_out_plan m) n c h) in
      tests_differ
      (and_both (stands_at m s.net (sender_of m c) op_send c) _ (stands_here (sender_of m c) op_send c send) (stands_here (receiver_of m c) op_receive c receive))
      (normal (pass c))

  pub normal_there : Normal (net (written_out_plan m)) n
  normal_there (own t) = is_false _ (own_normal t)
  normal_there (pass c) = is_false _ (pass_normal c)
