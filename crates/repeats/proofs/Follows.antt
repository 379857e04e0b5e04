-- A label of the machine is one of the written-out plan's net, or, at a repeat or its end, none.
use mathlib.Core.Path.{◌≡◌, refl, sym, ap, subst, fun_ext, ◌∙◌}
use mathlib.Core.Bool.{Bool, true, false, not, or-false}
use mathlib.Core.List.{[]}
use mathlib.Core.Logic.{◌≢◌, by_cases}
use Prim.Native.Nat.{ℕ, suc, ◌-◌, ◌≤◌, ◌<◌}
use native.Mathlib.Decide.{ℕ_discrete, dec_lt}
use native.Mathlib.Omega.{arith}
use lib.Dec.{eqb}
use lib.ListN.{length, take, get_or-eq_default}
use borrow.Author.Tests.{eqb-true, ne_eqb, lt-ltb, le-ltb, ltb-false, not-true}
use Rattle.base.specs.Lists.{every}
use Rattle.base.proofs.Choices.{pick_either}
use Rattle.base.proofs.Tests.{and_left, and_right, and_both, or_cases, or_follows, every_at}
use Rattle.base.proofs.Updates.{updated_at, updated_same, updated_other}
use Rattle.plan.specs.declared.TaskId.{TaskId}
use Rattle.plan.specs.declared.ChannelId.{ChannelId}
use Rattle.plan.specs.declared.Instruction.{Instruction}
use Rattle.plan.specs.Kinds.{op_send, op_receive}
use Rattle.plan.specs.Programs.{Program, Programs, program_at, instruction_at}
use Rattle.plan.specs.Users.{sender_of, receiver_of}
use Rattle.plan.specs.Repeats.{is_repeat, is_repeat_end, written_out, written_out_plan}
use Rattle.plan.specs.RepeatPlaces.{Place, place, go_on}
use Rattle.plan.specs.RepeatRefusals.{new_instruction_ok, new_instructions_ok}
use Rattle.repeat_laws.specs.Left.{is_mark}
use Rattle.net.specs.States.{Net, at_task}
use Rattle.net.specs.Labels.{Label, own, pass, is_join, is_transfer}
use Rattle.net.specs.Guards.{program_for, is_complete, is_active, next_of, stands_at, children_complete, is_free, enabled}
use Rattle.net.specs.Effects.{born_after, word_after, overflow_after, after_own, after_pass, effect}
use Rattle.net.proofs.Parts.{same_task_lem, own_active, own_free, sender_stands, receiver_stands, stands_active, stands_opcode, ends_apart}
use Rattle.net.proofs.Remaining.{active_short}
use Rattle.repeats.specs.Machine.{Repeated, place_in, repeat_effect}
use Rattle.repeats.specs.Beside.{Beside, Alike}
use Rattle.repeats.proofs.Tasks.{plain_on, beside_end, beside_mark, beside_short, beside_same, beside_next}
use Rattle.repeats.proofs.Ends.{program_written, same_sender, same_receiver}
use Rattle.repeats.proofs.Children.{children_follow}

-- a repeat and its end: by kind
pub mark_kind : (i : Instruction) → is_mark i ≡ true → (k : ℕ) → k < 8 → eqb i.opcode k ≡ false
mark_kind i e k h =
    or_cases (is_repeat i) (is_repeat_end i) e
    (λ r. let o = eqb-true i.opcode 8 r in ne_eqb i.opcode k (λ z. omega arith))
    (λ r. let o = eqb-true i.opcode 9 r in ne_eqb i.opcode k (λ z. omega arith))

-- an instruction of a lower kind is neither
pub kind_plain : (i : Instruction) (k : ℕ) → i.opcode ≡ k → k < 8 → is_mark i ≡ false
kind_plain i k e h = rw (ne_eqb i.opcode 8 (λ z. omega arith), ne_eqb i.opcode 9 (λ z. omega arith)) refl

-- nothing is changed by what was there
updated_none : {A : Type 0} (f : TaskId → A) (t : TaskId) → at_task f t (f t) ≡ f
updated_none f t =
    fun_ext (λ u.
    by_cases (ℕ_discrete u.0 t.0)
    (λ e. updated_at (λ (x : TaskId). x.0) f t u (f t) e ∙ ap f (sym (same_task_lem u t e)))
    (λ ne. updated_other (λ (x : TaskId). x.0) f t u (f t) ne))

-- what holds of each program, and of none, holds of the program of each task
pub program_all : (p : Program → Bool) → p [] ≡ true → (m : Programs) → every p m ≡ true → (t : TaskId) → p (program_for m t) ≡ true
unfolding program_for
program_all p none m all t =
    pick_either (λ (g : Program). p g ≡ true) (eqb t.0 0) [] (program_at m (t.0 - 1)) none
    (by_cases (dec_lt (t.0 - 1) (length m))
    (λ l. every_at p m (t.0 - 1) [] l all)
    (λ l. rw (get_or-eq_default m [] {n = t.0 - 1} (omega arith)) none))

module _ (m : Programs) (fine : new_instructions_ok m ≡ true) where
  -- the instructions of each task have passed
  pub program_fine : (t : TaskId) → every (new_instruction_ok (length m)) (program_for m t) ≡ true
  unfolding every new_instructions_ok
  program_fine t = program_all (every (new_instruction_ok (length m))) refl m fine t

  module _ (s : Repeated) (n : Net) (a : Alike m s n) where
    abbrev at : TaskId → ℕ
    at t = s.net.completed t

    pub complete_follows : (u : TaskId) → is_complete m s.net u ≡ true → is_complete (written_out_plan m) n u ≡ true
    unfolding is_complete
    complete_follows u h =
        let over : length (program_for m u) ≤ at u = omega (arith, ltb-false (at u) (length (program_for m u)) (not-true _ h)) in
        let all = beside_end (length m) (program_for m u) (program_fine u) (a.tasks u) over in
        rw (program_written m u, le-ltb (n.completed u) (length (written_out (program_for m u))) (omega (arith, all))) refl

    -- a task that is active, at an instruction that is neither a repeat nor its end
    module _ (t : TaskId) (active : is_active m s.net t ≡ true) (plain : is_mark (next_of m s.net t) ≡ false) where
      abbrev g : Program
      g = program_for m t

      short : n.completed t < length (written_out g)
      unfolding next_of
      short = beside_short (length m) g (program_fine t) (a.tasks t) (active_short m s.net t active) plain

      pub active_then : is_active (written_out_plan m) n t ≡ true
      unfolding is_active is_complete
      active_then =
          and_both (n.born t) _ (rw (← a.born) (and_left (s.net.born t) _ active))
          (rw (program_written m t, lt-ltb (n.completed t) (length (written_out g)) short) refl)

      pub next_then : next_of (written_out_plan m) n t ≡ next_of m s.net t
      unfolding next_of
      next_then =
          rw (program_written m t) (beside_same (length m) g (program_fine t) (a.tasks t) (active_short m s.net t active) plain)

      pub beside_then : Beside g (place (suc (at t)) (s.rounds t)) (suc (n.completed t))
      unfolding next_of
      beside_then = beside_next (length m) g (program_fine t) (a.tasks t) (active_short m s.net t active) plain

      pub free_then : (i : Instruction) → is_free m s.net t i ≡ true → is_free (written_out_plan m) n t i ≡ true
      unfolding is_free children_complete
      free_then i h =
          and_both (not (is_transfer i)) _ (and_left (not (is_transfer i)) _ h)
          (or_follows (not (is_join i)) _ _
          (λ all.
          rw (program_written m t)
          (children_follow m (written_out_plan m) s.net n complete_follows (take (at t) g) (take (n.completed t) (written_out g)) (sym (a.tasks t).created) all))
          (and_right (not (is_transfer i)) _ h))

    pub stands_then : (t : TaskId) (k : ℕ) (c : ChannelId) → k < 8 → stands_at m s.net t k c ≡ true
        → (stands_at (written_out_plan m) n t k c ≡ true) × Beside (program_for m t) (place (suc (at t)) (s.rounds t)) (suc (n.completed t))
    unfolding stands_at
    stands_then t k c few h =
        let active = stands_active m s.net t k c h in
        let plain = kind_plain (next_of m s.net t) k (stands_opcode m s.net t k c h) few in (
          and_both (is_active (written_out_plan m) n t) _ (active_then t active plain)
              (rw (next_then t active plain) (and_right (is_active m s.net t) _ h)),
          beside_then t active plain,
        )

    -- the tasks, where t has gone on
    tasks_then_lem : (t : TaskId) (x : ℕ) (q : Place) (k : TaskId → ℕ) → ((u : TaskId) → u.0 ≢ t.0 → k u ≡ n.completed u) → Beside (program_for m t) q (k t)
        → (u : TaskId)
        → Beside (program_for m u) (place (at_task (at_task s.net.completed t x) t q.at u) (at_task s.rounds t q.rounds u)) (k u)
    tasks_then_lem t x q k same here u =
        by_cases (ℕ_discrete u.0 t.0)
        (λ e. subst
        (λ (v : TaskId). Beside (program_for m v) (place (at_task (at_task s.net.completed t x) t q.at v) (at_task s.rounds t q.rounds v)) (k v))
        (sym (same_task_lem u t e))
        (rw (updated_same, updated_same) here))
        (λ ne. rw (updated_other _ (at_task s.net.completed t x) t u q.at ne, updated_other _ s.net.completed t u x ne, updated_other _ s.rounds t u q.rounds ne, same u ne) (a.tasks u))

    -- at a repeat or its end nothing else is changed
    own_still : (t : TaskId) → is_active m s.net t ≡ true → is_mark (next_of m s.net t) ≡ true → Alike m (repeat_effect m s (own t)) n
    unfolding repeat_effect effect after_own born_after word_after overflow_after next_of
    own_still t active mark =
        let i = instruction_at (program_for m t) (at t) in
        let k = mark_kind i mark in
        let more = active_short m s.net t active in
        record {
          born = rw (k 1 (omega arith)) a.born;
          word = rw (k 6 (omega arith), k 7 (omega arith), updated_none s.net.word t) a.word;
          overflow = rw (k 7 (omega arith), or-false (s.net.overflow t), updated_none s.net.overflow t) a.overflow;
          passed = a.passed;
          tasks =
              tasks_then_lem t (suc (at t)) (go_on (program_for m t) (place_in s t)) n.completed (λ u ne. refl)
              (beside_mark (length m) (program_for m t) (program_fine t) (a.tasks t) more mark);
        }

    pub goes_plain : (t : TaskId) → is_mark (next_of m s.net t) ≡ false → go_on (program_for m t) (place_in s t) ≡ place (suc (at t)) (s.rounds t)
    unfolding next_of
    goes_plain t e = plain_on (program_for m t) (at t) (s.rounds t) e

    -- an instruction of a task's own
    own_along : (t : TaskId) → enabled m s.net (own t) ≡ true → is_mark (next_of m s.net t) ≡ false
        → (enabled (written_out_plan m) n (own t) ≡ true) × Alike m (repeat_effect m s (own t)) (effect (written_out_plan m) n (own t))
    unfolding enabled repeat_effect effect after_own
    own_along t h plain =
        let active = own_active m s.net t h in
        let same = next_then t active plain in (
          and_both (is_active (written_out_plan m) n t) _ (active_then t active plain) (rw same (free_then t active plain (next_of m s.net t) (own_free m s.net t h))),
          record {
            born = rw (same, a.born) refl;
            word = rw (same, a.word) refl;
            overflow = rw (same, a.word, a.overflow) refl;
            passed = a.passed;
            tasks =
                tasks_then_lem t (suc (at t)) (go_on (program_for m t) (place_in s t)) (at_task n.completed t (suc (n.completed t)))
                (λ u ne. updated_other _ n.completed t u (suc (n.completed t)) ne)
                (rw (updated_same, goes_plain t plain) (beside_then t active plain));
          },
        )

    -- the tasks, where two of them have gone on by one
    tasks_both : (x y : TaskId) → x.0 ≢ y.0 → Beside (program_for m x) (place (suc (at x)) (s.rounds x)) (suc (n.completed x))
        → Beside (program_for m y) (place (suc (at y)) (s.rounds y)) (suc (n.completed y)) → (u : TaskId)
        → Beside (program_for m u) (place (at_task (at_task s.net.completed x (suc (at x))) y (suc (at y)) u) (s.rounds u))
        (at_task (at_task n.completed x (suc (n.completed x))) y (suc (n.completed y)) u)
    tasks_both x y ne p q u =
        by_cases (ℕ_discrete u.0 y.0)
        (λ e. rw (same_task_lem u y e, updated_same, updated_same) q)
        (λ no.
        rw (
          updated_other _ (at_task s.net.completed x (suc (at x))) y u (suc (at y)) no,
          updated_other _ (at_task n.completed x (suc (n.completed x))) y u (suc (n.completed y)) no,
        )
        (by_cases (ℕ_discrete u.0 x.0)
        (λ e. rw (same_task_lem u x e, updated_same, updated_same) p)
        (λ nor. rw (updated_other _ s.net.completed x u (suc (at x)) nor, updated_other _ n.completed x u (suc (n.completed x)) nor) (a.tasks u))))

    -- a word passes a channel
    pass_along : (c : ChannelId) → enabled m s.net (pass c) ≡ true
        → (enabled (written_out_plan m) n (pass c) ≡ true) × Alike m (repeat_effect m s (pass c)) (effect (written_out_plan m) n (pass c))
    unfolding enabled repeat_effect effect after_pass new_instructions_ok
    pass_along c h =
        let (send, sent) = stands_then (sender_of m c) op_send c (omega arith) (sender_stands m s.net c h) in
        let (receive, received) = stands_then (receiver_of m c) op_receive c (omega arith) (receiver_stands m s.net c h) in
        rw (← same_sender m fine c, ← same_receiver m fine c) (
          and_both (stands_at (written_out_plan m) n (sender_of m c) op_send c) _ send receive,
          record {
            born = a.born;
            word = rw a.word refl;
            overflow = a.overflow;
            passed = rw (a.passed, a.word) refl;
            tasks = tasks_both (sender_of m c) (receiver_of m c) (ends_apart m s.net c h) sent received;
          },
        )

-- what a label leads to, beside n: n itself, or where the same label leads from it
pub data Follows (m : Programs) (s : Repeated) (n : Net) (l : Label) : Type 0 where
  still : Alike m s n → Follows m s n l
  along : enabled (written_out_plan m) n l ≡ true → Alike m s (effect (written_out_plan m) n l) → Follows m s n l

pub follows : (m : Programs) → new_instructions_ok m ≡ true → (s : Repeated) (n : Net) → Alike m s n → (l : Label) → enabled m s.net l ≡ true
    → Follows m (repeat_effect m s l) n l
follows m fine s n a (own t) h =
    go (is_mark (next_of m s.net t)) refl
  where
    go : (b : Bool) → is_mark (next_of m s.net t) ≡ b → Follows m (repeat_effect m s (own t)) n (own t)
    go true e = still (own_still m fine s n a t (own_active m s.net t h) e)
    go false e = let (may, then) = own_along m fine s n a t h e in along may then
follows m fine s n a (pass c) h = let (may, then) = pass_along m fine s n a c h in along may then
