-- What a label leaves as it was: a task without a part in it stays where it is, who is born or complete stays so, and another label that could
-- be taken still can.
use mathlib.Core.Path.{◌≡◌, refl, sym}
use mathlib.Core.Bool.{Bool, true, false, not, ◌&&◌, ◌||◌, or-false, or-true}
use mathlib.Core.List.{[], ◌∷◌}
use mathlib.Core.Logic.{◌≢◌, ⊎_elim, Ne-symm, by_cases}
use Prim.Native.Nat.{ℕ, suc}
use native.Mathlib.Decide.{ℕ_discrete}
use lib.ListN.{take}
use lib.Dec.{eqb}
use borrow.Author.Tests.{not-true, eq-eqb, ne_eqb}
use Rattle.base.specs.Lists.{every}
use Rattle.base.proofs.Tests.{and_left, and_right, and_both, or_follows, tests_differ, is_false}
use Rattle.base.specs.Choice.{pick}
use Rattle.base.proofs.Updates.{updated_at, updated_same, updated_other}
use Rattle.plan.specs.declared.TaskId.{TaskId}
use Rattle.plan.specs.declared.ChannelId.{ChannelId}
use Rattle.plan.specs.declared.Instruction.{Instruction}
use Rattle.plan.specs.Numbers.{task_id}
use Rattle.plan.specs.Kinds.{op_create, op_send, op_receive, is_use}
use Rattle.plan.specs.Programs.{Program, Programs}
use Rattle.plan.specs.Users.{sender_of, receiver_of}
use Rattle.net.specs.States.{Net, at_task}
use Rattle.net.specs.Labels.{Label, own, pass, is_create, is_join, is_transfer, takes_part}
use Rattle.net.specs.Guards.{program_for, is_complete, is_active, next_of, stands_at, child_complete, children_complete, is_free, enabled}
use Rattle.net.specs.Effects.{born_after, after_own, after_pass, effect}
use Rattle.net.proofs.Parts.{same_task_lem, part_own, no_part_own, part_pass, no_part_pass, sender_part, receiver_part, own_part, own_active, own_free, sender_stands, receiver_stands, acting, apart, ends_apart}

-- who is born after an instruction
pub born_after_lem : (i : Instruction) (born : TaskId → Bool) (u : TaskId) → born_after i born u ≡ born u || is_use op_create u.0 i
unfolding born_after
born_after_lem i born u = go (is_create i)
  where
    go : (b : Bool) → pick b (at_task born (task_id i.operand) true) born u ≡ born u || (b && eqb i.operand u.0)
    go true =
        by_cases (ℕ_discrete u.0 i.operand)
        (λ e. rw (updated_at (λ (x : TaskId). x.0) born (task_id i.operand) u true e, eq-eqb i.operand u.0 (sym e), or-true (born u)) refl)
        (λ ne. rw (updated_other (λ (x : TaskId). x.0) born (task_id i.operand) u true ne, ne_eqb i.operand u.0 (λ e. ne (sym e)), or-false (born u)) refl)
    go false = sym (or-false (born u))

module _ (m : Programs) (s : Net) where
  -- who takes part completes one instruction, and nobody else does
  pub completed_grows : (l : Label) (t : TaskId) → enabled m s l ≡ true → takes_part m t l ≡ true → (effect m s l).completed t ≡ suc (s.completed t)
  unfolding effect after_own after_pass
  completed_grows (own u) t h p = rw (same_task_lem t u (part_own m t u p), updated_same) refl
  completed_grows (pass c) t h p =
      ⊎_elim (λ e. rw (same_task_lem t (sender_of m c) e, updated_other _ _ _ _ _ (ends_apart m s c h), updated_same) refl)
      (λ e. rw (same_task_lem t (receiver_of m c) e, updated_same) refl)
      (part_pass m t c p)

  pub completed_stays : (l : Label) (t : TaskId) → takes_part m t l ≡ false → (effect m s l).completed t ≡ s.completed t
  unfolding effect after_own after_pass
  completed_stays (own u) t p = let ne = no_part_own m t u p in simp updated_other
  completed_stays (pass c) t p = let (a, b) = no_part_pass m t c p in simp updated_other

  pub word_stays : (l : Label) (t : TaskId) → takes_part m t l ≡ false → (effect m s l).word t ≡ s.word t
  unfolding effect after_own after_pass
  word_stays (own u) t p = let ne = no_part_own m t u p in simp updated_other
  word_stays (pass c) t p = let (a, b) = no_part_pass m t c p in simp updated_other

  pub overflow_stays : (l : Label) (t : TaskId) → takes_part m t l ≡ false → (effect m s l).overflow t ≡ s.overflow t
  unfolding effect after_own after_pass
  overflow_stays (own u) t p = let ne = no_part_own m t u p in simp updated_other
  overflow_stays (pass c) t p = refl

  pub next_stays : (l : Label) (t : TaskId) → takes_part m t l ≡ false → next_of m (effect m s l) t ≡ next_of m s t
  unfolding next_of
  next_stays l t p = rw (completed_stays l t p) refl

  pub complete_stays : (l : Label) (t : TaskId) → takes_part m t l ≡ false → is_complete m (effect m s l) t ≡ is_complete m s t
  unfolding is_complete
  complete_stays l t p = rw (completed_stays l t p) refl

  -- who is born stays born
  pub born_kept : (l : Label) (t : TaskId) → s.born t ≡ true → (effect m s l).born t ≡ true
  unfolding effect after_own after_pass
  born_kept (own u) t h = rw (born_after_lem (next_of m s u) s.born t, h) refl
  born_kept (pass c) t h = h

-- while a label is taken
module _ (m : Programs) (s : Net) (l : Label) (may : enabled m s l ≡ true) where
  -- who is complete takes no part, and stays complete
  complete_idle : (t : TaskId) → is_complete m s t ≡ true → takes_part m t l ≡ false
  unfolding is_active
  complete_idle t h =
      is_false (takes_part m t l) (λ e. tests_differ h (not-true (is_complete m s t) (and_right (s.born t) _ (acting m s l t may e).active)))

  pub complete_kept : (t : TaskId) → is_complete m s t ≡ true → is_complete m (effect m s l) t ≡ true
  complete_kept t h = rw (complete_stays m s l t (complete_idle t h)) h

  children_kept : (g : Program) → every (child_complete m s) g ≡ true
      → every (child_complete m (effect m s l)) g ≡ true
  unfolding every
  children_kept [] h = refl
  children_kept (i ∷ g) h =
      and_both (child_complete m (effect m s l) i) _
      (or_follows (not (is_create i)) _ _ (complete_kept (task_id i.operand)) (and_left (child_complete m s i) _ h))
      (children_kept g (and_right (child_complete m s i) _ h))

  -- a task that takes no part can still do what it could
  module _ (t : TaskId) (idle : takes_part m t l ≡ false) where
    active_kept : is_active m s t ≡ true → is_active m (effect m s l) t ≡ true
    unfolding is_active
    active_kept h =
        and_both ((effect m s l).born t) _ (born_kept m s l t (and_left (s.born t) _ h))
        (rw (complete_stays m s l t idle) (and_right (s.born t) _ h))

    free_kept : (i : Instruction) → is_free m s t i ≡ true → is_free m (effect m s l) t i ≡ true
    unfolding is_free children_complete
    free_kept i h =
        and_both (not (is_transfer i)) _ (and_left (not (is_transfer i)) _ h)
        (rw (completed_stays m s l t idle)
        (or_follows (not (is_join i)) _ _ (children_kept (take (s.completed t) (program_for m t))) (and_right (not (is_transfer i)) _ h)))

    stands_kept : (k : ℕ) (c : ChannelId) → stands_at m s t k c ≡ true → stands_at m (effect m s l) t k c ≡ true
    unfolding stands_at
    stands_kept k c h =
        and_both (is_active m (effect m s l) t) _ (active_kept (and_left (is_active m s t) _ h))
        (rw (next_stays m s l t idle) (and_right (is_active m s t) _ h))

  -- another label that may be taken may still be taken
  pub still_enabled : (k : Label) → l ≢ k → enabled m s k ≡ true → enabled m (effect m s l) k ≡ true
  unfolding enabled
  still_enabled (own t) ne h =
      let idle = apart m s (own t) l (Ne-symm ne) h may t (own_part m t) in
      and_both (is_active m (effect m s l) t) _ (active_kept t idle (own_active m s t h))
      (rw (next_stays m s l t idle) (free_kept t idle (next_of m s t) (own_free m s t h)))
  still_enabled (pass c) ne h =
      and_both (stands_at m (effect m s l) (sender_of m c) op_send c) _
      (stands_kept (sender_of m c) (apart m s (pass c) l (Ne-symm ne) h may (sender_of m c) (sender_part m c)) op_send c (sender_stands m s c h))
      (stands_kept (receiver_of m c) (apart m s (pass c) l (Ne-symm ne) h may (receiver_of m c) (receiver_part m c)) op_receive c (receiver_stands m s c h))
