-- The start is consistent, and each label that may be taken in a net of an accepted plan keeps it so.
use mathlib.Core.Path.{◌≡◌, refl, sym, ap, ◌∙◌}
use mathlib.Core.Bool.{Bool, true, false, ◌||◌, or-false}
use mathlib.Core.List.{List}
use mathlib.Core.Logic.{◌≢◌, by_cases, ⊎_elim}
use Prim.Native.Nat.{ℕ, ◌≤◌}
use native.Mathlib.Decide.{ℕ_discrete}
use native.Mathlib.Omega.{arith}
use lib.Dec.{eqb}
use lib.ListN.{length}
use borrow.Author.Tests.{eq-eqb, ne_eqb}
use Rattle.std.specs.Prelude.{Ok}
use Rattle.base.specs.Choice.{within}
use Rattle.base.specs.Lists.{any}
use Rattle.base.proofs.Tests.{and_left, tests_differ, is_false, within_low, within_high, within_both}
use Rattle.base.proofs.Fronts.{any_front_more}
use Rattle.net.proofs.Runs.{run_keeps}
use Rattle.plan.specs.declared.TaskId.{TaskId}
use Rattle.plan.specs.declared.ChannelId.{ChannelId}
use Rattle.plan.specs.Numbers.{task_id}
use Rattle.plan.specs.Kinds.{op_create, op_send, op_receive, is_use, no_instruction}
use Rattle.plan.specs.Programs.{Programs}
use Rattle.plan.specs.Users.{sender_of, receiver_of, parent_of}
use Rattle.plan.specs.Refusals.{plan_answer}
use Rattle.plan_laws.proofs.Answers.{plan_passed, sized}
use Rattle.net.specs.States.{Net, start_net}
use Rattle.net.specs.Labels.{Label, own, pass, takes_part}
use Rattle.net.specs.Guards.{program_for, is_active, next_of, enabled}
use Rattle.net.specs.Effects.{after_own, after_pass, effect}
use Rattle.net.specs.Nets.{net, Reached}
use Rattle.net.specs.Consistent.{is_created, Consistent}
use Rattle.net.proofs.Parts.{same_task_lem, part_pass, acting, own_active, stands_opcode, sender_stands, receiver_stands}
use Rattle.net.proofs.Stays.{born_after_lem, completed_grows, completed_stays, word_stays, overflow_stays, born_kept}
use Rattle.net.proofs.Remaining.{active_short}
use Rattle.net.proofs.NextInstruction.{next_creates}

-- nobody is created by a word that passes
pass_creates : (m : Programs) (s : Net) (c : ChannelId) (t u : TaskId) → enabled m s (pass c) ≡ true → takes_part m t (pass c) ≡ true
    → is_use op_create u.0 (next_of m s t) ≡ false
pass_creates m s c t u h p =
    ⊎_elim (λ e. at (sender_of m c) op_send e refl (stands_opcode m s (sender_of m c) op_send c (sender_stands m s c h)))
    (λ e. at (receiver_of m c) op_receive e refl (stands_opcode m s (receiver_of m c) op_receive c (receiver_stands m s c h)))
    (part_pass m t c p)
  where
    at : (x : TaskId) (k : ℕ) → t.0 ≡ x.0 → eqb k op_create ≡ false → (next_of m s x).opcode ≡ k → is_use op_create u.0 (next_of m s t) ≡ false
    at x k e other o = rw (same_task_lem t x e, o, other) refl

module _ (m : Programs) (a : plan_answer m ≡ Ok tt) (s : Net) (old : Consistent m s) where
  -- who is created after a label: also whom a task that takes part creates by it
  created_more : (l : Label) (u : TaskId) → enabled m s l ≡ true → takes_part m (parent_of m u) l ≡ true
      → is_created m (effect m s l) u ≡ is_created m s u || is_use op_create u.0 (next_of m s (parent_of m u))
  unfolding is_created next_of
  created_more l u h p =
      let q = parent_of m u in
      rw (completed_grows m s l q h p)
      (any_front_more (is_use op_create u.0) no_instruction (program_for m q) (s.completed q) (active_short m s q (acting m s l q h p).active))

  created_same : (l : Label) (u : TaskId) → takes_part m (parent_of m u) l ≡ false → is_created m (effect m s l) u ≡ is_created m s u
  unfolding is_created
  created_same l u p = rw (completed_stays m s l (parent_of m u) p) refl

  -- a task's own instruction creates nobody but its children
  no_child : (t u : TaskId) → is_active m s t ≡ true → (parent_of m u).0 ≢ t.0 → is_use op_create u.0 (next_of m s t) ≡ false
  no_child t u active ne =
      is_false (is_use op_create u.0 (next_of m s t)) (λ e. ne (ap (λ (x : TaskId). x.0) (next_creates m a s t active u e).1))

  label_child : (l : Label) (u : TaskId) → enabled m s l ≡ true → within 2 (length m) u.0 ≡ true
      → (effect m s l).born u ≡ is_created m (effect m s l) u
  unfolding effect after_own after_pass takes_part
  label_child (own t) u h w =
      rw (born_after_lem (next_of m s t) s.born u, old.child u w)
      (by_cases (ℕ_discrete (parent_of m u).0 t.0)
      (λ e.
      sym
      (created_more (own t) u h (eq-eqb (parent_of m u).0 t.0 e)
      ∙ ap (λ (x : TaskId). is_created m s u || is_use op_create u.0 (next_of m s x)) (same_task_lem (parent_of m u) t e)))
      (λ ne. rw (no_child t u (own_active m s t h) ne, or-false (is_created m s u)) (sym (created_same (own t) u (ne_eqb (parent_of m u).0 t.0 ne)))))
  label_child (pass c) u h w = old.child u w ∙ sym (go (takes_part m (parent_of m u) (pass c)) refl)
    where
      go : (b : Bool) → takes_part m (parent_of m u) (pass c) ≡ b → is_created m (effect m s (pass c)) u ≡ is_created m s u
      go false p = created_same (pass c) u p
      go true p = created_more (pass c) u h p ∙ rw (pass_creates m s c (parent_of m u) u h p) (or-false (is_created m s u))

  label_nobody : (l : Label) (u : TaskId) → enabled m s l ≡ true → within 1 (length m) u.0 ≡ false → (effect m s l).born u ≡ false
  unfolding effect after_own after_pass
  label_nobody (own t) u h w =
      rw (born_after_lem (next_of m s t) s.born u, old.nobody u w)
      (is_false (is_use op_create u.0 (next_of m s t))
      (λ e.
      let v = (next_creates m a s t (own_active m s t h) u e).0 in
      let low = within_low 2 (length m) u.0 v in
      tests_differ (within_both 1 (length m) u.0 (omega arith) (within_high 2 (length m) u.0 v)) w))
  label_nobody (pass c) u h w = old.nobody u w

  -- who is not born afterwards was not born before, and takes no part
  unborn_before : (l : Label) (t : TaskId) → (effect m s l).born t ≡ false → s.born t ≡ false
  unborn_before l t h = is_false (s.born t) (λ e. tests_differ (born_kept m s l t e) h)

  unborn_idle : (l : Label) (t : TaskId) → enabled m s l ≡ true → s.born t ≡ false → takes_part m t l ≡ false
  unfolding is_active
  unborn_idle l t h e = is_false (takes_part m t l) (λ p. tests_differ (and_left (s.born t) _ (acting m s l t h p).active) e)

  label_sized : (l : Label) (t : TaskId) → enabled m s l ≡ true → (effect m s l).completed t ≤ length (program_for m t)
  label_sized l t h = go (takes_part m t l) refl
    where
      go : (b : Bool) → takes_part m t l ≡ b → (effect m s l).completed t ≤ length (program_for m t)
      go true p = omega (arith, completed_grows m s l t h p, active_short m s t (acting m s l t h p).active)
      go false p = omega (arith, completed_stays m s l t p, old.sized t)

  pub label_consistent : (l : Label) → enabled m s l ≡ true → Consistent m (effect m s l)
  label_consistent l h =
      record {
        root = born_kept m s l (task_id 1) old.root;
        child = λ u w. label_child l u h w;
        nobody = λ u w. label_nobody l u h w;
        idle = λ t e. let b = unborn_before l t e in completed_stays m s l t (unborn_idle l t h b) ∙ old.idle t b;
        wordless = λ t e. let b = unborn_before l t e in word_stays m s l t (unborn_idle l t h b) ∙ old.wordless t b;
        unmarked = λ t e. let b = unborn_before l t e in overflow_stays m s l t (unborn_idle l t h b) ∙ old.unmarked t b;
        sized = λ t. label_sized l t h;
      }

start_consistent : (m : Programs) → plan_answer m ≡ Ok tt → Consistent m start_net
unfolding start_net is_created any
start_consistent m a =
    let some = (sized m (plan_passed m a).sizes).tasks.some in
    record {
      root = refl;
      child = λ u w. let low = within_low 2 (length m) u.0 w in ne_eqb 1 u.0 (λ e. omega arith);
      nobody = λ u w. ne_eqb 1 u.0 (λ e. tests_differ (within_both 1 (length m) u.0 (omega arith) (omega arith)) w);
      idle = λ t e. refl;
      wordless = λ t e. refl;
      unmarked = λ t e. refl;
      sized = λ t. omega arith;
    }

-- each state that is reached from the start
pub consistent : (m : Programs) → plan_answer m ≡ Ok tt → {ls : List Label} {s : Net} → Reached m ls s → Consistent m s
consistent m a r = run_keeps (net m) (Consistent m) (λ s l h c. label_consistent m a s c l h) r (start_consistent m a)
