-- The instructions of some programs, where they stand: one more, one program more, all; tests of each, and who uses what among them.
use mathlib.Core.Path.{◌≡◌, refl, sym, ◌∙◌, ap}
use mathlib.Core.Bool.{Bool, true, false, ◌&&◌}
use mathlib.Core.List.{List, [], ◌∷◌, ◌++◌, append_assoc, append-nil}
use Prim.Native.Nat.{ℕ, suc, ◌+◌, ◌-◌, ◌<◌, ◌≤◌}
use native.Mathlib.Numerals.{add-one}
use native.Mathlib.Omega.{arith}
use lib.ListN.{length}
use lib.Dec.{eqb}
use Rattle.base.specs.Choice.{pick}
use Rattle.base.specs.Range.{fold, below, joined}
use Rattle.base.specs.Lists.{every, table, table_before}
use Rattle.base.proofs.Folds.{fold_same, fold_more}
use Rattle.base.proofs.Tables.{table_more, every_table}
use Rattle.base.proofs.Tests.{tests_differ, below_fails}
use Rattle.plan.specs.declared.Instruction.{Instruction}
use Rattle.plan.specs.Programs.{Programs, program_at, instruction_at}
use Rattle.plan.specs.Layout.{count_of}
use Rattle.plan.specs.Users.{uses_in, users}
use Rattle.plan_value.specs.declared.instruction.Edition.{Edition}
use Rattle.plan_value.specs.declared.pass.Entry.{Entry}
use Rattle.plan_value.specs.declared.pass.Pass.{Pass}
use Rattle.plan_value.specs.Firsts.{NoFirsts}
use Rattle.plan_value.specs.Pass.{Seen, seen, start_pass, entry_ok, next_seen, taken_seen, uses_of, Passed, entry_at, entries_of, entries_to, entries, PassOf}
use Rattle.plan_value.proofs.Changes.{every_joins}
use Rattle.plan_value.proofs.Uses.{uses_joined, uses_table}
use Rattle.plan_value.proofs.Taken.{pass_none, pass_taken}

module _ (m : Programs) where
  entries_none : entries_to m 0 0 ≡ []
  unfolding fold table table_before
  entries_none = refl

  entries_more : (k i : ℕ) → entries_to m k (i + 1) ≡ entries_to m k i ++ (entry_at m k i ∷ [])
  entries_more k i =
      ap (λ (l : List Entry). joined k (entries_of m) ++ l) (table_more i (entry_at m k))
      ∙ sym (append_assoc (joined k (entries_of m)) (table i (entry_at m k)) (entry_at m k i ∷ []))

  entries_before : (k : ℕ) → entries_to m k 0 ≡ joined k (entries_of m)
  unfolding table table_before
  entries_before k = append-nil (joined k (entries_of m))

  entries_row : (k : ℕ) → entries_to m k (count_of m k) ≡ entries_to m (k + 1) 0
  entries_row k = sym (fold_more ◌++◌ [] k (entries_of m)) ∙ sym (entries_before (k + 1))

  -- one that stands at its place
  pub entry_is : (k i : ℕ) {t c : ℕ} {x : Instruction} → t ≡ k + 1 → c ≡ count_of m k → x ≡ instruction_at (program_at m k) i
      → record { task = t; last = eqb i (c - 1); instruction = x } ≡ entry_at m k i
  entry_is k i t c x =
      let task = t ∙ add-one k in
      λ j. record { task = task j; last = eqb i (c j - 1); instruction = x j }

  -- a test of each
  pub every_entries : (p : Entry → Bool) → every p (entries m) ≡ below (length m) (λ k. below (count_of m k) (λ i. p (entry_at m k i)))
  every_entries p =
      every_joins p (length m) (entries_of m)
      ∙ fold_same ◌&&◌ true (length m) _ _ (λ k h. every_table p (count_of m k) (entry_at m k))

  pub uses_entries : (k a : ℕ) → uses_of k a (entries m) ≡ users m k a
  unfolding users
  uses_entries k a =
      uses_joined k a (length m) (entries_of m)
      ∙ fold_same ◌++◌ [] (length m) _ (λ j. uses_in k a (suc j) (program_at m j)) (λ j h. uses_table k a (count_of m j) (entry_at m j))

  -- the pass: from none, by one, over the rest of a program, all
  module _ (e : Edition) (n : ℕ) where
    pub pass_start : {x y z : List ℕ} → NoFirsts x y z → Passed e n (entries_to m 0 0) (seen (start_pass n true) x y z)
    pass_start none = rw entries_none (pass_none e n none)

    pub pass_row : (k : ℕ) {s : Seen} → Passed e n (entries_to m k (count_of m k)) s → Passed e n (entries_to m (k + 1) 0) s
    pass_row k p = rw (entries_row k) at p

    -- instruction i + 1 of program k + 1
    module _ (k i : ℕ) {s : Seen} (p : Passed e n (entries_to m k i) s) (x : Entry) (here : x ≡ entry_at m k i) (r : Seen) (next : r ≡ next_seen e x s) where
      by_next : (b : Bool) → entry_ok e n x ≡ b → r ≡ pick b (taken_seen x s) (seen (start_pass s.pass.tasks false) s.parents s.senders s.receivers)
      by_next b h = next ∙ rw (ap (λ (t : ℕ). entry_ok e t x) p.size ∙ h) refl

      pub pass_more : n ≤ 64 → r.pass.instructions ≡ true → Passed e n (entries_to m k (i + 1)) r
      pass_more few t = go (entry_ok e n x) refl
        where
          go : (b : Bool) → entry_ok e n x ≡ b → Passed e n (entries_to m k (i + 1)) r
          go true h = rw (entries_more k i, ← here, by_next true h) (pass_taken e n x few p (rw here (omega arith)) h)
          go false h = absurd (tests_differ t (ap (λ (w : Seen). w.pass.instructions) (by_next false h)))

      kept : r.pass.tasks ≡ n
      kept = go (entry_ok e n x) refl
        where
          go : (b : Bool) → entry_ok e n x ≡ b → r.pass.tasks ≡ n
          go true h = ap (λ (w : Seen). w.pass.tasks) (by_next true h) ∙ p.size
          go false h = ap (λ (w : Seen). w.pass.tasks) (by_next false h) ∙ p.size

      stopped : r.pass.instructions ≡ false → entry_ok e n x ≡ false
      stopped f = go (entry_ok e n x) refl
        where
          go : (b : Bool) → entry_ok e n x ≡ b → entry_ok e n x ≡ false
          go true h = absurd (tests_differ (ap (λ (w : Seen). w.pass.instructions) (by_next true h) ∙ p.none) f)
          go false h = h

      pub pass_stops : {q : Pass} {u v w : List ℕ} → seen q u v w ≡ r → n ≡ length m → k < length m → i < count_of m k → q.instructions ≡ false → PassOf e m q u v w
      pass_stops {q} is tasks h l f =
          let no : entry_ok e n (entry_at m k i) ≡ false = ap (entry_ok e n) (sym here) ∙ stopped (ap (λ (w : Seen). w.pass.instructions) (sym is) ∙ f) in
          let row : below (count_of m k) (λ i. entry_ok e n (entry_at m k i)) ≡ false = below_fails _ (count_of m k) i l no in
          record {
            size = ap (λ (w : Seen). w.pass.tasks) is ∙ kept ∙ tasks;
            instructions =
                f ∙ sym (ap (λ (t : ℕ). every (entry_ok e t) (entries m)) (sym tasks) ∙ every_entries (entry_ok e n) ∙ below_fails _ (length m) k h row);
            passed = λ t. absurd (tests_differ t f);
          }

    pub pass_ends : {q : Pass} {u v w : List ℕ} → n ≡ length m → Passed e n (entries_to m (length m) 0) (seen q u v w) → PassOf e m q u v w
    pass_ends tasks p =
        let all = rw (entries_before (length m), tasks) at p in
        record { size = all.size; instructions = all.none ∙ sym all.instructions; passed = λ t. all }
