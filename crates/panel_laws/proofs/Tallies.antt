-- The counts of no step, of one step more, of two lists, and of steps that all get one number; those of a panel.
use mathlib.Core.Path.{◌≡◌, refl, sym, ◌∙◌}
use mathlib.Core.Bool.{Bool, true, false}
use mathlib.Core.List.{List, [], ◌∷◌, ◌++◌}
use Prim.Native.Nat.{ℕ, suc, ◌+◌, ◌*◌, ◌<◌, ◌≤◌}
use native.Mathlib.Nat.{mul_comm}
use native.Mathlib.Omega.{arith}
use lib.Dec.{eqb}
use lib.ListN.{length, length-append, get_or, set, replicate}
use borrow.Author.Tests.{eqb-true, eq-eqb, ne_eqb}
use Rattle.std.specs.Prelude.{Ok, Err}
use Rattle.base.specs.Choice.{pick}
use Rattle.base.specs.Lists.{every, count, table}
use Rattle.base.proofs.Choices.{pick_cases}
use Rattle.base.proofs.Counts.{count_append}
use Rattle.base.proofs.Folds.{fold_same}
use Rattle.base.proofs.Joins.{length_joined}
use Rattle.base.proofs.Sums.{sum_const}
use Rattle.base.proofs.Tables.{length_table, get_d_table, table_same, all_same, set_table}
use Rattle.base.proofs.Tests.{and_left, and_right, and_both}
use Rattle.rules.specs.declared.step.Step.{Step}
use Rattle.rules.specs.Answers.{StepAnswer, step_number}
use Rattle.rules.specs.declared.step.StepRefusal.TheVariants.{BadSystem, NoTask, NotReady, FinishWithChildren, NetworkFull, NoMessage, NoProcessor, AlreadyThere, MoveWithChildren, MovesSpent, BadStep}
use Rattle.rules.specs.declared.system.System.{System}
use Rattle.rules.specs.Sound.{system_ok}
use Rattle.rules.specs.Steps.{step_answer, move_step}
use Rattle.rules.specs.Panel.{panel_steps, answering, countable, panel}
use Rattle.panel_laws.specs.Tallies.{tallied, all_get, moves_of, moves}

-- a number of the paper's answers to steps
pub number_few : (a : StepAnswer) → step_number a < 27
number_few (Ok tt) = omega arith
number_few (Err BadSystem) = omega arith
number_few (Err NoTask) = omega arith
number_few (Err NotReady) = omega arith
number_few (Err FinishWithChildren) = omega arith
number_few (Err NetworkFull) = omega arith
number_few (Err NoMessage) = omega arith
number_few (Err NoProcessor) = omega arith
number_few (Err AlreadyThere) = omega arith
number_few (Err MoveWithChildren) = omega arith
number_few (Err MovesSpent) = omega arith
number_few (Err BadStep) = omega arith

-- no more elements pass a test than there are; and all, or none
pub count_few : {A : Type 0} (p : A → Bool) (xs : List A) → count p xs ≤ length xs
unfolding count
count_few p [] = omega arith
count_few p (x ∷ xs) =
    pick_cases (λ k. k + count p xs ≤ length (x ∷ xs)) (p x) 1 0 (λ e. omega (arith, count_few p xs)) (λ e. omega (arith, count_few p xs))

-- what is counted by one test of which the elements all have the outcome of
count_const : {A : Type 0} (p q : A → Bool) (b : Bool) (xs : List A) → ((x : A) → q x ≡ true → p x ≡ b) → every q xs ≡ true → count p xs ≡ pick b (length xs) 0
unfolding count every
count_const p q true [] same all = refl
count_const p q false [] same all = refl
count_const p q true (x ∷ xs) same all =
    let e = count_const p q true xs same (and_right (q x) (every q xs) all) in
    rw (same x (and_left (q x) (every q xs) all)) (omega arith)
count_const p q false (x ∷ xs) same all =
    let e = count_const p q false xs same (and_right (q x) (every q xs) all) in
    rw (same x (and_left (q x) (every q xs) all)) (omega arith)

module _ (r : System) where
  -- the number that a step gets
  abbrev pub number_of : Step → ℕ
  number_of s = step_number (step_answer r s)

  pub get_d_tallied : (ss : List Step) (a : ℕ) → a < 27 → get_or (tallied r ss) a 0 ≡ answering r a ss
  unfolding tallied
  get_d_tallied ss a l = get_d_table 27 (λ a. answering r a ss) a 0 l

  pub tallied_few : (ss : List Step) (a : ℕ) → a < 27 → get_or (tallied r ss) a 0 ≤ length ss
  unfolding answering
  tallied_few ss a l = rw (get_d_tallied ss a l) (count_few (λ s. eqb (number_of s) a) ss)

  pub length_tallied : (ss : List Step) → length (tallied r ss) ≡ 27
  unfolding tallied
  length_tallied ss = length_table 27 (λ a. answering r a ss)

  pub tallied_none : replicate 27 0 ≡ tallied r []
  unfolding tallied answering count
  tallied_none = all_same 27 (λ a. 0) 0 (λ i l. refl)

  -- one step more
  pub tallied_more : (ss : List Step) (s : Step) → set (tallied r ss) (number_of s) (get_or (tallied r ss) (number_of s) 0 + 1) ≡ tallied r (ss ++ (s ∷ []))
  unfolding tallied answering
  tallied_more ss s =
      let q = number_of s in
      let f : ℕ → ℕ = λ a. answering r a ss in
      let g : ℕ → ℕ = λ a. answering r a (ss ++ (s ∷ [])) in
      let one : f q + 1 ≡ g q = sym (count_append (λ s. eqb (number_of s) q) ss (s ∷ []) ∙ unfold count in rw (eq-eqb q q refl) (omega arith)) in
      rw (get_d_tallied ss q (number_few (step_answer r s)), one)
      (set_table 27 f g q 0 (number_few (step_answer r s))
      (λ j l ne. sym (count_append (λ s. eqb (number_of s) j) ss (s ∷ []) ∙ unfold count in rw (ne_eqb q j (λ e. ne (sym e))) (omega arith))))

  -- two lists
  pub tallied_both : (xs ys : List Step) → table 27 (λ a. get_or (tallied r xs) a 0 + get_or (tallied r ys) a 0) ≡ tallied r (xs ++ ys)
  unfolding tallied answering
  tallied_both xs ys =
      table_same 27 (λ a. get_or (tallied r xs) a 0 + get_or (tallied r ys) a 0) (λ a. answering r a (xs ++ ys))
      (λ a l. rw (get_d_tallied xs a l, get_d_tallied ys a l) (sym (count_append (λ s. eqb (number_of s) a) xs ys)))

  -- steps that all get number q
  pub tallied_same : (q : ℕ) (ss : List Step) → every (λ s. eqb (number_of s) q) ss ≡ true → tallied r ss ≡ all_get q (length ss)
  unfolding tallied answering
  tallied_same q ss all =
      table_same 27 (λ a. answering r a ss) (λ a. pick (eqb q a) (length ss) 0)
      (λ a l. count_const (λ s. eqb (number_of s) a) (λ s. eqb (number_of s) q) (eqb q a) ss (λ s e. rw (eqb-true (number_of s) q e) refl) all)

  -- where 9 refuses the rig, any steps
  every_nine : system_ok r ≡ false → (ss : List Step) → every (λ s. eqb (number_of s) 9) ss ≡ true
  unfolding every step_answer
  every_nine bad [] = refl
  every_nine bad (s ∷ ss) = and_both (eqb (number_of s) 9) (every (λ s. eqb (number_of s) 9) ss) (rw bad refl) (every_nine bad ss)

  pub tallied_nine : system_ok r ≡ false → (ss : List Step) → tallied r ss ≡ all_get 9 (length ss)
  tallied_nine bad ss = tallied_same 9 ss (every_nine bad ss)

  -- a panel
  pub panel_counts : countable r ≡ true → panel r ≡ tallied r (panel_steps r.plan.tasks r.processors)
  unfolding panel tallied
  panel_counts e = rw e refl

  pub panel_nothing : countable r ≡ false → panel r ≡ replicate 27 0
  unfolding panel
  panel_nothing e = rw e refl

-- "T + 256 + T × n"
pub length_panel : (m n : ℕ) → length (panel_steps m n) ≡ m + 256 + m * n
unfolding panel_steps
length_panel m n =
    let all : length (moves m n) ≡ m * n =
    length_joined m (λ t. moves_of (suc t) n)
    ∙ fold_same ◌+◌ 0 m (λ t. length (moves_of (suc t) n)) (λ t. n) (λ t l. length_table n (λ d. move_step (suc t) (suc d)))
    ∙ sum_const n m
    ∙ mul_comm n m in
    simp (length-append, length_table, all) (omega arith)
