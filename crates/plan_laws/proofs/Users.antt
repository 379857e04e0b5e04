-- Which task has an instruction of a kind with an argument: in any plan, and in one that is accepted.
use mathlib.Core.Path.{◌≡◌, refl}
use mathlib.Core.Bool.{Bool, true, false}
use mathlib.Core.List.{List, [], ◌∷◌}
use Prim.Native.Nat.{ℕ, suc, ◌-◌, ◌≤◌, ◌<◌}
use native.Mathlib.Omega.{arith, by_contra}
use lib.ListN.{length}
use lib.Dec.{eqb}
use borrow.Author.Tests.{eqb-true, eq-eqb}
use Rattle.std.specs.Prelude.{Ok}
use Rattle.base.specs.Choice.{pick, within}
use Rattle.base.specs.Lists.{every, any}
use Rattle.base.proofs.Tests.{and_left, and_both, or_cases}
use Rattle.base.proofs.Joins.{part_of_sum, one_adds, length_joined, every_part, any_part}
use Rattle.plan.specs.declared.Refusal.TheVariants.{BadFinish, BadCreate, BadChannel}
use Rattle.plan.specs.declared.Instruction.{Instruction}
use Rattle.plan.specs.Kinds.{is_use}
use Rattle.plan.specs.Programs.{Programs, program_at, instruction_at}
use Rattle.plan.specs.Users.{uses_in, users, first_of, one_task}
use Rattle.plan.specs.Refusals.{instruction_ok, finishes_ok, creates_ok, channels_ok, structure_answer, plan_answer}
use Rattle.plan_laws.proofs.Answers.{unless_accepted, and_parts, plan_passed}
use Rattle.plan_laws.proofs.Programs.{instruction_fine, user_few}

-- a test that the first of some task numbers passes, some pass; numbers that are all of one task are the first
pub first_any : (p : ℕ → Bool) (l : List ℕ) → 1 ≤ first_of l → p (first_of l) ≡ true → any p l ≡ true
unfolding any
first_any p [] h e = absurd (omega arith)
first_any p (t ∷ l) h e = rw e refl

one_first : (l : List ℕ) → one_task l ≡ true → every (eqb (first_of l)) l ≡ true
unfolding every
one_first [] h = refl
one_first (t ∷ l) h = and_both (eqb t t) (every (eqb t) l) (eq-eqb t t refl) h

-- the instructions of kind k with argument a in any plan
module _ (m : Programs) (k a : ℕ) where
  -- the first task that has one has one
  pub user_has : 1 ≤ first_of (users m k a)
      → (i : ℕ) × (i < length (program_at m (first_of (users m k a) - 1)))
      × (is_use k a (instruction_at (program_at m (first_of (users m k a) - 1)) i) ≡ true)
  unfolding users any
  user_has h =
      let t = first_of (users m k a) in
      let among = first_any (eqb t) (users m k a) h (eq-eqb t t refl) in
      let (j, l, e) = any_part (eqb t) (length m) (λ j. uses_in k a (suc j) (program_at m j)) among in
      let (i, q, r) = any_part (eqb t) (length (program_at m j)) _ e in
      let (used, same) = here t (suc j) (is_use k a (instruction_at (program_at m j) i)) r in
      let z : t - 1 ≡ j = omega arith in
      rw z (i, q, used)
    where
      here : (t s : ℕ) (b : Bool) → any (eqb t) (pick b (s ∷ []) []) ≡ true → (b ≡ true) × (t ≡ s)
      here t s true r = (refl, or_cases (eqb t s) false r (eqb-true t s) (λ q. cc))
      here t s false r = (r, cc)

  -- .. and is the task of each, where they are all of one task
  pub the_user : one_task (users m k a) ≡ true → (j i : ℕ) → j < length m → i < length (program_at m j)
      → is_use k a (instruction_at (program_at m j) i) ≡ true → first_of (users m k a) ≡ suc j
  unfolding users every
  the_user one j i l q e =
      let t = first_of (users m k a) in
      let those = every_part (eqb t) (length m) (λ j. uses_in k a (suc j) (program_at m j)) j l (one_first (users m k a) one) in
      let here = every_part (eqb t) (length (program_at m j)) _ i q those in
      eqb-true t (suc j) (and_left (eqb t (suc j)) true (rw e at here))

  -- a task has at most one of them where there is at most one in all
  pub one_use : length (users m k a) ≤ 1 → (j : ℕ) → j < length m → (i n : ℕ) → i < length (program_at m j) → n < length (program_at m j)
      → is_use k a (instruction_at (program_at m j) i) ≡ true → is_use k a (instruction_at (program_at m j) n) ≡ true → i ≡ n
  unfolding users
  one_use few j l i n p q e r =
      let uses : ℕ → List ℕ = λ j. uses_in k a (suc j) (program_at m j) in
      let at : ℕ → List ℕ = λ i. pick (is_use k a (instruction_at (program_at m j) i)) (suc j ∷ []) [] in
      let part = part_of_sum (length m) (λ j. length (uses j)) j l in
      let all = length_joined (length m) uses in
      let these = length_joined (length (program_at m j)) at in
      one_adds (length (program_at m j)) (λ i. length (at i)) (omega arith) i n p q (rw e (omega arith)) (rw r (omega arith))

module _ (m : Programs) (a : plan_answer m ≡ Ok tt) where
  -- a kind whose argument is within bounds
  module _ (k low high : ℕ)
      (bounds : (x : Instruction) → instruction_ok (length m) x ≡ true → x.opcode ≡ k → within low high x.operand ≡ true) where
    pub used_within : (n j i : ℕ) → j < length m → i < length (program_at m j) → is_use k n (instruction_at (program_at m j) i) ≡ true
        → within low high n ≡ true
    used_within n j i l q e =
        let x = instruction_at (program_at m j) i in
        let (kind, argument) = and_parts (eqb x.opcode k) (eqb x.operand n) e in
        rw (eqb-true x.operand n argument) at (bounds x (instruction_fine m a j l i q) (eqb-true x.opcode k kind))

    pub found_within : (n : ℕ) → 1 ≤ first_of (users m k n) → within low high n ≡ true
    found_within n h =
        let (i, q, e) = user_has m k n h in
        used_within n (first_of (users m k n) - 1) i (omega (arith, user_few m k n)) q e

    pub no_user : (n : ℕ) → within low high n ≡ false → first_of (users m k n) ≡ 0
    no_user n e =
        let none = by_contra (first_of (users m k n)) 0 (λ h. let w = found_within n h in let z : ◌≡◌ {A = ℕ} 0 1 = cc in omega arith) in
        omega arith

    pub used_by : ((n : ℕ) → within low high n ≡ true → one_task (users m k n) ≡ true) → (n j i : ℕ) → j < length m → i < length (program_at m j)
        → is_use k n (instruction_at (program_at m j) i) ≡ true → first_of (users m k n) ≡ suc j
    used_by one n j i l q e = the_user m k n (one n (used_within n j i l q e)) j i l q e

  -- refusals 5 and 6, passed
  pub structure_passed : (creates_ok m ≡ true) × (channels_ok m ≡ true)
  unfolding structure_answer
  structure_passed =
      let (f, r) = unless_accepted (finishes_ok m) BadFinish _ (plan_passed m a).structure in
      let (c, t) = unless_accepted (creates_ok m) BadCreate _ r in
      let (d, o) = unless_accepted (channels_ok m) BadChannel _ t in
      (c, d)
