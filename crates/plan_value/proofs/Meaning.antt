-- What the pass over the instructions of a plan finds is what the paper asks of the plan: its answer, and the first tasks.
use mathlib.Core.Path.{◌≡◌, refl, sym, ◌∙◌, ap}
use mathlib.Core.Bool.{Bool, true, false, not, ◌&&◌, ◌||◌, and_assoc}
use mathlib.Core.List.{List, [], ◌∷◌, ◌++◌}
use Prim.Native.Nat.{ℕ, suc, ◌+◌, ◌-◌, ◌<◌, ◌≤◌}
use native.Mathlib.Numerals.{add-one}
use native.Mathlib.Omega.{arith}
use lib.ListN.{length, get_or}
use lib.Dec.{eqb, leb}
use borrow.Author.Tests.{ne_eqb, eq-eqb}
use Rattle.std.specs.Prelude.{Err}
use Rattle.base.specs.Choice.{unless}
use Rattle.base.specs.Range.{below}
use Rattle.base.specs.Lists.{every, table}
use Rattle.base.proofs.Tests.{and_true}
use Rattle.base.proofs.Folds.{fold_same, fold_more}
use Rattle.base.proofs.Sums.{sum_none}
use Rattle.base.proofs.Tables.{as_table, table_more, table_same, get_d_table, every_table}
use Rattle.plan.specs.declared.Instruction.{Instruction}
use Rattle.plan.specs.declared.Refusal.TheVariants.{BadLayout, BadInstruction}
use Rattle.plan.specs.Kinds.{op_create, op_send, op_receive, is_finish, no_instruction}
use Rattle.plan.specs.Programs.{Program, Programs, program_at, instruction_at}
use Rattle.plan.specs.Layout.{count_of}
use Rattle.plan.specs.Users.{first_of, users, one_task, share, one_end}
use Rattle.plan.specs.Refusals.{sizes_ok, instruction_ok, instructions_ok, finish_ok, finishes_ok, create_ok, creates_ok, channel_ok, channels_ok, structure_answer, plan_answer}
use Rattle.plan.specs.RepeatRefusals.{new_instruction_ok, new_instructions_ok}
use Rattle.plan_laws.proofs.Answers.{sized}
use Rattle.plan_value.specs.declared.instruction.Edition.{Edition}
use Rattle.plan_value.specs.declared.pass.Pass.{Pass}
use Rattle.plan_value.specs.Editions.{present_edition, new_edition, allowed}
use Rattle.plan_value.specs.Marks.{same_test}
use Rattle.plan_value.specs.Firsts.{first_users, Firsts, has_parent, all_created}
use Rattle.plan_value.specs.Ends.{one_there, unpaired_in}
use Rattle.plan_value.specs.Pass.{seen, entry_ok, finish_fits, uses_of, firsts_of, create_fine, ends_fit, Passed, entries, PassOf, pass_answer}
use Rattle.plan_value.proofs.Changes.{below_both, every_below}
use Rattle.plan_value.proofs.Marked.{create_whole}
use Rattle.plan_value.proofs.Unpaired.{there_none}
use Rattle.plan_value.proofs.Uses.{uses_some}
use Rattle.plan_value.proofs.Entries.{every_entries, uses_entries}
use Rattle.plan_value.proofs.Editions.{allowed_present, allowed_new}

-- one task more behind the others is in order where none of them is a finish and it is one
finish_last : (g : Program) (x : Instruction) → finish_ok (g ++ (x ∷ [])) ≡ every (λ i. not (is_finish i)) g && is_finish x
unfolding finish_ok every
finish_last [] x = refl
finish_last (i ∷ []) x = rw (and_true (not (is_finish i))) refl
finish_last (i ∷ j ∷ g) x = rw (finish_last (j ∷ g) x) (sym (and_assoc (not (is_finish i)) (not (is_finish j) && every (λ i. not (is_finish i)) g) (is_finish x)))

same_true : (b : Bool) → same_test b true ≡ b
same_true true = refl
same_true false = refl

same_false : (b : Bool) → same_test b false ≡ not b
same_false true = refl
same_false false = refl

finish_more : (n : ℕ) (f : ℕ → Instruction) → finish_ok (table (n + 1) f) ≡ below (n + 1) (λ i. same_test (is_finish (f i)) (eqb i (n + 1 - 1)))
finish_more n f =
    let fits : ℕ → Bool = λ i. same_test (is_finish (f i)) (eqb i (n + 1 - 1)) in
    ap finish_ok (table_more n f)
    ∙ finish_last (table n f) (f n)
    ∙ ap (λ (b : Bool). b && is_finish (f n))
    (every_table (λ i. not (is_finish i)) n f
    ∙ fold_same ◌&&◌ true n (λ i. not (is_finish (f i))) fits (λ i h. sym (rw (ne_eqb i (n + 1 - 1) (λ e. omega arith)) (same_false (is_finish (f i))))))
    ∙ ap (λ (b : Bool). below n fits && b) (sym (rw (eq-eqb n (n + 1 - 1) (omega arith)) (same_true (is_finish (f n)))))
    ∙ sym (fold_more ◌&&◌ true n fits)

-- a program is in order where just its last instruction is a finish
finish_of : (g : Program) → 1 ≤ length g → finish_ok g ≡ below (length g) (λ i. same_test (is_finish (instruction_at g i)) (eqb i (length g - 1)))
finish_of g h =
    let e : length g - 1 + 1 ≡ length g = omega arith in
    ap finish_ok (sym (as_table g no_instruction)) ∙ rw e at (finish_more (length g - 1) (instruction_at g))

module _ (m : Programs) where
  -- an edition's test of all instructions
  tests_are : (e : Edition) (test : Instruction → Bool) → ((x : Instruction) → allowed e (length m) x ≡ test x)
      → every (entry_ok e (length m)) (entries m) ≡ every (every test) m
  tests_are e test same =
      let n = length m in
      let fine : ℕ → ℕ → Bool = λ k i. test (instruction_at (program_at m k) i) in
      every_entries m (entry_ok e n)
      ∙ fold_same ◌&&◌ true n _ (λ k. below (count_of m k) (fine k))
      (λ k h. fold_same ◌&&◌ true (count_of m k) _ (fine k) (λ i q. same (instruction_at (program_at m k) i)))
      ∙ sym
      (every_below (every test) m []
      ∙ fold_same ◌&&◌ true n _ (λ k. below (count_of m k) (fine k)) (λ k h. every_below test (program_at m k) no_instruction))

  pub instructions_are : every (entry_ok present_edition (length m)) (entries m) ≡ instructions_ok m
  unfolding instructions_ok
  instructions_are = tests_are present_edition (instruction_ok (length m)) (allowed_present (length m))

  pub new_instructions_are : every (entry_ok new_edition (length m)) (entries m) ≡ new_instructions_ok m
  unfolding new_instructions_ok
  new_instructions_are = tests_are new_edition (new_instruction_ok (length m)) (allowed_new (length m))

  first_users_lem : (k : ℕ) → firsts_of k (entries m) ≡ first_users m k
  first_users_lem k = table_same 129 _ _ (λ a h. ap first_of (uses_entries m k a))

  pub firsts_are : {p : Pass} {x y z : List ℕ} → Passed present_edition (length m) (entries m) (seen p x y z) → Firsts m x y z
  firsts_are so =
      record {
        parents = so.parents ∙ first_users_lem op_create;
        senders = so.senders ∙ first_users_lem op_send;
        receivers = so.receivers ∙ first_users_lem op_receive;
      }

  first_at : (k c : ℕ) {f : List ℕ} → f ≡ firsts_of k (entries m) → c < 128 → get_or f (suc c) 0 ≡ first_of (uses_of k (suc c) (entries m))
  first_at k c e h = rw e (get_d_table 129 (λ a. first_of (uses_of k a (entries m))) (suc c) 0 (omega arith))

  module _ (sizes : sizes_ok m ≡ true) where
    finishes_are : every finish_fits (entries m) ≡ finishes_ok m
    unfolding finishes_ok
    finishes_are =
        every_entries m finish_fits
        ∙ fold_same ◌&&◌ true (length m) _ (λ k. finish_ok (program_at m k)) (λ k h. sym (finish_of (program_at m k) ((sized m sizes).counts k h).some))
        ∙ sym (every_below finish_ok m [])

    module _ {p : Pass} {x y z : List ℕ} (so : Passed present_edition (length m) (entries m) (seen p x y z)) where
      creates_are : p.creates && all_created p.tasks x ≡ creates_ok m
      unfolding creates_ok
      creates_are =
          let n = length m in
          let l = entries m in
          ap (λ (t : ℕ). p.creates && all_created t x) so.size
          ∙ ap (λ (b : Bool). b && all_created n x) so.creates
          ∙ sym (below_both n (λ k. leb (suc k) 1 || create_fine (suc k) (uses_of op_create (suc k) l)) (has_parent x))
          ∙ fold_same ◌&&◌ true n _ (λ k. leb (suc k) 1 || create_ok m (suc k))
          (λ k h.
          let few : k < 128 = omega (arith, (sized m sizes).tasks.few) in
          let parent : get_or x (k + 1) 0 ≡ first_of (uses_of op_create (suc k) l) = rw (add-one k) (first_at op_create k so.parents few) in
          rw (parent, add-one k)
          (go (leb (suc k) 1) (create_fine (suc k) (uses_of op_create (suc k) l)) (not (eqb (first_of (uses_of op_create (suc k) l)) 0))
          ∙ ap (λ (b : Bool). leb (suc k) 1 || b) (sym (create_whole (suc k) (uses_of op_create (suc k) l) (uses_some op_create (suc k) l so.tasks)))
          ∙ rw (uses_entries m op_create (suc k)) refl))
        where
          go : (b c d : Bool) → (b || c) && (b || d) ≡ b || (c && d)
          go true c d = refl
          go false c d = refl

      channels_are : p.channels && eqb p.unpaired 0 ≡ channels_ok m
      unfolding channels_ok unpaired_in
      channels_are =
          let l = entries m in
          let ss : ℕ → List ℕ = λ k. uses_of op_send (suc k) l in
          let rs : ℕ → List ℕ = λ k. uses_of op_receive (suc k) l in
          rw (so.channels, so.unpaired, sum_none 128 (λ k. one_there (get_or y (suc k) 0) (get_or z (suc k) 0)))
          (sym (below_both 128 (λ k. ends_fit (ss k) (rs k)) (λ k. eqb (one_there (get_or y (suc k) 0) (get_or z (suc k) 0)) 0))
          ∙ fold_same ◌&&◌ true 128 _ (λ k. channel_ok m (suc k))
          (λ k h.
          rw (
            first_at op_send k so.senders h,
            first_at op_receive k so.receivers h,
            there_none (ss k) (rs k) (uses_some op_send (suc k) l so.tasks) (uses_some op_receive (suc k) l so.tasks),
            uses_entries m op_send (suc k),
            uses_entries m op_receive (suc k),
          )
          (go (users m op_send (suc k)) (users m op_receive (suc k)))))
        where
          go : (s r : List ℕ) → ends_fit s r && not (one_end s r) ≡ one_task s && (one_task r && (not (share s r) && not (one_end s r)))
          go s r =
              and_assoc (one_task s) (one_task r && not (share s r)) (not (one_end s r))
              ∙ ap (λ (b : Bool). one_task s && b) (and_assoc (one_task r) (not (share s r)) (not (one_end s r)))

    -- 3 to 6
    answer_is : {p : Pass} {x y z : List ℕ} → PassOf present_edition m p x y z
        → pass_answer p x ≡ unless (instructions_ok m) (Err BadInstruction) (structure_answer m)
    unfolding structure_answer
    answer_is {p} {x} {y} {z} q = go p.instructions refl
      where
        go : (b : Bool) → p.instructions ≡ b
            → pass_answer p x ≡ unless (instructions_ok m) (Err BadInstruction) (structure_answer m)
        go false e = rw (← instructions_are, ← q.instructions, e) refl
        go true e =
            let so = q.passed e in
            rw (← instructions_are, ← q.instructions, e, ← finishes_are, ← so.finishes, ← creates_are so, ← channels_are so) refl

    -- 2 to 6
    pub answer_sized : {p : Pass} {x y z : List ℕ} → PassOf present_edition m p x y z → pass_answer p x ≡ plan_answer m
    unfolding plan_answer
    answer_sized q =
        answer_is q ∙ sym (ap (λ (b : Bool). unless b (Err BadLayout) (unless (instructions_ok m) (Err BadInstruction) (structure_answer m))) sizes)
