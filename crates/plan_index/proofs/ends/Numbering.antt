-- The sends of a task are numbered one by one: what was counted of each channel, and the numbers, after one instruction more.
use mathlib.Core.Path.{◌≡◌, refl, sym, ◌∙◌, ap}
use mathlib.Core.Bool.{Bool}
use mathlib.Core.List.{List}
use mathlib.Core.Logic.{◌≢◌, by_cases}
use Prim.Native.Nat.{ℕ, ◌+◌, ◌*◌, ◌/◌, ◌%◌, ◌<◌, ◌≤◌}
use native.Mathlib.Omega.{arith}
use native.Mathlib.Decide.{ℕ_discrete}
use lib.ListN.{length, get_or, set, replicate}
use borrow.Author.Tests.{eq-eqb, ne_eqb, lt-ltb, le-ltb}
use Rattle.base.specs.Choice.{pick}
use Rattle.base.specs.Lists.{table}
use Rattle.base.proofs.Choices.{pick_either}
use Rattle.base.proofs.Folds.{fold_none, fold_more}
use Rattle.base.proofs.Slots.{row_of, place_of}
use Rattle.base.proofs.Sums.{sum_at_most}
use Rattle.base.proofs.Tables.{all_same, as_table, get_d_table, table_same, set_table}
use Rattle.base.proofs.Tests.{and_false}
use Rattle.plan.specs.Kinds.{op_send, is_use}
use Rattle.plan_value.specs.Slots.{slot_in}
use Rattle.plan_index.specs.ends.Numbers.{sent_in, counted_task, sent_before, slot_number, send_of, numbered_task, send_numbers}
use Rattle.plan_index.proofs.ends.Filling.{ltb_other, fill_more}

module _ (codes : List ℕ) (k : ℕ) where
  pub sent_none : (old : List ℕ) → length old ≡ 129 → old ≡ counted_task codes old k 0
  sent_none old e =
      let same : table 129 (λ c. get_or old c 0) ≡ old = rw e at (as_table old 0) in
      sym same ∙ table_same 129 _ _ (λ c h. let none : sent_in codes k 0 c ≡ 0 = fold_none ◌+◌ 0 _ in omega (arith, none))

  pub numbers_none : (old : List ℕ) → length old ≡ 4096 → old ≡ numbered_task codes old k 0
  numbers_none old e =
      let same : table 4096 (λ s. get_or old s 0) ≡ old = rw e at (as_table old 0) in
      sym same ∙ table_same 4096 _ _ (λ s h. simp (le-ltb (s % 64) 0 (omega arith), and_false))

  -- as many at most as instructions
  sent_few : (i c : ℕ) → sent_in codes k i c ≤ i
  sent_few i c =
      let sends : ℕ → Bool = λ j. is_use op_send c (slot_in codes (64 * k + j)) in
      omega (arith, sum_at_most 1 i (λ j. pick (sends j) 1 0) (λ j h. pick_either (λ w. w ≤ 1) (sends j) 1 0 (omega arith) (omega arith)))

  module _ (i : ℕ) where
    abbrev here : ℕ
    here = 64 * k + i

    more : (c : ℕ) → sent_in codes k (i + 1) c ≡ sent_in codes k i c + pick (is_use op_send c (slot_in codes here)) 1 0
    more c = fold_more ◌+◌ 0 i _

    -- no other slot is numbered
    other : (j : ℕ) → j ≢ here → send_of codes k i j ≡ send_of codes k (i + 1) j
    other j ne =
        by_cases
        (ℕ_discrete (j / 64) k)
        (λ (e : j / 64 ≡ k). rw (ltb_other (j % 64) i (λ q. ne (omega arith))) refl)
        (λ q. rw (ne_eqb (j / 64) k q) refl)

    -- an instruction that is no send
    module _ (none : (slot_in codes here).opcode ≢ op_send) where
      pub sent_same : (old : List ℕ) → counted_task codes old k i ≡ counted_task codes old k (i + 1)
      sent_same old =
          table_same 129 _ _ (λ c h. ap (λ w. get_or old c 0 + w) (sym (more c ∙ simp (ne_eqb (slot_in codes here).opcode op_send none) (omega arith))))

      pub numbers_same : (old : List ℕ) → numbered_task codes old k i ≡ numbered_task codes old k (i + 1)
      numbers_same old =
          table_same 4096 _ _
          (λ j h.
          ap (λ (b : Bool). pick b (slot_number codes j) (get_or old j 0))
          (by_cases (ℕ_discrete j here) (λ (e : j ≡ here). rw (e, ne_eqb (slot_in codes here).opcode op_send none) (simp and_false)) (other j)))

    -- a send on channel c
    module _ (sends : (slot_in codes here).opcode ≡ op_send) (c : ℕ) (on : c ≡ (slot_in codes here).operand) (fits : c ≤ 128)
        (first : List ℕ) (unsent : get_or first c 0 ≡ 0) (sent : List ℕ) (counted : sent ≡ counted_task codes first k i) where
      before : get_or sent c 0 ≡ sent_in codes k i c
      before = rw (counted, get_d_table 129 (λ c. get_or first c 0 + sent_in codes k i c) c 0 (omega arith)) (omega (arith, unsent))

      next : get_or sent c 0 + 1 ≡ sent_in codes k (i + 1) c
      next = rw (before, more c, eq-eqb (slot_in codes here).opcode op_send sends, eq-eqb (slot_in codes here).operand c (sym on)) refl

      pub number_few : get_or sent c 0 ≤ i
      number_few = rw before (sent_few i c)

      pub sent_more : set sent c (get_or sent c 0 + 1) ≡ counted_task codes first k (i + 1)
      sent_more =
          let there : get_or sent c 0 + 1 ≡ get_or first c 0 + sent_in codes k (i + 1) c = omega (arith, next, unsent) in
          rw (there, counted)
          (set_table 129 (λ c. get_or first c 0 + sent_in codes k i c) (λ c. get_or first c 0 + sent_in codes k (i + 1) c) c 0 (omega arith)
          (λ j h ne.
          ap (λ w. get_or first j 0 + w)
          (sym (more j ∙ simp (eq-eqb (slot_in codes here).opcode op_send sends, ne_eqb (slot_in codes here).operand j (λ q. ne (omega arith))) (omega arith)))))

      pub numbers_more : k < 64 → i < 64 → (old numbers : List ℕ) → numbers ≡ numbered_task codes old k i
          → set numbers here (get_or sent c 0 + 1) ≡ numbered_task codes old k (i + 1)
      numbers_more h l old numbers e =
          let number : get_or sent c 0 + 1 ≡ slot_number codes here = rw (row_of k i l, place_of k i l, ← on) next in
          rw (number, e)
          (fill_more 4096 (slot_number codes) (λ s. get_or old s 0) (send_of codes k i) (send_of codes k (i + 1)) here (omega arith)
          (simp (row_of k i l, place_of k i l, eq-eqb k k refl, lt-ltb i (i + 1) (omega arith), eq-eqb (slot_in codes here).opcode op_send sends))
          other)

-- what was counted of one task more
pub counted_none : (lengths codes : List ℕ) → replicate 129 0 ≡ table 129 (sent_before lengths codes 0)
counted_none lengths codes = all_same 129 _ 0 (λ c h. fold_none ◌+◌ 0 _)

pub counted_more : (lengths codes : List ℕ) (k : ℕ) → counted_task codes (table 129 (sent_before lengths codes k)) k (get_or lengths k 0) ≡ table 129 (sent_before lengths codes (k + 1))
counted_more lengths codes k =
    table_same 129 _ _
    (λ c h.
    ap (λ w. w + sent_in codes k (get_or lengths k 0) c) (get_d_table 129 (sent_before lengths codes k) c 0 h)
    ∙ sym (fold_more ◌+◌ 0 k (λ j. sent_in codes j (get_or lengths j 0) c)))

-- one task more
pub tasks_none : (lengths codes : List ℕ) → replicate 4096 0 ≡ send_numbers 0 lengths codes
tasks_none lengths codes = all_same 4096 _ 0 (λ s h. simp (le-ltb (s / 64) 0 (omega arith)))

pub tasks_more : (lengths codes : List ℕ) (k : ℕ)
    → numbered_task codes (send_numbers k lengths codes) k (get_or lengths k 0) ≡ send_numbers (k + 1) lengths codes
tasks_more lengths codes k =
    table_same 4096 _ _
    (λ s h.
    ap (pick (send_of codes k (get_or lengths k 0) s) (slot_number codes s)) (get_d_table 4096 _ s 0 h)
    ∙ by_cases
    (ℕ_discrete (s / 64) k)
    (λ (e : s / 64 ≡ k). simp (e, eq-eqb k k refl, lt-ltb k (k + 1) (omega arith), le-ltb k k (omega arith)))
    (λ q. simp (ne_eqb (s / 64) k q, ltb_other (s / 64) k q)))
