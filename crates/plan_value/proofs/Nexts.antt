-- One instruction more, kind by kind: what it leaves as it was, and what it changes.
use mathlib.Core.Path.{◌≡◌, refl, sym, ◌∙◌, ap}
use mathlib.Core.Bool.{Bool, true, false, not, ◌&&◌}
use mathlib.Core.List.{List}
use mathlib.Core.Logic.{◌≢◌, by_cases}
use Prim.Native.Nat.{ℕ, ◌≤◌, ◌<◌}
use native.Mathlib.Omega.{arith}
use native.Mathlib.Decide.{ℕ_discrete}
use lib.ListN.{get_or}
use lib.Dec.{leb}
use borrow.Author.Tests.{ne_eqb}
use Rattle.base.specs.Choice.{within}
use Rattle.base.proofs.Tests.{tests_differ, and_true, and_right, within_low, within_high}
use Rattle.plan.specs.Kinds.{op_create, op_finish, op_send, op_receive}
use Rattle.plan_laws.proofs.Programs.{create_operand, send_operand, receive_operand}
use Rattle.plan.specs.Refusals.{instruction_ok}
use Rattle.plan.specs.RepeatRefusals.{new_instruction_ok}
use Rattle.plan_value.specs.declared.instruction.Edition.{Edition}
use Rattle.plan_value.specs.declared.pass.Entry.{Entry}
use Rattle.plan_value.specs.declared.pass.Pass.{Pass}
use Rattle.plan_value.specs.declared.pass.End.{End}
use Rattle.plan_value.specs.Marks.{create_mark, Entered}
use Rattle.plan_value.specs.Ends.{unpaired_in, EndEntered}
use Rattle.plan_value.specs.Pass.{Seen, seen, start_pass, entry_ok, finish_fits, next_table, next_create, next_end, next_seen}
use Rattle.plan_value.proofs.ByKind.{new_old, ok_channel, ok_level}
use Rattle.plan_value.proofs.Unpaired.{unpaired_swap}

abbrev kind_of : Entry → ℕ
kind_of x = x.instruction.opcode

abbrev argument_of : Entry → ℕ
argument_of x = x.instruction.operand

-- a send or a receive whose second byte is zero: its argument decides, where the edition has its kind
pub channel_allowed : (e : Edition) (n : ℕ) (x : Entry) → 4 ≤ kind_of x → kind_of x ≤ 5 → x.instruction.level ≡ 0
    → entry_ok e n x ≡ leb (kind_of x) e.kinds && within 1 128 (argument_of x)
channel_allowed e n x low high zero = rw (new_old n x.instruction (omega arith), ok_channel n x.instruction high zero low) refl

pub channel_test : (e : Edition) (n : ℕ) (x : Entry) (k a : ℕ) → 4 ≤ k → k ≤ 5 → kind_of x ≡ k → x.instruction.level ≡ 0 → a ≡ argument_of x
    → leb k e.kinds && within 1 128 a ≡ entry_ok e n x
channel_test e n x k a low high o zero on =
    ap (λ (i : ℕ). leb k e.kinds && within 1 128 i) on
    ∙ ap (λ (i : ℕ). leb i e.kinds && within 1 128 (argument_of x)) (sym o)
    ∙ sym (channel_allowed e n x (omega (arith, o)) (omega (arith, o)) zero)

-- another than a finish is in order where it is not the last
pub going_on : (x : Entry) (f : Bool) {g : Bool} → kind_of x ≢ op_finish → g ≡ f && not x.last → g ≡ f && finish_fits x
going_on x f ne e = rw (ne_eqb (kind_of x) op_finish ne) e

-- an instruction that is not refused: its argument is an entry of the tables
module _ (e : Edition) (n : ℕ) (x : Entry) (fine : entry_ok e n x ≡ true) where
  pub argument_fine : kind_of x ≤ 7 → instruction_ok n x.instruction ≡ true
  argument_fine old = rw (← new_old n x.instruction old) (and_right (leb (kind_of x) e.kinds) (new_instruction_ok n x.instruction) fine)

  pub zero_level : kind_of x ≤ 5 → x.instruction.level ≡ 0
  zero_level high =
      by_cases
      (ℕ_discrete x.instruction.level 0)
      (λ (z : x.instruction.level ≡ 0). z)
      (λ ne. absurd (tests_differ (argument_fine (omega arith)) (ok_level n x.instruction high ne)))

  pub create_fits : n ≤ 64 → kind_of x ≡ op_create → argument_of x < 129
  create_fits few o = omega (arith, within_high 2 n (argument_of x) (create_operand n x.instruction (argument_fine (omega arith)) o))

  pub send_fits : kind_of x ≡ op_send → (1 ≤ argument_of x) × (argument_of x < 129)
  send_fits o =
      let r = send_operand n x.instruction (argument_fine (omega arith)) o in
      (within_low 1 128 (argument_of x) r, omega (arith, within_high 1 128 (argument_of x) r))

  pub receive_fits : kind_of x ≡ op_receive → (1 ≤ argument_of x) × (argument_of x < 129)
  receive_fits o =
      let r = receive_operand n x.instruction (argument_fine (omega arith)) o in
      (within_low 1 128 (argument_of x) r, omega (arith, within_high 1 128 (argument_of x) r))

module _ (e : Edition) (x : Entry) (s : Seen) where
  abbrev n : ℕ
  n = s.pass.tasks

  pub next_refused : {r : Pass} → entry_ok e n x ≡ false → r ≡ start_pass n false → seen r s.parents s.senders s.receivers ≡ next_seen e x s
  next_refused h q = rw (q, h) refl

  -- of another kind
  other_table : (k : ℕ) (l : List ℕ) → kind_of x ≢ k → l ≡ next_table k x l
  other_table k l h = rw (ne_eqb (kind_of x) k h) refl

  other_end : (k : ℕ) (l o : List ℕ) → kind_of x ≢ k → next_end k x l o ≡ true
  other_end k l o h = rw (ne_eqb (kind_of x) k h) refl

  other_create : kind_of x ≢ op_create → s.pass.creates ≡ s.pass.creates && next_create x s.parents
  other_create h = rw (ne_eqb (kind_of x) op_create h) (sym (and_true s.pass.creates))

  module _ (fine : entry_ok e n x ≡ true) {f : Bool} (finish : f ≡ s.pass.finishes && finish_fits x) where
    together : {c d : Bool} {q : ℕ} {u v w : List ℕ} → c ≡ s.pass.creates && next_create x s.parents
        → d ≡ s.pass.channels && (next_end op_send x s.senders s.receivers && next_end op_receive x s.receivers s.senders)
        → u ≡ next_table op_create x s.parents → v ≡ next_table op_send x s.senders → w ≡ next_table op_receive x s.receivers → q ≡ unpaired_in v w
        → seen (record { tasks = n; instructions = s.pass.instructions; finishes = f; creates = c; channels = d; unpaired = q }) u v w ≡ next_seen e x s
    together p q i j k o =
        let one_ended = o ∙ (λ z. unpaired_in (j z) (k z)) in
        rw fine
        (λ z.
        seen (record { tasks = n; instructions = s.pass.instructions; finishes = finish z; creates = p z; channels = q z; unpaired = one_ended z }) (i z) (j z) (k z))

    pub next_other : s.pass.unpaired ≡ unpaired_in s.senders s.receivers → kind_of x ≢ op_create → kind_of x ≢ op_send → kind_of x ≢ op_receive
        → seen (record { tasks = n; instructions = s.pass.instructions; finishes = f; creates = s.pass.creates; channels = s.pass.channels; unpaired = s.pass.unpaired })
        s.parents s.senders s.receivers
        ≡ next_seen e x s
    next_other counted g h i =
        together
        (other_create g)
        (rw (other_end op_send s.senders s.receivers h, other_end op_receive s.receivers s.senders i) (sym (and_true s.pass.channels)))
        (other_table op_create s.parents g) (other_table op_send s.senders h) (other_table op_receive s.receivers i) counted

    -- with argument a, entered into its table
    module _ {a : ℕ} (on : a ≡ argument_of x) {c : Bool} {l : List ℕ} where
      pub next_create_lem : {r : Bool} → s.pass.unpaired ≡ unpaired_in s.senders s.receivers → kind_of x ≡ op_create → c ≡ s.pass.creates && r
          → Entered a x.task (create_mark (get_or s.parents a 0) x.task a) s.parents r l
          → seen (record { tasks = n; instructions = s.pass.instructions; finishes = f; creates = c; channels = s.pass.channels; unpaired = s.pass.unpaired }) l s.senders s.receivers
          ≡ next_seen e x s
      next_create_lem counted o q t =
          together
          (q ∙ ap (λ (b : Bool). s.pass.creates && b) (t.answer ∙ rw (on, o) refl))
          (rw o (sym (and_true s.pass.channels)))
          (t.table ∙ rw (on, o) refl) (rw o refl) (rw o refl) counted

      pub next_send : {r : End} → kind_of x ≡ op_send → c ≡ s.pass.channels && r.fits
          → EndEntered a x.task s.senders s.receivers r l
          → seen (record { tasks = n; instructions = s.pass.instructions; finishes = f; creates = s.pass.creates; channels = c; unpaired = r.unpaired }) s.parents l s.receivers
          ≡ next_seen e x s
      next_send o q t =
          together
          (rw o (sym (and_true s.pass.creates)))
          (q ∙ ap (λ (b : Bool). s.pass.channels && b) (t.entered.answer ∙ rw (on, o) (sym (and_true _))))
          (rw o refl) (t.entered.table ∙ rw (on, o) refl) (rw o refl) t.unpaired

      pub next_receive : {r : End} → kind_of x ≡ op_receive → c ≡ s.pass.channels && r.fits
          → EndEntered a x.task s.receivers s.senders r l
          → seen (record { tasks = n; instructions = s.pass.instructions; finishes = f; creates = s.pass.creates; channels = c; unpaired = r.unpaired }) s.parents s.senders l
          ≡ next_seen e x s
      next_receive o q t =
          together
          (rw o (sym (and_true s.pass.creates)))
          (q ∙ ap (λ (b : Bool). s.pass.channels && b) (t.entered.answer ∙ rw (on, o) refl))
          (rw o refl) (rw o refl) (t.entered.table ∙ rw (on, o) refl) (t.unpaired ∙ unpaired_swap l s.senders)
