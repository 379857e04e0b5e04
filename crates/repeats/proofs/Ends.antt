-- The written-out plan has the same tasks at the ends of channels, and the same programs written out.
use mathlib.Core.Path.{◌≡◌, refl, sym, ap, subst, ◌∙◌}
use mathlib.Core.Bool.{Bool, true, false, not, ◌||◌, or-true, or_assoc}
use mathlib.Core.List.{List, [], ◌∷◌, ◌++◌, map}
use Prim.Native.Nat.{ℕ, zero, suc, ◌-◌, ◌≤◌, ◌<◌}
use native.Mathlib.Omega.{arith}
use lib.Dec.{eqb}
use lib.ListN.{length, take, length-map, get_or-map}
use lib.Seq.{take-length}
use borrow.Author.Tests.{eqb-true, ne_eqb}
use Rattle.base.specs.Choice.{pick}
use Rattle.base.specs.Range.{fold, joined}
use Rattle.base.specs.Lists.{every, any}
use Rattle.base.proofs.Joins.{any_append}
use Rattle.base.proofs.Fronts.{any_front_more}
use Rattle.base.proofs.Tests.{and_left, and_right, or_cases, every_at, within_low}
use Rattle.plan.specs.declared.TaskId.{TaskId}
use Rattle.plan.specs.declared.ChannelId.{ChannelId}
use Rattle.plan.specs.declared.Instruction.{Instruction}
use Rattle.plan.specs.Numbers.{task_id}
use Rattle.plan.specs.Kinds.{op_send, op_receive, is_use, no_instruction}
use Rattle.plan.specs.Programs.{Program, Programs, program_at, instruction_at}
use Rattle.plan.specs.Users.{uses_in, users, first_of, sender_of, receiver_of}
use Rattle.plan.specs.Repeats.{is_repeat, is_repeat_end, times, body_of, written_from, written_out, written_out_plan}
use Rattle.plan.specs.RepeatRefusals.{new_instruction_ok}
use Rattle.repeat_laws.specs.Left.{is_mark}
use Rattle.net.specs.Guards.{program_for}

-- the program of a task, written out
pub program_written : (m : Programs) (t : TaskId) → program_for (written_out_plan m) t ≡ written_out (program_for m t)
unfolding program_for written_from
program_written m t = go (eqb t.0 0)
  where
    go : (b : Bool) → pick b [] (program_at (map written_out m) (t.0 - 1)) ≡ written_out (pick b [] (program_at m (t.0 - 1)))
    go true = refl
    go false = get_or-map written_out m (t.0 - 1) []

written_at : (m : Programs) (j : ℕ) → program_at (written_out_plan m) j ≡ written_out (program_at m j)
unfolding written_from
written_at m j = get_or-map written_out m j []

-- a test that no repeat and no end of one passes
module _ (p : Instruction → Bool) where
  none_times : (n : ℕ) (l : Program) → any p l ≡ false → any p (times n l) ≡ false
  unfolding any times
  none_times zero l h = refl
  none_times (suc n) l h = any_append p l (times n l) ∙ rw (h, none_times n l h) refl

  any_times : (n : ℕ) (l : Program) → 1 ≤ n → any p (times n l) ≡ any p l
  unfolding any times
  any_times zero l h = absurd (omega arith)
  any_times (suc n) l h = any_append p l (times n l) ∙ go (any p l) refl
    where
      go : (b : Bool) → any p l ≡ b → b || any p (times n l) ≡ b
      go true e = refl
      go false e = none_times n l e

  module _ (n : ℕ) (mark : (i : Instruction) → is_mark i ≡ true → p i ≡ false) where
    no_repeat : (i : Instruction) → is_repeat i ≡ true → p i ≡ false
    no_repeat i e = mark i (rw e refl)

    no_end : (i : Instruction) → is_repeat_end i ≡ true → p i ≡ false
    no_end i e = mark i (rw e (or-true (is_repeat i)))

    -- holds of an instruction of g where it holds of one of g written out
    any_from : (g : Program) → every (new_instruction_ok n) g ≡ true
        → (any p (written_from false g) ≡ any p g) × (any p (body_of g) || any p (written_from true g) ≡ any p g)
    unfolding any every written_from body_of new_instruction_ok
    any_from [] h = (refl, refl)
    any_from (i ∷ g) h =
        let fine = and_left (new_instruction_ok n i) _ h in
        let (outer, inner) = any_from g (and_right (new_instruction_ok n i) _ h) in
        (outside (is_repeat i) refl fine outer inner, within_it (is_repeat_end i) refl outer inner)
      where
        outside : (b : Bool) → is_repeat i ≡ b → new_instruction_ok n i ≡ true → any p (written_from false g) ≡ any p g
            → any p (body_of g) || any p (written_from true g) ≡ any p g
            → any p (pick b (times i.operand (body_of g) ++ written_from true g) (i ∷ written_from false g)) ≡ p i || any p g
        outside true e fine o w =
            let some = within_low 1 64 i.operand (and_right (eqb i.level 0) _ (rw e at fine)) in
            any_append p (times i.operand (body_of g)) (written_from true g) ∙ rw (any_times i.operand (body_of g) some, w, no_repeat i e) refl
        outside false e fine o w = rw o refl

        within_it : (b : Bool) → is_repeat_end i ≡ b → any p (written_from false g) ≡ any p g → any p (body_of g) || any p (written_from true g) ≡ any p g
            → any p (pick b [] (i ∷ body_of g)) || any p (written_from (not b) g) ≡ p i || any p g
        within_it true e o w = rw (o, no_end i e) refl
        within_it false e o w = or_assoc (p i) (any p (body_of g)) (any p (written_from true g)) ∙ rw w refl

    pub any_written : (g : Program) → every (new_instruction_ok n) g ≡ true → any p (written_out g) ≡ any p g
    any_written g h = (any_from g h).0

-- two lists of task numbers begin alike
pub data Begins : List ℕ → List ℕ → Type 0 where
  none : Begins [] []
  both : (t : ℕ) (x y : List ℕ) → Begins (t ∷ x) (t ∷ y)

begins_append : {a b c d : List ℕ} → Begins a b → Begins c d → Begins (a ++ c) (b ++ d)
begins_append none q = q
begins_append {c = c} {d = d} (both t x y) q = both t (x ++ c) (y ++ d)

begins_joined : (n : ℕ) (f g : ℕ → List ℕ) → ((j : ℕ) → j < n → Begins (f j) (g j)) → Begins (joined n f) (joined n g)
unfolding fold
begins_joined zero f g h = none
begins_joined (suc n) f g h = begins_append (begins_joined n f g (λ j l. h j (omega arith))) (h n (omega arith))

begins_first : {a b : List ℕ} → Begins a b → first_of a ≡ first_of b
begins_first none = refl
begins_first (both t x y) = refl

-- the uses of one task
pub data Uses (t : ℕ) : Bool → List ℕ → Type 0 where
  no_use : Uses t false []
  some_use : (x : List ℕ) → Uses t true (t ∷ x)

module _ (k a t : ℕ) (g : Program) where
  uses_to : (n : ℕ) → n ≤ length g → Uses t (any (is_use k a) (take n g)) (joined n (λ i. pick (is_use k a (instruction_at g i)) (t ∷ []) []))
  unfolding fold any
  uses_to zero h = no_use
  uses_to (suc n) h =
      subst (λ (b : Bool). Uses t b (joined n (λ i. pick (is_use k a (instruction_at g i)) (t ∷ []) []) ++ pick (is_use k a (instruction_at g n)) (t ∷ []) []))
      (sym (any_front_more (is_use k a) no_instruction g n h))
      (more (any (is_use k a) (take n g)) (is_use k a (instruction_at g n)) (uses_to n (omega arith)))
    where
      more : (b c : Bool) {x : List ℕ} → Uses t b x → Uses t (b || c) (x ++ pick c (t ∷ []) [])
      more true c (some_use x) = some_use (x ++ pick c (t ∷ []) [])
      more false true no_use = some_use []
      more false false no_use = no_use

  pub uses_are : Uses t (any (is_use k a) g) (uses_in k a t g)
  uses_are = rw (take-length g) at (uses_to (length g) (omega arith))

begins_uses : (t : ℕ) (b : Bool) {x y : List ℕ} → Uses t b x → Uses t b y → Begins x y
begins_uses t true (some_use x) (some_use y) = both t x y
begins_uses t false no_use no_use = none

module _ (m : Programs) (fine : every (every (new_instruction_ok (length m))) m ≡ true) (k a : ℕ) (kind : k < 8) where
  no_mark : (i : Instruction) → is_mark i ≡ true → is_use k a i ≡ false
  no_mark i e =
      or_cases (is_repeat i) (is_repeat_end i) e
      (λ r. let o = eqb-true i.opcode 8 r in rw (ne_eqb i.opcode k (λ z. omega arith)) refl)
      (λ r. let o = eqb-true i.opcode 9 r in rw (ne_eqb i.opcode k (λ z. omega arith)) refl)

  pub same_users : first_of (users m k a) ≡ first_of (users (written_out_plan m) k a)
  unfolding users
  same_users =
      rw (length-map m written_out)
      (begins_first
      (begins_joined (length m) (λ j. uses_in k a (suc j) (program_at m j)) (λ j. uses_in k a (suc j) (program_at (written_out_plan m) j))
      (λ j l.
      let g = program_at m j in
      let ok = every_at (every (new_instruction_ok (length m))) m j [] l fine in
      begins_uses (suc j) (any (is_use k a) g) (uses_are k a (suc j) g)
      (rw (written_at m j, ← any_written (is_use k a) (length m) no_mark g ok) (uses_are k a (suc j) (written_out g))))))

module _ (m : Programs) (fine : every (every (new_instruction_ok (length m))) m ≡ true) (c : ChannelId) where
  pub same_sender : sender_of m c ≡ sender_of (written_out_plan m) c
  same_sender = ap task_id (same_users m fine op_send c.0 (omega arith))

  pub same_receiver : receiver_of m c ≡ receiver_of (written_out_plan m) c
  same_receiver = ap task_id (same_users m fine op_receive c.0 (omega arith))
