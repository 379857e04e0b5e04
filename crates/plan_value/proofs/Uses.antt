-- Which tasks use what among some instructions: with one more, and task by task.
use mathlib.Core.Path.{◌≡◌, refl, sym, ◌∙◌, ap}
use mathlib.Core.Bool.{true, false}
use mathlib.Core.List.{List, [], ◌∷◌, ◌++◌, append_assoc, append-nil}
use Prim.Native.Nat.{ℕ, zero, suc}
use lib.Dec.{leb}
use Rattle.base.specs.Choice.{pick}
use Rattle.base.specs.Range.{fold, joined}
use Rattle.base.specs.Lists.{every, table, table_before}
use Rattle.base.proofs.Choices.{pick_either}
use Rattle.base.proofs.Tables.{table_more}
use Rattle.base.proofs.Tests.{and_left, and_right, and_both, every_append}
use native.Mathlib.Numerals.{add-one}
use Rattle.plan.specs.Kinds.{is_use}
use Rattle.plan_value.specs.declared.pass.Entry.{Entry}
use Rattle.plan_value.specs.Pass.{uses_of}

module _ (k a : ℕ) where
  -- the task of an instruction, if it is of kind k with argument a
  abbrev pub use_of : Entry → List ℕ
  use_of x = pick (is_use k a x.instruction) (x.task ∷ []) []

  pub uses_append : (l r : List Entry) → uses_of k a (l ++ r) ≡ uses_of k a l ++ uses_of k a r
  unfolding uses_of
  uses_append [] r = refl
  uses_append (x ∷ l) r = ap (λ (s : List ℕ). use_of x ++ s) (uses_append l r) ∙ sym (append_assoc (use_of x) (uses_of k a l) (uses_of k a r))

  pub uses_more : (l : List Entry) (x : Entry) → uses_of k a (l ++ (x ∷ [])) ≡ uses_of k a l ++ use_of x
  unfolding uses_of
  uses_more l x = uses_append l (x ∷ []) ∙ ap (λ (s : List ℕ). uses_of k a l ++ s) (append-nil (use_of x))

  pub uses_joined : (n : ℕ) (f : ℕ → List Entry) → uses_of k a (joined n f) ≡ joined n (λ j. uses_of k a (f j))
  unfolding fold uses_of
  uses_joined zero f = refl
  uses_joined (suc n) f = uses_append (joined n f) (f n) ∙ ap (λ (s : List ℕ). s ++ uses_of k a (f n)) (uses_joined n f)

  pub uses_table : (n : ℕ) (f : ℕ → Entry) → uses_of k a (table n f) ≡ joined n (λ i. use_of (f i))
  unfolding fold
  uses_table zero f = unfold table table_before uses_of in refl
  uses_table (suc n) f =
      ap (uses_of k a) (ap (λ (m : ℕ). table m f) (sym (add-one n)) ∙ table_more n f)
      ∙ uses_more (table n f) (f n)
      ∙ ap (λ (s : List ℕ). s ++ use_of (f n)) (uses_table n f)

  -- an instruction of another kind, or with another argument
  pub uses_same : (l : List Entry) (x : Entry) → is_use k a x.instruction ≡ false → uses_of k a (l ++ (x ∷ [])) ≡ uses_of k a l
  uses_same l x h = uses_more l x ∙ rw (h, append-nil (uses_of k a l)) refl

  pub uses_one : (l : List Entry) (x : Entry) → is_use k a x.instruction ≡ true → uses_of k a (l ++ (x ∷ [])) ≡ uses_of k a l ++ (x.task ∷ [])
  uses_one l x h = uses_more l x ∙ rw h refl

  -- their tasks are numbers of tasks
  pub uses_some : (l : List Entry) → every (λ x. leb 1 x.task) l ≡ true → every (leb 1) (uses_of k a l) ≡ true
  unfolding uses_of every
  uses_some [] h = refl
  uses_some (x ∷ l) h =
      every_append (leb 1) (use_of x) (uses_of k a l)
      ∙ and_both (every (leb 1) (use_of x)) (every (leb 1) (uses_of k a l))
      (pick_either (λ s. every (leb 1) s ≡ true) (is_use k a x.instruction) (x.task ∷ []) [] (rw (and_left (leb 1 x.task) _ h) refl) refl)
      (uses_some l (and_right (leb 1 x.task) _ h))
