-- A settled task is one that 9 does not refuse, in one of four states.
use mathlib.Core.Path.{◌≡◌, refl}
use mathlib.Core.Bool.{true}
use Prim.Native.Nat.{ℕ, ◌≤◌}
use native.Mathlib.Omega.{arith}
use lib.ListN.{length}
use borrow.Author.Tests.{eqb-true, ne_eqb, ltb-true, lt-ltb}
use Rattle.base.specs.Choice.{within}
use Rattle.base.proofs.Tests.{within_low, within_high, within_both}
use Rattle.plan.specs.Programs.{Program}
use Rattle.rules.specs.Numbers.{processor_ok}
use Rattle.rules.specs.declared.task.Task.{Task}
use Rattle.rules.specs.declared.task.TaskState.{TaskState}
use Rattle.rules.specs.declared.task.TaskState.TheVariants.{Ready}
use Rattle.rules.specs.Tasks.{state_number, is_in}
use Rattle.rules.specs.Sound.{last_ok, task_ok}
use Rattle.rules_sound.specs.Settled.{Settled}
use Rattle.rules_sound.specs.Sites.{Acting}
use Rattle.rules_sound.proofs.Born.{born_passed, born_ok_lem}

module _ (n m : ℕ) (g : Program) (x : Task) where
  -- in a state s of the four
  pub settled : (s : TaskState) → within 1 4 (state_number s) ≡ true → is_in s x ≡ true → task_ok n m g x ≡ true → Settled n m (length g) x
  settled s w i h =
      let e = eqb-true (state_number x.state) (state_number s) i in
      let p : 1 ≤ state_number x.state = omega (arith, within_low 1 4 (state_number s) w) in
      let q : state_number x.state ≤ 4 = omega (arith, within_high 1 4 (state_number s) w) in
      let b = born_passed n m g x h (ne_eqb (state_number x.state) 0 (λ z. omega arith)) in
      let d : processor_ok n x.processor ≡ true = rw (ne_eqb (state_number x.state) 5 (λ z. omega arith)) at b.processor in
      let l : within 1 (length g) x.pc ≡ true = rw (ne_eqb (state_number x.state) 6 (λ z. omega arith)) at b.place in
      record {
        born = p;
        still = q;
        children = ltb-true _ _ b.children;
        moves = within_low 1 9999 x.moves b.moves;
        moves_few = within_high 1 9999 x.moves b.moves;
        processor = within_low 1 n x.processor.0 d;
        processor_few = within_high 1 n x.processor.0 d;
        place = within_low 1 (length g) x.pc l;
        place_few = within_high 1 (length g) x.pc l;
      }

  pub acting_settled : (k : ℕ) → Acting n m g k x → Settled n m (length g) x
  acting_settled k a = settled Ready refl a.ready a.fine

  pub settled_ok : Settled n m (length g) x → last_ok g x ≡ true → task_ok n m g x ≡ true
  settled_ok s l =
      born_ok_lem n m g x
      (record {
        children = lt-ltb _ _ s.children;
        moves = within_both 1 9999 x.moves s.moves s.moves_few;
        processor = rw (ne_eqb (state_number x.state) 5 (λ z. omega arith)) (within_both 1 n x.processor.0 s.processor s.processor_few);
        place = rw (ne_eqb (state_number x.state) 6 (λ z. omega arith)) (within_both 1 (length g) x.pc s.place s.place_few);
        last = l;
      })
      (ne_eqb (state_number x.state) 0 (λ z. omega arith))
