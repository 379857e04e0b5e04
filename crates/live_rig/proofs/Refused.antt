-- Bytes that 9 refuses without a look at most of them: they are too few, their plan file is too long, or 2 to 6 refuse it.
use mathlib.Core.Path.{◌≡◌, refl, sym, ap, ◌∙◌}
use mathlib.Core.Logic.{◌≢◌}
use mathlib.Core.Bool.{true, false}
use mathlib.Core.List.{List, []}
use Prim.Native.Nat.{ℕ, ◌≤◌, ◌<◌}
use native.Mathlib.Omega.{arith}
use lib.ListN.{length}
use lib.Seq.{take_all, length-take-le}
use Rattle.std.specs.Prelude.{Ok, Err}
use Rattle.base.specs.Lists.{table, table_before}
use Rattle.base.proofs.Tests.{and_false, is_false}
use Rattle.plan.specs.Answers.{PlanAnswer}
use Rattle.plan.specs.Answers.{is_accepted}
use Rattle.plan.specs.Files.{file_answer}
use Rattle.plan.specs.Outcomes.{plan_read}
use Rattle.plan.specs.Programs.{programs, canonical}
use Rattle.plan.specs.Refusals.{plan_answer, sizes_ok}
use Rattle.rules.specs.Sound.{system_ok}
use Rattle.rules_laws.proofs.Sound.{system_passed}
use Rattle.image.specs.Numbers.{number_at}
use Rattle.image.specs.Image.{image, rig_of, is_image, rig_size, plan_room, plan_file, plan_bytes}
use Rattle.image_laws.proofs.Numbers.{held_number_lem}
use Rattle.image_laws.proofs.Parts.{rig_sizes}
use Rattle.image_laws.proofs.Same.{same_bytes_true}
use Rattle.image_laws.proofs.Sections.{length_image, long_held}
use Rattle.image.specs.Live.{held}
use Rattle.live_rig.specs.Open.{sound}

-- bytes of a rig's size are the rig
pub all_held : (b : List ℕ) → length b ≡ rig_size → held b ≡ b
all_held b e = take_all rig_size b (omega arith)

pub held_long : (b : List ℕ) → rig_size ≤ length b → length (held b) ≡ rig_size
held_long b h = length-take-le rig_size b h

-- an answer that is not accepted
not_accepted : (a : PlanAnswer) → a ≢ Ok tt → is_accepted a ≡ false
not_accepted (Ok tt) n = absurd (n refl)
not_accepted (Err r) n = refl

-- a plan of no task is refused
none_refused : is_accepted (plan_answer (programs (canonical []))) ≡ false
unfolding plan_answer sizes_ok programs canonical table table_before
none_refused = refl

module _ (b : List ℕ) where
  -- an image is that of the rig that it holds, which has a rig's size
  same : is_image b ≡ true → b ≡ image (rig_of b)
  unfolding is_image
  same h = same_bytes_true b (image (rig_of b)) h

  size : is_image b ≡ true → length b ≡ rig_size
  size h = ap length (same h) ∙ length_image (rig_of b) (rig_sizes b)

  -- and whose plan file has room
  room : is_image b ≡ true → number_at 4 b 4 ≤ plan_room
  room h =
      let s = rig_sizes b in
      let n = held_number_lem 4 (length (plan_bytes (rig_of b))) b 4 (long_held b (rig_of b) (same h) s) (omega (arith, s.plan)) in
      omega (arith, n, s.plan)

  no_image : (is_image b ≡ true → ⊥) → sound b ≡ false
  no_image n = rw (is_false (is_image b) n) refl

  pub short_refused : length b < rig_size → sound b ≡ false
  short_refused h = no_image (λ i. omega (arith, h, size i))

  pub long_refused : plan_room < number_at 4 b 4 → sound b ≡ false
  long_refused h = no_image (λ i. omega (arith, h, room i))

  none_there : is_accepted (file_answer (plan_file b)) ≡ false → (rig_of b).plan ≡ canonical []
  unfolding rig_of plan_read
  none_there e = rw e refl

  pub plan_refused : file_answer (plan_file b) ≢ Ok tt → sound b ≡ false
  plan_refused n =
      let none = none_there (not_accepted (file_answer (plan_file b)) n) in
      let bad : system_ok (rig_of b) ≡ false =
      is_false (system_ok (rig_of b)) (λ ok. let z = sym (rw none at (system_passed (rig_of b) ok).plan) ∙ none_refused in absurd (let y : ◌≡◌ {A = ℕ} 0 1 = cc in omega arith)) in
      rw bad (and_false (is_image b))

-- the bytes that are lent
pub short_held : (b : List ℕ) → length b < rig_size → sound (held b) ≡ false
short_held b h = rw (take_all rig_size b (omega arith)) (short_refused b h)
