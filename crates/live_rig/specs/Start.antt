-- What the start of a rig in lent bytes is made of.
use Rattle.std.specs.Prelude.{◌≡◌, List, ℕ, ◌≤◌, length, Ok}
use Rattle.plan.specs.Files.{file_answer}
use Rattle.plan.specs.Outcomes.{plan_read}
use Rattle.plan_index.specs.ends.Derived.{ends_of}
use Rattle.image.specs.Image.{rig_size}

-- bytes for a rig, desks, and a plan file that 2 to 6 do not refuse, with who uses what
pub record Starts (b : List ℕ) (n : ℕ) (p senders receivers parents : List ℕ) : Type 0 where
  pub long : length b ≡ rig_size
  pub some : 1 ≤ n
  pub most : n ≤ 6
  pub accepted : file_answer p ≡ Ok tt
  pub senders_are : senders ≡ (ends_of (plan_read p).plan).senders
  pub receivers_are : receivers ≡ (ends_of (plan_read p).plan).receivers
  pub parents_are : parents ≡ (ends_of (plan_read p).plan).parents
