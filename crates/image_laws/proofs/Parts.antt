-- The parts of the rig that bytes hold, and their sizes.
use mathlib.Core.Path.{◌≡◌, refl}
use mathlib.Core.List.{List}
use mathlib.Core.Logic.{by_cases}
use Prim.Native.Nat.{ℕ, ◌<◌}
use native.Mathlib.Omega.{arith}
use native.Mathlib.Decide.{dec_lt}
use lib.ListN.{length, get_or, get_or-eq_default}
use Rattle.plan.specs.Outcomes.{plan_read}
use Rattle.base.proofs.Tables.{length_table}
use Rattle.plan_laws.specs.Bytes.{Bytes}
use Rattle.board.specs.Lent.{set_on, ready_on, tasks_on}
use Rattle.image.specs.Image.{plan_file, board_in, tables_in, network_in, chosen_in, rig_of}
use Rattle.image_laws.specs.Parts.{lent_in, system_on}
use Rattle.image_laws.specs.Held.{top64, AllBelow}
use Rattle.image_laws.proofs.Numbers.{Below, length_numbers_at, numbers_below}
use Rattle.image_laws.proofs.Plans.{plan_size}
use Rattle.image_laws.proofs.Sections.{Sizes}

pub rig_parts : (b : List ℕ) → rig_of b ≡ system_on (get_or b 12 0) (plan_read (plan_file b)).plan (lent_in b) (network_in b) (chosen_in b)
unfolding rig_of tables_in
rig_parts b = refl

pub all_below : (m : ℕ) (xs : List ℕ) → 0 < m → Below m xs → AllBelow m xs
all_below m xs some h i =
    by_cases (dec_lt i (length xs)) (h i) (λ l. let z = get_or-eq_default xs 0 {n = i} (omega arith) in omega arith)

pub board_long : (b : List ℕ) → length (board_in b) ≡ 1094
unfolding board_in
board_long b = length_numbers_at 8 1094 b 16664

pub board_small : (b : List ℕ) → Bytes b → AllBelow top64 (board_in b)
unfolding board_in
board_small b bytes = all_below top64 (board_in b) (omega arith) (numbers_below 8 1094 b 16664 bytes)

pub rig_sizes : (b : List ℕ) → Sizes (rig_of b)
unfolding rig_of tables_in chosen_in tasks_on ready_on
rig_sizes b =
    record {
      plan = plan_size (plan_file b);
      chosen = length_numbers_at 1 6 b 14;
      ready = length_table 6 (set_on (board_in b));
      hintprocessors = length_numbers_at 1 768 b 25416;
      hintmoves = length_numbers_at 2 768 b 26184;
      heldprocessors = length_numbers_at 1 768 b 27720;
      heldnumbers = length_numbers_at 1 768 b 28488;
      notes = length_numbers_at 1 768 b 29256;
    }
