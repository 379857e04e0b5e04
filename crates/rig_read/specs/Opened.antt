-- An image opened: its parts are read, and its plan file is one that 2 to 6 do not refuse.
use Rattle.std.specs.Prelude.{◌≡◌, List, ℕ, ◌≤◌, length, get_or, Ok}
use Rattle.plan.specs.Files.{file_answer}
use Rattle.plan.specs.Outcomes.{plan_read}
use Rattle.board.specs.declared.act.Size.{Size}
use Rattle.board.specs.Lent.{Lent}
use Rattle.image.specs.Numbers.{number_at}
use Rattle.image.specs.Image.{rig_size, plan_room, plan_file, chosen_in}
use Rattle.image_laws.specs.Parts.{lent_in}

pub record Opened (b lengths codes : List ℕ) (n : Size) (l : Lent) (chosen : List ℕ) : Type 0 where
  pub long : length b ≡ rig_size
  pub room : number_at 4 b 4 ≤ plan_room
  pub plan : file_answer (plan_file b) ≡ Ok tt
  pub plan_lengths : lengths ≡ (plan_read (plan_file b)).plan.lengths
  pub plan_codes : codes ≡ (plan_read (plan_file b)).plan.codes
  pub tasks : n.tasks ≡ (plan_read (plan_file b)).plan.tasks
  pub processors : n.processors ≡ get_or b 12 0
  pub used : n.used ≡ number_at 4 b 8
  pub parts : l ≡ lent_in b
  pub last : chosen ≡ chosen_in b
