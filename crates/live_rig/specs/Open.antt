-- The bytes of a rig opened: its plan, its parts, and whether 9 refuses them.
use Rattle.std.specs.Prelude.{◌≡◌, ◌≢◌, Bool, false, ◌&&◌, List, ℕ, ◌≤◌, replicate, Ok}
use Rattle.plan.specs.Files.{file_answer}
use Rattle.plan.specs.Outcomes.{plan_read}
use Rattle.plan_file.specs.declared.opening.Opened.{Opened}
use Rattle.plan_file.specs.Opens.{PlanOpened}
use Rattle.rules.specs.declared.system.System.{System}
use Rattle.rules.specs.Sound.{system_ok}
use Rattle.board.specs.declared.act.Size.{Size}
use Rattle.board.specs.Lent.{Lent}
use Rattle.image.specs.Numbers.{number_at}
use Rattle.image.specs.Image.{rig_of, is_image, plan_room, plan_file}
use Rattle.image_laws.specs.Parts.{lent_in}
use Rattle.live_rig.specs.declared.open.Opening.{Opening}

-- bytes of a rig's size hold a rig that 9 does not refuse
abbrev pub sound : List ℕ → Bool
sound b = is_image b && system_ok (rig_of b)

-- nothing stands in what a plan file is opened into
abbrev pub Blank : List ℕ → List ℕ → List ℕ → List ℕ → Type 0
Blank codes parents senders receivers =
    (codes ≡ replicate 4096 0) × (parents ≡ replicate 129 0) × (senders ≡ replicate 129 0) × (receivers ≡ replicate 129 0)

-- what opening the plan file of a rig's bytes leaves; where it is refused, so are the bytes
pub record PlanIn (b : List ℕ) (o : Opened) (codes parents senders receivers : List ℕ) : Type 0 where
  pub refused : o.answer ≢ Ok tt → sound b ≡ false
  pub room : o.answer ≡ Ok tt → number_at 4 b 4 ≤ plan_room
  pub opens : o.answer ≡ Ok tt → PlanOpened (plan_file b) o codes parents senders receivers

-- the plan of a rig's bytes, by its numbers
pub record PlanOf (b : List ℕ) (tasks : ℕ) (lengths codes : List ℕ) : Type 0 where
  pub room : number_at 4 b 4 ≤ plan_room
  pub accepted : file_answer (plan_file b) ≡ Ok tt
  pub tasks_are : tasks ≡ (plan_read (plan_file b)).plan.tasks
  pub lengths_are : lengths ≡ (plan_read (plan_file b)).plan.lengths
  pub codes_are : codes ≡ (plan_read (plan_file b)).plan.codes

-- how large a rig is
abbrev pub size_of : System → Size
size_of r = record { tasks = r.plan.tasks; processors = r.processors; used = r.network.used }

-- whether 9 refuses the bytes, how large their rig is, and its parts in what is lent
pub record Opens (b : List ℕ) (o : Opening) (l : Lent) : Type 0 where
  pub ok : o.ok ≡ sound b
  pub size : o.size ≡ size_of (rig_of b)
  pub parts : l ≡ lent_in b
