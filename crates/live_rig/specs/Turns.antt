-- The bytes of a rig, exactly as many as it has: its plan, the rig that they hold, and a step of it.
use Rattle.std.specs.Prelude.{◌≡◌, ◌≢◌, true, List, ℕ, length, Err}
use Rattle.base.specs.Choice.{pick}
use Rattle.plan.specs.Outcomes.{plan_read}
use Rattle.rules.specs.declared.step.Report.{Report}
use Rattle.rules.specs.declared.step.Step.{Step}
use Rattle.rules.specs.declared.step.Stepped.{Stepped}
use Rattle.rules.specs.declared.step.StepRefusal.TheVariants.{BadSystem}
use Rattle.rules.specs.declared.system.System.{System}
use Rattle.rules.specs.Answers.{is_accepted}
use Rattle.rules.specs.Steps.{step, refused}
use Rattle.plan_index.specs.user_table.Users.{Indexed}
use Rattle.rig_parts.specs.Facts.{facts_of}
use Rattle.board.specs.Rigs.{facts_in}
use Rattle.rig_step.specs.Acts.{numbers_of}
use Rattle.image.specs.Image.{image, rig_of, is_image, rig_size, plan_file}
use Rattle.image.specs.Live.{live_step, Left}
use Rattle.live_rig.specs.Open.{PlanOf}

-- the plan in the bytes is known, and this is derived of it
pub record Planned (b lengths codes users : List ℕ) (tasks : ℕ) : Type 0 where
  pub long : length b ≡ rig_size
  pub plan : PlanOf b tasks lengths codes
  pub facts_of_lem : facts_in tasks codes (numbers_of tasks lengths codes) users ≡ facts_of (plan_read (plan_file b)).plan
  pub indexed : Indexed users

-- the bytes are those of the rig r, which can be read from them
pub record Holds (r : System) (b : List ℕ) : Type 0 where
  pub bytes : b ≡ image r
  pub image : is_image b ≡ true
  pub rig : rig_of b ≡ r
  pub long : length b ≡ rig_size

-- one step of the rig that the bytes hold
abbrev pub step_in : List ℕ → Step → Stepped
step_in b s = pick (is_image b) (step (rig_of b) s) (refused (rig_of b) (Err BadSystem))

-- what it reports, and the bytes then
pub record SteppedIn (b : List ℕ) (s : Step) (q : Report) (b' : List ℕ) : Type 0 where
  pub report : q ≡ (step_in b s).report
  pub refused : is_accepted q.answer ≢ true → b' ≡ b
  pub accepted : is_accepted q.answer ≡ true → Holds (step_in b s).system b'

-- the same of a rig that other bytes may follow
pub record SteppedHeld (b : List ℕ) (s : Step) (q : Report) (b' : List ℕ) : Type 0 where
  pub report : q ≡ (live_step b s).report
  pub refused : is_accepted q.answer ≢ true → b' ≡ b
  pub accepted : is_accepted q.answer ≡ true → Left b (live_step b s).system b'
