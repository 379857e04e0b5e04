-- What it says of a rig that 9 does not refuse it, part by part, and the other way round.
use mathlib.Core.Path.{◌≡◌}
use mathlib.Core.Bool.{Bool, true}
use Prim.Native.Nat.{ℕ, ◌≤◌}
use lib.Dec.{leb}
use borrow.Author.Tests.{leb-true}
use Rattle.base.specs.Choice.{within}
use Rattle.base.specs.Range.{up_to}
use Rattle.base.proofs.Tests.{and_left, and_right, and_both}
use Rattle.plan.specs.Answers.{is_accepted}
use Rattle.plan.specs.Refusals.{plan_answer}
use Rattle.rules.specs.declared.system.System.{System}
use Rattle.rules.specs.Numbers.{task_id}
use Rattle.rules.specs.Systems.{task_at, task_program, meaning}
use Rattle.rules.specs.Sound.{task_ok, origin_ok, tables_ok, channel_entries_ok, parents_ok, ready_ok, chosen_ok, network_ok, system_ok}

-- task t is in order
abbrev pub task_ok_in : System → ℕ → Bool
task_ok_in r t = task_ok r.processors r.plan.tasks (task_program r (task_id t)) (task_at r (task_id t))

-- its own pointer is
abbrev pub origin_ok_in : System → ℕ → Bool
origin_ok_in r t = origin_ok r.processors t (task_at r (task_id t))

pub record SystemPassed (r : System) : Type 0 where
  pub processors : within 1 6 r.processors ≡ true
  pub plan : is_accepted (plan_answer (meaning r)) ≡ true
  pub tasks : up_to r.plan.tasks (task_ok_in r) ≡ true
  pub origins : up_to r.plan.tasks (origin_ok_in r) ≡ true
  pub tables : tables_ok r.processors r.tables ≡ true
  pub channels : channel_entries_ok r.processors r.channels ≡ true
  pub parents : parents_ok r.processors r.plan.tasks r.parents ≡ true
  pub ready : ready_ok r.plan.tasks r.tasks ≡ true
  pub chosen : chosen_ok r.plan.tasks r.chosen ≡ true
  pub network : network_ok r.processors r.plan.tasks r.network ≡ true

pub system_passed : (r : System) → system_ok r ≡ true → SystemPassed r
unfolding system_ok
system_passed r h =
    let h₁ = and_right (within 1 6 r.processors) _ h in
    let h₂ = and_right (is_accepted (plan_answer (meaning r))) _ h₁ in
    let h₃ = and_right (up_to r.plan.tasks (task_ok_in r)) _ h₂ in
    let h₄ = and_right (up_to r.plan.tasks (origin_ok_in r)) _ h₃ in
    let h₅ = and_right (tables_ok r.processors r.tables) _ h₄ in
    let h₆ = and_right (channel_entries_ok r.processors r.channels) _ h₅ in
    let h₇ = and_right (parents_ok r.processors r.plan.tasks r.parents) _ h₆ in
    let h₈ = and_right (ready_ok r.plan.tasks r.tasks) _ h₇ in
    record {
      processors = and_left (within 1 6 r.processors) _ h;
      plan = and_left (is_accepted (plan_answer (meaning r))) _ h₁;
      tasks = and_left (up_to r.plan.tasks (task_ok_in r)) _ h₂;
      origins = and_left (up_to r.plan.tasks (origin_ok_in r)) _ h₃;
      tables = and_left (tables_ok r.processors r.tables) _ h₄;
      channels = and_left (channel_entries_ok r.processors r.channels) _ h₅;
      parents = and_left (parents_ok r.processors r.plan.tasks r.parents) _ h₆;
      ready = and_left (ready_ok r.plan.tasks r.tasks) _ h₇;
      chosen = and_left (chosen_ok r.plan.tasks r.chosen) _ h₈;
      network = and_right (chosen_ok r.plan.tasks r.chosen) _ h₈;
    }

pub system_ok_lem : (r : System) → SystemPassed r → system_ok r ≡ true
unfolding system_ok
system_ok_lem r h =
    and_both (within 1 6 r.processors) _ h.processors
    (and_both (is_accepted (plan_answer (meaning r))) _ h.plan
    (and_both (up_to r.plan.tasks (task_ok_in r)) _ h.tasks
    (and_both (up_to r.plan.tasks (origin_ok_in r)) _ h.origins
    (and_both (tables_ok r.processors r.tables) _ h.tables
    (and_both (channel_entries_ok r.processors r.channels) _ h.channels
    (and_both (parents_ok r.processors r.plan.tasks r.parents) _ h.parents
    (and_both (ready_ok r.plan.tasks r.tasks) _ h.ready
    (and_both (chosen_ok r.plan.tasks r.chosen) _ h.chosen h.network))))))))

-- "256 letters in the mail"
pub messages_fit : (r : System) → system_ok r ≡ true → r.network.used ≤ 256
unfolding network_ok
messages_fit r h = leb-true r.network.used 256 (and_left (leb r.network.used 256) _ (system_passed r h).network)
