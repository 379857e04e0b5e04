-- What a plan file and a step file do in which one offer is forwarded m times. Said of the definitions of `plan`, `rules` and `claim` alone.
use Rattle.std.specs.Prelude.{◌≡◌, true, false, ◌&&◌, List, ℕ, eqb, Ok}
use Rattle.base.specs.Lists.{every}
use Rattle.plan.specs.declared.ChannelId.{ChannelId}
use Rattle.plan.specs.Files.{start_answer}
use Rattle.rules.specs.Numbers.{channel_id, same_channel}
use Rattle.rules.specs.Answers.{is_accepted}
use Rattle.rules.specs.Steps.{steps, quiescent}
use Rattle.rules.specs.StepFiles.{file_steps, start_of, steps_ok}
use Rattle.claim.specs.Chase.{forwards_of}

-- the offer that is forwarded: channel 1's first
abbrev pub chased : ChannelId
chased = channel_id 1

-- plan file p and step file b on three desks: both are accepted, "one offer is forwarded exactly m times", no other is, "and the rig then comes to
-- rest"; no step is refused
pub record Chase (m : ℕ) (p b : List ℕ) : Type 0 where
  pub plan : start_answer 3 p ≡ Ok tt
  pub file : steps_ok b ≡ true
  pub accepted : every (λ q. is_accepted q.answer) (steps (start_of 3 p) (file_steps b)).reports ≡ true
  pub forwarded : forwards_of chased 1 (start_of 3 p) (file_steps b) ≡ m
  pub no_other : (c : ChannelId) (w : ℕ) → (same_channel chased c && eqb 1 w) ≡ false → forwards_of c w (start_of 3 p) (file_steps b) ≡ 0
  pub rests : quiescent (steps (start_of 3 p) (file_steps b)).system ≡ true
