-- Calls at the desks in turn until the rig is at rest, and the steps that they choose, as a step file in a lent output.
use Rattle.std.specs.Prelude.{◌≡◌, Bool, ◌&&◌, List, [], ◌∷◌, ◌++◌, map, ℕ, zero, suc, ◌+◌, leb, ltb, length, drop, Ok, Err}
use Rattle.base.specs.Choice.{pick}
use Rattle.plan.specs.Answers.{PlanAnswer}
use Rattle.plan.specs.Files.{start_answer}
use Rattle.rules.specs.declared.step.Step.{Step}
use Rattle.rules.specs.Answers.{RunAnswer}
use Rattle.rules.specs.declared.step.RunRefusal.TheVariants.{Unstarted, OutputShort}
use Rattle.rules.specs.declared.system.System.{System}
use Rattle.rules.specs.Numbers.{processor_id}
use Rattle.rules.specs.Steps.{quiescent}
use Rattle.rules.specs.Dispatch.{dispatched, step_of}
use Rattle.rules.specs.StepFiles.{start_of, text, written_after}
pub use Rattle.rules.specs.StepFiles.{step_bytes}

-- the desk after d of n desks, round again
abbrev pub desk_after : ℕ → ℕ → ℕ
desk_after n d = pick (ltb d n) (d + 1) 1

-- what calls leave: the steps that they chose, and the rig then
pub record Called : Type 0 where
  pub steps : List Step
  pub system : System

-- calls at the desks after d, round by round, until the rig is at rest: k of them at most
unfoldable pub called : ℕ → System → ℕ → Called
called zero r d = record { steps = []; system = r }
called (suc k) r d =
    let e = desk_after r.processors d in
    let o = dispatched r (processor_id e) in
    let h = called k o.system e in
    pick (quiescent r)
    (record { steps = []; system = r })
    (record { steps = (step_of o.delivery ++ step_of o.run) ++ h.steps; system = h.system })

-- from the start of plan file p on n desks: 2,001 rounds of six calls at most, which end no choice of 2,000 steps or fewer (`calls_enough` of `chooser`)
unfoldable pub chosen_from : ℕ → List ℕ → Called
chosen_from n p = called 12006 (start_of n p) 0

-- each step's bytes
unfoldable pub chosen_lines : ℕ → List ℕ → List (List ℕ)
chosen_lines n p = map step_bytes (chosen_from n p).steps

-- so many bytes may be filled: those of 2,000 steps at most, since more are refused by 8
abbrev pub room_in : List ℕ → ℕ
room_in out = pick (leb (length out) 8000) (length out) 8000

-- 1 to 6 as at start; 20 where the steps do not all fit in so many bytes, or do not bring the rig to rest
abbrev pub chosen_answer : PlanAnswer → Bool → RunAnswer
chosen_answer (Err a) all = Err (Unstarted a)
chosen_answer (Ok tt) all = pick all (Ok tt) (Err OutputShort)

unfoldable pub choose_answer : ℕ → List ℕ → ℕ → RunAnswer
choose_answer n p room = chosen_answer (start_answer n p) (leb (length (text (chosen_lines n p))) room && quiescent (chosen_from n p).system)

-- what is written: nothing where the file is refused; else the longest beginning of whole steps that fits
unfoldable pub choose_text : ℕ → List ℕ → ℕ → List ℕ
choose_text n p room = written_after (choose_answer n p room) (chosen_lines n p) room

-- what a choice of steps in so many bytes answers, how many it fills, and what the output holds then: bytes behind the steps are unchanged
pub record Chooses (n : ℕ) (p : List ℕ) (room : ℕ) (before : List ℕ) (answer : RunAnswer) (filled : ℕ) (after : List ℕ) : Type 0 where
  pub answered : answer ≡ choose_answer n p room
  pub count : filled ≡ length (choose_text n p room)
  pub bytes : after ≡ choose_text n p room ++ drop (length (choose_text n p room)) before
