-- Plans with repeats: "The written-out plan must give on one desk the same words on each channel as this rule does." The rule is the machine of the new
-- edition (`repeat_machine`), which goes from place to place and writes nothing out; the written-out plan runs on a rig of one desk, by `rules`.
use Rattle.std.specs.Prelude.{◌≡◌, true, ◌&&◌, List, ℕ, Ok}
use Rattle.plan.specs.declared.ChannelId.{ChannelId}
use Rattle.plan.specs.declared.Plan.{Plan}
use Rattle.plan.specs.declared.TaskId.{TaskId}
use Rattle.plan.specs.Files.{file_programs, file_answer}
use Rattle.plan.specs.Programs.{Programs, canonical}
use Rattle.plan.specs.Repeats.{written_out_plan}
use Rattle.plan.specs.RepeatRefusals.{repeats_answer}
use Rattle.plan.specs.Conversions.{converted_file}
use Rattle.plan_laws.specs.Bytes.{Bytes}
use Rattle.repeat_laws.specs.Plain.{without_repeats}
use Rattle.rules.specs.declared.step.Step.{Step}
use Rattle.rules.specs.declared.system.System.{System}
use Rattle.rules.specs.declared.task.TaskState.TheVariants.{Done}
use Rattle.rules.specs.Steps.{received_on}
use Rattle.rules.specs.Systems.{task_at}
use Rattle.rules.specs.Tasks.{is_in}
use Rattle.net.specs.Machines.{Normal}
use Rattle.net.specs.Labels.{Label}
use Rattle.net.specs.Guards.{is_complete}
use Rattle.repeats.specs.Machine.{Repeated, repeat_machine, RepeatReached}
use Rattle.claim.specs.Statement.{from, Rests, ComesToRest}

-- the written-out plan of a file
abbrev pub written_plan : List ℕ → Plan
written_plan b = canonical (written_out_plan (file_programs b))

-- a run of the new edition that has come to rest: no label may be taken
pub record RepeatsRest (m : Programs) : Type 0 where
  pub labels : List Label
  pub state : Repeated
  pub reached : RepeatReached m labels state
  pub rests : Normal (repeat_machine m) state

-- of task t, the new edition's state and the rig agree on its word and its mark, and on whether it is done: born, and through its program
pub record SameWritten (m : Programs) (s : Repeated) (r : System) (t : TaskId) : Type 0 where
  pub word : s.net.word t ≡ (task_at r t).word
  pub overflow : s.net.overflow t ≡ (task_at r t).overflow
  pub done : s.net.born t && is_complete m s.net t ≡ is_in Done (task_at r t)

-- of every run of the new edition that has come to rest, and every list of steps that brings the written-out plan to rest on one desk; and there
-- is such a run, and such a list
pub record RepeatsWritten (b : List ℕ) : Type 0 where
  pub same_words : (x : RepeatsRest (file_programs b)) (ts : List Step) → Rests (written_plan b) ts → (c : ChannelId)
      → x.state.net.passed c ≡ received_on c (from 1 (written_plan b) ts).reports
  pub same_tasks : (x : RepeatsRest (file_programs b)) (ts : List Step) → Rests (written_plan b) ts → (t : TaskId)
      → SameWritten (file_programs b) x.state (from 1 (written_plan b) ts).system t
  pub repeats_rest : RepeatsRest (file_programs b)
  pub written_rest : ComesToRest (written_plan b)

-- `repeats_written`: for every file that the converter accepts
abbrev pub RepeatsAsWritten : Type 0
RepeatsAsWritten = (b : List ℕ) → repeats_answer b ≡ Ok tt → RepeatsWritten b

-- a file is answered as by plan check and, where it is accepted, written as it is
pub record AsItIs (b : List ℕ) : Type 0 where
  pub answer : repeats_answer b ≡ file_answer b
  pub file : file_answer b ≡ Ok tt → converted_file b ≡ b

-- `plain_as_it_is`: every file of bytes that has neither a repeat nor an end of one
abbrev pub PlainAsItIs : Type 0
PlainAsItIs = (b : List ℕ) → Bytes b → without_repeats (file_programs b) ≡ true → AsItIs b
