-- Plans, steps and trace lines written short, for the edges.
use mathlib.Core.Bool.{Bool, true, false, ◌&&◌}
use mathlib.Core.List.{List, [], ◌∷◌, map}
use Prim.Native.Nat.{ℕ}
use lib.Dec.{eqb}
use Rattle.plan.specs.declared.Instruction.{Instruction}
use Rattle.plan.specs.Kinds.{op_create, op_sync, op_finish, op_send, op_receive, op_set, op_add}
use Rattle.plan.specs.Programs.{Programs, canonical}
use Rattle.plan.specs.Answers.{is_accepted}
use Rattle.plan.specs.Refusals.{plan_answer}
use Rattle.plan.proofs.Edges.{does}
use Rattle.plan.proofs.WriteEdges.{same_bytes}
use Rattle.rules.specs.declared.step.Step.{Step}
use Rattle.rules.specs.declared.step.Report.{Report}
use Rattle.rules.specs.declared.system.System.{System}
use Rattle.rules.specs.Answers.{step_number}
use Rattle.rules.specs.Starts.{started}
use Rattle.rules.specs.Steps.{History, ruled_steps, run_step, quiescent}
use Rattle.rules.specs.Trace.{received_fields}

abbrev pub create : ℕ → Instruction
create u = does op_create u

abbrev pub sync : Instruction
sync = does op_sync 0

abbrev pub finish : Instruction
finish = does op_finish 0

abbrev pub send : ℕ → Instruction
send c = does op_send c

abbrev pub receive : ℕ → Instruction
receive c = does op_receive c

abbrev pub set : ℕ → Instruction
set n = does op_set n

abbrev pub add : ℕ → Instruction
add n = does op_add n

-- steps
abbrev pub raw : ℕ → ℕ → ℕ → Step
raw k t n = record { kind = k; task = t; number = n }

abbrev pub run : ℕ → Step
run t = run_step t

abbrev pub deliver : ℕ → Step
deliver p = raw 2 0 p

abbrev pub move : ℕ → ℕ → Step
move t d = raw 3 t d

-- a step, and the fields of its trace line behind the step number
pub record Line : Type 0 where
  pub step : Step
  pub fields : List ℕ

-- accepted; accepted with a word received on channel c, whose level 0 is w and whose others are 0; refused by n
abbrev pub ok : Step → Line
ok s = record { step = s; fields = 0 ∷ [] }

abbrev pub word : ℕ → ℕ → Step → Line
word c w s = record { step = s; fields = 0 ∷ c ∷ w ∷ 0 ∷ 0 ∷ 0 ∷ [] }

abbrev pub refuses : ℕ → Step → Line
refuses n s = record { step = s; fields = n ∷ [] }

-- desks, a plan, its steps with their lines, whether the rig is at rest then, and its letters
pub record Script : Type 0 where
  pub processors : ℕ
  pub plan : Programs
  pub lines : List Line
  pub rest : Bool
  pub messages : ℕ

unfoldable pub same_bool : Bool → Bool → Bool
same_bool true b = b
same_bool false true = false
same_bool false false = true

unfoldable pub lines_hold : List Line → List Report → Bool
lines_hold [] [] = true
lines_hold [] (q ∷ qs) = false
lines_hold (l ∷ ls) [] = false
lines_hold (l ∷ ls) (q ∷ qs) = same_bytes l.fields (step_number q.answer ∷ received_fields q.received) && lines_hold ls qs

-- the rig at the start of a plan
unfoldable pub start_on : ℕ → Programs → System
start_on n m = started n (canonical m)

unfoldable pub history_holds : Script → History → Bool
history_holds e h =
    lines_hold e.lines h.reports
    && (same_bool e.rest (quiescent h.system)
    && eqb e.messages h.system.network.used)

-- the plan is accepted, and its run is as said
abbrev pub script_holds : Script → Bool
script_holds e = is_accepted (plan_answer e.plan) && history_holds e (ruled_steps (start_on e.processors e.plan) (map (λ l. l.step) e.lines))
