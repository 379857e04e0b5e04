-- The paper's starred edges that concern a rig, and steps of rigs made by hand: inputs and outcomes.
use Rattle.std.specs.Prelude.{Bool, ◌&&◌, List, [], ◌∷◌, ◌++◌, ℕ, ◌/◌, ◌%◌, eqb, replicate}
use Rattle.plan.specs.Kinds.{op_set, op_add}
use Rattle.plan.specs.Programs.{Programs}
use Rattle.plan.specs.Layout.{layout}
use Rattle.plan.proofs.WriteEdges.{same_bytes}
use Rattle.plan.proofs.Edges.{does_on, single, worked}
use Rattle.rules.specs.declared.step.Step.{Step}
use Rattle.rules.specs.declared.system.System.{System}
use Rattle.rules.specs.Numbers.{task_id}
use Rattle.rules.specs.Answers.{step_number, run_number}
use Rattle.rules.specs.Tasks.{with_moves}
use Rattle.rules.specs.Systems.{task_at, with_task}
use Rattle.rules.specs.Steps.{step, ruled_steps}
use Rattle.rules.specs.StepFiles.{printed, run_file_answer, run_file_output}
use Rattle.rules.proofs.Scripts.{create, sync, finish, send, receive, set, add, raw, run, deliver, move, start_on}
use Rattle.rules.proofs.Sites.{crowded}

-- desks, a plan file, a step file, and what the trace program prints
pub record TextEdge : Type 0 where
  pub processors : ℕ
  pub file : List ℕ
  pub steps : List ℕ
  pub text : List ℕ

abbrev pub text_holds : TextEdge → Bool
text_holds e = same_bytes (printed e.processors e.file e.steps) e.text

-- the bytes of steps
unfoldable pub bytes_of : List Step → List ℕ
bytes_of [] = []
bytes_of (s ∷ ss) = s.kind ∷ s.task ∷ s.number % 256 ∷ s.number / 256 ∷ bytes_of ss

-- "run 1, run 1, move 2 to 2, run 1, deliver 2, deliver 1, run 2, deliver 1, deliver 1, run 2, run 2, run 1, deliver 1, run 1, run 1"
abbrev pub worked_steps : List Step
worked_steps =
    run 1 ∷ run 1 ∷ move 2 2 ∷ run 1 ∷ deliver 2 ∷ deliver 1 ∷ run 2 ∷ deliver 1 ∷ deliver 1 ∷ run 2 ∷ run 2 ∷ run 1 ∷ deliver 1 ∷ run 1 ∷ run 1 ∷ []

-- "it prints", with "four numbers, level 0 first": `1 0` to `8 0`; `9 0 3 7 0 0 0`; `10 0` to `14 0`; `15 11`; `end 1 0`
abbrev pub worked_text : List ℕ
worked_text =
    49 ∷ 32 ∷ 48 ∷ 10 ∷ 50 ∷ 32 ∷ 48 ∷ 10 ∷ 51 ∷ 32 ∷ 48 ∷ 10 ∷ 52 ∷ 32 ∷ 48 ∷ 10
    ∷ 53 ∷ 32 ∷ 48 ∷ 10 ∷ 54 ∷ 32 ∷ 48 ∷ 10 ∷ 55 ∷ 32 ∷ 48 ∷ 10 ∷ 56 ∷ 32 ∷ 48 ∷ 10
    ∷ 57 ∷ 32 ∷ 48 ∷ 32 ∷ 51 ∷ 32 ∷ 55 ∷ 32 ∷ 48 ∷ 32 ∷ 48 ∷ 32 ∷ 48 ∷ 10
    ∷ 49 ∷ 48 ∷ 32 ∷ 48 ∷ 10 ∷ 49 ∷ 49 ∷ 32 ∷ 48 ∷ 10 ∷ 49 ∷ 50 ∷ 32 ∷ 48 ∷ 10 ∷ 49 ∷ 51 ∷ 32 ∷ 48 ∷ 10 ∷ 49 ∷ 52 ∷ 32 ∷ 48 ∷ 10
    ∷ 49 ∷ 53 ∷ 32 ∷ 49 ∷ 49 ∷ 10
    ∷ 101 ∷ 110 ∷ 100 ∷ 32 ∷ 49 ∷ 32 ∷ 48 ∷ 10 ∷ []

-- `end 0 0`
abbrev pub end_text : List ℕ
end_text = 101 ∷ 110 ∷ 100 ∷ 32 ∷ 48 ∷ 32 ∷ 48 ∷ 10 ∷ []

-- `refused` and a number of one digit
abbrev pub refused_text : ℕ → List ℕ
refused_text n = 114 ∷ 101 ∷ 102 ∷ 117 ∷ 115 ∷ 101 ∷ 100 ∷ 32 ∷ n ∷ 10 ∷ []

-- task 1 sets 65,535, adds 1 and sends; task 2 receives
abbrev pub over_the_top : Programs
over_the_top = (create 2 ∷ set 65535 ∷ add 1 ∷ send 1 ∷ finish ∷ []) ∷ (receive 1 ∷ finish ∷ []) ∷ []

-- `over 1`
abbrev pub over_one : List ℕ
over_one = 111 ∷ 118 ∷ 101 ∷ 114 ∷ 32 ∷ 49 ∷ 10 ∷ []

-- the same on level 2, with 7 on level 1
abbrev pub over_the_top_on_two : Programs
over_the_top_on_two = (create 2 ∷ does_on 1 op_set 7 ∷ does_on 2 op_set 65535 ∷ does_on 2 op_add 1 ∷ send 1 ∷ finish ∷ []) ∷ (receive 1 ∷ finish ∷ []) ∷ []

-- `1 0` to `4 0`
abbrev four_lines : List ℕ
four_lines = 49 ∷ 32 ∷ 48 ∷ 10 ∷ 50 ∷ 32 ∷ 48 ∷ 10 ∷ 51 ∷ 32 ∷ 48 ∷ 10 ∷ 52 ∷ 32 ∷ 48 ∷ 10 ∷ []

-- `1 0` to `4 0`, `5 0 1 0 0 0 0`, `over 1`, `end 0 0`
abbrev pub over_text : List ℕ
over_text = four_lines ++ (53 ∷ 32 ∷ 48 ∷ 32 ∷ 49 ∷ 32 ∷ 48 ∷ 32 ∷ 48 ∷ 32 ∷ 48 ∷ 32 ∷ 48 ∷ 10 ∷ over_one ++ end_text)

-- `1 0` to `5 0`, `6 0 1 0 7 0 0`, `over 1`, `end 0 0`
abbrev pub over_text_on_two : List ℕ
over_text_on_two =
    four_lines ++ (53 ∷ 32 ∷ 48 ∷ 10 ∷ 54 ∷ 32 ∷ 48 ∷ 32 ∷ 49 ∷ 32 ∷ 48 ∷ 32 ∷ 55 ∷ 32 ∷ 48 ∷ 32 ∷ 48 ∷ 10 ∷ over_one ++ end_text)

-- steps with numbers over 255 and task numbers outside the plan: `1 19`, `2 15`, `3 10`, `4 10`, `5 10`, `end 0 0`
abbrev pub odd_steps : List Step
odd_steps = raw 1 1 256 ∷ move 1 257 ∷ run 0 ∷ run 2 ∷ move 2 7 ∷ []

abbrev pub odd_text : List ℕ
odd_text =
    49 ∷ 32 ∷ 49 ∷ 57 ∷ 10 ∷ 50 ∷ 32 ∷ 49 ∷ 53 ∷ 10 ∷ 51 ∷ 32 ∷ 49 ∷ 48 ∷ 10 ∷ 52 ∷ 32 ∷ 49 ∷ 48 ∷ 10 ∷ 53 ∷ 32 ∷ 49 ∷ 48 ∷ 10
    ∷ end_text

-- "*The run above. *Empty step file: `end 0 0`. .. *Word 65,535 add 1: 0.", on level 0 and on level 2; odd numbers; refusals 1, 2 and 8, each
-- before the next
unfoldable pub text_edges : List TextEdge
text_edges =
    record { processors = 2; file = worked; steps = bytes_of worked_steps; text = worked_text }
    ∷ record { processors = 2; file = worked; steps = []; text = end_text }
    ∷ record { processors = 1; file = layout over_the_top; steps = bytes_of (run 1 ∷ run 1 ∷ run 1 ∷ run 1 ∷ run 2 ∷ []); text = over_text }
    ∷ record {
      processors = 1;
      file = layout over_the_top_on_two;
      steps = bytes_of (run 1 ∷ run 1 ∷ run 1 ∷ run 1 ∷ run 1 ∷ run 2 ∷ []);
      text = over_text_on_two;
    }
    ∷ record { processors = 2; file = single; steps = bytes_of odd_steps; text = odd_text }
    ∷ record { processors = 7; file = []; steps = 1 ∷ []; text = refused_text 49 }
    ∷ record { processors = 2; file = []; steps = 1 ∷ []; text = refused_text 50 }
    ∷ record { processors = 2; file = worked; steps = 1 ∷ []; text = refused_text 56 }
    ∷ []

-- the same with an output: what it holds before, the number that is answered, and what it holds then
pub record OutputEdge : Type 0 where
  pub processors : ℕ
  pub file : List ℕ
  pub steps : List ℕ
  pub before : List ℕ
  pub number : ℕ
  pub after : List ℕ

abbrev pub output_holds : OutputEdge → Bool
output_holds e =
    eqb (run_number (run_file_answer e.processors e.file e.steps e.before)) e.number
    && same_bytes (run_file_output e.processors e.file e.steps e.before) e.after

-- on the plan of one finish, an output of nines
abbrev pub nines : ℕ → List ℕ
nines n = replicate n 9

abbrev pub output_edge : ℕ → List ℕ → ℕ → ℕ → List ℕ → OutputEdge
output_edge n steps room number after = record { processors = n; file = single; steps = steps; before = nines room; number = number; after = after }

-- `1 14` and `end 0 0` are 13 bytes: deliver 0
abbrev pub short_text : List ℕ
short_text = 49 ∷ 32 ∷ 49 ∷ 52 ∷ 10 ∷ end_text

-- a sum over the top, and an output that is too short: `1 0`, `2 0`, `over 1` and `end 0 0` are 23 bytes
abbrev pub over_edge : ℕ → List ℕ → OutputEdge
over_edge room after =
    record {
      processors = 1;
      file = layout ((set 65535 ∷ add 1 ∷ finish ∷ []) ∷ []);
      steps = bytes_of (run 1 ∷ run 1 ∷ []);
      before = nines room;
      number = 20;
      after = 49 ∷ 32 ∷ 48 ∷ 10 ∷ 50 ∷ 32 ∷ 48 ∷ 10 ∷ after;
    }

-- "20, the lent output is too short: it holds the longest beginning of whole lines that fits. Here and after acceptance, bytes behind the last
-- line are unchanged."; "the output is untouched"
unfoldable pub output_edges : List OutputEdge
output_edges =
    output_edge 2 (bytes_of (deliver 0 ∷ [])) 15 0 (short_text ++ nines 2)
    ∷ output_edge 2 (bytes_of (deliver 0 ∷ [])) 12 20 (49 ∷ 32 ∷ 49 ∷ 52 ∷ 10 ∷ nines 7)
    ∷ over_edge 14 (nines 6)
    ∷ over_edge 22 (over_one ++ nines 7)
    ∷ output_edge 2 (1 ∷ 1 ∷ 0 ∷ []) 9 8 (nines 9)
    ∷ output_edge 0 (1 ∷ 1 ∷ 0 ∷ []) 9 1 (nines 9)
    ∷ []

-- a rig, a step of it, and the number that is answered
pub record StepEdge : Type 0 where
  pub system : System
  pub step : Step
  pub number : ℕ

abbrev pub step_holds : StepEdge → Bool
step_holds e = eqb (step_number (step e.system e.step).report.answer) e.number

-- a rig of six desks whose task 1 sends, to a task that it creates later
unfoldable pub sender : System
sender = start_on 6 ((send 3 ∷ create 2 ∷ finish ∷ []) ∷ (receive 3 ∷ finish ∷ []) ∷ [])

-- a rig of two desks whose task 1 has moved n - 1 times
unfoldable pub mover : ℕ → System
mover n =
    let r = start_on 2 ((finish ∷ []) ∷ []) in
    with_task r (task_id 1) (with_moves (task_at r (task_id 1)) n)

-- task 2, at desk 2, is about to finish; its child 3 lives and its parent is at desk 1
unfoldable pub family : System
family =
    (ruled_steps (start_on 2 ((create 2 ∷ sync ∷ finish ∷ []) ∷ (create 3 ∷ finish ∷ []) ∷ (finish ∷ []) ∷ []))
    (run 1 ∷ move 2 2 ∷ deliver 1 ∷ run 2 ∷ [])).system

-- the same, its count spent
unfoldable pub spent : System → System
spent r = with_task r (task_id 2) (with_moves (task_at r (task_id 2)) 9999)

-- "*Send to five other desks with 251 letters: accepted; *252: 13. Move count 9,998 moves, *9,999: 18. *Deliver 0: 14. *Finish with a living
-- child and 256 letters: 12."
unfoldable pub step_edges : List StepEdge
step_edges =
    record { system = crowded 251 sender; step = run 1; number = 0 }
    ∷ record { system = crowded 252 sender; step = run 1; number = 13 }
    ∷ record { system = mover 9998; step = move 1 2; number = 0 }
    ∷ record { system = mover 9999; step = move 1 2; number = 18 }
    ∷ record { system = mover 1; step = deliver 0; number = 14 }
    ∷ record { system = crowded 256 family; step = run 2; number = 12 }
    -- refusals of a move in their order, where several hold; 9 before 19
    ∷ record { system = crowded 256 (mover 9999); step = move 1 2; number = 18 }
    ∷ record { system = crowded 256 (mover 9998); step = move 1 2; number = 13 }
    ∷ record { system = spent family; step = move 2 1; number = 18 }
    -- "A ready task with living children may now move"
    ∷ record { system = family; step = move 2 1; number = 0 }
    ∷ record { system = spent family; step = move 2 2; number = 16 }
    ∷ record { system = mover 10000; step = raw 4 0 0; number = 9 }
    ∷ record { system = mover 1; step = raw 4 0 0; number = 19 }
    ∷ record { system = mover 1; step = raw 0 0 0; number = 19 }
    ∷ []
