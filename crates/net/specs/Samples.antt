-- Runs of small plans to their end: in each state the labels that may be taken and the one that is, and what is left at the end.
use Rattle.std.specs.Prelude.{Bool, true, false, ◌&&◌, List, [], ◌∷◌, ◌++◌, ℕ, suc, length}
use Rattle.base.specs.Choice.{pick}
use Rattle.base.specs.Range.{joined}
use Rattle.base.specs.Lists.{table}
use Rattle.plan.specs.declared.TaskId.{TaskId}
use Rattle.plan.specs.declared.Word.{Word}
use Rattle.plan.specs.declared.Instruction.{Instruction}
use Rattle.plan.specs.Numbers.{task_id, channel_id}
use Rattle.plan.specs.Words.{word_numbers}
use Rattle.plan.specs.Kinds.{op_create, op_sync, op_finish, op_send, op_receive, op_set, op_add}
use Rattle.plan.specs.Programs.{Programs}
use Rattle.plan.specs.Answers.{is_accepted}
use Rattle.plan.specs.Refusals.{plan_answer}
use Rattle.plan.specs.Files.{file_programs}
use Rattle.plan.proofs.Edges.{does, does_on, word_of, worked}
use Rattle.plan.proofs.WriteEdges.{same_bytes}
use Rattle.net.specs.States.{Net, start_net}
use Rattle.net.specs.Labels.{Label, own, pass}
use Rattle.net.specs.Guards.{enabled}
use Rattle.net.specs.Effects.{effect}

-- a state: which tasks may do an instruction of their own, which channels a word may pass, and what is taken
pub record Moment : Type 0 where
  pub tasks : List ℕ
  pub channels : List ℕ
  pub taken : Label

-- a plan, a run of it, and what each task and channels 1 to 3 then have
pub record Sample : Type 0 where
  pub plan : Programs
  pub run : List Moment
  pub tasks : List (List ℕ)
  pub channels : List (List ℕ)

-- those of 1 .. n that pass a test
abbrev those : ℕ → (ℕ → Bool) → List ℕ
those n p = joined n (λ k. pick (p (suc k)) (suc k ∷ []) [])

-- just these may be taken
unfoldable pub may_act : Programs → Net → List ℕ → List ℕ → Bool
may_act m s tasks channels =
    same_bytes (those (length m) (λ t. enabled m s (own (task_id t)))) tasks && same_bytes (those 3 (λ c. enabled m s (pass (channel_id c)))) channels

-- a task: 1 if it is born, how many instructions it has completed, 1 if it is marked, its word
abbrev task_numbers : Net → TaskId → List ℕ
task_numbers s t = pick (s.born t) 1 0 ∷ s.completed t ∷ pick (s.overflow t) 1 0 ∷ word_numbers (s.word t)

-- words, as numbers
unfoldable pub words_numbers : List Word → List ℕ
words_numbers [] = []
words_numbers (w ∷ ws) = word_numbers w ++ words_numbers ws

-- the same lists of numbers
unfoldable pub same_rows : List (List ℕ) → List (List ℕ) → Bool
same_rows [] [] = true
same_rows [] (y ∷ ys) = false
same_rows (x ∷ xs) [] = false
same_rows (x ∷ xs) (y ∷ ys) = same_bytes x y && same_rows xs ys

-- at the end nothing may be taken
unfoldable pub ended : Sample → Net → Bool
ended x s =
    may_act x.plan s [] []
    && (same_rows (table (length x.plan) (λ k. task_numbers s (task_id (suc k)))) x.tasks
    && same_rows (table 3 (λ k. words_numbers (s.passed (channel_id (suc k))))) x.channels)

-- from s on, each moment is as said, and the end
unfoldable pub played : Sample → Net → List Moment → Bool
played x s [] = ended x s
played x s (a ∷ later) = may_act x.plan s a.tasks a.channels && played x (effect x.plan s a.taken) later

-- the plan is accepted, and from the start the run is as said
unfoldable pub sample_holds : Sample → Bool
sample_holds x = is_accepted (plan_answer x.plan) && played x start_net x.run

abbrev end : Instruction
end = does op_finish 0

-- the numbers of a word whose level 0 is n, and its others 0
abbrev word : ℕ → List ℕ
word n = word_numbers (word_of n)

-- in a state where these tasks and channels may act, task t does; or a word passes channel c
abbrev acts : List ℕ → List ℕ → ℕ → Moment
acts tasks channels t = record { tasks = tasks; channels = channels; taken = own (task_id t) }

abbrev passes : List ℕ → List ℕ → ℕ → Moment
passes tasks channels c = record { tasks = tasks; channels = channels; taken = pass (channel_id c) }

-- the paper's worked plan
abbrev worked_sample : Sample
worked_sample =
    record {
      plan = file_programs worked;
      run =
          acts (1 ∷ []) [] 1
          ∷ acts (1 ∷ []) [] 1
          ∷ passes [] (3 ∷ []) 3
          ∷ acts (2 ∷ []) [] 2
          ∷ acts (2 ∷ []) [] 2
          ∷ acts (1 ∷ []) [] 1
          ∷ acts (1 ∷ []) [] 1
          ∷ [];
      tasks = (1 ∷ 5 ∷ 0 ∷ word 7) ∷ (1 ∷ 3 ∷ 0 ∷ word 8) ∷ [];
      channels = [] ∷ [] ∷ word 7 ∷ [];
    }

-- a sync waits for the child created before it and not for the one created after it; that one and its own child each receive first what the
-- other sends later, so the finish waits for ever
abbrev children_sample : Sample
children_sample =
    record {
      plan =
          (does op_create 2 ∷ does op_sync 0 ∷ does op_create 3 ∷ end ∷ [])
          ∷ (end ∷ [])
          ∷ (does op_create 4 ∷ does op_receive 2 ∷ does op_send 1 ∷ end ∷ [])
          ∷ (does op_receive 1 ∷ does op_send 2 ∷ end ∷ [])
          ∷ [];
      run = acts (1 ∷ []) [] 1 ∷ acts (2 ∷ []) [] 2 ∷ acts (1 ∷ []) [] 1 ∷ acts (1 ∷ []) [] 1 ∷ acts (3 ∷ []) [] 3 ∷ [];
      tasks = (1 ∷ 3 ∷ 0 ∷ word 0) ∷ (1 ∷ 1 ∷ 0 ∷ word 0) ∷ (1 ∷ 1 ∷ 0 ∷ word 0) ∷ (1 ∷ 0 ∷ 0 ∷ word 0) ∷ [];
      channels = [] ∷ [] ∷ [] ∷ [];
    }

-- words in their order, one that wraps, and one that is set over one received; then a sender whose receiver waits elsewhere, on a channel that
-- it sends on only later
abbrev words_sample : Sample
words_sample =
    record {
      plan =
          (does op_create 2 ∷ does op_set 65535 ∷ does op_send 1 ∷ does op_add 3 ∷ does op_send 1 ∷ does op_send 2 ∷ does op_send 3 ∷ end ∷ [])
          ∷ (does op_receive 1 ∷ does op_receive 1 ∷ does op_add 4 ∷ does op_set 9 ∷ does op_receive 3 ∷ does op_receive 2 ∷ end ∷ [])
          ∷ [];
      run =
          acts (1 ∷ []) [] 1
          ∷ acts (1 ∷ []) [] 1
          ∷ passes [] (1 ∷ []) 1
          ∷ acts (1 ∷ []) [] 1
          ∷ passes [] (1 ∷ []) 1
          ∷ acts (2 ∷ []) [] 2
          ∷ acts (2 ∷ []) [] 2
          ∷ [];
      tasks = (1 ∷ 5 ∷ 1 ∷ word 2) ∷ (1 ∷ 4 ∷ 0 ∷ word 9) ∷ [];
      channels = (word 65535 ++ word 2) ∷ [] ∷ [] ∷ [];
    }

-- a sum over the top marks its task: no other add does and no set, none takes the mark away, and who receives the word has no mark of it
abbrev marks_sample : Sample
marks_sample =
    record {
      plan =
          (does op_create 2 ∷ does op_set 65535 ∷ does op_add 1 ∷ does op_set 3 ∷ does op_add 2 ∷ does op_send 1 ∷ end ∷ [])
          ∷ (does op_set 65535 ∷ does op_add 0 ∷ does op_set 1 ∷ does op_receive 1 ∷ end ∷ [])
          ∷ [];
      run =
          acts (1 ∷ []) [] 1
          ∷ acts (1 ∷ 2 ∷ []) [] 1
          ∷ acts (1 ∷ 2 ∷ []) [] 1
          ∷ acts (1 ∷ 2 ∷ []) [] 1
          ∷ acts (1 ∷ 2 ∷ []) [] 1
          ∷ acts (2 ∷ []) [] 2
          ∷ acts (2 ∷ []) [] 2
          ∷ acts (2 ∷ []) [] 2
          ∷ passes [] (1 ∷ []) 1
          ∷ acts (2 ∷ []) [] 2
          ∷ acts (1 ∷ []) [] 1
          ∷ [];
      tasks = (1 ∷ 7 ∷ 1 ∷ word 5) ∷ (1 ∷ 5 ∷ 0 ∷ word 5) ∷ [];
      channels = word 5 ∷ [] ∷ [] ∷ [];
    }

-- each of the four levels is set and added to apart; a sum over the top in the last marks its task, and all four pass
abbrev levels_sample : Sample
levels_sample =
    record {
      plan =
          (does op_create 2 ∷ does_on 3 op_set 65535 ∷ does_on 1 op_set 65535 ∷ does_on 3 op_add 1 ∷ does_on 2 op_add 4 ∷ does op_send 1 ∷ end ∷ [])
          ∷ (does op_set 9 ∷ does op_receive 1 ∷ does_on 1 op_add 0 ∷ end ∷ [])
          ∷ [];
      run =
          acts (1 ∷ []) [] 1
          ∷ acts (1 ∷ 2 ∷ []) [] 1
          ∷ acts (1 ∷ 2 ∷ []) [] 1
          ∷ acts (1 ∷ 2 ∷ []) [] 1
          ∷ acts (1 ∷ 2 ∷ []) [] 1
          ∷ acts (2 ∷ []) [] 2
          ∷ passes [] (1 ∷ []) 1
          ∷ acts (2 ∷ []) [] 2
          ∷ acts (2 ∷ []) [] 2
          ∷ acts (1 ∷ []) [] 1
          ∷ [];
      tasks = (1 ∷ 7 ∷ 1 ∷ 0 ∷ 65535 ∷ 4 ∷ 0 ∷ []) ∷ (1 ∷ 4 ∷ 0 ∷ 0 ∷ 65535 ∷ 4 ∷ 0 ∷ []) ∷ [];
      channels = (0 ∷ 65535 ∷ 4 ∷ 0 ∷ []) ∷ [] ∷ [] ∷ [];
    }

-- a task that is not born yet: its word may not pass
abbrev born_sample : Sample
born_sample =
    record {
      plan =
          (does op_create 2 ∷ does op_receive 2 ∷ does op_create 3 ∷ does op_sync 0 ∷ end ∷ [])
          ∷ (does op_receive 1 ∷ does op_send 2 ∷ end ∷ [])
          ∷ (does op_send 1 ∷ end ∷ [])
          ∷ [];
      run = acts (1 ∷ []) [] 1 ∷ [];
      tasks = (1 ∷ 1 ∷ 0 ∷ word 0) ∷ (1 ∷ 0 ∷ 0 ∷ word 0) ∷ (0 ∷ 0 ∷ 0 ∷ word 0) ∷ [];
      channels = [] ∷ [] ∷ [] ∷ [];
    }

-- several labels at once; a create does not wait for an earlier child
abbrev several_sample : Sample
several_sample =
    record {
      plan =
          (does op_create 2 ∷ does op_create 3 ∷ does op_set 4 ∷ does op_sync 0 ∷ end ∷ [])
          ∷ (does op_send 1 ∷ does op_add 1 ∷ end ∷ [])
          ∷ (does op_receive 1 ∷ end ∷ [])
          ∷ [];
      run =
          acts (1 ∷ []) [] 1
          ∷ acts (1 ∷ []) [] 1
          ∷ passes (1 ∷ []) (1 ∷ []) 1
          ∷ acts (1 ∷ 2 ∷ 3 ∷ []) [] 3
          ∷ acts (1 ∷ 2 ∷ []) [] 1
          ∷ acts (2 ∷ []) [] 2
          ∷ acts (2 ∷ []) [] 2
          ∷ acts (1 ∷ []) [] 1
          ∷ acts (1 ∷ []) [] 1
          ∷ [];
      tasks = (1 ∷ 5 ∷ 0 ∷ word 4) ∷ (1 ∷ 3 ∷ 0 ∷ word 1) ∷ (1 ∷ 2 ∷ 0 ∷ word 0) ∷ [];
      channels = word 0 ∷ [] ∷ [] ∷ [];
    }

unfoldable pub samples : List Sample
samples = worked_sample ∷ children_sample ∷ words_sample ∷ marks_sample ∷ levels_sample ∷ born_sample ∷ several_sample ∷ []
