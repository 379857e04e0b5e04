-- The trace's lines. "Fields are decimal, one space between, a line feed after each line."
use Rattle.std.specs.Prelude.{List, [], ◌∷◌, ◌++◌, ℕ, zero, suc, ◌+◌, ◌/◌, ◌%◌, ltb, None, Some}
use Rattle.base.specs.Choice.{pick}
use Rattle.base.specs.Range.{joined}
use Rattle.plan.specs.Words.{word_numbers}
use Rattle.rules.specs.Reports.{Received}
use Rattle.rules.specs.declared.step.Report.{Report}
use Rattle.rules.specs.declared.system.System.{System}
use Rattle.rules.specs.Numbers.{task_id}
use Rattle.rules.specs.Answers.{step_number}
use Rattle.rules.specs.Systems.{task_at}
use Rattle.rules.specs.Steps.{quiescent}

-- the last k decimal digits of n or as many as it has; "0" is 48
unfoldable pub digits : ℕ → ℕ → List ℕ
digits zero n = []
digits (suc k) n = pick (ltb n 10) ((48 + n) ∷ []) (digits k (n / 10) ++ ((48 + n % 10) ∷ []))

-- n has at most n + 1 digits
abbrev pub decimal : ℕ → List ℕ
decimal n = digits (suc n) n

-- a line feed is 10, a space 32
unfoldable pub fields : List ℕ → List ℕ
fields [] = 10 ∷ []
fields (n ∷ ns) = 32 ∷ (decimal n ++ fields ns)

-- "if a word was received, channel and word"
abbrev pub received_fields : Received → List ℕ
received_fields None = []
received_fields (Some (c, w)) = c.0 ∷ word_numbers w

-- "step number, answer (0 accepted) and, if a word was received, channel and word": the line of the k-th step
unfoldable pub step_line : ℕ → Report → List ℕ
step_line k q = decimal k ++ fields (step_number q.answer ∷ received_fields q.received)

-- "The trace has a line `over` and task number for each marked task, by rising number, before the `end` line.": of task t, and of all
unfoldable pub over_line : ℕ → List ℕ
over_line t = (111 ∷ 118 ∷ 101 ∷ 114 ∷ []) ++ fields (t ∷ [])

unfoldable pub over_lines : System → List (List ℕ)
over_lines r = joined r.plan.tasks (λ k. pick (task_at r (task_id (suc k))).overflow (over_line (suc k) ∷ []) [])

-- "The last line is `end`, 1 if at rest else 0, and letters in the mail."
unfoldable pub end_line : System → List ℕ
end_line r = (101 ∷ 110 ∷ 100 ∷ []) ++ fields (pick (quiescent r) 1 0 ∷ r.network.used ∷ [])

-- "The trace has a line a step", from the step after the first k
unfoldable pub step_lines : ℕ → List Report → List (List ℕ)
step_lines k [] = []
step_lines k (q ∷ qs) = step_line (suc k) q ∷ step_lines (suc k) qs

-- `refused` and a number
unfoldable pub refused_line : ℕ → List ℕ
refused_line n = (114 ∷ 101 ∷ 102 ∷ 117 ∷ 115 ∷ 101 ∷ 100 ∷ []) ++ fields (n ∷ [])
