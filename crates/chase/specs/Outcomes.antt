-- What is answered where a chase is asked for, and what both lent outputs hold then.
use Rattle.std.specs.Prelude.{◌≡◌, ◌&&◌, List, ◌++◌, ℕ, leb, length, take, drop, Result, Ok, Err}
use Rattle.base.specs.Choice.{unless}
use Rattle.chase.specs.declared.ChaseRefusal.{ChaseRefusal}
use Rattle.chase.specs.declared.ChaseRefusal.TheVariants.{TooMany, OutputShort}
use Rattle.chase.specs.Construction.{chase_plan, chase_file}
use Rattle.chase.specs.Chase.{Chase}

-- what is answered where a chase is asked for: how many bytes of steps were written, or why none were
abbrev pub ChaseAnswer : Type 0
ChaseAnswer = Result ℕ ChaseRefusal

-- "`refused 26` for an m above 500"; 20 where an output is too short
abbrev pub chase_number : ChaseAnswer → ℕ
chase_number (Ok n) = 0
chase_number (Err TooMany) = 26
chase_number (Err OutputShort) = 20

-- m forwards, and outputs of so many bytes for the plan and for the steps; a written chase says how many bytes of steps there are
unfoldable pub chase_answer : ℕ → ℕ → ℕ → ChaseAnswer
chase_answer m plan steps =
    unless (leb m 500) (Err TooMany)
    (unless (leb (length chase_plan) plan && leb (length (chase_file m)) steps) (Err OutputShort)
    (Ok (length (chase_file m))))

-- an output then, that had these bytes: a written file and the bytes behind it, or as it was
abbrev pub holds : ChaseAnswer → List ℕ → List ℕ → List ℕ
holds (Ok n) file out = file ++ drop (length file) out
holds (Err e) file out = out

-- a chase was written or refused so: the answer, and both outputs then. Where it was written, the written bytes do what was asked for
pub record ChaseMeets (m : ℕ) (plan steps : List ℕ) (r : ChaseAnswer) (planThen stepsThen : List ℕ) : Type 0 where
  pub answer : r ≡ chase_answer m (length plan) (length steps)
  pub plan_bytes_lem : planThen ≡ holds r chase_plan plan
  pub step_bytes_lem : stepsThen ≡ holds r (chase_file m) steps
  pub chase : (n : ℕ) → r ≡ Ok n → Chase m (take (length chase_plan) planThen) (take n stepsThen)
