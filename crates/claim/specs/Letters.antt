-- "A letter is delivered within as many calls there as letters for the desk stood up to and including it.". Said of the definitions of `rules` and
-- of lists of events alone.
use Rattle.std.specs.Prelude.{◌≡◌, ◌&&◌, List, [], ◌∷◌, ◌≢◌, ℕ, ◌-◌, ◌≤◌, eqb, ltb, take, Ok}
use Rattle.base.specs.Choice.{pick}
use Rattle.base.specs.Lists.{count}
use Rattle.plan.specs.declared.Plan.{Plan}
use Rattle.plan.specs.declared.ProcessorId.{ProcessorId}
use Rattle.plan.specs.Programs.{programs}
use Rattle.plan.specs.Refusals.{plan_answer}
use Rattle.rules.specs.declared.message.Network.{Network}
use Rattle.rules.specs.declared.step.Step.{Step}
use Rattle.rules.specs.declared.system.System.{System}
use Rattle.rules.specs.Numbers.{same_processor}
use Rattle.rules.specs.Answers.{is_accepted}
use Rattle.rules.specs.Networks.{messages, message_at}
use Rattle.rules.specs.Steps.{is_deliver, step_answer, step}
use Rattle.rules.specs.Dispatch.{addressee}
use Rattle.claim.specs.Events.{Event, is_call_at, happened, mixed}

-- "taking one closes the gap", and "Letters join the mail's end": where the letter at position k stands when the one at position j is taken; 0 where
-- it was that one, so that it has left
abbrev pub position_without : ℕ → ℕ → ℕ
position_without j k = pick (eqb j k) 0 (pick (ltb j k) (k - 1) k)

-- where the letter at position k of the rig's mail stands after ordinary steps, 0 where it has left; what it brings about is a new letter, also
-- where it is forwarded
unfoldable pub followed : System → List Step → ℕ → ℕ
followed r [] k = k
followed r (s ∷ ss) k = followed (step r s).system ss (pick (is_deliver s && is_accepted (step_answer r s)) (position_without s.number k) k)

-- how many letters for desk d stand up to position k and including it
abbrev pub letters_for : ProcessorId → Network → ℕ → ℕ
letters_for d x k = count (λ m. same_processor (addressee m) d) (take k (messages x))

-- the letter at position k after the events es, of which us are the further ones
pub record LetterLeaves (r : System) (us : List Event) (k : ℕ) : Type 0 where
  -- where it has not left, it is the letter at the position where it is followed to
  pub same : followed r (happened r us).steps k ≢ 0
      → message_at (happened r us).system.network (followed r (happened r us).steps k) ≡ message_at r.network k
  -- as many calls at its desk as letters for it, and it has left
  pub leaves :
      let d = addressee (message_at r.network k) in
      letters_for d r.network k ≤ count (is_call_at d) us
      → followed r (happened r us).steps k ≡ 0

-- `letters_leave`: for every accepted plan, 1 to 6 desks, all events before and further, and every position in the mail
abbrev pub LettersLeave : Type 0
LettersLeave =
    (n : ℕ) (p : Plan) (es us : List Event) → 1 ≤ n → n ≤ 6 → plan_answer (programs p) ≡ Ok tt
    → (k : ℕ) → 1 ≤ k → k ≤ (mixed n p es).system.network.used
    → LetterLeaves (mixed n p es).system us k
