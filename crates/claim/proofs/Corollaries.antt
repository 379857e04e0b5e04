-- What follows of rest: every rig can be brought to it, and it shows the net's normal form.
use mathlib.Core.Path.{◌≡◌}
use mathlib.Core.Bool.{true}
use mathlib.Core.List.{List}
use Prim.Native.Nat.{ℕ, ◌≤◌}
use Rattle.std.specs.Prelude.{Ok}
use Rattle.plan.specs.declared.Plan.{Plan}
use Rattle.plan.specs.Programs.{programs}
use Rattle.plan.specs.Refusals.{plan_answer}
use Rattle.rules.specs.declared.step.Step.{Step}
use Rattle.rules.specs.Steps.{quiescent, received_on}
use Rattle.claim.specs.Statement.{from}
use Rattle.claim.specs.Corollaries.{Shows}
use Rattle.claim.proofs.Whole.{list_kept, Rested, rested}
use Rattle.claim.proofs.Demand3.{normal, all_received}

module _ (n : ℕ) (p : Plan) (ss : List Step) (some : 1 ≤ n) (few : n ≤ 6) (a : plan_answer (programs p) ≡ Ok tt) where
  pub on_to_rest : Rested (from n p ss).system
  on_to_rest = rested p a (list_kept n p some few a ss)

  pub rest_shows : quiescent (from n p ss).system ≡ true → Shows p (λ c. received_on c (from n p ss).reports)
  rest_shows quiet =
      let k = list_kept n p some few a ss in
      record { labels = k.labels; state = k.state; reached = k.reached; normal = normal p a k quiet; passed = all_received p a k quiet }
