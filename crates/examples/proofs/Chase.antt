-- What is said of chases, used: an offer is posted along a pointer with count 2 and forwarded twice, and its receiver's count is 4 then. So the bound is met.
use mathlib.Core.Path.{◌≡◌, refl}
use mathlib.Core.List.{◌∷◌, ◌++◌}
use Prim.Native.Nat.{◌+◌, ◌≤◌}
use native.Mathlib.Omega.{arith}
use Rattle.std.specs.Prelude.{Ok}
use Rattle.base.specs.Lists.{count}
use Rattle.plan.specs.Programs.{programs}
use Rattle.plan.specs.Refusals.{plan_answer}
use Rattle.rules.specs.declared.system.System.{System}
use Rattle.rules.specs.Networks.{messages}
use Rattle.rules.specs.Steps.{step}
use Rattle.rules.proofs.Evaluated.{evaluated}
use Rattle.claim.specs.Statement.{from}
use Rattle.claim.specs.Chase.{is_offer, posts_offer, forwards, forwards_of, Posts, receiver_moves}
use Rattle.claim.proofs.OneOffer.{one_offer}
use Rattle.claim.proofs.Chase.{longest_chase_lem}
use Rattle.examples.specs.Chase.{chase_plan, chase_before, chase_send, chase_after, chase_end, chased, chase_offer, chase_pointer}

accepted : plan_answer (programs chase_plan) ≡ Ok tt
unfolding evaluated
accepted = refl

-- the premises
abbrev sender : System
sender = (from 3 chase_plan chase_before).system

posts : Posts sender chase_send chased chase_offer chase_pointer
unfolding evaluated
posts = record { run = refl; accepted = refl; posts = refl }

-- the offer is forwarded twice, and then found, and its receiver has moved twice after the pointer
abbrev end : System
end = (from 3 chase_plan (chase_before ++ (chase_send ∷ (chase_after ++ chase_end)))).system

twice : forwards_of chased 1 (step sender chase_send).system (chase_after ++ chase_end) ≡ 2
unfolding evaluated is_offer posts_offer forwards forwards_of
twice = refl

another : forwards_of chased 2 (step sender chase_send).system (chase_after ++ chase_end) ≡ 0
unfolding evaluated is_offer posts_offer forwards forwards_of
another = refl

count_four : receiver_moves end chased ≡ 4
unfolding evaluated
count_four = refl

pub bounded : forwards_of chased 1 (step sender chase_send).system (chase_after ++ chase_end) + 2 ≤ receiver_moves end chased
bounded = longest_chase_lem 3 chase_plan chase_before (chase_after ++ chase_end) chase_send chased chase_offer chase_pointer (omega arith) (omega arith) accepted posts

-- while it is under way there is one letter, and no more
under_way_lem : count (is_offer chased 1) (messages (from 3 chase_plan (chase_before ++ (chase_send ∷ chase_after))).system.network) ≡ 1
unfolding evaluated is_offer
under_way_lem = refl

pub never_two : count (is_offer chased 1) (messages (from 3 chase_plan (chase_before ++ (chase_send ∷ chase_after))).system.network) ≤ 1
never_two = one_offer 3 chase_plan (chase_before ++ (chase_send ∷ chase_after)) chased 1 (omega arith) (omega arith) accepted
