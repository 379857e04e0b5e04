-- Every letter under way finds what it supposes, so that none is removed without effect.
use mathlib.Core.Path.{◌≡◌, refl}
use mathlib.Core.Bool.{true}
use mathlib.Core.List.{List}
use Prim.Native.Nat.{ℕ, ◌-◌, ◌≤◌}
use lib.ListN.{length}
use Rattle.base.specs.Choice.{within}
use Rattle.base.proofs.Tests.{and_right, and_both, tests_differ}
use Rattle.plan.specs.declared.TaskId.{TaskId}
use Rattle.plan.specs.declared.ProcessorId.{ProcessorId}
use Rattle.plan.specs.declared.ChannelId.{ChannelId}
use Rattle.plan.specs.declared.Word.{Word}
use Rattle.plan.proofs.Parts.{tasks_of_lem}
use Rattle.rules.specs.declared.message.Message.{Message}
use Rattle.rules.specs.declared.message.Message.TheVariants.{Empty, Offered, Advert, ReadyToReceive, Data, Terminated, Migration}
use Rattle.rules.specs.declared.system.System.{System}
use Rattle.rules.specs.Numbers.{processor_ok}
use Rattle.rules.specs.Networks.{message_at}
use Rattle.rules.specs.Systems.{meaning}
use Rattle.rules.specs.Sound.{message_ok, system_ok}
use Rattle.rules.specs.declared.channel.Hint.{Hint}
use Rattle.rules_laws.specs.Shapes.{Shaped}
use Rattle.net.specs.States.{Net}
use Rattle.transitions.specs.Readings.{reading}
use Rattle.transitions.specs.Views.{Histories}
use Rattle.transitions.specs.Agreement.{Running}
use Rattle.transitions.proofs.Rigs.{message_ok_lem, message_at_lem, plan_accepted}
use Rattle.transitions.proofs.EndedTransitions.{living}
use Rattle.transitions.proofs.ArrivalTransitions.{arriving}
use Rattle.transitions.proofs.CallTransitions.{call_found, word_found}
use Rattle.claim.specs.Statement.{finds_its}

module _ (r : System) (shaped : Shaped r) (ok : system_ok r ≡ true) (h : Histories) {s : Net} {w : ChannelId → List Word}
    (run : Running (meaning r) h s (reading r) w) (p : ℕ) (low : 1 ≤ p) (high : p ≤ r.network.used) where
  -- a call, a word, an ended letter and a mover
  finds_call : (c : ChannelId) (d : ProcessorId) (hint : Hint) → message_at r.network p ≡ ReadyToReceive c d hint
      → finds_its r (ReadyToReceive c d hint) ≡ true
  unfolding finds_its reading
  finds_call c d hint e = let (sending, here) = call_found r shaped ok h run p low high c d hint e in and_both _ _ sending here

  finds_word : (c : ChannelId) (d : ProcessorId) (value : Word) → message_at r.network p ≡ Data c d value → finds_its r (Data c d value) ≡ true
  unfolding finds_its reading
  finds_word c d value e =
      let (here, receiving, called) = word_found r shaped ok h run p low high c d value e in and_both _ _ here (and_both _ _ receiving called)

  finds_ended : (along : Hint) (t : TaskId) → message_at r.network p ≡ Terminated along t → finds_its r (Terminated along t) ≡ true
  unfolding finds_its
  finds_ended along t e = living r shaped ok h run p low high along t e

  finds_mover : (d : ProcessorId) (t : TaskId) → message_at r.network p ≡ Migration d t → finds_its r (Migration d t) ≡ true
  unfolding finds_its reading message_ok
  finds_mover d t e =
      let ok-message = message_ok_lem r shaped ok p low high (Migration d t) e in
      let number : within 1 (length (meaning r)) t.0 ≡ true = rw (tasks_of_lem r.plan) (and_right (processor_ok r.processors d) _ ok-message) in
      (arriving (meaning r) (plan_accepted r shaped ok) h (reading r) (p - 1) d t (message_at_lem r shaped ok p low high (Migration d t) e) number
      (run.tasks t number)
      (run.places t number)).moving

  pub finds : finds_its r (message_at r.network p) ≡ true
  unfolding finds_its message_ok
  finds = go (message_at r.network p) refl
    where
      go : (a : Message) → message_at r.network p ≡ a → finds_its r (message_at r.network p) ≡ true
      go Empty e = absurd (tests_differ (message_ok_lem r shaped ok p low high Empty e) refl)
      go (Offered c o hint) e = rw e refl
      go (Advert c d from) e = rw e refl
      go (ReadyToReceive c d hint) e = rw e (finds_call c d hint e)
      go (Data c d x) e = rw e (finds_word c d x e)
      go (Terminated along t) e = rw e (finds_ended along t e)
      go (Migration d t) e = rw e (finds_mover d t e)
