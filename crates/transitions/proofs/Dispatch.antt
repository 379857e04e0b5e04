-- Every accepted step is an act.
use mathlib.Core.Path.{◌≡◌, refl, sym, subst}
use mathlib.Core.Bool.{Bool, true, false}
use mathlib.Core.List.{List}
use Prim.Native.Nat.{ℕ, ◌≤◌}
use lib.Dec.{eqb}
use borrow.Author.Tests.{eqb-true, eq-eqb}
use Rattle.std.specs.Prelude.{None, Ok}
use Rattle.base.proofs.Tests.{tests_differ, and_both}
use Rattle.plan.specs.declared.TaskId.{TaskId}
use Rattle.plan.specs.declared.ChannelId.{ChannelId}
use Rattle.plan.specs.declared.Instruction.{Instruction}
use Rattle.plan.specs.declared.Word.{Word}
use Rattle.plan.specs.Kinds.{op_create, op_finish, op_send, op_receive, is_finish, is_use}
use Rattle.plan.specs.Numbers.{task_id}
use Rattle.rules.specs.declared.message.Message.{Message}
use Rattle.rules.specs.declared.message.Message.TheVariants.{Empty, Offered, Advert, ReadyToReceive, Data, Terminated, Migration}
use Rattle.rules.specs.Reports.{Received}
use Rattle.rules.specs.declared.system.System.{System}
use Rattle.rules.specs.Systems.{meaning}
use Rattle.rules.specs.Effects.{completed}
use Rattle.rules.specs.Networks.{message_at}
use Rattle.rules.specs.Runs.{next_of, ran, run_answer}
use Rattle.rules.specs.Deliver.{delivered}
use Rattle.rules.specs.Sound.{message_ok, system_ok}
use Rattle.rules.specs.Tasks.{is_in}
use Rattle.rules.specs.declared.task.TaskState.TheVariants.{Unborn}
use Rattle.rules_laws.specs.Shapes.{Shaped}
use Rattle.net.specs.States.{Net}
use Rattle.net.specs.Labels.{is_create, is_transfer}
use Rattle.channel.specs.Events.{Transfer, Delivery, transfer, delivery}
use Rattle.transitions.specs.Readings.{reading}
use Rattle.transitions.specs.Views.{Histories}
use Rattle.transitions.specs.Transitions.{ChannelTransition, RunTransition, transfers, owns, creates, finishes, DeliverTransition, delivers, ends, arrives}
use Rattle.transitions.specs.Agreement.{Running}
use Rattle.transitions.proofs.Rigs.{message_ok_lem}
use Rattle.transitions.proofs.OwnTransitions.{own_transition, own_received}
use Rattle.transitions.proofs.FinishTransitions.{finish_transition, finish_received}
use Rattle.transitions.proofs.EndedTransitions.{ended_transition, ended_received}
use Rattle.transitions.proofs.CreateTransitions.{create_transition, create_received}
use Rattle.transitions.proofs.ArrivalTransitions.{arrival_transition, arrival_received}
use Rattle.transitions.proofs.SendTransitions.{send_transition}
use Rattle.transitions.proofs.ReceiveTransitions.{receive_transition}
use Rattle.transitions.proofs.OfferTransitions.{offer_transition}
use Rattle.transitions.proofs.AdvertTransitions.{advert_transition}
use Rattle.transitions.proofs.CallTransitions.{call_transition, data_transition}

module _ (r : System) (shaped : Shaped r) (ok : system_ok r ≡ true) (h : Histories) {s : Net} {w : ChannelId → List Word}
    (run : Running (meaning r) h s (reading r) w) where
  -- an accepted run, by the kind of the instruction
  module _ (t : TaskId) (a : run_answer r t ≡ Ok tt) where
    abbrev RunTo : Histories → Received → Type 0
    RunTo h' got = RunTransition (meaning r) h (reading r) h' (reading (completed (ran r t))) got

    silent : {h' : Histories} → (ran r t).received ≡ None → RunTo h' None → RunTo h' (ran r t).received
    silent {h'} e transition = subst (RunTo h') (sym e) transition

    transfer_transitions : (e : Transfer) × ChannelTransition (meaning r) h (reading r) (reading (completed (ran r t))) (transfer e) (ran r t).received
        → (h' : Histories) × RunTo h' (ran r t).received
    transfer_transitions (e, transition) = (h, transfers e transition)

    -- whom it creates is unborn
    pub run_transition : ((u : TaskId) → is_use op_create u.0 (next_of r t) ≡ true → is_in Unborn ((reading r).tasks u) ≡ true)
        → (h' : Histories) × RunTo h' (ran r t).received
    run_transition unborn = go (is_create i) (is_finish i) (eqb i.opcode op_send) (eqb i.opcode op_receive) refl refl refl refl
      where
        i : Instruction
        i = next_of r t

        go : (create finish send receive : Bool) → is_create i ≡ create → is_finish i ≡ finish → eqb i.opcode op_send ≡ send
            → eqb i.opcode op_receive ≡ receive
            → (h' : Histories) × RunTo h' (ran r t).received
        go true finish send receive c f s e =
            let kind = eqb-true i.opcode op_create c in
            let child = unborn (task_id i.operand) (and_both _ _ c (eq-eqb i.operand i.operand refl)) in
            let (h', transition) = create_transition r shaped ok h run t a kind child in
            (h', silent (create_received r t kind) (creates transition))
        go false true send receive c f s e =
            let kind = eqb-true i.opcode op_finish f in
            (h, silent (finish_received r shaped ok h run t a kind) (finishes (finish_transition r shaped ok h run t a kind)))
        go false false true receive c f s e = transfer_transitions (send_transition r shaped ok h run t a (eqb-true i.opcode op_send s))
        go false false false true c f s e = transfer_transitions (receive_transition r shaped ok h run t a (eqb-true i.opcode op_receive e))
        go false false false false c f s e =
            let none : is_transfer i ≡ false = rw (s, e) refl in
            (h, silent (own_received r shaped ok h t a c f none) (owns (own_transition r shaped ok h t a c f none)))

  -- an accepted delivery, by the letter
  module _ (p : ℕ) (low : 1 ≤ p) (high : p ≤ r.network.used) where
    abbrev DeliverTo : Received → Type 0
    DeliverTo got = DeliverTransition (meaning r) h (reading r) (reading (completed (delivered r p))) got

    delivery_transitions : (q : ℕ) × (b : Delivery) × ChannelTransition (meaning r) h (reading r) (reading (completed (delivered r p))) (delivery q b)
        (delivered r p).received
        → DeliverTo (delivered r p).received
    delivery_transitions (q, b, transition) = delivers q b transition

    pub deliver_transition : DeliverTo (delivered r p).received
    unfolding message_ok
    deliver_transition = go (message_at r.network p) refl
      where
        go : (m : Message) → message_at r.network p ≡ m → DeliverTo (delivered r p).received
        go Empty e = absurd (tests_differ (message_ok_lem r shaped ok p low high Empty e) refl)
        go (Offered c o hint) e = delivery_transitions (offer_transition r shaped ok h run p low high c o hint e)
        go (Advert c d from) e = delivery_transitions (advert_transition r shaped ok h run p low high c d from e)
        go (ReadyToReceive c d hint) e = delivery_transitions (call_transition r shaped ok h run p low high c d hint e)
        go (Data c d x) e = delivery_transitions (data_transition r shaped ok h run p low high c d x e)
        go (Terminated d t) e =
            subst DeliverTo (sym (ended_received r shaped ok h run p low high d t e)) (ends (ended_transition r shaped ok h run p low high d t e))
        go (Migration d t) e = subst DeliverTo (sym (arrival_received r p d t e)) (arrives (arrival_transition r shaped ok h run p low high d t e))
