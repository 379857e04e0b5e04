-- A run is framed: a send and a receive.
use mathlib.Core.Path.{◌≡◌, refl, sym, ◌∙◌, ap}
use mathlib.Core.Bool.{Bool, true, false, ◌&&◌, or-true}
use mathlib.Core.Logic.{inl}
use Prim.Native.Nat.{ℕ, ◌-◌, ◌≤◌}
use borrow.Author.Tests.{eq-eqb, not-true}
use Rattle.base.proofs.Tests.{or_neither, second_fails, tests_differ, within_low, within_high}
use Rattle.plan.specs.declared.TaskId.{TaskId}
use Rattle.plan.specs.declared.ProcessorId.{ProcessorId}
use Rattle.plan.specs.declared.ChannelId.{ChannelId}
use Rattle.plan.specs.Kinds.{op_send, op_receive}
use Rattle.plan.specs.Programs.{Programs, program_at, programs}
use Rattle.plan.specs.Users.{sender_of, receiver_of}
use Rattle.rules.specs.Numbers.{channel_number_ok}
use Rattle.rules.specs.declared.task.TaskState.TheVariants.{Ready, Sending, Receiving}
use Rattle.rules.specs.declared.task.Task.{Task}
use Rattle.rules.specs.declared.channel.Cell.{Cell}
use Rattle.rules.specs.declared.rule.Site.{Site}
use Rattle.rules.specs.declared.rule.Outcome.{Outcome}
use Rattle.rules.specs.declared.system.System.{System}
use Rattle.rules.specs.Tasks.{is_in, is_at}
use Rattle.rules.specs.Places.{is_on, send_number}
use Rattle.rules.specs.Systems.{task_at, entry_at, channel_at, cell_at, meaning}
use Rattle.rules.specs.Effects.{site_at, with_outcome, receives_on, sends_on}
use Rattle.rules.specs.Send.{send_rule}
use Rattle.rules.specs.Receive.{receive_rule}
use Rattle.rules.specs.Runs.{ran_send, ran_receive}
use Rattle.rules_sound.specs.Sound.{Startable}
use Rattle.rules_sound.specs.Stands.{Whole}
use Rattle.rules_sound.proofs.Frames.{user_in_lem}
use Rattle.commute.specs.Footprints.{Footprint, footprint, outside}
use Rattle.commute.specs.Frames.{SeenAlike, Framed}
use Rattle.commute.proofs.Rules.{SentAway, sent_away, awaited_away, send_stays, receive_stays}
use Rattle.commute.proofs.Outcomes.{SameOutcome, KeepsOutcome, both_outcome, one_outcome, outcome_stays}
use Rattle.commute.proofs.Runs.{desk_low, desk_few, task_few, there_in, task_in_lem, desk_in, out_away}

-- the site of channel c at desk d, with the programs of the plan m
abbrev site_by : Programs → System → TaskId → TaskId → ChannelId → ProcessorId → Site
site_by m q s u c d =
    record {
      sender = task_at q s;
      receiver = task_at q u;
      sending = is_on Sending (program_at m (s.0 - 1)) c (task_at q s);
      receiving = is_on Receiving (program_at m (u.0 - 1)) c (task_at q u);
      cell = cell_at q d c;
    }

abbrev sent : Programs → System → TaskId → TaskId → ChannelId → ProcessorId → Outcome
sent m q s u c d = send_rule (site_by m q s u c d) c (send_number (program_at m (s.0 - 1)) c (task_at q s).pc)

abbrev awaited : Programs → System → TaskId → TaskId → ChannelId → ProcessorId → Outcome
awaited m q s u c d = receive_rule (site_by m q s u c d) c (send_number (program_at m (s.0 - 1)) c ((task_at q s).pc - 1))

module _ (q : System) (t : TaskId) (c : ChannelId) (m : Programs) (d : ProcessorId) (plan : meaning q ≡ m) (at : (task_at q t).processor ≡ d) where
  send_is : ran_send q t c ≡ with_outcome q t (receiver_of m c) c d (sent m q t (receiver_of m c) c d)
  unfolding ran_send site_at
  send_is = rw (plan, at) refl

  receive_is : ran_receive q t c ≡ with_outcome q (sender_of m c) t c d (awaited m q (sender_of m c) t c d)
  unfolding ran_receive site_at
  receive_is = rw (plan, at) refl

same_site : (m : Programs) (r q : System) (s u : TaskId) (c : ChannelId) (d : ProcessorId) → task_at q s ≡ task_at r s → task_at q u ≡ task_at r u
    → entry_at q d c ≡ entry_at r d c → channel_at q c ≡ channel_at r c
    → site_by m q s u c d ≡ site_by m r s u c d
same_site m r q s u c d e₁ e₂ e₃ e₄ = rw (e₁, e₂, e₃, e₄) refl

same_outcome : (f : Footprint) (s u : TaskId) (c : ChannelId) (o p : Outcome) → p ≡ o → SameOutcome f s u c o p
same_outcome f s u c o p e =
    rw e (record { sender = λ k. refl; receiver = λ k. refl; entry = refl; channel = λ k. refl; posting = refl; received = refl })

module _ (r : System) (s : Startable r.processors r.plan) (w : Whole r) (t : TaskId) (l : 1 ≤ t.0) (h : t.0 ≤ r.plan.tasks)
    (ready : is_in Ready (task_at r t) ≡ true) (c : ChannelId) (number : channel_number_ok c ≡ true) where
  cl : 1 ≤ c.0
  cl = within_low 1 128 c.0 number

  ch : c.0 ≤ 128
  ch = within_high 1 128 c.0 number

  abbrev m : Programs
  m = meaning r

  abbrev d : ProcessorId
  d = (task_at r t).processor

  dl : 1 ≤ d.0
  dl = desk_low r s w t l h ready

  dh : d.0 ≤ 6
  dh = desk_few r s w t l h ready

  th : t.0 ≤ 64
  th = task_few r s w t l h ready t h

  -- another rig that is seen alike has the task and its desk's row
  module _ (q : System) (seen : SeenAlike r t q) where
    own_same : task_at q t ≡ task_at r t
    own_same = seen.parts.tasks t (task_in_lem r s w t l h ready)

    row_same : entry_at q d c ≡ entry_at r d c
    row_same = seen.parts.entries d c dl dh cl ch (desk_in r s w t l h ready)

    plan_same : meaning q ≡ m
    plan_same = ap programs seen.plan

    at_same : (task_at q t).processor ≡ d
    at_same = ap (λ (x : Task). x.processor) own_same

  -- a send
  module _ (sender : sender_of m c ≡ t) where
    abbrev u : TaskId
    u = receiver_of m c

    uh : u.0 ≤ 64
    uh = task_few r s w t l h ready u (user_in_lem r.plan op_receive c.0)

    sends : sends_on m t c ≡ true
    sends = eq-eqb (sender_of m c).0 t.0 (ap (λ (x : TaskId). x.0) sender)

    -- the channel is in the footprint just if the receiver is there
    channel_in_lem : is_at d (task_at r u) ≡ true → (footprint r t).channel c ≡ true
    unfolding footprint
    channel_in_lem at = rw (sends, at, or-true (receives_on m t c)) refl

    channel_out : (outside (footprint r t)).channel c ≡ true → is_at d (task_at r u) ≡ false
    unfolding footprint
    channel_out k =
        second_fails (sends_on m t c) (is_at d (task_at r u)) (or_neither (receives_on m t c) (sends_on m t c && is_at d (task_at r u)) (not-true _ k)).1 sends

    sent_same : (q : System) → SeenAlike r t q → SameOutcome (footprint r t) t u c (sent m r t u c d) (sent m q t u c d)
    sent_same q seen = go (is_at d (task_at r u)) refl
      where
        go : (b : Bool) → is_at d (task_at r u) ≡ b → SameOutcome (footprint r t) t u c (sent m r t u c d) (sent m q t u c d)
        go true at =
            let receiver = seen.parts.tasks u (there_in r s w t l h ready u at) in
            let channel = seen.parts.channels c cl ch (channel_in_lem at) in
            let site = same_site m r q t u c d (own_same q seen) receiver (row_same q seen) channel in
            same_outcome _ t u c (sent m r t u c d) (sent m q t u c d) (ap (λ (x : Site). send_rule x c (send_number (program_at m (t.0 - 1)) c x.sender.pc)) site)
        go false at =
            let away : is_at d (task_at q u) ≡ false = seen.there u ∙ at in
            let w : ℕ = send_number (program_at m (t.0 - 1)) c (task_at r t).pc in
            let number : send_number (program_at m (t.0 - 1)) c (task_at q t).pc ≡ w =
            ap (λ (x : Task). send_number (program_at m (t.0 - 1)) c x.pc) (own_same q seen) in
            let both = sent_away (site_by m r t u c d) (site_by m q t u c d) c w (own_same q seen) (row_same q seen) at away in
            rw number
            (record {
              sender = λ k. both.sender;
              receiver = λ k. both.other_receiver ∙ seen.parts.tasks u k ∙ sym both.receiver;
              entry = both.entry;
              channel = λ k. both.other_channel ∙ seen.parts.channels c cl ch k ∙ sym both.channel;
              posting = both.posting;
              received = both.received;
            })

    pub send_framed : Framed r t (λ q. ran_send q t c)
    send_framed =
        let o = sent m r t u c d in
        let is = send_is r t c m d refl refl in
        let there = send_stays (site_by m r t u c d) c (send_number (program_at m (t.0 - 1)) c (task_at r t).pc) in
        let away : is_at d (task_at r u) ≡ false → SentAway (task_at r u) (task_at r u) (channel_at r c) (channel_at r c) o o =
        λ at. sent_away (site_by m r t u c d) (site_by m r t u c d) c (send_number (program_at m (t.0 - 1)) c (task_at r t).pc) refl refl at at in
        let kept : KeepsOutcome (outside (footprint r t)) r t u c o =
        record {
          sender = λ k. absurd (tests_differ (task_in_lem r s w t l h ready) (not-true _ k));
          receiver = λ k. (away (out_away r s w t l h ready u k)).receiver;
          channel = λ k. (away (channel_out k)).channel;
        } in
        record {
          changes = rw is (one_outcome t u th uh c cl ch d dl dh (outside (footprint r t)) r w.shaped (rw (desk_in r s w t l h ready) refl) o kept);
          reads =
              λ q seen.
              rw (is, send_is q t c m d (plan_same q seen) (at_same q seen))
              (both_outcome t u th uh c cl ch d dl dh (footprint r t) r q w.shaped seen.shaped seen.parts o (sent m q t u c d) (sent_same q seen));
          stay = λ v. inl (rw is (outcome_stays t u th uh c cl ch d dl dh r w.shaped o there.sender there.receiver v));
        }

  -- a receive
  module _ (receiver : receiver_of m c ≡ t) where
    abbrev v : TaskId
    v = sender_of m c

    vh : v.0 ≤ 64
    vh = task_few r s w t l h ready v (user_in_lem r.plan op_send c.0)

    received_in_lem : (footprint r t).channel c ≡ true
    unfolding footprint
    received_in_lem = rw (eq-eqb (receiver_of m c).0 t.0 (ap (λ (x : TaskId). x.0) receiver)) refl

    awaited_same : (q : System) → SeenAlike r t q → SameOutcome (footprint r t) v t c (awaited m r v t c d) (awaited m q v t c d)
    awaited_same q seen = go (is_at d (task_at r v)) refl
      where
        go : (b : Bool) → is_at d (task_at r v) ≡ b → SameOutcome (footprint r t) v t c (awaited m r v t c d) (awaited m q v t c d)
        go true at =
            let sender = seen.parts.tasks v (there_in r s w t l h ready v at) in
            let site = same_site m r q v t c d sender (own_same q seen) (row_same q seen) (seen.parts.channels c cl ch received_in_lem) in
            same_outcome _ v t c (awaited m r v t c d) (awaited m q v t c d)
            (ap (λ (x : Site). receive_rule x c (send_number (program_at m (v.0 - 1)) c (x.sender.pc - 1))) site)
        go false at =
            let away : is_at d (task_at q v) ≡ false = seen.there v ∙ at in
            let cell : cell_at q d c ≡ cell_at r d c = rw (row_same q seen, seen.parts.channels c cl ch received_in_lem) refl in
            let both = awaited_away (site_by m r v t c d) (site_by m q v t c d) c _ _ (own_same q seen) cell at away in
            record {
              sender = λ k. both.other_sender ∙ seen.parts.tasks v k ∙ sym both.sender;
              receiver = λ k. both.receiver;
              entry = ap (λ (x : Cell). x.entry) both.cell;
              channel = λ k. ap (λ (x : Cell). x.channel) both.cell;
              posting = both.posting;
              received = both.received;
            }

    pub receive_framed : Framed r t (λ q. ran_receive q t c)
    receive_framed =
        let o = awaited m r v t c d in
        let k : ℕ = send_number (program_at m (v.0 - 1)) c ((task_at r v).pc - 1) in
        let x = site_by m r v t c d in
        let is = receive_is r t c m d refl refl in
        let there = receive_stays x c k in
        let kept : KeepsOutcome (outside (footprint r t)) r v t c o =
        record {
          sender =
              λ e.
              let at = out_away r s w t l h ready v e in
              (awaited_away x x c k k refl refl at at).sender;
          receiver = λ e. absurd (tests_differ (task_in_lem r s w t l h ready) (not-true _ e));
          channel = λ e. absurd (tests_differ received_in_lem (not-true _ e));
        } in
        record {
          changes = rw is (one_outcome v t vh th c cl ch d dl dh (outside (footprint r t)) r w.shaped (rw (desk_in r s w t l h ready) refl) o kept);
          reads =
              λ q seen.
              rw (is, receive_is q t c m d (plan_same q seen) (at_same q seen))
              (both_outcome v t vh th c cl ch d dl dh (footprint r t) r q w.shaped seen.shaped seen.parts o (awaited m q v t c d)
              (awaited_same q seen));
          stay = λ z. inl (rw is (outcome_stays v t vh th c cl ch d dl dh r w.shaped o there.sender there.receiver z));
        }
