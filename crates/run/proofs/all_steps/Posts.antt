-- What is posted by a letter that is delivered, one letter at most, and where it goes.
use mathlib.Core.Path.{◌≡◌, refl, sym, ap}
use mathlib.Core.Bool.{true, ◌&&◌, not}
use mathlib.Core.List.{List}
use Prim.Native.Nat.{ℕ, ◌+◌, ◌≤◌, ◌<◌}
use native.Mathlib.Nat.{add-zero}
use native.Mathlib.Omega.{arith}
use lib.ListN.{length, set}
use lib.Seq.{set-set}
use Rattle.base.proofs.Tests.{tests_differ}
use Rattle.base.specs.Sets.{member}
use Rattle.base.proofs.Choices.{pick_either}
use Rattle.rules.specs.declared.rule.Posting.{Posting}
use Rattle.rules.specs.declared.rule.Posting.TheVariants.{Nothing, Single, Adverts}
use Rattle.rules.specs.declared.task.TaskState.TheVariants.{Moving}
use Rattle.rules.specs.declared.message.Slot.{Slot}
use Rattle.rules.specs.declared.message.Message.{Message}
use Rattle.rules.specs.declared.message.Message.TheVariants.{Empty, Offered, Advert, ReadyToReceive, Data, Terminated, Migration}
use Rattle.rules.specs.declared.rule.Site.{Site}
use Rattle.rules.specs.declared.rule.Outcome.{Outcome}
use Rattle.rules.specs.declared.rule.Ended.{Ended}
use Rattle.rules.specs.declared.system.ParentEntry.{ParentEntry}
use Rattle.rules.specs.Networks.{slot, no_slot, enqueued, enqueued_all, messages_of}
use Rattle.rules.specs.Tasks.{is_in, is_at}
use Rattle.rules.specs.Cells.{counts, none_called}
use Rattle.rules.specs.Hints.{points_on}
use Rattle.rules.specs.Offers.{offer_rule, advert_rule}
use Rattle.rules.specs.Arrivals.{terminated_rule}
use Rattle.rules.specs.Calls.{call_rule, data_rule}
use Rattle.rig_parts.specs.declared.change.Scope.{Scope}
use Rattle.rig_parts.specs.declared.change.Change.{Change}
use Rattle.rig_parts.specs.Openings.{message_change}
use Rattle.network.specs.Rounds.{is_message, rounds_of, message_of}
use Rattle.network.proofs.Gaps.{holding}
use Rattle.network.proofs.Posted.{AtMostOne}

-- one letter at most
pub message_posts : (k : Scope) (m : Message) (y : Site) (e : ParentEntry) → AtMostOne (message_change k m y e).outcome.posting
unfolding offer_rule advert_rule call_rule data_rule terminated_rule
message_posts k Empty y e = tt
message_posts k (Offered c o h) y e =
    let One : Outcome → Type 0 = λ z. AtMostOne z.posting in
    let d = h.processor in
    pick_either One (not (counts y.cell o) && is_at d y.receiver) _ _ tt
    (pick_either One (is_at d y.receiver && (y.receiving && not y.cell.channel.awaiting)) _ _ tt
    (pick_either One (is_at d y.receiver) _ _ tt (pick_either One (points_on y.cell.entry.hint h d) _ _ tt tt)))
message_posts k (Advert c d from) y e =
    pick_either (λ (z : Outcome). AtMostOne z.posting) (is_at d y.receiver && (y.receiving && none_called y.cell)) _ _ tt tt
message_posts k (ReadyToReceive c d h) y e = pick_either (λ (z : Outcome). AtMostOne z.posting) (y.sending && is_at d y.sender) _ _ tt tt
message_posts k (Data c d w) y e =
    pick_either (λ (z : Outcome). AtMostOne z.posting) (is_at d y.receiver && (y.receiving && y.cell.channel.awaiting)) _ _ tt tt
message_posts k (Terminated h t) y e =
    let One : Ended → Type 0 = λ z. AtMostOne z.posting in
    let parent = y.sender in
    pick_either One (not (member t.0 parent.children)) _ _ tt
    (pick_either One (is_at h.processor parent) _ _ tt (pick_either One (points_on e.hint h h.processor) _ _ tt tt))
message_posts k (Migration d t) y e = pick_either (λ (z : Change). AtMostOne z.outcome.posting) (is_in Moving y.sender) _ _ tt tt

-- a letter has room where all that is posted has
pub one_room : (n used : ℕ) (x : Posting) → is_message x ≡ true → used + length (messages_of n x) ≤ 256 → used < 256
unfolding messages_of
one_room n used Nothing h l = absurd (tests_differ h refl)
one_room n used (Single m) h l = omega (arith, l)
one_room n used (Adverts c d) h l = absurd (tests_differ h refl)

-- it takes the last place, which stays empty if nothing is posted
pub posted_last : (n u : ℕ) (l : List Slot) (x : Posting) → AtMostOne x
    → holding (u + rounds_of 1 x) (set l u (slot (message_of x 0))) ≡ enqueued_all (holding u (set l u no_slot)) (messages_of n x)
unfolding messages_of enqueued_all enqueued
posted_last n u l Nothing one = ap (λ i. holding i (set l u no_slot)) (add-zero u)
posted_last n u l (Single m) one = ap (holding (u + 1)) (sym (set-set l u no_slot (slot m)))
posted_last n u l (Adverts c d) one = absurd one
