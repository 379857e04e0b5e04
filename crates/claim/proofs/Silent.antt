-- The rules of a run on one desk: a finish, a send and a receive post no letter.
use mathlib.Core.Path.{◌≡◌, refl, sym, ◌∙◌}
use mathlib.Core.Bool.{true, false, not, ◌&&◌}
use mathlib.Core.List.{[]}
use Prim.Native.Nat.{ℕ, ◌≤◌}
use native.Mathlib.Omega.{arith}
use lib.Dec.{ltb}
use borrow.Author.Tests.{eqb-true, eqb-false, ltb-false, not-true}
use Rattle.base.specs.Choice.{within}
use Rattle.base.specs.Range.{fold}
use Rattle.base.proofs.Choices.{pick_cases, pick_either}
use Rattle.base.proofs.Tests.{and_left, and_right, is_false, tests_differ, within_low, within_high}
use Rattle.plan.specs.declared.TaskId.{TaskId}
use Rattle.plan.specs.declared.ChannelId.{ChannelId}
use Rattle.plan.specs.Numbers.{task_id}
use Rattle.rules.specs.declared.channel.Hint.{Hint}
use Rattle.rules.specs.declared.channel.Offer.{Offer}
use Rattle.rules.specs.declared.task.Task.{Task}
use Rattle.rules.specs.declared.rule.Posting.{Posting}
use Rattle.rules.specs.declared.rule.Posting.TheVariants.{Nothing}
use Rattle.rules.specs.declared.rule.Outcome.{Outcome}
use Rattle.rules.specs.declared.rule.Finished.{Finished}
use Rattle.rules.specs.declared.rule.Site.{Site}
use Rattle.rules.specs.declared.system.ParentEntry.{ParentEntry}
use Rattle.rules.specs.Numbers.{same_task, same_processor, is_none}
use Rattle.rules.specs.Hints.{is_unknown, newer}
use Rattle.rules.specs.Tasks.{is_at}
use Rattle.rules.specs.Cells.{counts, none_called}
use Rattle.rules.specs.Networks.{messages_of}
use Rattle.rules.specs.Local.{finish_rule}
use Rattle.rules.specs.Send.{send_passes, send_waits, send_rule}
use Rattle.rules.specs.Receive.{receive_passes, receive_waits, receive_rule}
use Rattle.rules.specs.Sound.{known_ok, hint_ok, offer_ok}

-- nothing is posted on one desk
abbrev pub Silent : Posting → Type 0
Silent p = messages_of 1 p ≡ []

pub silent_nothing : Silent Nothing
unfolding messages_of
silent_nothing = refl

-- every pointer that is known names the one desk
known_one : (h : Hint) → known_ok 1 h ≡ true → h.processor.0 ≡ 1
known_one h ok =
    let is = and_left (within 1 1 h.processor.0) _ ok in
    omega (arith, within_low 1 1 h.processor.0 is, within_high 1 1 h.processor.0 is)

hint_one : (h : Hint) → hint_ok 1 h ≡ true → is_unknown h ≡ false → h.processor.0 ≡ 1
hint_one h ok known = known_one h (rw known at ok)

-- and so does an offer that there is
pub offer_one : (o : Offer) → offer_ok 1 o ≡ true → 1 ≤ o.number → o.processor.0 ≡ 1
offer_one o ok some =
    let made = is_false (is_none o.processor) (λ none. let z = eqb-true o.number 0 (rw none at ok) in omega arith) in
    let is = and_left (within 1 1 o.processor.0) _ (rw made at ok) in
    omega (arith, within_low 1 1 o.processor.0 is, within_high 1 1 o.processor.0 is)

-- the newer of two pointers, the second of which is known
newer_one : (own other : Hint) → hint_ok 1 own ≡ true → known_ok 1 other ≡ true → (newer own other).processor.0 ≡ 1
unfolding newer
newer_one own other fine known =
    pick_cases (λ (h : Hint). h.processor.0 ≡ 1) (ltb own.moves other.moves) other own
    (λ e. known_one other known)
    (λ e.
    let old = ltb-false own.moves other.moves e in
    let some = within_low 1 9999 other.moves (and_right (within 1 1 other.processor.0) _ known) in
    hint_one own fine
    (is_false (is_unknown own) (λ none. let z = eqb-true own.moves 0 (rw none at fine) in omega arith)))

-- a finish
pub finish_silent : (t : TaskId) (x parent : Task) (e : ParentEntry) → x.processor.0 ≡ 1 → hint_ok 1 e.hint ≡ true
    → (same_task t (task_id 1) ≡ false → known_ok 1 x.origin ≡ true) → Silent (finish_rule t x parent e).posting
unfolding finish_rule
finish_silent t x parent e at fine own =
    let P : Finished → Type 0 = λ o. Silent o.posting in
    let along = newer e.hint x.origin in
    pick_cases P (same_task t (task_id 1)) _ _ (λ q. silent_nothing)
    (λ first.
    pick_either P (is_at x.processor parent) _ _ silent_nothing
    (pick_cases P (same_processor along.processor x.processor) _ _ (λ q. silent_nothing)
    (λ other. absurd (eqb-false along.processor.0 x.processor.0 other (newer_one e.hint x.origin fine (own first) ∙ sym at)))))

-- a send
pub send_silent : (x : Site) (c : ChannelId) (w : ℕ) → x.sender.processor.0 ≡ 1 → hint_ok 1 x.cell.entry.hint ≡ true
    → Silent (send_rule x c w).posting
unfolding send_rule send_passes send_waits messages_of fold
send_silent x c w at fine =
    let P : Outcome → Type 0 = λ o. Silent o.posting in
    let d = x.sender.processor in
    let h = x.cell.entry.hint in
    pick_either P (is_at d x.receiver && (x.receiving && not x.cell.channel.awaiting)) _ _ refl
    (pick_either P (is_at d x.receiver) _ _ refl
    (pick_cases P (is_unknown h) _ _ (λ e. rw at refl)
    (λ known.
    pick_cases P (same_processor h.processor d) _ _ (λ e. refl)
    (λ other. absurd (eqb-false h.processor.0 d.0 other (hint_one h fine known ∙ sym at))))))

-- a receive whose sender is sending here if an offer counts, and to whom no advert is noted
pub receive_silent : (x : Site) (c : ChannelId) (w : ℕ)
    → (counts x.cell x.cell.channel.carried ≡ true → x.sending && is_at x.receiver.processor x.sender ≡ true)
    → (none_called x.cell ≡ true → is_none x.cell.entry.noted ≡ true)
    → Silent (receive_rule x c w).posting
unfolding receive_rule receive_passes receive_waits messages_of
receive_silent x c w offered noted =
    let P : Outcome → Type 0 = λ o. Silent o.posting in
    let a = x.cell.entry.noted in
    pick_cases P (x.sending && is_at x.receiver.processor x.sender) _ _ (λ e. refl)
    (λ away.
    pick_cases P (counts x.cell x.cell.channel.carried) _ _ (λ e. absurd (tests_differ (offered e) away))
    (λ none.
    pick_cases P (none_called x.cell && not (is_none a)) _ _
    (λ e. absurd (tests_differ (noted (and_left (none_called x.cell) _ e)) (not-true (is_none a) (and_right (none_called x.cell) _ e))))
    (λ e. refl)))
