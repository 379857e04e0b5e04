-- The mail of a loop that owns it: a letter taken out and what it posts, and what is posted round by round.
use mathlib.Core.Path.{◌≡◌, refl, sym, ap, ◌∙◌, subst}
use mathlib.Core.Bool.{true, false}
use Prim.Native.Nat.{ℕ, ◌+◌, ◌-◌, ◌≤◌}
use lib.ListN.{length, set}
use Rattle.std.specs.Prelude.{Ok}
use Rattle.rules.specs.declared.message.Message.{Message}
use Rattle.rules.specs.declared.message.Network.{Network}
use Rattle.rules.specs.declared.message.Slot.{Slot}
use Rattle.rules.specs.declared.rule.Posting.{Posting}
use Rattle.rules.specs.declared.system.TaskTable.{TaskTable}
use Rattle.rules.specs.Networks.{slot, dequeued, enqueued, enqueued_all, messages_of}
use Rattle.rig_parts.specs.declared.kept.Kept.{Kept}
use Rattle.rig_parts.specs.Facts.{Facts}
use Rattle.rig_parts.specs.Fetches.{site_in}
use Rattle.rig_parts.specs.Scopes.{message_scope}
use Rattle.rig_parts.specs.Openings.{opened_in}
use Rattle.network.specs.Rounds.{rounds_of, skips_at, message_of}
use Rattle.network.proofs.Shift.{shifted}
use Rattle.network.proofs.Gaps.{holding, gap_closed_lem}
use Rattle.network.proofs.Posted.{after, after_skipped, after_posted, AtMostOne}
use Rattle.board.specs.declared.act.Act.{Act}
use Rattle.board.specs.Acted.{act_of}
use Rattle.run.proofs.all_steps.Posts.{message_posts, posted_last}

-- a letter more
pub joins : (k : Network) (m : Message) → holding (k.used + 1) (set k.slots k.used (slot m)) ≡ enqueued k m
unfolding enqueued
joins k m = refl

-- a letter that is opened posts one letter at most
pub opened_posts : (f : Facts) (ts : TaskTable) (s : Kept) (m : Message) {r : Act} → r ≡ act_of (Ok (opened_in f ts s m)) → AtMostOne r.posting
unfolding opened_in
opened_posts f ts s m e =
    let k = message_scope f.senders f.receivers f.parents m in
    subst (λ (r : Act). AtMostOne r.posting) (sym e) (message_posts k m (site_in f.codes ts s.store k) _)

-- the letter at position p left the mail, all behind it moved down, and the last place holds what is posted
module _ (n : ℕ) (k : Network) (full : length k.slots ≡ 256) (few : k.used ≤ 256) (p : ℕ) (some : 1 ≤ p) (there : p ≤ k.used) where
  pub delivered_mail : (x : Posting) → AtMostOne x → (j : ℕ) → j ≡ k.used - 1 - (p - 1) → {z : Network} → z ≡ holding k.used (shifted k.slots (p - 1) j)
      → {l : Slot} → l.message ≡ message_of x 0 → {w : ℕ} → w ≡ rounds_of 1 x
      → holding (k.used - 1 + w) (set z.slots (k.used - 1) l) ≡ enqueued_all (dequeued k p) (messages_of n x)
  delivered_mail x one j all {z} moved {l} e {w} q =
      let u = k.used - 1 in
      ap (λ (i : ℕ). holding (u + i) (set z.slots u l)) q
      ∙ ap (λ (m : Message). holding (u + rounds_of 1 x) (set z.slots u (slot m))) e
      ∙ ap (λ (y : Network). holding (u + rounds_of 1 x) (set y.slots u (slot (message_of x 0)))) moved
      ∙ posted_last n u (shifted k.slots (p - 1) j) x one
      ∙ ap (λ (y : Network). enqueued_all y (messages_of n x)) (gap_closed_lem k full few p some there j all)

-- a round more posts its letter, or none
module _ (x : Posting) (start : Network) (e : ℕ) {z : Network} (so_far : z ≡ after x start e) where
  pub round_posted : skips_at x e ≡ false → {l : Slot} → l.message ≡ message_of x e → holding (z.used + 1) (set z.slots z.used l) ≡ after x start (e + 1)
  round_posted h q =
      ap (λ (m : Message). holding (z.used + 1) (set z.slots z.used (slot m))) q
      ∙ joins z (message_of x e)
      ∙ ap (λ (k : Network). enqueued k (message_of x e)) so_far
      ∙ sym (after_posted x start e h)

  pub round_skipped : skips_at x e ≡ true → z ≡ after x start (e + 1)
  round_skipped h = so_far ∙ sym (after_skipped x start e h)
