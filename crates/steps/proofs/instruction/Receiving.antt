-- What a receive leaves, of what is lent for it and beside whatever pointers and held offers there are.
use mathlib.Core.Path.{◌≡◌, refl, sym, ap, ◌∙◌}
use mathlib.Core.Bool.{Bool, false, not, ◌&&◌}
use mathlib.Core.List.{List, []}
use Prim.Native.Nat.{ℕ, ◌-◌, ◌≤◌}
use native.Mathlib.Omega.{arith}
use borrow.Author.Tests.{ne_eqb}
use Rattle.base.proofs.Choices.{pick_either}
use Rattle.plan.specs.declared.TaskId.{TaskId}
use Rattle.plan.specs.declared.ChannelId.{ChannelId}
use Rattle.plan.specs.declared.ProcessorId.{ProcessorId}
use Rattle.rules.specs.declared.task.Task.{Task}
use Rattle.rules.specs.declared.task.TaskState.TheVariants.{Sending}
use Rattle.rules.specs.declared.channel.Hint.{Hint}
use Rattle.rules.specs.declared.channel.Offer.{Offer}
use Rattle.rules.specs.declared.channel.Channel.{Channel}
use Rattle.rules.specs.declared.channel.Cell.{Cell}
use Rattle.rules.specs.declared.rule.Site.{Site}
use Rattle.rules.specs.declared.rule.Outcome.{Outcome}
use Rattle.rules.specs.declared.system.TaskTable.{TaskTable}
use Rattle.rules.specs.Numbers.{is_none}
use Rattle.rules.specs.Tasks.{is_at}
use Rattle.rules.specs.Cells.{unknown, no_offer, counts, none_called, with_hint, with_held}
use Rattle.rules.specs.Systems.{read_channel, task_in}
use Rattle.rules.specs.Receive.{receive_rule, receive_passes, receive_waits}
use Rattle.rig_parts.specs.Fetches.{last_of, is_on_in, cell_of, site_in}
use Rattle.rig_parts.specs.Scopes.{named_in}
use Rattle.board.specs.Lent.{lent, tasks_on, channels_on, store_of, hint_in, held_in, note_in}
use Rattle.steps.proofs.instruction.Unseen.{at_cell, left_cell, receive_unseen}
use Rattle.steps.specs.instruction.Receives.{receive_scope, receive_outcome}

-- a receive leaves the desk of the receiver as it is
receive_keeps : (x : Site) (c : ChannelId) (w : ℕ) → (receive_rule x c w).receiver.processor ≡ x.receiver.processor
unfolding receive_rule receive_passes receive_waits
receive_keeps x c w =
    let Keeps : Outcome → Type 0 = λ z. z.receiver.processor ≡ x.receiver.processor in
    pick_either Keeps (x.sending && is_at x.receiver.processor x.sender) _ _ refl
    (pick_either Keeps (counts x.cell x.cell.channel.carried) _ _ refl
    (pick_either Keeps (none_called x.cell && not (is_none x.cell.entry.noted)) _ _ refl refl))

module _ (codes numbers senders notes board : List ℕ) (t : TaskId) (c : ChannelId) (some : 1 ≤ c.0) where
  -- the tasks
  abbrev ts : TaskTable
  ts = tasks_on board

  -- with these pointers and held offers
  abbrev pub left : List ℕ → List ℕ → List ℕ → List ℕ → Outcome
  left hp hm op on = receive_outcome codes numbers senders ts (store_of (lent hp hm op on notes board)) t c

  -- what is fetched is the site with no pointer and no held offer
  pub receive_fetched : {a b : Task} {u : TaskId} {h : Hint} {f : Offer} {q : ProcessorId} {y : Channel} {r : Bool} {x : Cell} {w : ℕ} {o : Outcome}
      → b ≡ task_in ts t → u ≡ named_in senders c.0 → a ≡ task_in ts u → q ≡ note_in notes b.processor c
      → y ≡ read_channel (channels_on board) (c.0 - 1) → r ≡ is_on_in codes Sending u c a
      → h ≡ unknown → f ≡ no_offer → x ≡ record { entry = record { hint = h; held = f; noted = q }; channel = y }
      → w ≡ last_of numbers u a.pc
      → o ≡ receive_rule (record { sender = a; receiver = b; sending = r; receiving = false; cell = x }) c w
      → o ≡ left [] [] [] []
  unfolding site_in cell_of receive_rule receive_passes receive_waits
  receive_fetched eb eu ea eq ey er eh ef ex ew eo = rw (eo, ex, ew, er, eh, ef, eq, ey, ea, eu, eb, ne_eqb c.0 0 (λ z. omega arith)) refl

  module _ (hp hm op on : List ℕ) where
    -- a pointer and a held offer that are there
    abbrev pub kept : Cell → Cell
    kept x = with_hint (with_held x (held_in op on (task_in ts t).processor c)) (hint_in hp hm (task_in ts t).processor c)

    -- the site with them
    site_kept : at_cell kept (site_in codes ts (store_of (lent [] [] [] [] notes board)) (receive_scope senders ts t c))
        ≡ site_in codes ts (store_of (lent hp hm op on notes board)) (receive_scope senders ts t c)
    unfolding site_in cell_of
    site_kept = rw (ne_eqb c.0 0 (λ z. omega arith)) refl

    -- they are not seen, and stay
    pub receive_kept : {o : Outcome} → o ≡ left [] [] [] [] → left_cell kept o ≡ left hp hm op on
    receive_kept e =
        let x = site_in codes ts (store_of (lent [] [] [] [] notes board)) (receive_scope senders ts t c) in
        let u = named_in senders c.0 in
        let w = last_of numbers u (task_in ts u).pc in
        ap (left_cell kept) e
        ∙ sym (receive_unseen (hint_in hp hm (task_in ts t).processor c) (held_in op on (task_in ts t).processor c) x c w)
        ∙ ap (λ (z : Site). receive_rule z c w) site_kept

  -- the receiver stays at its desk
  pub receive_processor : {o : Outcome} → o ≡ left [] [] [] [] → o.receiver.processor ≡ (task_in ts t).processor
  unfolding site_in
  receive_processor e = rw (e, receive_keeps _ c _) refl
