-- What a send leaves, of what is lent for it and beside whatever notes there are.
use mathlib.Core.Path.{◌≡◌, refl, sym, ap, ◌∙◌}
use mathlib.Core.Bool.{Bool, false, not, ◌&&◌}
use mathlib.Core.List.{List, []}
use Prim.Native.Nat.{ℕ, ◌+◌, ◌*◌, ◌-◌, ◌≤◌}
use native.Mathlib.Omega.{arith}
use lib.ListN.{get_or}
use borrow.Author.Tests.{ne_eqb}
use Rattle.base.proofs.Choices.{pick_either}
use Rattle.plan.specs.declared.TaskId.{TaskId}
use Rattle.plan.specs.declared.ChannelId.{ChannelId}
use Rattle.rules.specs.declared.task.Task.{Task}
use Rattle.rules.specs.declared.task.TaskState.TheVariants.{Receiving}
use Rattle.rules.specs.declared.channel.Hint.{Hint}
use Rattle.rules.specs.declared.channel.Offer.{Offer}
use Rattle.rules.specs.declared.channel.Channel.{Channel}
use Rattle.rules.specs.declared.channel.Cell.{Cell}
use Rattle.rules.specs.declared.rule.Site.{Site}
use Rattle.rules.specs.declared.rule.Outcome.{Outcome}
use Rattle.rules.specs.declared.system.TaskTable.{TaskTable}
use Rattle.rules.specs.Numbers.{no_processor, same_processor}
use Rattle.rules.specs.Tasks.{is_at}
use Rattle.rules.specs.Cells.{is_unknown, with_noted}
use Rattle.rules.specs.Systems.{read_channel, task_in}
use Rattle.rules.specs.Send.{send_rule, send_passes, send_waits}
use Rattle.rig_parts.specs.Fetches.{slot_at, is_on_in, cell_of, site_in}
use Rattle.rig_parts.specs.Scopes.{named_in}
use Rattle.board.specs.Lent.{lent, tasks_on, channels_on, store_of, hint_in, held_in, note_in}
use Rattle.steps.proofs.instruction.Unseen.{at_cell, left_cell, send_unseen}
use Rattle.steps.specs.instruction.Sends.{send_scope, send_outcome}

-- a send leaves the pointer and the desk of the sender as they are
send_keeps : (x : Site) (c : ChannelId) (w : ℕ)
    → ((send_rule x c w).cell.entry.hint ≡ x.cell.entry.hint) × ((send_rule x c w).sender.processor ≡ x.sender.processor)
unfolding send_rule send_passes send_waits
send_keeps x c w =
    let Keeps : Outcome → Type 0 = λ z. (z.cell.entry.hint ≡ x.cell.entry.hint) × (z.sender.processor ≡ x.sender.processor) in
    let d = x.sender.processor in
    let h = x.cell.entry.hint in
    pick_either Keeps (is_at d x.receiver && (x.receiving && not x.cell.channel.awaiting)) _ _ (refl, refl)
    (pick_either Keeps (is_at d x.receiver) _ _ (refl, refl)
    (pick_either Keeps (is_unknown h) _ _ (refl, refl) (pick_either Keeps (same_processor h.processor d) _ _ (refl, refl) (refl, refl))))

module _ (codes numbers receivers hp hm op on board : List ℕ) (t : TaskId) (c : ChannelId) (some : 1 ≤ c.0) where
  -- the tasks
  abbrev ts : TaskTable
  ts = tasks_on board

  -- with these notes
  abbrev pub left : List ℕ → Outcome
  left notes = send_outcome codes numbers receivers ts (store_of (lent hp hm op on notes board)) t c

  -- what is fetched is the site with nothing noted
  pub send_fetched : {a b : Task} {u : TaskId} {h : Hint} {f : Offer} {y : Channel} {r : Bool} {x : Cell} {m p : ℕ} {o : Outcome}
      → a ≡ task_in ts t → u ≡ named_in receivers c.0 → b ≡ task_in ts u → h ≡ hint_in hp hm a.processor c → f ≡ held_in op on a.processor c
      → y ≡ read_channel (channels_on board) (c.0 - 1) → r ≡ is_on_in codes Receiving u c b
      → x ≡ record { entry = record { hint = h; held = f; noted = no_processor }; channel = y }
      → m ≡ t.0 → p ≡ a.pc
      → o ≡ send_rule (record { sender = a; receiver = b; sending = false; receiving = r; cell = x }) c (get_or numbers (64 * (m - 1) + (p - 1)) 0)
      → o ≡ left []
  unfolding site_in cell_of send_rule send_passes send_waits
  send_fetched ea eu eb eh ef ey er ex em ep eo = rw (eo, ex, er, eh, ef, ey, ep, em, eb, eu, ea, ne_eqb c.0 0 (λ z. omega arith)) refl

  module _ (notes : List ℕ) where
    -- a note that is there
    abbrev pub noted : Cell → Cell
    noted x = with_noted x (note_in notes (task_in ts t).processor c)

    -- the site with it
    site_noted : at_cell noted (site_in codes ts (store_of (lent hp hm op on [] board)) (send_scope receivers ts t c))
        ≡ site_in codes ts (store_of (lent hp hm op on notes board)) (send_scope receivers ts t c)
    unfolding site_in cell_of
    site_noted = rw (ne_eqb c.0 0 (λ z. omega arith)) refl

    -- it is not seen, and stays
    pub send_noted : {o : Outcome} → o ≡ left [] → left_cell noted o ≡ left notes
    send_noted e =
        let x = site_in codes ts (store_of (lent hp hm op on [] board)) (send_scope receivers ts t c) in
        let w = get_or numbers (slot_at t ((task_in ts t).pc - 1)) 0 in
        ap (left_cell noted) e ∙ sym (send_unseen (note_in notes (task_in ts t).processor c) x c w) ∙ ap (λ (z : Site). send_rule z c w) site_noted

  module _ {o : Outcome} (e : o ≡ left []) where
    -- the pointer stays
    pub send_hint : o.cell.entry.hint ≡ hint_in hp hm (task_in ts t).processor c
    unfolding site_in cell_of
    send_hint = rw (e, (send_keeps _ c _).0, ne_eqb c.0 0 (λ z. omega arith)) refl

    -- the sender stays at its desk
    pub send_processor : o.sender.processor ≡ (task_in ts t).processor
    unfolding site_in
    send_processor = rw (e, (send_keeps _ c _).1) refl
