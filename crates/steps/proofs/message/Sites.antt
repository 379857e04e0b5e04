-- The site of a channel at a desk, and a letter about it that is opened there.
use mathlib.Core.Path.{◌≡◌, refl, sym, ap, ◌∙◌}
use mathlib.Core.List.{List}
use Prim.Native.Nat.{ℕ, ◌≤◌}
use native.Mathlib.Omega.{arith}
use borrow.Author.Tests.{ne_eqb}
use Rattle.plan.specs.declared.ChannelId.{ChannelId}
use Rattle.plan.specs.declared.ProcessorId.{ProcessorId}
use Rattle.rules.specs.declared.task.TaskState.TheVariants.{Sending, Receiving}
use Rattle.rules.specs.declared.message.Message.{Message}
use Rattle.rules.specs.declared.rule.Site.{Site}
use Rattle.rules.specs.declared.rule.Outcome.{Outcome}
use Rattle.rules.specs.Systems.{cell_in, cell_stored, task_in, task_stored}
use Rattle.rig_parts.specs.declared.sweep.Sweep.TheVariants.{Nothing}
use Rattle.rig_parts.specs.Fetches.{is_on_in, cell_of, cell_put, site_in}
use Rattle.rig_parts.specs.Scopes.{message_scope}
use Rattle.rig_parts.specs.RunVerdicts.{change}
use Rattle.rig_parts.specs.Openings.{opened_in}
use Rattle.plan_index.specs.user_table.Users.{senders_of, receivers_of, parents_of}
use Rattle.board.specs.declared.act.Act.{Act}
use Rattle.board.specs.Lent.{Lent, Whole, tasks_of, store_of, kept_of, parents_on}
use Rattle.board.specs.Acted.{accepted_act}
use Rattle.board.specs.Rigs.{facts_in, Opened, Opening}
use Rattle.steps.specs.message.Seen.{Found}
use Rattle.steps.proofs.message.Bounds.{sender_in, receiver_in}
use Rattle.steps.proofs.message.Rules.{Kind}

-- what channel c's rules see at desk d
abbrev pub site_at : (codes users : List ℕ) → Lent → ChannelId → ProcessorId → Site
site_at codes users l c d =
    let s = sender_in users c in
    let u = receiver_in users c in
    let a = task_in (tasks_of l) s in
    let b = task_in (tasks_of l) u in
    record { sender = a; receiver = b; sending = is_on_in codes Sending s c a; receiving = is_on_in codes Receiving u c b; cell = cell_in (store_of l) d c }

-- m is such a letter
module _ {rule : Site → Message → Outcome} {sees : Site → Site} {leaves : Site → Outcome → Outcome} {m x : Message} {c : ChannelId} {d : ProcessorId}
    (k : Kind rule sees leaves x c d) (e : m ≡ x) (codes users : List ℕ) (l : Lent) where
  -- the letter's site
  abbrev here : Site
  here = site_in codes (tasks_of l) (store_of l) (message_scope (senders_of users) (receivers_of users) (parents_of users) x)

  -- what opening it does, by what the rule leaves of what it sees
  opens : {o : Outcome} → Found rule sees codes users x l o → (count : ℕ) (numbers : List ℕ)
      → opened_in (facts_in count codes numbers users) (tasks_of l) (kept_of l) x
      ≡ change (message_scope (senders_of users) (receivers_of users) (parents_of users) x) (leaves here o) Nothing
  unfolding opened_in
  opens f count numbers =
      let scope = message_scope (senders_of users) (receivers_of users) (parents_of users) x in
      k.does scope here _ ∙ ap (λ (z : Outcome). change scope z Nothing) (k.rest here ∙ ap (leaves here) (sym f))

  -- it is decided
  pub opening : {o : Outcome} {r : Act} → Found rule sees codes users m l o → r ≡ accepted_act (leaves here o) → Opening codes users m l r
  opening f er = rw e (λ count numbers. rw (opens (rw e at f) count numbers) er)

  module _ (some : 1 ≤ c.0) where
    -- the letter's site is the channel's
    site_at_lem : here ≡ site_at codes users l c d
    unfolding site_in cell_of
    site_at_lem = rw (k.at (senders_of users) (receivers_of users) (parents_of users), ne_eqb c.0 0 (λ z. omega arith)) refl

    -- the rule was asked at what it sees of the site
    pub found : {y : Site} {o : Outcome} → y ≡ sees (site_at codes users l c d) → o ≡ rule y x → Found rule sees codes users m l o
    found ey eo = rw e (eo ∙ ap (λ (z : Site). rule z x) (ey ∙ ap sees (sym site_at_lem)))

    -- what it leaves is stored
    pub opened : {o : Outcome} {r : Act} (l' : Lent) → Found rule sees codes users x l o
        → let q = leaves (site_at codes users l c d) o in
        r ≡ accepted_act q
        → Whole l'.board
        → tasks_of l' ≡ task_stored (task_stored (tasks_of l) (sender_in users c) q.sender) (receiver_in users c) q.receiver
        → store_of l' ≡ cell_stored (store_of l) d c q.cell
        → parents_on l'.board ≡ parents_on l.board
        → Opened codes users m l r l'
    unfolding cell_put
    opened l' f er w et es ep =
        rw e
        (λ count numbers.
        rw (opens f count numbers, site_at_lem, k.at (senders_of users) (receivers_of users) (parents_of users))
        (record {
          whole = w;
          act = er;
          tasks = et;
          store = rw (ne_eqb c.0 0 (λ z. omega arith)) es;
          parents = ep;
        }))
