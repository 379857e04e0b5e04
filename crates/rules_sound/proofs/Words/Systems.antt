-- A rig's words are good from its start on: a task that is written, cells, a birth, letters that join the mail and one that leaves it.
use mathlib.Core.Path.{◌≡◌, refl, ◌∙◌}
use mathlib.Core.Bool.{Bool, true}
use mathlib.Core.List.{List, [], ◌∷◌, ◌++◌}
use Prim.Native.Nat.{ℕ, suc, ◌-◌}
use lib.Dec.{eqb}
use lib.ListN.{take, drop}
use Rattle.base.specs.Lists.{every}
use Rattle.base.proofs.Choices.{pick_either}
use Rattle.base.proofs.Tests.{and_left, and_right, and_both, every_append}
use Rattle.base.proofs.Pairs.{every_set, every_any, every_take, every_drop}
use Rattle.plan.specs.declared.Plan.{Plan}
use Rattle.plan.specs.declared.TaskId.{TaskId}
use Rattle.plan.specs.declared.ProcessorId.{ProcessorId}
use Rattle.plan.specs.declared.ChannelId.{ChannelId}
use Rattle.plan.specs.declared.Word.{Word as WordOf}
use Rattle.plan.specs.Words.{zero_word}
use Rattle.rules.specs.declared.task.Task.{Task}
use Rattle.rules.specs.declared.channel.Hint.{Hint}
use Rattle.rules.specs.declared.channel.Cell.{Cell}
use Rattle.rules.specs.declared.message.Message.{Message}
use Rattle.rules.specs.declared.message.Network.{Network}
use Rattle.rules.specs.declared.rule.Outcome.{Outcome}
use Rattle.rules.specs.declared.system.ParentEntry.{ParentEntry}
use Rattle.rules.specs.declared.system.TaskTable.{TaskTable}
use Rattle.rules.specs.declared.system.System.{System}
use Rattle.rules.specs.Numbers.{task_id, processor_id, channel_id}
use Rattle.rules.specs.Hints.{unknown}
use Rattle.rules.specs.Tasks.{no_task, born}
use Rattle.rules.specs.Networks.{slot, no_slot, message_at, enqueued, enqueued_all, dequeued}
use Rattle.rules.specs.Systems.{with_network, task_at, with_task, with_cell, with_parent, task_in, task_stored}
use Rattle.rules.specs.Effects.{Effect, completed, with_outcome, for_channels}
use Rattle.rules.specs.Starts.{birth, blank, started}
use Rattle.rules_laws.proofs.ForChannels.{for_channels_all}
use Rattle.rules_sound.specs.Words.{task_good, message_good, slot_good, GoodSystem, GoodOutcome, GoodEffect}

-- letters join
joined_good : (good : WordOf → Bool) (n : Network) (ms : List Message) → every (slot_good good) n.slots ≡ true → every (message_good good) ms ≡ true
    → every (slot_good good) (enqueued_all n ms).slots ≡ true
unfolding enqueued_all enqueued every
joined_good good n [] h k = h
joined_good good n (m ∷ ms) h k =
    joined_good good (enqueued n m) ms (every_set (slot_good good) n.slots n.used (slot m) h (and_left _ (every (message_good good) ms) k))
    (and_right (message_good good m) _ k)

module _ {good : WordOf → Bool} where
  module _ (r : System) (h : GoodSystem good r) where
    pub task_good_lem : (t : TaskId) → task_good good (task_at r t) ≡ true
    unfolding task_in
    task_good_lem t = pick_either (λ x. task_good good x ≡ true) (eqb t.0 0) no_task _ h.zero
        (every_any (task_good good) r.tasks.records (t.0 - 1) no_task h.zero h.tasks)

    pub message_there : (p : ℕ) → message_good good (message_at r.network p) ≡ true
    unfolding message_at message_good
    message_there p = every_any (slot_good good) r.network.slots (p - 1) no_slot refl h.slots

    pub put_task : (t : TaskId) (x : Task) → task_good good x ≡ true → GoodSystem good (with_task r t x)
    unfolding with_task task_stored
    put_task t x k =
        let each = every_set (task_good good) r.tasks.records (t.0 - 1) x h.tasks k in
        record {
          zero = h.zero;
          tasks = pick_either (λ (l : TaskTable). every (task_good good) l.records ≡ true) (eqb t.0 0) r.tasks _ h.tasks each;
          slots = h.slots;
        }

    put_cell : (d : ProcessorId) (c : ChannelId) (x : Cell) → GoodSystem good (with_cell r d c x)
    unfolding with_cell
    put_cell d c x = record { zero = h.zero; tasks = h.tasks; slots = h.slots }

    -- the letter at p leaves
    pub left_good : (p : ℕ) → GoodSystem good (with_network r (dequeued r.network p))
    unfolding dequeued message_good every
    left_good p =
        let n = r.network in
        let rest = no_slot ∷ drop n.used n.slots in
        let middle = drop p (take n.used n.slots) in
        let used = every_take (slot_good good) n.used n.slots h.slots in
        let behind : every (slot_good good) (middle ++ rest) ≡ true =
        every_append (slot_good good) middle rest
        ∙ and_both _ _ (every_drop (slot_good good) p (take n.used n.slots) used) (every_drop (slot_good good) n.used n.slots h.slots) in
        record {
          zero = h.zero;
          tasks = h.tasks;
          slots =
              every_append (slot_good good) (take (p - 1) n.slots) (middle ++ rest)
              ∙ and_both _ _ (every_take (slot_good good) (p - 1) n.slots h.slots) behind;
        }

  pub put_cells : (n : ℕ) (test : ChannelId → Bool) (rule : Cell → Cell) (d : ProcessorId) (r : System) → GoodSystem good r
      → GoodSystem good (for_channels n test rule d r)
  put_cells n test rule d r h = for_channels_all test rule d (GoodSystem good) n r (λ q i x l k. put_cell q k d (channel_id (suc i)) x) h

  -- desk d's entry for parent t
  pub put_parent : (r : System) → GoodSystem good r → (d : ProcessorId) (t : TaskId) (e : ParentEntry) → GoodSystem good (with_parent r d t e)
  unfolding with_parent
  put_parent r h d t e = record { zero = h.zero; tasks = h.tasks; slots = h.slots }

  pub birth_good : (r : System) → GoodSystem good r → (t : TaskId) (d : ProcessorId) (own : Hint) → GoodSystem good (birth r t d own)
  unfolding birth
  birth_good r h t d own = put_cells 128 _ _ d _ (put_parent _ (put_task r h t (born d own) h.zero) d t _)

  pub outcome_good : (r : System) → GoodSystem good r → (s u : TaskId) (c : ChannelId) (d : ProcessorId) (o : Outcome) → GoodOutcome good o
      → GoodEffect good (with_outcome r s u c d o)
  unfolding with_outcome
  outcome_good r h s u c d o k =
      record {
        system = put_cell _ (put_task _ (put_task r h s o.sender k.sender) u o.receiver k.receiver) d c o.cell;
        posting = k.posting;
        received = k.received;
      }

  pub completed_good : (e : Effect) → GoodEffect good e → GoodSystem good (completed e)
  unfolding completed
  completed_good e h =
      record {
        zero = h.system.zero;
        tasks = h.system.tasks;
        slots = joined_good good e.system.network _ h.system.slots (h.posting.messages e.system.processors);
      }

  pub started_good : good zero_word ≡ true → (n : ℕ) (p : Plan) → GoodSystem good (started n p)
  unfolding started blank every message_good
  started_good z n p =
      birth_good (blank n p) (record { zero = z; tasks = rw z refl; slots = refl }) (task_id 1) (processor_id 1) unknown
