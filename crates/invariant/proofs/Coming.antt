-- The words on their way to a task, and where with these it agrees with the net.
use mathlib.Core.Path.{◌≡◌, refl, sym, ◌∙◌}
use mathlib.Core.Bool.{Bool, true, false}
use mathlib.Core.List.{List, []}
use Prim.Native.Nat.{suc, ◌+◌}
use native.Mathlib.Omega.{arith}
use lib.ListN.{length}
use borrow.Author.Tests.{eq-eqb, not-true}
use Rattle.base.specs.Choice.{pick}
use Rattle.base.proofs.Tests.{and_both, tests_differ}
use Rattle.base.proofs.Choices.{pick_either}
use Rattle.plan.specs.declared.TaskId.{TaskId}
use Rattle.plan.specs.declared.ChannelId.{ChannelId}
use Rattle.plan.specs.declared.Word.{Word}
use Rattle.plan.specs.Numbers.{channel_id}
use Rattle.plan.specs.Programs.{Program, Programs}
use Rattle.rules.specs.declared.task.TaskState.TheVariants.{Unborn, Waiting, Receiving, Done}
use Rattle.rules.specs.declared.task.Task.{Task}
use Rattle.rules.specs.declared.message.Message.{Message}
use Rattle.rules.specs.Tasks.{is_in}
use Rattle.rules.specs.Places.{last_in, is_on}
use Rattle.net.specs.States.{Net}
use Rattle.channel.specs.Bags.{one}
use Rattle.transitions.specs.Progress.{is_blocked, program_of, completed_by}
use Rattle.transitions.specs.Messages.{words_in, messages_on, flat}
use Rattle.transitions.specs.Agreement.{coming_to, word_with, Agrees}
use Rattle.transitions.proofs.Tasks.{not_waiting, not_receiving, receives, on_in, on_operand}

module _ (g : Program) (x : Task) where
  -- words come to whom receives, on its channel
  pub coming_none : (ms : List Message) → is_in Receiving x ≡ false → coming_to g ms x ≡ []
  unfolding coming_to
  coming_none ms e = rw e refl

  pub coming_on : (c : ChannelId) (ms : List Message) → is_on Receiving g c x ≡ true → coming_to g ms x ≡ words_in (messages_on c ms)
  unfolding coming_to
  coming_on c ms e = rw (on_in receives g c x e, on_operand receives g c x e) refl

  -- the words of its channel stay, and so those that come
  pub coming_alike : (ms ns : List Message)
      → ((c : ChannelId) → is_on Receiving g c x ≡ true → words_in (messages_on c ns) ≡ words_in (messages_on c ms)) → coming_to g ns x ≡ coming_to g ms x
  unfolding coming_to is_on
  coming_alike ms ns same =
      let c = channel_id (last_in g x).operand in
      go (is_in Receiving x) (λ e. same c (and_both (is_in Receiving x) _ e (eq-eqb c.0 c.0 refl)))
    where
      go : {us vs : List Word} (b : Bool) → (b ≡ true → vs ≡ us) → pick b vs [] ≡ pick b us []
      go true e = e refl
      go false e = refl

-- nothing comes where there are no letters
pub coming_empty : (g : Program) (ms : List Message) (z : Task) → ms ≡ [] → coming_to g ms z ≡ []
unfolding coming_to flat
coming_empty g ms z e = rw e (pick_either (λ l. l ≡ []) (is_in Receiving z) [] [] refl refl)

module _ {m : Programs} {s : Net} {ms : List Message} {t : TaskId} {x : Task} (a : Agrees m s ms t x) where
  -- a task that is born, with nothing or with one word on its way to it
  pub agrees_born : is_in Unborn x ≡ false → s.born t ≡ true
  agrees_born e = a.born ∙ rw e refl

  pub unborn_not : s.born t ≡ true → is_in Unborn x ≡ false
  unborn_not e = not-true (is_in Unborn x) (sym a.born ∙ e)

  pub agrees_completed : coming_to (program_of m t) ms x ≡ [] → s.completed t ≡ completed_by x
  agrees_completed e = let n : length (coming_to (program_of m t) ms x) ≡ 0 = rw e refl in omega (arith, a.completed)

  pub agrees_word : coming_to (program_of m t) ms x ≡ [] → s.word t ≡ x.word
  unfolding word_with
  agrees_word e = a.word ∙ rw e refl

  pub ahead_completed : {v : Word} → coming_to (program_of m t) ms x ≡ one v → s.completed t ≡ suc (completed_by x)
  ahead_completed e = let n : length (coming_to (program_of m t) ms x) ≡ 1 = rw e refl in omega (arith, a.completed)

  pub ahead_word : {v : Word} → coming_to (program_of m t) ms x ≡ one v → s.word t ≡ v
  unfolding word_with
  ahead_word e = a.word ∙ rw e refl

  -- the net's task and what comes to the rig's stay
  pub alike_agrees : {s' : Net} {ns : List Message} → s'.born t ≡ s.born t → s'.completed t ≡ s.completed t → s'.word t ≡ s.word t
      → s'.overflow t ≡ s.overflow t → coming_to (program_of m t) ns x ≡ coming_to (program_of m t) ms x → Agrees m s' ns t x
  alike_agrees b k w o e =
      record {
        born = b ∙ a.born;
        completed = k ∙ rw e a.completed;
        word = w ∙ rw e a.word;
        overflow = o ∙ a.overflow;
        sync = a.sync;
        waits = a.waits;
        done = a.done;
      }

-- a task that is born, with the net's mark
module _ {m : Programs} {s : Net} {ms : List Message} {t : TaskId} {x : Task} (born : s.born t ≡ true) (marked : s.overflow t ≡ x.overflow) where
  agrees_by : is_in Unborn x ≡ false → is_in Waiting x ≡ false → (is_in Done x ≡ true → x.pc ≡ suc (length (program_of m t)))
      → s.completed t ≡ completed_by x + length (coming_to (program_of m t) ms x) → s.word t ≡ word_with x.word (coming_to (program_of m t) ms x)
      → Agrees m s ms t x
  agrees_by b waits done k w =
      record {
        born = born ∙ sym (rw b refl);
        completed = k;
        word = w;
        overflow = marked;
        sync = λ e. absurd (tests_differ e waits);
        waits = λ e. absurd (tests_differ e waits);
        done = done;
      }

  -- a task that does not wait, with nothing or with one word on its way to it
  pub agrees_quiet : is_in Unborn x ≡ false → is_in Waiting x ≡ false → (is_in Done x ≡ true → x.pc ≡ suc (length (program_of m t)))
      → coming_to (program_of m t) ms x ≡ [] → s.completed t ≡ completed_by x → s.word t ≡ x.word → Agrees m s ms t x
  unfolding word_with
  agrees_quiet b waits done e k w = agrees_by b waits done (rw e (omega arith)) (rw e w)

  pub agrees_ahead : is_in Unborn x ≡ false → is_in Waiting x ≡ false → (is_in Done x ≡ true → x.pc ≡ suc (length (program_of m t)))
      → {v : Word} → coming_to (program_of m t) ms x ≡ one v → s.completed t ≡ suc (completed_by x) → s.word t ≡ v → Agrees m s ms t x
  unfolding word_with
  agrees_ahead b waits done e k w = agrees_by b waits done (rw e (omega arith)) (rw e w)

  -- a task that is neither blocked nor done
  pub agrees_free : is_in Unborn x ≡ false → is_blocked x ≡ false → is_in Done x ≡ false → s.completed t ≡ completed_by x → s.word t ≡ x.word
      → Agrees m s ms t x
  agrees_free b f d k w =
      agrees_quiet b (not_waiting x f) (λ e. absurd (tests_differ e d)) (coming_none (program_of m t) x ms (not_receiving x f)) k w
