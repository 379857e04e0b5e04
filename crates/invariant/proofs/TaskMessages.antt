-- How many letters are about a task; those of all channels and about all tasks are no more than the mail holds.
use mathlib.Core.Path.{◌≡◌, refl, ap, ◌∙◌}
use mathlib.Core.Logic.{by_cases}
use mathlib.Core.Bool.{Bool, true, false}
use mathlib.Core.List.{List, [], ◌∷◌}
use Prim.Native.Nat.{ℕ, zero, suc, ◌+◌, ◌≤◌, ◌<◌}
use native.Mathlib.Omega.{arith}
use native.Mathlib.Decide.{ℕ_discrete}
use lib.Dec.{eqb}
use lib.ListN.{length, length-append}
use borrow.Author.Tests.{eq-eqb, ne_eqb}
use Rattle.base.specs.Choice.{pick}
use Rattle.base.specs.Range.{fold, sum_below}
use Rattle.base.proofs.Folds.{fold_same}
use Rattle.base.proofs.Sums.{sum_const}
use Rattle.plan.specs.declared.TaskId.{TaskId}
use Rattle.plan.specs.declared.ChannelId.{ChannelId}
use Rattle.plan.specs.Numbers.{task_id, channel_id}
use Rattle.rules.specs.declared.message.Message.{Message}
use Rattle.rules.specs.declared.message.Message.TheVariants.{Empty, Offered, Advert, ReadyToReceive, Data, Terminated, Migration}
use Rattle.channel.specs.Bags.{one, total}
use Rattle.channel.specs.Messages.{ChannelMessage, offer, advert, call, word}
use Rattle.transitions.specs.Messages.{flat, message_on, messages_on, ended_to, mover_to, ended_of, movers_of}
use Rattle.invariant.specs.Weights.{channel_count}

-- the length of what is sorted out
flat_length : {A B : Type 0} (f : A → List B) (xs : List A) → length (flat f xs) ≡ total (λ x. length (f x)) xs
unfolding flat total
flat_length f [] = refl
flat_length f (x ∷ xs) = length-append (f x) (flat f xs) ∙ ap (length (f x) +◌) (flat_length f xs)

-- the letters about task t
abbrev pub task_messages : List Message → TaskId → ℕ
task_messages ms t = length (ended_of t ms) + length (movers_of t ms)

-- what one letter is worth for task t
abbrev about_task : TaskId → Message → ℕ
about_task t m = length (ended_to t m) + length (mover_to t m)

sum_total : {A : Type 0} (f g : A → ℕ) (xs : List A) → total (λ x. f x + g x) xs ≡ total f xs + total g xs
unfolding total
sum_total f g [] = refl
sum_total f g (x ∷ xs) = omega (arith, sum_total f g xs)

counted : (ms : List Message) (t : TaskId) → task_messages ms t ≡ total (about_task t) ms
counted ms t =
    omega (arith, flat_length (ended_to t) ms, flat_length (mover_to t) ms, sum_total (λ m. length (ended_to t m)) (λ m. length (mover_to t m)) ms)

total_cons : (t : TaskId) (m : Message) (ms : List Message) → total (about_task t) (m ∷ ms) ≡ about_task t m + total (about_task t) ms
unfolding total
total_cons t m ms = refl

sum_both : (n : ℕ) (f g : ℕ → ℕ) → sum_below n (λ k. f k + g k) ≡ sum_below n f + sum_below n g
unfolding fold
sum_both zero f g = refl
sum_both (suc n) f g = omega (arith, sum_both n f g)

-- of the numbers 1 .. n at most one is a
nothing_below : (n : ℕ) (f : ℕ → ℕ) → ((k : ℕ) → k < n → f k ≡ 0) → sum_below n f ≡ 0
nothing_below n f none = omega (arith, fold_same ◌+◌ 0 n f (λ k. 0) none, sum_const 0 n)

few_equal : (a n : ℕ) → sum_below n (λ k. pick (eqb a (suc k)) 1 0) ≤ 1
unfolding fold
few_equal a zero = omega arith
few_equal a (suc n) =
    by_cases
    (ℕ_discrete a (suc n))
    (λ (e : a ≡ suc n).
    rw (eq-eqb a (suc n) e) (omega (arith, nothing_below n (λ k. pick (eqb a (suc k)) 1 0) (λ k l. rw (ne_eqb a (suc k) (omega arith)) refl))))
    (λ ne. rw (ne_eqb a (suc n) ne) (omega (arith, few_equal a n)))

few_of : (a n : ℕ) (f : ℕ → ℕ) → ((k : ℕ) → f k ≡ pick (eqb a (suc k)) 1 0) → sum_below n f ≤ 1
few_of a n f same = omega (arith, fold_same ◌+◌ 0 n f (λ k. pick (eqb a (suc k)) 1 0) (λ k l. same k), few_equal a n)

length_pick : {A : Type 0} (b : Bool) (a : A) → length (pick b (one a) []) ≡ pick b 1 0
length_pick true a = refl
length_pick false a = refl

module _ (n : ℕ) where
  abbrev on_channels : Message → ℕ
  on_channels m = sum_below channel_count (λ k. length (message_on (channel_id (suc k)) m))

  abbrev about_tasks : Message → ℕ
  about_tasks m = sum_below n (λ k. about_task (task_id (suc k)) m)

  no_task_lem : sum_below n (λ k. 0) ≡ 0
  no_task_lem = nothing_below n (λ k. 0) (λ k l. refl)

  no_channel_lem : sum_below channel_count (λ k. 0) ≡ 0
  no_channel_lem = nothing_below channel_count (λ k. 0) (λ k l. refl)

  of_channel : (e : ChannelId) (l : ChannelMessage) → sum_below channel_count (λ k. length (pick (eqb e.0 (suc k)) (one l) [])) + sum_below n (λ k. 0) ≤ 1
  of_channel e l =
      omega (arith, no_task_lem, few_of e.0 channel_count (λ k. length (pick (eqb e.0 (suc k)) (one l) [])) (λ k. length_pick (eqb e.0 (suc k)) l))

  -- a letter is of one channel or about one task
  once : (m : Message) → on_channels m + about_tasks m ≤ 1
  unfolding message_on ended_to mover_to
  once Empty = omega (arith, no_channel_lem, no_task_lem)
  once (Offered e o h) = of_channel e (offer h.processor.0 o.processor.0 o.number h.moves)
  once (Advert e d from) = of_channel e (advert d.0 from.0)
  once (ReadyToReceive e d h) = of_channel e (call d.0 h.processor.0 h.moves)
  once (Data e d w) = of_channel e (word d.0 w)
  once (Terminated h t) =
      omega (
        arith,
        no_channel_lem,
        few_of t.0 n (λ k. length (pick (eqb t.0 (suc k)) (one h) []) + 0)
            (λ k. let e = length_pick (eqb t.0 (suc k)) h in omega (arith, e)),
      )
  once (Migration d t) =
      omega (
        arith,
        no_channel_lem,
        few_of t.0 n (λ k. 0 + length (pick (eqb t.0 (suc k)) (one d.0) []))
            (λ k. let e = length_pick (eqb t.0 (suc k)) d.0 in omega (arith, e)),
      )

  -- so that those of all channels and about all tasks are not more than the letters
  pub few_messages : (ms : List Message)
      → sum_below channel_count (λ k. length (messages_on (channel_id (suc k)) ms)) + sum_below n (λ k. task_messages ms (task_id (suc k))) ≤ length ms
  unfolding flat
  few_messages [] = omega (arith, no_channel_lem, no_task_lem)
  few_messages (m ∷ ms) =
      let c =
      fold_same ◌+◌ 0 channel_count (λ k. length (messages_on (channel_id (suc k)) (m ∷ ms)))
      (λ k. length (message_on (channel_id (suc k)) m) + length (messages_on (channel_id (suc k)) ms))
      (λ k l. length-append (message_on (channel_id (suc k)) m) (messages_on (channel_id (suc k)) ms)) in
      let t =
      fold_same ◌+◌ 0 n (λ k. task_messages (m ∷ ms) (task_id (suc k))) (λ k. about_task (task_id (suc k)) m + task_messages ms (task_id (suc k)))
      (λ k l. let u = task_id (suc k) in omega (arith, counted (m ∷ ms) u, counted ms u, total_cons u m ms)) in
      omega (
        arith,
        c,
        t,
        once m,
        few_messages ms,
        sum_both channel_count (λ k. length (message_on (channel_id (suc k)) m)) (λ k. length (messages_on (channel_id (suc k)) ms)),
        sum_both n (λ k. about_task (task_id (suc k)) m) (λ k. task_messages ms (task_id (suc k))),
      )
