-- Laws of a channel's letters: those of another kind than one that is posted or taken, those of its own kind, and those that are not there.
use mathlib.Core.Path.{◌≡◌, ap}
use mathlib.Core.Logic.{◌≢◌, ⊎_elim}
use mathlib.Core.Option.{some}
use mathlib.Core.List.{List, ◌++◌}
use Prim.Native.Nat.{ℕ, ◌≤◌}
use native.Mathlib.Omega.{arith}
use lib.ListN.{get_elem?}
use Rattle.plan.specs.declared.Word.{Word}
use Rattle.channel.specs.Bags.{In, one, without, total}
use Rattle.channel.specs.Messages.{ChannelMessage, offer, call, word, is_call, is_word, calls, words, kind}
use Rattle.channel.proofs.Bags.{total_without, in_total, in_post, in_or_taken}

-- a letter of another kind than the one posted was there
pub post_other : (l : List ChannelMessage) (x : ChannelMessage) {m : ChannelMessage} → kind m ≢ kind x → In m (l ++ one x) → In m l
post_other l x ne h = ⊎_elim (λ e. absurd (ne (ap kind e))) (λ k. k) (in_post l h)

-- a letter of another kind than the one taken is still there
pub in_other : (l : List ChannelMessage) (n : ℕ) {x m : ChannelMessage} → kind m ≢ kind x → get_elem? l n ≡ some x → In m l → In m (without l n)
in_other l n ne e h = ⊎_elim (λ q. absurd (ne (ap kind q))) (λ k. k) (in_or_taken l n e h)

pub offer_elim : (Q : ℕ → ℕ → ℕ → ℕ → Type 0) {to d w k to' d' w' k' : ℕ} → offer to d w k ≡ offer to' d' w' k' → Q to' d' w' k' → Q to d w k
offer_elim Q {to} {d} {w} {k} {to'} {d'} {w'} {k'} e q =
    let a : to ≡ to' = cc in
    let b : d ≡ d' = cc in
    let c : w ≡ w' = cc in
    let f : k ≡ k' = cc in
    rw (a, b, c, f) q

-- to prove something of every offer, one more being posted; of every call; of every word
pub post_offer : (Q : ℕ → ℕ → ℕ → ℕ → Type 0) (l : List ChannelMessage) {to d w k to' d' w' k' : ℕ}
    → Q to' d' w' k' → (In (offer to d w k) l → Q to d w k) → In (offer to d w k) (l ++ one (offer to' d' w' k')) → Q to d w k
post_offer Q l q f h = ⊎_elim (λ e. offer_elim Q e q) f (in_post l h)

pub post_call : (Q : ℕ → ℕ → ℕ → Type 0) (l : List ChannelMessage) {to d k to' d' k' : ℕ}
    → Q to' d' k' → (In (call to d k) l → Q to d k) → In (call to d k) (l ++ one (call to' d' k')) → Q to d k
post_call Q l {to} {d} {k} {to'} {d'} {k'} q f h = ⊎_elim (λ (e : call to d k ≡ call to' d' k').
    let a : to ≡ to' = cc in
    let b : d ≡ d' = cc in
    let c : k ≡ k' = cc in
    rw (a, b, c) q) f (in_post l h)

pub post_word : (Q : ℕ → Type 0) (l : List ChannelMessage) {to to' : ℕ} {x : Word} (x' : Word)
    → Q to' → (In (word to x) l → Q to) → In (word to x) (l ++ one (word to' x')) → Q to
post_word Q l {to} {to'} {x} x' q f h = ⊎_elim (λ (e : word to x ≡ word to' x').
    let a : to ≡ to' = cc in
    rw a q) f (in_post l h)

-- where none is counted there is none
none_in : {C : Type 0} (f : ChannelMessage → ℕ) {l : List ChannelMessage} {m : ChannelMessage} → 1 ≤ f m → total f l ≡ 0 → In m l → C
none_in f {l} {m} c e h = let q = in_total f l m h in absurd (omega arith)

pub no_call_lem : {C : Type 0} {l : List ChannelMessage} {to d k : ℕ} → calls l ≡ 0 → In (call to d k) l → C
unfolding is_call
no_call_lem = none_in is_call (omega arith)

pub no_word : {C : Type 0} {l : List ChannelMessage} {to : ℕ} {x : Word} → words l ≡ 0 → In (word to x) l → C
unfolding is_word
no_word = none_in is_word (omega arith)

-- calls and words are as many as before if another letter is taken
module _ (l : List ChannelMessage) (n : ℕ) (x : ChannelMessage) (e : get_elem? l n ≡ some x) where
  same_total : (f : ChannelMessage → ℕ) → f x ≡ 0 → total f (without l n) ≡ total f l
  same_total f z = let q = total_without f l n x e in omega arith

  pub same_calls : is_call x ≡ 0 → calls (without l n) ≡ calls l
  same_calls = same_total is_call

  pub same_words : is_word x ≡ 0 → words (without l n) ≡ words l
  same_words = same_total is_word
