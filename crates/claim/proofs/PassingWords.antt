-- A word that passes in a run, beside those that are under way: either order.
use mathlib.Core.Path.{◌≡◌, refl, sym, ap, subst, ◌∙◌}
use mathlib.Core.Logic.{◌≢◌, by_cases}
use mathlib.Core.List.{List, [], ◌∷◌, ◌++◌, append-nil}
use Prim.Native.Nat.{ℕ}
use native.Mathlib.Decide.{ℕ_discrete}
use borrow.Author.Tests.{eq-eqb, ne_eqb}
use Rattle.std.specs.Prelude.{None, Some}
use Rattle.plan.specs.declared.ChannelId.{ChannelId}
use Rattle.plan.specs.declared.Word.{Word as WordOf}
use Rattle.plan.specs.Numbers.{channel_id}
use Rattle.plan.specs.Programs.{Programs}
use Rattle.rules.specs.Reports.{Received}
use Rattle.rules.specs.Steps.{word_on}
use Rattle.channel.specs.Events.{Event}
use Rattle.transitions.specs.Messages.{messages_on, words_in}
use Rattle.transitions.specs.Readings.{Reading}
use Rattle.transitions.specs.Views.{Histories}
use Rattle.transitions.specs.Transitions.{Passing, nothing, direct, called, taken, ChannelTransition, RunTransition, transfers, owns, creates, finishes}

-- no word in front of a list, and none behind it
pub no_word_before : (c : ChannelId) (us : List WordOf) → word_on c None ++ us ≡ us
unfolding word_on
no_word_before c us = refl

pub no_word_behind : (c : ChannelId) (us : List WordOf) → us ++ word_on c None ≡ us
unfolding word_on
no_word_behind c us = append-nil us

-- a word that passes in a run, beside those that are under way
pub word_elsewhere : (c d : ChannelId) (w : WordOf) → d.0 ≢ c.0 → word_on d (Some (c, w)) ≡ []
unfolding word_on
word_elsewhere c d w ne = rw (ne_eqb c.0 d.0 (λ e. ne (sym e))) refl

pub word_here : (c d : ChannelId) (w : WordOf) → d.0 ≡ c.0 → word_on d (Some (c, w)) ≡ w ∷ []
unfolding word_on
word_here c d w e = rw (eq-eqb c.0 d.0 (sym e)) refl

-- either order
abbrev pub Commutes : ChannelId → List WordOf → Received → Type 0
Commutes d us got = us ++ word_on d got ≡ word_on d got ++ us

pub nothing_commutes : (d : ChannelId) (us : List WordOf) → Commutes d us None
nothing_commutes d us = no_word_behind d us ∙ sym (no_word_before d us)

passing_commutes : {c : ChannelId} {value : WordOf} {before : List WordOf} {sent got : ℕ} {then : WordOf} {after : List WordOf} {received : Received}
    → Passing c value before sent got then after received → Commutes c before received
passing_commutes {c} {before = before} nothing = nothing_commutes c before
passing_commutes {c} {value} (direct e) = rw e (sym (append-nil (word_on c (Some (c, value)))))
passing_commutes {c} {before = before} (called e) = nothing_commutes c before
passing_commutes {c} (taken w e) = rw (e, word_here c c w refl) refl

passing_elsewhere : {c : ChannelId} {value : WordOf} {before : List WordOf} {sent got : ℕ} {then : WordOf} {after : List WordOf} {received : Received}
    → Passing c value before sent got then after received → (d : ChannelId) → d.0 ≢ c.0 → word_on d received ≡ []
unfolding word_on
passing_elsewhere nothing d ne = refl
passing_elsewhere {c} {value} (direct e) d ne = word_elsewhere c d value ne
passing_elsewhere (called e) d ne = refl
passing_elsewhere {c} (taken w e) d ne = word_elsewhere c d w ne

channel_commutes : {m : Programs} {h : Histories} {x y : Reading} {e : Event} {received : Received} → ChannelTransition m h x y e received
    → (d : ChannelId) → Commutes d (words_in (messages_on d x.messages)) received
channel_commutes {x = x} {received = received} t d =
    by_cases
    (ℕ_discrete d.0 t.channel.0)
    (λ e. subst (λ (c : ChannelId). Commutes c (words_in (messages_on c x.messages)) received) (ap channel_id (sym e)) (passing_commutes t.passing))
    (λ ne. rw (passing_elsewhere t.passing d ne) (append-nil (words_in (messages_on d x.messages))))

pub run_commutes : {m : Programs} {h h' : Histories} {x y : Reading} {received : Received} → RunTransition m h x h' y received → (d : ChannelId)
    → Commutes d (words_in (messages_on d x.messages)) received
run_commutes (transfers e t) d = channel_commutes t d
run_commutes {x = x} (owns t) d = nothing_commutes d (words_in (messages_on d x.messages))
run_commutes {x = x} (creates t) d = nothing_commutes d (words_in (messages_on d x.messages))
run_commutes {x = x} (finishes t) d = nothing_commutes d (words_in (messages_on d x.messages))
