-- Two different labels that may be taken lead to the same state in either order.
use mathlib.Core.Path.{◌≡◌, refl, sym, ap}
use mathlib.Core.Bool.{Bool, true, false}
use mathlib.Core.Logic.{◌≢◌, Ne-symm, by_cases}
use Prim.Native.Nat.{ℕ}
use native.Mathlib.Decide.{ℕ_discrete}
use Rattle.base.specs.Choice.{pick}
use Rattle.base.proofs.Updates.{updated_other, updated_comm, updated_swap}
use Rattle.net.specs.Machines.{Commuting}
use Rattle.plan.specs.declared.TaskId.{TaskId}
use Rattle.plan.specs.declared.ChannelId.{ChannelId}
use Rattle.plan.specs.declared.Instruction.{Instruction}
use Rattle.plan.specs.Numbers.{task_id, channel_id}
use Rattle.plan.specs.Programs.{Programs}
use Rattle.plan.specs.Users.{sender_of, receiver_of}
use Rattle.net.specs.States.{Net, at_task}
use Rattle.net.specs.Labels.{Label, Label-discrete, own, pass, is_create}
use Rattle.net.specs.Guards.{next_of, enabled}
use Rattle.net.specs.Effects.{born_after, after_own, after_pass, effect}
use Rattle.net.specs.Nets.{net}
use Rattle.net.proofs.Parts.{no_part_own, no_part_pass, sender_part, receiver_part, own_part, apart, ends_apart}
use Rattle.net.proofs.Stays.{next_stays, still_enabled}

-- states with the same five parts are one
same_net : {s z : Net} → s.born ≡ z.born → s.completed ≡ z.completed → s.word ≡ z.word → s.overflow ≡ z.overflow → s.passed ≡ z.passed
    → s ≡ z
same_net b p w o g = λ i. record { born = b i; completed = p i; word = w i; overflow = o i; passed = g i }

-- two births
births : (i j : Instruction) (born : TaskId → Bool) → born_after j (born_after i born) ≡ born_after i (born_after j born)
unfolding born_after
births i j born = go (is_create i) (is_create j)
  where
    go : (b c : Bool)
        → pick c (at_task (pick b (at_task born (task_id i.operand) true) born) (task_id j.operand) true) (pick b (at_task born (task_id i.operand) true) born)
        ≡ pick b (at_task (pick c (at_task born (task_id j.operand) true) born) (task_id i.operand) true) (pick c (at_task born (task_id j.operand) true) born)
    go true true = updated_swap _ born (task_id i.operand) (task_id j.operand) true true (λ e. refl)
    go true false = refl
    go false true = refl
    go false false = refl

module _ (s : Net) where
  own_own_state : (t u : TaskId) (i j : Instruction) → t.0 ≢ u.0 → after_own (after_own s t i) u j ≡ after_own (after_own s u j) t i
  unfolding after_own
  own_own_state t u i j ne =
      let en = Ne-symm ne in
      same_net (births i j s.born) (simp (updated_other, updated_comm)) (simp (updated_other, updated_comm)) (simp (updated_other, updated_comm)) refl

  own_pass_state : (t : TaskId) (i : Instruction) (c : ChannelId) (a b : TaskId) → t.0 ≢ a.0 → t.0 ≢ b.0 → a.0 ≢ b.0
      → after_pass (after_own s t i) c a b ≡ after_own (after_pass s c a b) t i
  unfolding after_own after_pass
  own_pass_state t i c a b ta tb ab =
      let at = Ne-symm ta in
      let bt = Ne-symm tb in
      let ba = Ne-symm ab in
      same_net refl (simp (updated_other, updated_comm)) (simp (updated_other, updated_comm)) (simp updated_other) (simp updated_other)

  pass_pass_state : (c : ChannelId) (a b : TaskId) (d : ChannelId) (e f : TaskId) → c.0 ≢ d.0 → a.0 ≢ b.0 → e.0 ≢ f.0
      → a.0 ≢ e.0 → a.0 ≢ f.0 → b.0 ≢ e.0 → b.0 ≢ f.0
      → after_pass (after_pass s c a b) d e f ≡ after_pass (after_pass s d e f) c a b
  unfolding after_pass
  pass_pass_state c a b d e f cd ab ef ae af be bf =
      let dc = Ne-symm cd in
      let ba = Ne-symm ab in
      let fe = Ne-symm ef in
      let ea = Ne-symm ae in
      let fa = Ne-symm af in
      let eb = Ne-symm be in
      let fb = Ne-symm bf in
      same_net refl (simp (updated_other, updated_comm)) (simp (updated_other, updated_comm)) refl (simp (updated_other, updated_comm))

module _ (m : Programs) (s : Net) where
  own_own : (t u : TaskId) → own t ≢ own u → enabled m s (own t) ≡ true → enabled m s (own u) ≡ true
      → effect m (effect m s (own t)) (own u) ≡ effect m (effect m s (own u)) (own t)
  unfolding effect
  own_own t u ne ht hu =
      let t-idle = apart m s (own t) (own u) ne ht hu t (own_part m t) in
      let u-idle = apart m s (own u) (own t) (Ne-symm ne) hu ht u (own_part m u) in
      rw (next_stays m s (own t) u u-idle, next_stays m s (own u) t t-idle)
      (own_own_state s t u (next_of m s t) (next_of m s u) (no_part_own m t u t-idle))

  own_pass : (t : TaskId) (c : ChannelId) → own t ≢ pass c → enabled m s (own t) ≡ true → enabled m s (pass c) ≡ true
      → effect m (effect m s (own t)) (pass c) ≡ effect m (effect m s (pass c)) (own t)
  unfolding effect
  own_pass t c ne ht hc =
      let idle = apart m s (own t) (pass c) ne ht hc t (own_part m t) in
      let (ts, tr) = no_part_pass m t c idle in
      rw (next_stays m s (pass c) t idle) (own_pass_state s t (next_of m s t) c (sender_of m c) (receiver_of m c) ts tr (ends_apart m s c hc))

  pass_pass : (c d : ChannelId) → pass c ≢ pass d → enabled m s (pass c) ≡ true → enabled m s (pass d) ≡ true
      → effect m (effect m s (pass c)) (pass d) ≡ effect m (effect m s (pass d)) (pass c)
  unfolding effect
  pass_pass c d ne hc hd =
      let (ss, sr) = no_part_pass m (sender_of m c) d (apart m s (pass c) (pass d) ne hc hd (sender_of m c) (sender_part m c)) in
      let (rs, rr) = no_part_pass m (receiver_of m c) d (apart m s (pass c) (pass d) ne hc hd (receiver_of m c) (receiver_part m c)) in
      pass_pass_state s c (sender_of m c) (receiver_of m c) d (sender_of m d) (receiver_of m d) (λ e. ne (ap (λ (n : ℕ). pass (channel_id n)) e))
      (ends_apart m s c hc) (ends_apart m s d hd) ss sr rs rr

  pub same_effect : (k l : Label) → k ≢ l → enabled m s k ≡ true → enabled m s l ≡ true → effect m (effect m s k) l ≡ effect m (effect m s l) k
  same_effect (own t) (own u) ne hk hl = own_own t u ne hk hl
  same_effect (own t) (pass c) ne hk hl = own_pass t c ne hk hl
  same_effect (pass c) (own t) ne hk hl = sym (own_pass t c (Ne-symm ne) hl hk)
  same_effect (pass c) (pass d) ne hk hl = pass_pass c d ne hk hl

-- labels can be told apart
task_discrete : Discrete TaskId
task_discrete t u = by_cases (ℕ_discrete t.0 u.0) (λ e. yes (ap task_id e)) (λ ne. no (λ e. ne (ap (λ (x : TaskId). x.0) e)))

channel_discrete : Discrete ChannelId
channel_discrete c d = by_cases (ℕ_discrete c.0 d.0) (λ e. yes (ap channel_id e)) (λ ne. no (λ e. ne (ap (λ (x : ChannelId). x.0) e)))

-- the net's labels commute
pub commuting : (m : Programs) → Commuting (net m)
commuting m =
    record {
      same = Label-discrete task_discrete channel_discrete;
      stays = λ s k l ne hk hl. still_enabled m s k hk l ne hl;
      commute = same_effect m;
    }
