-- The tasks of some instructions, none of them 0, with one more: the first of them, and whether creates and channels are in order still, by the first
-- before.
use mathlib.Core.Path.{◌≡◌, refl, sym, ◌∙◌, ap}
use mathlib.Core.Bool.{Bool, true, false, not, ◌&&◌, ◌||◌}
use mathlib.Core.List.{List, [], ◌∷◌, ◌++◌}
use mathlib.Core.Logic.{by_cases}
use Prim.Native.Nat.{ℕ}
use native.Mathlib.Decide.{ℕ_discrete}
use native.Mathlib.Omega.{arith}
use lib.Dec.{eqb, ltb, leb}
use borrow.Author.Tests.{eqb-true, eq-eqb, ne_eqb, leb-true}
use Rattle.base.specs.Choice.{pick}
use Rattle.base.specs.Lists.{every, any}
use Rattle.base.proofs.Tests.{and_left, and_right, and_true, and_false, every_append}
use Rattle.plan.specs.Users.{first_of, one_task, share, only_lower}
use Rattle.plan_value.specs.Marks.{kept_of, create_mark, end_mark}
use Rattle.plan_value.specs.Pass.{create_fine, ends_fit}
use Rattle.plan_value.proofs.Changes.{or_true}

-- a task's number is not 0, and so none among some is
some : (t : ℕ) → leb 1 t ≡ true → eqb t 0 ≡ false
some t h = ne_eqb t 0 (λ e. omega (arith, leb-true 1 t h))

pub first_some : (t : ℕ) (l : List ℕ) → every (leb 1) (t ∷ l) ≡ true → eqb t 0 ≡ false
unfolding every
first_some t l h = some t (and_left (leb 1 t) (every (leb 1) l) h)

pub first_more : (l : List ℕ) (t : ℕ) → every (leb 1) l ≡ true → first_of (l ++ (t ∷ [])) ≡ kept_of (first_of l) t
first_more [] t h = refl
first_more (x ∷ l) t h = rw (first_some x l h) refl

one_more_lem : (l : List ℕ) (t : ℕ) → every (leb 1) l ≡ true → one_task (l ++ (t ∷ [])) ≡ one_task l && (eqb (first_of l) 0 || eqb (first_of l) t)
unfolding every
one_more_lem [] t h = refl
one_more_lem (x ∷ l) t h = rw (every_append (eqb x) l (t ∷ []), first_some x l h, and_true (eqb x t)) refl

-- creates of task u
pub create_more : (u : ℕ) (l : List ℕ) (t : ℕ) → every (leb 1) l ≡ true → create_fine u (l ++ (t ∷ [])) ≡ create_fine u l && create_mark (first_of l) t u
create_more u [] t h = refl
create_more u (x ∷ []) t h = rw (first_some x [] h) (sym (and_false (ltb x u)))
create_more u (x ∷ y ∷ l) t h = refl

-- exactly one: one at most, and there is a parent
pub create_whole : (u : ℕ) (l : List ℕ) → every (leb 1) l ≡ true → only_lower u l ≡ create_fine u l && not (eqb (first_of l) 0)
create_whole u [] h = refl
create_whole u (x ∷ []) h = rw (first_some x [] h) (sym (and_true (ltb x u)))
create_whole u (x ∷ y ∷ l) h = refl

-- the ends of a channel, by whether one task is at each and by the first there
apart : ℕ → ℕ → Bool
apart a b = eqb a 0 || not (eqb b a)

abbrev ends_by : Bool → ℕ → Bool → ℕ → Bool
ends_by o a q b = o && (q && apart a b)

-- of numbers that are all x, some pass a test exactly where x does
any_one : (p : ℕ → Bool) (x : ℕ) (xs : List ℕ) → every (eqb x) xs ≡ true → any p (x ∷ xs) ≡ p x
unfolding every any
any_one p x [] h = or_none (p x)
  where
    or_none : (b : Bool) → b || false ≡ b
    or_none true = refl
    or_none false = refl
any_one p x (y ∷ ys) h =
    let e : x ≡ y = eqb-true x y (and_left (eqb x y) (every (eqb x) ys) h) in
    let r = any_one p x ys (and_right (eqb x y) (every (eqb x) ys) h) in
    rw (← e, r) (or_same (p x))
  where
    or_same : (b : Bool) → b || b ≡ b
    or_same true = refl
    or_same false = refl

eqb_sym : (a b : ℕ) → eqb a b ≡ eqb b a
eqb_sym a b =
    by_cases
    (ℕ_discrete a b)
    (λ (e : a ≡ b). eq-eqb a b e ∙ sym (eq-eqb b a (sym e)))
    (λ ne. ne_eqb a b ne ∙ sym (ne_eqb b a (λ e. ne (sym e))))

share_one : (ss rs : List ℕ) → every (leb 1) ss ≡ true → one_task ss ≡ true → one_task rs ≡ true → not (share ss rs) ≡ apart (first_of ss) (first_of rs)
unfolding apart
share_one [] rs h p q = unfold any in refl
share_one (s ∷ ss) [] h p q = rw (first_some s ss h, any_one (λ s. any (eqb s) []) s ss p) (unfold any in rw (eqb_sym 0 s, first_some s ss h) refl)
share_one (s ∷ ss) (r ∷ rs) h p q =
    rw (first_some s ss h, any_one (λ s. any (eqb s) (r ∷ rs)) s ss p, any_one (eqb s) r rs q, eqb_sym s r) refl

ends_by_lem : (ss rs : List ℕ) → every (leb 1) ss ≡ true → ends_fit ss rs ≡ ends_by (one_task ss) (first_of ss) (one_task rs) (first_of rs)
ends_by_lem ss rs h = go (one_task ss) refl (one_task rs) refl
  where
    go : (a : Bool) → one_task ss ≡ a → (b : Bool) → one_task rs ≡ b → a && (b && not (share ss rs)) ≡ a && (b && apart (first_of ss) (first_of rs))
    go false p b q = refl
    go true p false q = refl
    go true p true q = share_one ss rs h p q

apart_swap : (a b : ℕ) → apart a b ≡ apart b a
unfolding apart
apart_swap a b =
    by_cases
    (ℕ_discrete a b)
    (λ (e : a ≡ b). rw e refl)
    (λ ne. rw (ne_eqb a b ne, ne_eqb b a (λ e. ne (sym e)), or_true (eqb a 0), or_true (eqb b 0)) refl)

pub ends_swap : (ss rs : List ℕ) → every (leb 1) ss ≡ true → every (leb 1) rs ≡ true → ends_fit ss rs ≡ ends_fit rs ss
ends_swap ss rs h k =
    ends_by_lem ss rs h ∙ go (one_task ss) (one_task rs) ∙ ap (λ (b : Bool). one_task rs && (one_task ss && b)) (apart_swap (first_of ss) (first_of rs)) ∙ sym (ends_by_lem rs ss k)
  where
    go : (a b : Bool) → a && (b && apart (first_of ss) (first_of rs)) ≡ b && (a && apart (first_of ss) (first_of rs))
    go false false = refl
    go false true = refl
    go true false = refl
    go true true = refl

-- one more at an end: the first there, the same as the first, another
by_more : (o : Bool) (a : ℕ) (q : Bool) (b t : ℕ) → eqb t 0 ≡ false
    → ends_by (o && (eqb a 0 || eqb a t)) (kept_of a t) q b ≡ ends_by o a q b && end_mark a b t
unfolding apart
by_more o a q b t h = go (eqb a 0) refl (eqb a t) refl
  where
    fresh : (o q m : Bool) → (o && true) && (q && m) ≡ (o && (q && true)) && (m && true)
    fresh false q m = refl
    fresh true false m = refl
    fresh true true m = sym (and_true m)

    again : (o q m : Bool) → (o && true) && (q && m) ≡ (o && (q && m)) && (m && true)
    again false q m = refl
    again true false m = refl
    again true true false = refl
    again true true true = refl

    other : (o q m k : Bool) → (o && false) && (q && m) ≡ (o && (q && m)) && (k && false)
    other false q m k = refl
    other true q m k = sym (ap (λ (x : Bool). (q && m) && x) (and_false k) ∙ and_false (q && m))

    go : (y : Bool) → eqb a 0 ≡ y → (z : Bool) → eqb a t ≡ z
        → (o && (y || z)) && (q && (eqb (pick y t a) 0 || not (eqb b (pick y t a)))) ≡ (o && (q && (y || not (eqb b a)))) && (not (eqb b t) && (y || z))
    go true e z k = rw h (fresh o q (not (eqb b t)))
    go false e true k = let same : a ≡ t = eqb-true a t k in rw (same, h) (again o q (not (eqb b t)))
    go false e false k = rw e (other o q (not (eqb b a)) (not (eqb b t)))

pub ends_more : (ss rs : List ℕ) (t : ℕ) → every (leb 1) ss ≡ true → eqb t 0 ≡ false → every (leb 1) (ss ++ (t ∷ [])) ≡ true
    → ends_fit (ss ++ (t ∷ [])) rs ≡ ends_fit ss rs && end_mark (first_of ss) (first_of rs) t
ends_more ss rs t h k l =
    ends_by_lem (ss ++ (t ∷ [])) rs l
    ∙ rw (one_more_lem ss t h, first_more ss t h) (by_more (one_task ss) (first_of ss) (one_task rs) (first_of rs) t k)
    ∙ ap (λ (b : Bool). b && end_mark (first_of ss) (first_of rs) t) (sym (ends_by_lem ss rs h))
