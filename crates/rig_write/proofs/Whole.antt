-- All that is written, put together: bytes cut into pieces of which some are replaced.
use mathlib.Core.Path.{◌≡◌, refl, sym, ap, ◌∙◌}
use mathlib.Core.List.{List, [], ◌++◌, append_assoc}
use Prim.Native.Nat.{ℕ, ◌+◌, ◌≤◌}
use native.Mathlib.Omega.{arith}
use lib.ListN.{length, take, drop, length-append, length-drop, take-append-drop}
use lib.Seq.{take_at, drop_at, drop-append-add, drop-drop, length-take-le}
use Rattle.plan_write.specs.output.Output.{overlay}

-- a piece in the middle replaced by one as long
pub replaced : (front old rest new : List ℕ) (at : ℕ) → length front ≡ at → length old ≡ length new
    → overlay (front ++ (old ++ rest)) at new ≡ front ++ (new ++ rest)
unfolding overlay
replaced front old rest new at e l =
    let behind : drop (at + length new) (front ++ (old ++ rest)) ≡ rest =
    ap (λ (n : ℕ). drop (n + length new) (front ++ (old ++ rest))) (sym e)
    ∙ drop-append-add front (old ++ rest) (length new)
    ∙ drop_at old rest (length new) l in
    rw (take_at front (old ++ rest) at e, behind) refl

-- from a place on: so many, and what is behind them
cut : (b : List ℕ) (i n : ℕ) → drop i b ≡ take n (drop i b) ++ drop (i + n) b
cut b i n = sym (take-append-drop n (drop i b)) ∙ ap (λ (l : List ℕ). take n (drop i b) ++ l) (drop-drop n i b)

pub piece_long : (b : List ℕ) (i n : ℕ) → i + n ≤ length b → length (take n (drop i b)) ≡ n
piece_long b i n h = length-take-le n (drop i b) (rw (length-drop i b) (omega arith))

-- six pieces
pub six_pieces : (b : List ℕ)
    → b ≡ take 8 b ++ (take 4 (drop 8 b) ++ (take 2 (drop 12 b) ++ (take 6 (drop 14 b) ++ (take 16644 (drop 20 b) ++ drop 16664 b))))
six_pieces b =
    sym (take-append-drop 8 b)
    ∙ ap (λ (l : List ℕ). take 8 b ++ l)
    (cut b 8 4
    ∙ ap (λ (l : List ℕ). take 4 (drop 8 b) ++ l)
    (cut b 12 2
    ∙ ap (λ (l : List ℕ). take 2 (drop 12 b) ++ l)
    (cut b 14 6 ∙ ap (λ (l : List ℕ). take 6 (drop 14 b) ++ l) (cut b 20 16644))))

-- three of seven pieces replaced: the second, the fourth and the sixth
three_replaced : (p1 p2 p3 p4 p5 p6 p7 x y z o1 o2 o3 : List ℕ) (a b c : ℕ) → length p1 ≡ a → length p2 ≡ length x → length p4 ≡ length y → length p6 ≡ length z
    → b ≡ a + (length x + length p3) → c ≡ b + (length y + length p5)
    → o1 ≡ overlay (p1 ++ (p2 ++ (p3 ++ (p4 ++ (p5 ++ (p6 ++ p7)))))) a x → o2 ≡ overlay o1 b y → o3 ≡ overlay o2 c z
    → o3 ≡ p1 ++ (x ++ (p3 ++ (y ++ (p5 ++ (z ++ p7)))))
three_replaced p1 p2 p3 p4 p5 p6 p7 x y z o1 o2 o3 a b c l1 l2 l4 l6 pb pc e1 e2 e3 =
    let f1 = p1 ++ (x ++ p3) in
    let f2 = f1 ++ (y ++ p5) in
    let n1 : length f1 ≡ b = simp length-append (omega arith) in
    let n2 : length f2 ≡ c = rw (length-append f1 (y ++ p5), length-append y p5) (omega arith) in
    let s1 : o1 ≡ f1 ++ (p4 ++ (p5 ++ (p6 ++ p7))) = e1 ∙ replaced p1 p2 (p3 ++ (p4 ++ (p5 ++ (p6 ++ p7)))) x a l1 l2 ∙ simp append_assoc in
    let s2 : o2 ≡ f2 ++ (p6 ++ p7) = e2 ∙ rw s1 (replaced f1 p4 (p5 ++ (p6 ++ p7)) y b n1 l4 ∙ simp append_assoc) in
    e3 ∙ rw s2 (replaced f2 p6 p7 z c n2 l6 ∙ simp append_assoc)

module _ (b : List ℕ) (h : length b ≡ 34120) where
  -- the number of letters, the last choices, and the board with the tables
  pub parts_put : (x y z o1 o2 o3 : List ℕ) → length x ≡ 4 → length y ≡ 6 → length z ≡ 13360
      → o1 ≡ overlay b 8 x → o2 ≡ overlay o1 14 y → o3 ≡ overlay o2 16664 z
      → o3 ≡ take 8 b ++ (x ++ (take 2 (drop 12 b) ++ (y ++ (take 16644 (drop 20 b) ++ (z ++ drop 30024 b)))))
  parts_put x y z o1 o2 o3 lx ly lz e1 e2 e3 =
      let n1 : length (take 8 b) ≡ 8 = length-take-le 8 b (omega arith) in
      let n2 = piece_long b 8 4 (omega arith) in
      let n3 = piece_long b 12 2 (omega arith) in
      let n4 = piece_long b 14 6 (omega arith) in
      let n5 = piece_long b 20 16644 (omega arith) in
      let n6 = piece_long b 16664 13360 (omega arith) in
      let seven : b ≡ take 8 b ++ (take 4 (drop 8 b) ++ (take 2 (drop 12 b) ++ (take 6 (drop 14 b) ++ (take 16644 (drop 20 b) ++ (take 13360 (drop 16664 b) ++ drop 30024 b))))) =
      six_pieces b ∙ ap (λ (l : List ℕ). take 8 b ++ (take 4 (drop 8 b) ++ (take 2 (drop 12 b) ++ (take 6 (drop 14 b) ++ (take 16644 (drop 20 b) ++ l))))) (cut b 16664 13360) in
      three_replaced (take 8 b) (take 4 (drop 8 b)) (take 2 (drop 12 b)) (take 6 (drop 14 b)) (take 16644 (drop 20 b)) (take 13360 (drop 16664 b)) (drop 30024 b) x y z o1 o2 o3 8 14 16664
      n1 (n2 ∙ sym lx) (n4 ∙ sym ly) (n6 ∙ sym lz) (omega arith) (omega arith) (e1 ∙ ap (λ (l : List ℕ). overlay l 8 x) seven) e2 e3

  pub head_put : (x y z o1 o2 o3 : List ℕ) → length x ≡ 8 → length y ≡ 2 → length z ≡ 16644
      → o1 ≡ overlay b 0 x → o2 ≡ overlay o1 12 y → o3 ≡ overlay o2 20 z
      → o3 ≡ x ++ (take 4 (drop 8 b) ++ (y ++ (take 6 (drop 14 b) ++ (z ++ drop 16664 b))))
  head_put x y z o1 o2 o3 lx ly lz e1 e2 e3 =
      let n1 : length (take 8 b) ≡ 8 = length-take-le 8 b (omega arith) in
      let n2 = piece_long b 8 4 (omega arith) in
      let n3 = piece_long b 12 2 (omega arith) in
      let n4 = piece_long b 14 6 (omega arith) in
      let n5 = piece_long b 20 16644 (omega arith) in
      three_replaced [] (take 8 b) (take 4 (drop 8 b)) (take 2 (drop 12 b)) (take 6 (drop 14 b)) (take 16644 (drop 20 b)) (drop 16664 b) x y z o1 o2 o3 0 12 20
      refl (n1 ∙ sym lx) (n3 ∙ sym ly) (n5 ∙ sym lz) (omega arith) (omega arith) (e1 ∙ ap (λ (l : List ℕ). overlay l 0 x) (six_pieces b)) e2 e3

-- what stands in the middle
piece_at : (front mid rest : List ℕ) (i n : ℕ) → length front ≡ i → length mid ≡ n → take n (drop i (front ++ (mid ++ rest))) ≡ mid
piece_at front mid rest i n e l = rw (drop_at front (mid ++ rest) i e) (take_at mid rest n l)

-- what a step never changes: the first two pieces of seven, the fourth, the sixth
module _ (v l q d c p rest : List ℕ) (lv : length v ≡ 4) (ll : length l ≡ 4) (lq : length q ≡ 4) (ld : length d ≡ 2) (lc : length c ≡ 6) (lp : length p ≡ 16644) where
  abbrev pub Seven : List ℕ
  Seven = v ++ (l ++ (q ++ (d ++ (c ++ (p ++ rest)))))

  pub kept_first : take 8 Seven ≡ v ++ l
  kept_first =
      ap (take 8) (sym (append_assoc v l (q ++ (d ++ (c ++ (p ++ rest))))))
      ∙ take_at (v ++ l) (q ++ (d ++ (c ++ (p ++ rest)))) 8 (length-append v l ∙ omega arith)

  pub kept_desks : take 2 (drop 12 Seven) ≡ d
  kept_desks =
      let all : Seven ≡ (v ++ (l ++ q)) ++ (d ++ (c ++ (p ++ rest))) = simp append_assoc in
      let long : length (v ++ (l ++ q)) ≡ 12 = simp length-append (omega arith) in
      ap (λ (b : List ℕ). take 2 (drop 12 b)) all ∙ piece_at (v ++ (l ++ q)) d (c ++ (p ++ rest)) 12 2 long ld

  pub kept_plan : take 16644 (drop 20 Seven) ≡ p
  kept_plan =
      let all : Seven ≡ (v ++ (l ++ (q ++ (d ++ c)))) ++ (p ++ rest) = simp append_assoc in
      let long : length (v ++ (l ++ (q ++ (d ++ c)))) ≡ 20 = simp length-append (omega arith) in
      ap (λ (b : List ℕ). take 16644 (drop 20 b)) all ∙ piece_at (v ++ (l ++ (q ++ (d ++ c)))) p rest 20 16644 long lp

-- pieces grouped otherwise
pub grouped_head : (v l q d c p z rest : List ℕ)
    → (v ++ l) ++ (q ++ (d ++ (c ++ ((p ++ z) ++ rest)))) ≡ v ++ (l ++ (q ++ (d ++ (c ++ (p ++ (z ++ rest))))))
grouped_head v l q d c p z rest = simp append_assoc

pub grouped_image : (v l q d c p rest : List ℕ) → (v ++ l) ++ (q ++ (d ++ (c ++ (p ++ rest)))) ≡ (v ++ (l ++ (q ++ (d ++ c)))) ++ (p ++ rest)
grouped_image v l q d c p rest = simp append_assoc
