-- The numbers of a board: where each stands.
use mathlib.Core.Path.{◌≡◌, refl, ◌∙◌}
use mathlib.Core.List.{List, [], ◌∷◌, ◌++◌}
use Prim.Native.Nat.{ℕ, ◌+◌, ◌*◌, ◌<◌}
use native.Mathlib.Nat.{add-zero, zero-add}
use native.Mathlib.Omega.{arith}
use lib.ListN.{length, get_or, length-append}
use Rattle.base.specs.Range.{joined}
use Rattle.base.specs.Lists.{table}
use Rattle.base.proofs.Tables.{length_table}
use Rattle.plan_laws.proofs.Held.{Held, held_left, held_all}
use Rattle.image_laws.specs.Held.{AllBelow}
use Rattle.image_laws.proofs.Pieces.{piece, piece_next, piece_all, two, table_piece, rows_piece, held_next, held_table, held_rows, length_rows, none_below, cons_below, append_below, joined_below, table_below}

-- a board of a number for each channel, two for each task and one more for each, two for each desk and parent, and the rest
module _ (channel task children word hint held : ℕ → ℕ) (ready : List ℕ) where
  unfoldable pub board_of : List ℕ
  board_of =
      table 128 channel
      ++ (joined 64 (λ k. task k ∷ children k ∷ [])
      ++ (table 64 word
      ++ (joined 384 (λ k. hint k ∷ held k ∷ [])
      ++ ready)))

  abbrev fourth : List ℕ
  fourth = joined 384 (λ k. hint k ∷ held k ∷ []) ++ ready

  abbrev third : List ℕ
  third = table 64 word ++ fourth

  abbrev second : List ℕ
  second = joined 64 (λ k. task k ∷ children k ∷ []) ++ third

  pub length_board : length ready ≡ 6 → length board_of ≡ 1094
  unfolding board_of
  length_board e =
      omega (
        arith,
        length-append (table 128 channel) second,
        length-append (joined 64 (λ k. task k ∷ children k ∷ [])) third,
        length-append (table 64 word) fourth,
        length-append (joined 384 (λ k. hint k ∷ held k ∷ [])) ready,
        length_table 128 channel,
        length_table 64 word,
        length_rows 64 (λ k. task k ∷ children k ∷ []) (λ i. refl),
        length_rows 384 (λ k. hint k ∷ held k ∷ []) (λ i. refl),
      )

  -- each number, read
  module _ (x : List ℕ) (same : x ≡ board_of) where
    all : Held x 0 (table 128 channel ++ second)
    unfolding board_of
    all = rw (← same) (held_all x)

    tasks_on_lem : Held x 128 second
    tasks_on_lem = held_next x 0 128 (table 128 channel) second (length_table 128 channel) all

    words_on_lem : Held x 256 third
    words_on_lem = held_next x 128 128 (joined 64 (λ k. task k ∷ children k ∷ [])) third (length_rows 64 (λ k. task k ∷ children k ∷ []) (λ i. refl)) tasks_on_lem

    parents_on_lem : Held x 320 fourth
    parents_on_lem = held_next x 256 64 (table 64 word) fourth (length_table 64 word) words_on_lem

    pub on_channel_lem : (k : ℕ) → k < 128 → get_or x k 0 ≡ channel k
    on_channel_lem k l = rw (zero-add k) at (held_table x 0 128 channel k (held_left x 0 (table 128 channel) second all) l)

    task_held : (k : ℕ) → k < 64 → Held x (128 + 2 * k) (task k ∷ children k ∷ [])
    task_held k l =
        held_rows x 128 64 (λ k. task k ∷ children k ∷ []) k (λ i. refl) (held_left x 128 (joined 64 (λ k. task k ∷ children k ∷ [])) third tasks_on_lem) l

    pub on_task : (k : ℕ) → k < 64 → get_or x (128 + 2 * k) 0 ≡ task k
    on_task k l = rw (add-zero (128 + 2 * k)) at (task_held k l 0 (omega arith))

    pub on_children : (k : ℕ) → k < 64 → get_or x (129 + 2 * k) 0 ≡ children k
    on_children k l =
        let e : 128 + 2 * k + 1 ≡ 129 + 2 * k = omega arith in
        rw e at (task_held k l 1 (omega arith))

    pub on_word : (k : ℕ) → k < 64 → get_or x (256 + k) 0 ≡ word k
    on_word k l = held_table x 256 64 word k (held_left x 256 (table 64 word) fourth words_on_lem) l

    parent_held : (k : ℕ) → k < 384 → Held x (320 + 2 * k) (hint k ∷ held k ∷ [])
    parent_held k l =
        held_rows x 320 384 (λ k. hint k ∷ held k ∷ []) k (λ i. refl) (held_left x 320 (joined 384 (λ k. hint k ∷ held k ∷ [])) ready parents_on_lem) l

    pub on_hint : (k : ℕ) → k < 384 → get_or x (320 + 2 * k) 0 ≡ hint k
    on_hint k l = rw (add-zero (320 + 2 * k)) at (parent_held k l 0 (omega arith))

    pub on_held : (k : ℕ) → k < 384 → get_or x (321 + 2 * k) 0 ≡ held k
    on_held k l =
        let e : 320 + 2 * k + 1 ≡ 321 + 2 * k = omega arith in
        rw e at (parent_held k l 1 (omega arith))

    pub on_ready : (k : ℕ) → k < length ready → get_or x (1088 + k) 0 ≡ get_or ready k 0
    on_ready k l = held_next x 320 768 (joined 384 (λ k. hint k ∷ held k ∷ [])) ready (length_rows 384 (λ k. hint k ∷ held k ∷ []) (λ i. refl)) parents_on_lem k l

  -- all numbers below a bound
  pub board_below : (m : ℕ) → 0 < m
      → ((k : ℕ) → k < 128 → channel k < m)
      → ((k : ℕ) → k < 64 → task k < m)
      → ((k : ℕ) → k < 64 → children k < m)
      → ((k : ℕ) → k < 64 → word k < m)
      → ((k : ℕ) → k < 384 → hint k < m)
      → ((k : ℕ) → k < 384 → held k < m)
      → AllBelow m ready
      → AllBelow m board_of
  unfolding board_of
  board_below m some a b c d e f g =
      append_below m some (table 128 channel) second (table_below m some 128 channel a)
      (append_below m some (joined 64 (λ k. task k ∷ children k ∷ [])) third
      (joined_below m some 64 (λ k. task k ∷ children k ∷ []) (λ k l. cons_below m some (task k) (children k ∷ []) (b k l) (cons_below m some (children k) [] (c k l) (none_below m some))))
      (append_below m some (table 64 word) fourth (table_below m some 64 word d)
      (append_below m some (joined 384 (λ k. hint k ∷ held k ∷ [])) ready
      (joined_below m some 384 (λ k. hint k ∷ held k ∷ []) (λ k l. cons_below m some (hint k) (held k ∷ []) (e k l) (cons_below m some (held k) [] (f k l) (none_below m some))))
      g)))

  -- numbers that are those of x, place by place, are x
  module _ (x : List ℕ) (long : length x ≡ 1094)
      (same_channel_lem : (k : ℕ) → k < 128 → channel k ≡ get_or x k 0)
      (same_task_lem : (k : ℕ) → k < 64 → task k ≡ get_or x (128 + 2 * k) 0)
      (same-children : (k : ℕ) → k < 64 → children k ≡ get_or x (129 + 2 * k) 0)
      (same_word_lem : (k : ℕ) → k < 64 → word k ≡ get_or x (256 + k) 0)
      (same-hint : (k : ℕ) → k < 384 → hint k ≡ get_or x (320 + 2 * k) 0)
      (same-held : (k : ℕ) → k < 384 → held k ≡ get_or x (321 + 2 * k) 0)
      (same_ready : ready ≡ piece x 1088 6) where
    channel_part : table 128 channel ≡ piece x 0 128
    channel_part = table_piece x 0 128 channel (omega arith) (λ k l. rw (zero-add k) (same_channel_lem k l))

    task_part : joined 64 (λ k. task k ∷ children k ∷ []) ≡ piece x 128 128
    task_part =
        rows_piece x 128 64 (λ k. task k ∷ children k ∷ [])
        (λ k l.
        let e : 129 + 2 * k ≡ 128 + 2 * k + 1 = omega arith in
        rw (same_task_lem k l, same-children k l, e) (two x (128 + 2 * k) (omega arith)))

    word_part : table 64 word ≡ piece x 256 64
    word_part = table_piece x 256 64 word (omega arith) same_word_lem

    hint_part : joined 384 (λ k. hint k ∷ held k ∷ []) ≡ piece x 320 768
    hint_part =
        rows_piece x 320 384 (λ k. hint k ∷ held k ∷ [])
        (λ k l.
        let e : 321 + 2 * k ≡ 320 + 2 * k + 1 = omega arith in
        rw (same-hint k l, same-held k l, e) (two x (320 + 2 * k) (omega arith)))

    pub board_same : board_of ≡ x
    unfolding board_of
    board_same =
        piece_next x 0 128 966 (table 128 channel) second channel_part
        (piece_next x 128 128 838 (joined 64 (λ k. task k ∷ children k ∷ [])) third task_part
        (piece_next x 256 64 774 (table 64 word) fourth word_part
        (piece_next x 320 768 6 (joined 384 (λ k. hint k ∷ held k ∷ [])) ready hint_part same_ready)))
        ∙ piece_all x 1094 long
