-- Plans and what is answered about them: the paper's starred edges that concern plans, its worked plan, and for each refusal an
-- input on either side of its condition.
use Rattle.std.proofs.Common.{ℕ, ◌+◌, ◌-◌, Bool, eqb, List, [], ◌∷◌, ◌++◌}
use Rattle.base.specs.Lists.{table}
use Rattle.plan.specs.declared.Instruction.{Instruction}
use Rattle.plan.specs.declared.Word.{Word}
use Rattle.plan.specs.Kinds.{op_create, op_sync, op_finish, op_send, op_receive, op_set, op_add}
use Rattle.plan.specs.Words.{levels}
use Rattle.plan.specs.Programs.{Program, Programs}
use Rattle.plan.specs.Layout.{layout}
use Rattle.plan.specs.Outcomes.{start_number}

-- desks, a plan file, and the number that is answered
pub record Edge : Type 0 where
  pub processors : ℕ
  pub file : List ℕ
  pub number : ℕ

abbrev pub edge_holds : Edge → Bool
edge_holds e = eqb (start_number e.processors e.file) e.number

-- a file on one desk; a plan on one desk
abbrev file : List ℕ → ℕ → Edge
file b n = record { processors = 1; file = b; number = n }

abbrev plan : Programs → ℕ → Edge
plan m n = file (layout m) n

-- an instruction of kind k with argument a on level l, and on level 0
abbrev pub does_on : ℕ → ℕ → ℕ → Instruction
does_on l k a = record { opcode = k; level = l; operand = a }

abbrev pub does : ℕ → ℕ → Instruction
does k a = does_on 0 k a

-- a word whose level 0 is n, and its others 0
abbrev pub word_of : ℕ → Word
word_of n = levels n 0 0 0

abbrev end : Instruction
end = does op_finish 0

-- one task that does these and ends
abbrev alone : Program → Programs
alone g = (g ++ (end ∷ [])) ∷ []

-- task 1 creates task 2 and does these, task 2 does those
abbrev pair : Program → Program → Programs
pair g h = (does op_create 2 ∷ (g ++ (end ∷ []))) ∷ (h ++ (end ∷ [])) ∷ []

-- task 1 creates tasks 2 and 3 and does the first, task 2 the second, task 3 the third
abbrev three : Program → Program → Program → Programs
three g h i = (does op_create 2 ∷ does op_create 3 ∷ (g ++ (end ∷ []))) ∷ (h ++ (end ∷ [])) ∷ (i ++ (end ∷ [])) ∷ []

-- n tasks: task 1 creates tasks 2 to 63, task 2 those from 64 on
abbrev many : ℕ → Programs
many n =
    (table 62 (λ k. does op_create (k + 2)) ++ (end ∷ []))
    ∷ (table (n - 63) (λ k. does op_create (k + 64)) ++ (end ∷ []))
    ∷ table (n - 2) (λ k. end ∷ [])

-- a file of one finish
abbrev pub single : List ℕ
single = 1 ∷ 0 ∷ 1 ∷ 0 ∷ 8 ∷ 0 ∷ 1 ∷ 0 ∷ 3 ∷ 0 ∷ 0 ∷ 0 ∷ []

-- "Empty plan: 2. One task, one finish, 12 bytes: accepted. .. 65: 2"
unfoldable pub starred : List Edge
starred = file [] 2 ∷ file single 0 ∷ plan (many 65) 2 ∷ []

-- "T=2 (44 bytes; task 1: create 2, set 7, send 3, sync, finish; task 2: receive 3, add 1, finish)", byte by byte
abbrev pub worked : List ℕ
worked =
    2 ∷ 0 ∷ 8 ∷ 0 ∷ 12 ∷ 0 ∷ 5 ∷ 0 ∷ 32 ∷ 0 ∷ 3 ∷ 0
    ∷ 1 ∷ 0 ∷ 2 ∷ 0 ∷ 6 ∷ 0 ∷ 7 ∷ 0 ∷ 4 ∷ 0 ∷ 3 ∷ 0 ∷ 2 ∷ 0 ∷ 0 ∷ 0 ∷ 3 ∷ 0 ∷ 0 ∷ 0
    ∷ 5 ∷ 0 ∷ 3 ∷ 0 ∷ 7 ∷ 0 ∷ 1 ∷ 0 ∷ 3 ∷ 0 ∷ 0 ∷ 0 ∷ []

unfoldable pub others : List Edge
others =
    file worked 0
    -- 1
    ∷ record { processors = 0; file = single; number = 1 }
    ∷ record { processors = 6; file = single; number = 0 }
    ∷ record { processors = 7; file = single; number = 1 }
    ∷ record { processors = 7; file = []; number = 1 }
    -- 2: three bytes, no task, no instruction, N, offset, a byte too few and too many, the second offset
    ∷ file (1 ∷ 0 ∷ 1 ∷ []) 2
    ∷ file (0 ∷ 0 ∷ 0 ∷ 0 ∷ []) 2
    ∷ file (1 ∷ 0 ∷ 0 ∷ 0 ∷ 8 ∷ 0 ∷ 0 ∷ 0 ∷ []) 2
    ∷ file (1 ∷ 0 ∷ 2 ∷ 0 ∷ 8 ∷ 0 ∷ 1 ∷ 0 ∷ 3 ∷ 0 ∷ 0 ∷ 0 ∷ []) 2
    ∷ file (1 ∷ 0 ∷ 1 ∷ 0 ∷ 9 ∷ 0 ∷ 1 ∷ 0 ∷ 3 ∷ 0 ∷ 0 ∷ 0 ∷ []) 2
    ∷ file (1 ∷ 0 ∷ 1 ∷ 0 ∷ 8 ∷ 0 ∷ 1 ∷ 0 ∷ 3 ∷ 0 ∷ 0 ∷ []) 2
    ∷ file (1 ∷ 0 ∷ 1 ∷ 0 ∷ 8 ∷ 0 ∷ 1 ∷ 0 ∷ 3 ∷ 0 ∷ 0 ∷ 0 ∷ 0 ∷ []) 2
    ∷ file (2 ∷ 0 ∷ 3 ∷ 0 ∷ 12 ∷ 0 ∷ 2 ∷ 0 ∷ 16 ∷ 0 ∷ 1 ∷ 0 ∷ 1 ∷ 0 ∷ 2 ∷ 0 ∷ 3 ∷ 0 ∷ 0 ∷ 0 ∷ 3 ∷ 0 ∷ 0 ∷ 0 ∷ []) 2
    -- high bytes count: T 257, an offset of 264
    ∷ file (1 ∷ 1 ∷ 1 ∷ 0 ∷ 8 ∷ 0 ∷ 1 ∷ 0 ∷ 3 ∷ 0 ∷ 0 ∷ 0 ∷ []) 2
    ∷ file (1 ∷ 0 ∷ 1 ∷ 0 ∷ 8 ∷ 1 ∷ 1 ∷ 0 ∷ 3 ∷ 0 ∷ 0 ∷ 0 ∷ []) 2
    -- 3: kinds 0 and 8, a second byte, arguments
    ∷ plan (alone (does 0 0 ∷ [])) 3
    ∷ plan (alone (does 8 0 ∷ [])) 3
    ∷ file (1 ∷ 0 ∷ 1 ∷ 0 ∷ 8 ∷ 0 ∷ 1 ∷ 0 ∷ 3 ∷ 1 ∷ 0 ∷ 0 ∷ []) 3
    ∷ plan ((does op_finish 1 ∷ []) ∷ []) 3
    ∷ plan (alone (does op_sync 1 ∷ [])) 3
    ∷ plan (alone (does op_create 1 ∷ [])) 3
    ∷ plan (pair (does op_create 3 ∷ []) []) 3
    ∷ plan (alone (does op_send 0 ∷ [])) 3
    ∷ plan (alone (does op_send 129 ∷ [])) 3
    ∷ plan (alone (does op_receive 0 ∷ [])) 3
    ∷ plan (alone (does op_receive 129 ∷ [])) 3
    ∷ plan (pair (does op_send 1 ∷ does op_receive 128 ∷ []) (does op_receive 1 ∷ does op_send 128 ∷ [])) 0
    ∷ plan (alone (does op_set 65535 ∷ does op_add 65535 ∷ does op_sync 0 ∷ [])) 0
    -- second bytes: of set and add up to 3, of the other kinds 0
    ∷ plan (alone (does_on 1 op_set 7 ∷ does_on 2 op_add 7 ∷ does_on 3 op_set 7 ∷ does_on 3 op_add 7 ∷ [])) 0
    ∷ plan (alone (does_on 4 op_set 7 ∷ [])) 3
    ∷ plan (alone (does_on 4 op_add 7 ∷ [])) 3
    ∷ plan (alone (does_on 255 op_add 7 ∷ [])) 3
    ∷ plan (alone (does_on 1 op_sync 0 ∷ [])) 3
    ∷ plan (pair (does_on 1 op_send 1 ∷ []) (does op_receive 1 ∷ [])) 3
    ∷ plan (pair (does op_send 1 ∷ []) (does_on 1 op_receive 1 ∷ [])) 3
    ∷ plan ((does_on 1 op_create 2 ∷ end ∷ []) ∷ (end ∷ []) ∷ []) 3
    -- 4: no finish at the end, one before it; after 3
    ∷ plan ((does op_sync 0 ∷ []) ∷ []) 4
    ∷ plan (alone (end ∷ [])) 4
    ∷ plan ((does op_sync 0 ∷ does 8 0 ∷ []) ∷ []) 3
    -- 5: not created, created twice, created by itself, by a higher number; after 4
    ∷ plan ((end ∷ []) ∷ (end ∷ []) ∷ []) 5
    ∷ plan (pair (does op_create 2 ∷ []) []) 5
    ∷ plan ((end ∷ []) ∷ (does op_create 2 ∷ end ∷ []) ∷ []) 5
    ∷ plan ((does op_create 3 ∷ end ∷ []) ∷ (end ∷ []) ∷ (does op_create 2 ∷ end ∷ []) ∷ []) 5
    ∷ plan (pair [] (does op_create 2 ∷ [])) 5
    ∷ plan ((end ∷ []) ∷ (does op_sync 0 ∷ []) ∷ []) 4
    -- 6: one task at both ends, two senders, two receivers, two of each end in one task
    ∷ plan (alone (does op_send 1 ∷ does op_receive 1 ∷ [])) 6
    ∷ plan (three (does op_send 1 ∷ []) (does op_send 1 ∷ []) (does op_receive 1 ∷ [])) 6
    ∷ plan (three (does op_receive 1 ∷ []) (does op_receive 1 ∷ []) (does op_send 1 ∷ [])) 6
    ∷ plan (three (does op_send 128 ∷ []) (does op_receive 128 ∷ []) (does op_send 128 ∷ [])) 6
    ∷ plan (pair (does op_send 1 ∷ does op_send 1 ∷ []) (does op_receive 1 ∷ does op_receive 1 ∷ [])) 0
    ∷ plan (pair (does op_send 1 ∷ does op_receive 2 ∷ []) (does op_receive 1 ∷ does op_send 2 ∷ [])) 0
    -- only a send, only a receive, one of two channels, two with an end each; none used
    ∷ plan (alone (does op_send 1 ∷ [])) 6
    ∷ plan (alone (does op_receive 1 ∷ [])) 6
    ∷ plan (pair (does op_send 128 ∷ does op_send 128 ∷ []) []) 6
    ∷ plan (pair [] (does op_receive 128 ∷ [])) 6
    ∷ plan (pair (does op_send 1 ∷ does op_send 2 ∷ []) (does op_receive 1 ∷ [])) 6
    ∷ plan (pair (does op_send 1 ∷ []) (does op_receive 2 ∷ [])) 6
    ∷ plan (pair [] []) 0
    -- after 5
    ∷ plan ((end ∷ []) ∷ (does op_send 1 ∷ does op_receive 1 ∷ end ∷ []) ∷ []) 5
    ∷ plan ((end ∷ []) ∷ (does op_send 1 ∷ end ∷ []) ∷ []) 5
    ∷ []

abbrev pub edges : List Edge
edges = starred ++ others
