-- Files of the new edition and outputs of so many bytes 9: what is answered, and what is written. They are recorded cases of an independent model.
use Rattle.std.proofs.Common.{ℕ, Bool, ◌&&◌, eqb, List, [], ◌∷◌, ◌++◌, length, drop, replicate}
use Rattle.plan.specs.Answers.{write_number, write_size}
use Rattle.plan.specs.Conversions.{convert_answer, convert_output}
use Rattle.plan.proofs.WriteEdges.{same_bytes}

-- a file, the size of the output, the number that is answered, and what is written, nothing where it is refused
pub record RepeatEdge : Type 0 where
  pub file : List ℕ
  pub room : ℕ
  pub number : ℕ
  pub written : List ℕ

-- the answer is that number, as many bytes are written, and those behind them are the output's
abbrev pub repeat_holds : RepeatEdge → Bool
repeat_holds e =
    let out : List ℕ = replicate e.room 9 in
    eqb (write_number (convert_answer e.file out)) e.number
    && (eqb (write_size (convert_answer e.file out)) (length e.written)
    && same_bytes (convert_output e.file out) (e.written ++ drop (length e.written) out))

unfoldable pub repeat_edges : List RepeatEdge
repeat_edges =
    record {
      file =
          1 ∷ 0 ∷ 1 ∷ 0 ∷ 8 ∷ 0 ∷ 1 ∷ 0 ∷ 3 ∷ 0 ∷ 0 ∷ 0 ∷ [];
      room = 12;
      number = 0;
      written = 1 ∷ 0 ∷ 1 ∷ 0 ∷ 8 ∷ 0 ∷ 1 ∷ 0 ∷ 3 ∷ 0 ∷ 0 ∷ 0 ∷ [];
    }
    ∷ record {
      file =
          1 ∷ 0 ∷ 3 ∷ 0 ∷ 8 ∷ 0 ∷ 3 ∷ 0 ∷ 8 ∷ 0 ∷ 64 ∷ 0 ∷ 9 ∷ 0 ∷ 0 ∷ 0 ∷ 3 ∷ 0 ∷ 0 ∷ 0 ∷ [];
      room = 12;
      number = 0;
      written = 1 ∷ 0 ∷ 1 ∷ 0 ∷ 8 ∷ 0 ∷ 1 ∷ 0 ∷ 3 ∷ 0 ∷ 0 ∷ 0 ∷ [];
    }
    ∷ record {
      file =
          1 ∷ 0 ∷ 3 ∷ 0 ∷ 8 ∷ 0 ∷ 3 ∷ 0 ∷ 3 ∷ 0 ∷ 0 ∷ 0 ∷ 8 ∷ 0 ∷ 1 ∷ 0 ∷ 9 ∷ 0 ∷ 0 ∷ 0 ∷ [];
      room = 12;
      number = 0;
      written = 1 ∷ 0 ∷ 1 ∷ 0 ∷ 8 ∷ 0 ∷ 1 ∷ 0 ∷ 3 ∷ 0 ∷ 0 ∷ 0 ∷ [];
    }
    ∷ record {
      file =
          1 ∷ 0 ∷ 3 ∷ 0 ∷ 8 ∷ 0 ∷ 3 ∷ 0 ∷ 3 ∷ 0 ∷ 0 ∷ 0 ∷ 8 ∷ 0 ∷ 64 ∷ 0 ∷ 9 ∷ 0 ∷ 0 ∷ 0 ∷ [];
      room = 12;
      number = 0;
      written = 1 ∷ 0 ∷ 1 ∷ 0 ∷ 8 ∷ 0 ∷ 1 ∷ 0 ∷ 3 ∷ 0 ∷ 0 ∷ 0 ∷ [];
    }
    ∷ record {
      file =
          1 ∷ 0 ∷ 3 ∷ 0 ∷ 8 ∷ 0 ∷ 3 ∷ 0 ∷ 8 ∷ 0 ∷ 1 ∷ 0 ∷ 3 ∷ 0 ∷ 0 ∷ 0 ∷ 9 ∷ 0 ∷ 0 ∷ 0 ∷ [];
      room = 12;
      number = 0;
      written = 1 ∷ 0 ∷ 1 ∷ 0 ∷ 8 ∷ 0 ∷ 1 ∷ 0 ∷ 3 ∷ 0 ∷ 0 ∷ 0 ∷ [];
    }
    ∷ record {
      file =
          1 ∷ 0 ∷ 2 ∷ 0 ∷ 8 ∷ 0 ∷ 2 ∷ 0 ∷ 6 ∷ 1 ∷ 1 ∷ 0 ∷ 3 ∷ 0 ∷ 0 ∷ 0 ∷ [];
      room = 16;
      number = 0;
      written = 1 ∷ 0 ∷ 2 ∷ 0 ∷ 8 ∷ 0 ∷ 2 ∷ 0 ∷ 6 ∷ 1 ∷ 1 ∷ 0 ∷ 3 ∷ 0 ∷ 0 ∷ 0 ∷ [];
    }
    ∷ record {
      file =
          1 ∷ 0 ∷ 4 ∷ 0 ∷ 8 ∷ 0 ∷ 4 ∷ 0 ∷ 8 ∷ 0 ∷ 1 ∷ 0 ∷ 7 ∷ 0 ∷ 1 ∷ 0 ∷ 3 ∷ 0 ∷ 0 ∷ 0 ∷ 9 ∷ 0 ∷ 0 ∷ 0 ∷ [];
      room = 16;
      number = 0;
      written = 1 ∷ 0 ∷ 2 ∷ 0 ∷ 8 ∷ 0 ∷ 2 ∷ 0 ∷ 7 ∷ 0 ∷ 1 ∷ 0 ∷ 3 ∷ 0 ∷ 0 ∷ 0 ∷ [];
    }
    ∷ record {
      file =
          [];
      room = 1;
      number = 2;
      written = [];
    }
    ∷ record {
      file =
          1 ∷ 0 ∷ 2 ∷ 0 ∷ 8 ∷ 0 ∷ 2 ∷ 0 ∷ 10 ∷ 0 ∷ 0 ∷ 0 ∷ 3 ∷ 0 ∷ 0 ∷ 0 ∷ [];
      room = 16;
      number = 3;
      written = [];
    }
    ∷ record {
      file =
          1 ∷ 0 ∷ 2 ∷ 0 ∷ 8 ∷ 0 ∷ 2 ∷ 0 ∷ 0 ∷ 0 ∷ 0 ∷ 0 ∷ 3 ∷ 0 ∷ 0 ∷ 0 ∷ [];
      room = 16;
      number = 3;
      written = [];
    }
    ∷ record {
      file =
          1 ∷ 0 ∷ 4 ∷ 0 ∷ 8 ∷ 0 ∷ 4 ∷ 0 ∷ 8 ∷ 0 ∷ 2 ∷ 0 ∷ 7 ∷ 4 ∷ 5 ∷ 0 ∷ 9 ∷ 0 ∷ 0 ∷ 0 ∷ 3 ∷ 0 ∷ 0 ∷ 0 ∷ [];
      room = 24;
      number = 3;
      written = [];
    }
    ∷ record {
      file =
          1 ∷ 0 ∷ 4 ∷ 0 ∷ 8 ∷ 0 ∷ 4 ∷ 0 ∷ 8 ∷ 1 ∷ 2 ∷ 0 ∷ 7 ∷ 0 ∷ 1 ∷ 0 ∷ 9 ∷ 0 ∷ 0 ∷ 0 ∷ 3 ∷ 0 ∷ 0 ∷ 0 ∷ [];
      room = 24;
      number = 3;
      written = [];
    }
    ∷ record {
      file =
          1 ∷ 0 ∷ 2 ∷ 0 ∷ 8 ∷ 0 ∷ 2 ∷ 0 ∷ 9 ∷ 0 ∷ 0 ∷ 0 ∷ 3 ∷ 0 ∷ 0 ∷ 0 ∷ [];
      room = 16;
      number = 21;
      written = [];
    }
    ∷ record {
      file =
          1 ∷ 0 ∷ 2 ∷ 0 ∷ 8 ∷ 0 ∷ 2 ∷ 0 ∷ 8 ∷ 0 ∷ 2 ∷ 0 ∷ 3 ∷ 0 ∷ 0 ∷ 0 ∷ [];
      room = 16;
      number = 21;
      written = [];
    }
    ∷ record {
      file =
          1 ∷ 0 ∷ 2 ∷ 0 ∷ 8 ∷ 0 ∷ 2 ∷ 0 ∷ 3 ∷ 0 ∷ 0 ∷ 0 ∷ 9 ∷ 0 ∷ 0 ∷ 0 ∷ [];
      room = 16;
      number = 21;
      written = [];
    }
    ∷ record {
      file =
          1 ∷ 0 ∷ 2 ∷ 0 ∷ 8 ∷ 0 ∷ 2 ∷ 0 ∷ 3 ∷ 0 ∷ 0 ∷ 0 ∷ 8 ∷ 0 ∷ 1 ∷ 0 ∷ [];
      room = 16;
      number = 21;
      written = [];
    }
    ∷ record {
      file =
          1 ∷ 0 ∷ 3 ∷ 0 ∷ 8 ∷ 0 ∷ 3 ∷ 0 ∷ 9 ∷ 0 ∷ 0 ∷ 0 ∷ 8 ∷ 0 ∷ 2 ∷ 0 ∷ 3 ∷ 0 ∷ 0 ∷ 0 ∷ [];
      room = 20;
      number = 21;
      written = [];
    }
    ∷ record {
      file =
          2 ∷ 0 ∷ 5 ∷ 0 ∷ 12 ∷ 0 ∷ 4 ∷ 0 ∷ 28 ∷ 0 ∷ 1 ∷ 0 ∷ 8 ∷ 0 ∷ 1 ∷ 0 ∷ 1 ∷ 0 ∷ 2 ∷ 0 ∷ 9 ∷ 0 ∷ 0 ∷ 0 ∷ 3 ∷ 0 ∷ 0 ∷ 0 ∷ 3 ∷ 0
          ∷ 0 ∷ 0 ∷ [];
      room = 32;
      number = 22;
      written = [];
    }
    ∷ record {
      file =
          2 ∷ 0 ∷ 5 ∷ 0 ∷ 12 ∷ 0 ∷ 4 ∷ 0 ∷ 28 ∷ 0 ∷ 1 ∷ 0 ∷ 8 ∷ 0 ∷ 2 ∷ 0 ∷ 1 ∷ 0 ∷ 2 ∷ 0 ∷ 9 ∷ 0 ∷ 0 ∷ 0 ∷ 3 ∷ 0 ∷ 0 ∷ 0 ∷ 3 ∷ 0
          ∷ 0 ∷ 0 ∷ [];
      room = 32;
      number = 22;
      written = [];
    }
    ∷ record {
      file =
          1 ∷ 0 ∷ 4 ∷ 0 ∷ 8 ∷ 0 ∷ 4 ∷ 0 ∷ 8 ∷ 0 ∷ 64 ∷ 0 ∷ 7 ∷ 0 ∷ 1 ∷ 0 ∷ 9 ∷ 0 ∷ 0 ∷ 0 ∷ 3 ∷ 0 ∷ 0 ∷ 0 ∷ [];
      room = 24;
      number = 23;
      written = [];
    }
    ∷ record {
      file =
          1 ∷ 0 ∷ 5 ∷ 0 ∷ 8 ∷ 0 ∷ 5 ∷ 0 ∷ 8 ∷ 0 ∷ 63 ∷ 0 ∷ 7 ∷ 0 ∷ 1 ∷ 0 ∷ 9 ∷ 0 ∷ 0 ∷ 0 ∷ 7 ∷ 0 ∷ 1 ∷ 0 ∷ 3 ∷ 0 ∷ 0 ∷ 0 ∷ [];
      room = 28;
      number = 23;
      written = [];
    }
    ∷ record {
      file =
          1 ∷ 0 ∷ 1 ∷ 0 ∷ 8 ∷ 0 ∷ 1 ∷ 0 ∷ 7 ∷ 0 ∷ 1 ∷ 0 ∷ [];
      room = 12;
      number = 4;
      written = [];
    }
    ∷ record {
      file =
          1 ∷ 0 ∷ 2 ∷ 0 ∷ 8 ∷ 0 ∷ 2 ∷ 0 ∷ 8 ∷ 0 ∷ 3 ∷ 0 ∷ 9 ∷ 0 ∷ 0 ∷ 0 ∷ [];
      room = 16;
      number = 4;
      written = [];
    }
    ∷ record {
      file =
          1 ∷ 0 ∷ 2 ∷ 0 ∷ 8 ∷ 0 ∷ 2 ∷ 0 ∷ 8 ∷ 0 ∷ 1 ∷ 0 ∷ 9 ∷ 0 ∷ 0 ∷ 0 ∷ [];
      room = 16;
      number = 4;
      written = [];
    }
    ∷ record {
      file =
          2 ∷ 0 ∷ 14 ∷ 0 ∷ 12 ∷ 0 ∷ 7 ∷ 0 ∷ 40 ∷ 0 ∷ 7 ∷ 0 ∷ 8 ∷ 0 ∷ 50 ∷ 0 ∷ 9 ∷ 0 ∷ 0 ∷ 0 ∷ 1 ∷ 0 ∷ 2 ∷ 0 ∷ 1 ∷ 0 ∷ 2 ∷ 0 ∷ 8 ∷
          0 ∷ 1 ∷ 0 ∷ 9 ∷ 0 ∷ 0 ∷ 0 ∷ 3 ∷ 0 ∷ 0 ∷ 0 ∷ 8 ∷ 0 ∷ 41 ∷ 0 ∷ 9 ∷ 0 ∷ 0 ∷ 0 ∷ 8 ∷ 0 ∷ 1 ∷ 0 ∷ 4 ∷ 0 ∷ 68 ∷ 0 ∷ 9 ∷ 0 ∷ 0
          ∷ 0 ∷ 2 ∷ 0 ∷ 0 ∷ 0 ∷ 3 ∷ 0 ∷ 0 ∷ 0 ∷ [];
      room = 68;
      number = 5;
      written = [];
    }
    ∷ record {
      file =
          2 ∷ 0 ∷ 6 ∷ 0 ∷ 12 ∷ 0 ∷ 4 ∷ 0 ∷ 28 ∷ 0 ∷ 2 ∷ 0 ∷ 2 ∷ 0 ∷ 0 ∷ 0 ∷ 1 ∷ 0 ∷ 2 ∷ 0 ∷ 2 ∷ 0 ∷ 0 ∷ 0 ∷ 3 ∷ 0 ∷ 0 ∷ 0 ∷ 5 ∷ 0
          ∷ 92 ∷ 0 ∷ 3 ∷ 0 ∷ 0 ∷ 0 ∷ [];
      room = 100;
      number = 6;
      written = [];
    }
    ∷ record {
      file =
          1 ∷ 0 ∷ 1 ∷ 0 ∷ 8 ∷ 0 ∷ 1 ∷ 0 ∷ 3 ∷ 0 ∷ 0 ∷ 0 ∷ [];
      room = 11;
      number = 20;
      written = [];
    }
    ∷ record {
      file =
          1 ∷ 0 ∷ 3 ∷ 0 ∷ 8 ∷ 0 ∷ 3 ∷ 0 ∷ 8 ∷ 0 ∷ 64 ∷ 0 ∷ 9 ∷ 0 ∷ 0 ∷ 0 ∷ 3 ∷ 0 ∷ 0 ∷ 0 ∷ [];
      room = 8;
      number = 20;
      written = [];
    }
    ∷ record {
      file =
          1 ∷ 0 ∷ 4 ∷ 0 ∷ 8 ∷ 0 ∷ 4 ∷ 0 ∷ 8 ∷ 0 ∷ 2 ∷ 0 ∷ 7 ∷ 3 ∷ 5 ∷ 0 ∷ 9 ∷ 0 ∷ 0 ∷ 0 ∷ 3 ∷ 0 ∷ 0 ∷ 0 ∷ [];
      room = 20;
      number = 0;
      written = 1 ∷ 0 ∷ 3 ∷ 0 ∷ 8 ∷ 0 ∷ 3 ∷ 0 ∷ 7 ∷ 3 ∷ 5 ∷ 0 ∷ 7 ∷ 3 ∷ 5 ∷ 0 ∷ 3 ∷ 0 ∷ 0 ∷ 0 ∷ [];
    }
    ∷ record {
      file =
          2 ∷ 0 ∷ 8 ∷ 0 ∷ 12 ∷ 0 ∷ 5 ∷ 0 ∷ 32 ∷ 0 ∷ 3 ∷ 0 ∷ 1 ∷ 0 ∷ 2 ∷ 0 ∷ 8 ∷ 0 ∷ 2 ∷ 0 ∷ 4 ∷ 0 ∷ 1 ∷ 0 ∷ 9 ∷ 0 ∷ 0 ∷ 0 ∷ 3 ∷ 0
          ∷ 0 ∷ 0 ∷ 5 ∷ 0 ∷ 1 ∷ 0 ∷ 5 ∷ 0 ∷ 1 ∷ 0 ∷ 3 ∷ 0 ∷ 0 ∷ 0 ∷ [];
      room = 40;
      number = 0;
      written =
          2 ∷ 0 ∷ 7 ∷ 0 ∷ 12 ∷ 0 ∷ 4 ∷ 0 ∷ 28 ∷ 0 ∷ 3 ∷ 0 ∷ 1 ∷ 0 ∷ 2 ∷ 0 ∷ 4 ∷ 0 ∷ 1 ∷ 0 ∷ 4 ∷ 0 ∷ 1 ∷ 0 ∷ 3 ∷ 0 ∷ 0 ∷ 0 ∷ 5 ∷ 0
          ∷ 1 ∷ 0 ∷ 5 ∷ 0 ∷ 1 ∷ 0 ∷ 3 ∷ 0 ∷ 0 ∷ 0 ∷ [];
    }
    ∷ record {
      file =
          4 ∷ 0 ∷ 21 ∷ 0 ∷ 20 ∷ 0 ∷ 9 ∷ 0 ∷ 56 ∷ 0 ∷ 4 ∷ 0 ∷ 72 ∷ 0 ∷ 4 ∷ 0 ∷ 88 ∷ 0 ∷ 4 ∷ 0 ∷ 8 ∷ 0 ∷ 2 ∷ 0 ∷ 1 ∷ 0 ∷ 2 ∷ 0 ∷ 1 ∷
          0 ∷ 3 ∷ 0 ∷ 1 ∷ 0 ∷ 4 ∷ 0 ∷ 8 ∷ 0 ∷ 2 ∷ 0 ∷ 4 ∷ 0 ∷ 1 ∷ 0 ∷ 9 ∷ 0 ∷ 0 ∷ 0 ∷ 2 ∷ 0 ∷ 0 ∷ 0 ∷ 3 ∷ 0 ∷ 0 ∷ 0 ∷ 8 ∷ 0 ∷ 2 ∷
          0 ∷ 5 ∷ 0 ∷ 1 ∷ 0 ∷ 9 ∷ 0 ∷ 0 ∷ 0 ∷ 3 ∷ 0 ∷ 0 ∷ 0 ∷ 8 ∷ 0 ∷ 3 ∷ 0 ∷ 7 ∷ 0 ∷ 1 ∷ 0 ∷ 9 ∷ 0 ∷ 0 ∷ 0 ∷ 3 ∷ 0 ∷ 0 ∷ 0 ∷ 4 ∷
          0 ∷ 50 ∷ 0 ∷ 5 ∷ 0 ∷ 50 ∷ 0 ∷ 6 ∷ 0 ∷ 1 ∷ 0 ∷ 3 ∷ 0 ∷ 0 ∷ 0 ∷ [];
      room = 104;
      number = 21;
      written = [];
    }
    ∷ record {
      file =
          2 ∷ 0 ∷ 5 ∷ 0 ∷ 12 ∷ 0 ∷ 4 ∷ 0 ∷ 28 ∷ 0 ∷ 1 ∷ 0 ∷ 8 ∷ 0 ∷ 64 ∷ 0 ∷ 1 ∷ 0 ∷ 2 ∷ 0 ∷ 9 ∷ 0 ∷ 0 ∷ 0 ∷ 3 ∷ 0 ∷ 0 ∷ 0 ∷ 3 ∷ 0
          ∷ 0 ∷ 0 ∷ [];
      room = 32;
      number = 22;
      written = [];
    }
    ∷ record {
      file =
          2 ∷ 0 ∷ 4 ∷ 0 ∷ 12 ∷ 0 ∷ 2 ∷ 0 ∷ 20 ∷ 0 ∷ 2 ∷ 0 ∷ 1 ∷ 0 ∷ 2 ∷ 0 ∷ 8 ∷ 0 ∷ 2 ∷ 0 ∷ 9 ∷ 0 ∷ 0 ∷ 0 ∷ 3 ∷ 0 ∷ 0 ∷ 0 ∷ [];
      room = 28;
      number = 21;
      written = [];
    }
    ∷ record {
      file =
          4 ∷ 0 ∷ 23 ∷ 0 ∷ 20 ∷ 0 ∷ 8 ∷ 0 ∷ 52 ∷ 0 ∷ 4 ∷ 0 ∷ 68 ∷ 0 ∷ 8 ∷ 0 ∷ 100 ∷ 0 ∷ 3 ∷ 0 ∷ 1 ∷ 0 ∷ 2 ∷ 0 ∷ 1 ∷ 0 ∷ 3 ∷ 0 ∷ 1 ∷
          0 ∷ 4 ∷ 0 ∷ 8 ∷ 0 ∷ 2 ∷ 0 ∷ 4 ∷ 0 ∷ 1 ∷ 0 ∷ 9 ∷ 0 ∷ 0 ∷ 0 ∷ 2 ∷ 0 ∷ 0 ∷ 0 ∷ 3 ∷ 0 ∷ 0 ∷ 0 ∷ 8 ∷ 0 ∷ 2 ∷ 0 ∷ 5 ∷ 0 ∷ 1 ∷ 0 ∷
          9 ∷ 0 ∷ 0 ∷ 0 ∷ 3 ∷ 0 ∷ 0 ∷ 0 ∷ 8 ∷ 0 ∷ 2 ∷ 0 ∷ 6 ∷ 0 ∷ 1 ∷ 0 ∷ 1 ∷ 0 ∷ 3 ∷ 0 ∷ 9 ∷ 0 ∷ 0 ∷ 0 ∷ 8 ∷ 0 ∷ 3 ∷ 0 ∷ 7 ∷ 0 ∷ 1 ∷
          0 ∷ 9 ∷ 0 ∷ 0 ∷ 0 ∷ 3 ∷ 0 ∷ 0 ∷ 0 ∷ 9 ∷ 0 ∷ 0 ∷ 0 ∷ 6 ∷ 0 ∷ 1 ∷ 0 ∷ 3 ∷ 0 ∷ 0 ∷ 0 ∷ [];
      room = 112;
      number = 21;
      written = [];
    }
    ∷ record {
      file =
          1 ∷ 0 ∷ 5 ∷ 0 ∷ 8 ∷ 0 ∷ 5 ∷ 0 ∷ 8 ∷ 0 ∷ 2 ∷ 0 ∷ 6 ∷ 0 ∷ 9 ∷ 0 ∷ 7 ∷ 0 ∷ 1 ∷ 0 ∷ 9 ∷ 0 ∷ 0 ∷ 0 ∷ 3 ∷ 0 ∷ 0 ∷ 0 ∷ [];
      room = 28;
      number = 0;
      written = 1 ∷ 0 ∷ 5 ∷ 0 ∷ 8 ∷ 0 ∷ 5 ∷ 0 ∷ 6 ∷ 0 ∷ 9 ∷ 0 ∷ 7 ∷ 0 ∷ 1 ∷ 0 ∷ 6 ∷ 0 ∷ 9 ∷ 0 ∷ 7 ∷ 0 ∷ 1 ∷ 0 ∷ 3 ∷ 0 ∷ 0 ∷ 0 ∷ [];
    }
    ∷ []
