-- The reader of plan files, the caller's bytes and a place: at the front of a file, n bytes further on, and what is left from its place.
use Rattle.std.specs.Prelude.{List, ℕ, ◌+◌, drop}
use Rattle.std.specs.Borrow.{Bor}
use Rattle.plan_file.specs.declared.reader.PlanReader.{PlanReader}

abbrev pub at_front : Bor (List ℕ) → PlanReader
at_front file = record { bytes = file; at = 0 }

abbrev pub moved : PlanReader → ℕ → PlanReader
moved r n = record { bytes = r.bytes; at = r.at + n }

abbrev pub left : PlanReader → List ℕ
left r = drop r.at r.bytes.now
