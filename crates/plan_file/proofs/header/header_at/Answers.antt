-- `header::header_at` is the header at a place: that of what is left from there.
use mathlib.Core.Path.{◌∙◌, ap, sym}
use mathlib.Core.List.{List}
use Prim.Native.Nat.{ℕ}
use lib.ListN.{length}
use Rattle.plan_file.specs.Header.{header_of}
use Rattle.plan_file.proofs.header.header_at.Goals as goal

pub read_header-requires : goal.read_header-requires
read_header-requires c = c.requires ∙ ap (λ (l : List ℕ). length l) (sym c.rest_at.ensures)

pub returns : goal.returns
returns c = c.read_header.ensures ∙ ap (λ (l : List ℕ). header_of l) c.rest_at.ensures
