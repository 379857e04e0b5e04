-- A reader at a file's front, the header that it reads, and the reader behind that header.
use mathlib.Core.Path.{◌≡◌, ◌∙◌, ap}
use mathlib.Core.List.{List}
use Prim.Native.Nat.{ℕ, ◌+◌}
use native.Mathlib.Nat.{zero-add}
use lib.ListN.{drop}
use Rattle.std.specs.Borrow.{Bor}
use Rattle.plan.specs.Outcomes.{plan_read}
use Rattle.plan_file.specs.declared.header.Header.{Header}
use Rattle.plan_file.specs.declared.reader.PlanReader.{PlanReader}
use Rattle.plan_file.specs.Header.{header_of}
use Rattle.plan_file.specs.Reader.{at_front, moved, left}
use Rattle.plan_file.specs.Stages.{plan_of, Fits}
use Rattle.plan_file.proofs.Meaning.{stages_read, header_fits}

module _ (file : Bor (List ℕ)) {start behind : PlanReader} {h : Header} (front : start ≡ at_front file) (header : h ≡ header_of (left start)) (next : behind ≡ moved start h.size) where
  pub header_read : h ≡ header_of file.now
  header_read = header ∙ ap (λ (r : PlanReader). header_of (left r)) front

  behind_left : left behind ≡ drop h.size file.now
  behind_left =
      ap (λ (r : PlanReader). left r) next
      ∙ ap (λ (r : PlanReader). drop (r.at + h.size) r.bytes.now) front
      ∙ ap (λ (n : ℕ). drop n file.now) (zero-add h.size)

  pub behind_fits : Fits h (left behind)
  behind_fits = rw (behind_left, header_read) (header_fits file.now)

  pub read_as : plan_of h (left behind) ≡ plan_read file.now
  read_as =
      ap (plan_of h) behind_left
      ∙ ap (λ (x : Header). plan_of x (drop x.size file.now)) header_read
      ∙ stages_read file.now
