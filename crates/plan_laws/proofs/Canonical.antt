-- Plan values whose unused slots are zero and their meanings correspond one to one.
use mathlib.Core.Path.{◌≡◌, refl, sym, ◌∙◌, ap}
use mathlib.Core.List.{[]}
use mathlib.Core.Logic.{by_cases}
use Prim.Native.Nat.{ℕ, ◌+◌, ◌*◌, ◌/◌, ◌%◌, ◌<◌, ◌≤◌}
use native.Mathlib.Omega.{arith}
use native.Mathlib.Decide.{dec_lt}
use lib.ListN.{length, get_or, get_or-eq_default}
use Rattle.std.specs.Prelude.{Ok}
use Rattle.base.specs.Lists.{table}
use Rattle.base.proofs.Tables.{length_table, get_d_table}
use Rattle.plan.proofs.Parts.{tasks_of_lem, no_program_of, count_of_lem, instruction_of_lem}
use Rattle.plan.specs.declared.Plan.{Plan}
use Rattle.plan.specs.Kinds.{no_instruction}
use Rattle.plan.specs.Programs.{Programs, program_at, code_of, slot_of, program_of, programs, in_slot, canonical}
use Rattle.plan.specs.Layout.{count_of}
use Rattle.plan.specs.Refusals.{plan_answer}
use Rattle.plan_laws.specs.Clear.{Clear}
use Rattle.plan_laws.proofs.Pieces.{whole}
use Rattle.plan_laws.proofs.Answers.{plan_passed, sized}
use Rattle.plan_laws.proofs.Codes.{Small, instruction_back, code_back, none_small, instruction_small}
use Rattle.plan_laws.proofs.Programs.{instruction_fine}

-- programs that a plan value has room for
pub record Fits (m : Programs) : Type 0 where
  pub few : length m ≤ 64
  pub short : (k : ℕ) → count_of m k ≤ 64
  pub small : (s : ℕ) → Small (in_slot m s)

no_program : (m : Programs) (k : ℕ) → length m ≤ k → count_of m k ≡ 0
no_program m k l = ap length (get_or-eq_default m [] l)

pub fits : (m : Programs) → plan_answer m ≡ Ok tt → Fits m
fits m h =
    let s = sized m (plan_passed m h).sizes in
    record {
      few = s.tasks.few;
      short = λ k. by_cases (dec_lt k (length m)) (λ l. (s.counts k l).few) (λ e. omega (arith, no_program m k (omega arith)));
      small =
          λ j.
          let k = j / 64 in
          let i = j % 64 in
          by_cases
          (dec_lt i (count_of m k))
          (λ l.
          by_cases (dec_lt k (length m))
          (λ q. instruction_small (length m) s.tasks.few (in_slot m j) (instruction_fine m h k q i l))
          (λ e. absurd (omega (arith, no_program m k (omega arith)))))
          (λ e. let past : count_of m k ≤ i = omega arith in rw (get_or-eq_default (program_at m k) no_instruction past) none_small);
    }

fits_none : Fits []
fits_none = record { few = omega arith; short = λ k. omega arith; small = λ s. none_small }

module _ (m : Programs) (h : Fits m) where
  -- a task's length and its instructions, in the plan value of m
  lengths_at : (k : ℕ) → get_or (canonical m).lengths k 0 ≡ count_of m k
  unfolding canonical
  lengths_at k =
      by_cases
      (dec_lt k 64)
      (λ l. get_d_table 64 (count_of m) k 0 l)
      (λ l. get_or-eq_default (table 64 (count_of m)) 0 (rw (length_table 64 (count_of m)) (omega arith)) ∙ sym (no_program m k (omega (arith, h.few))))

  slot_at : (s : ℕ) → s < 4096 → slot_of (canonical m) s ≡ in_slot m s
  unfolding canonical
  slot_at s l = rw (get_d_table 4096 (λ s. code_of (in_slot m s)) s 0 l) (instruction_back (in_slot m s) (h.small s))

  program_at_lem : (k : ℕ) → k < length m → program_of (canonical m) k ≡ program_at m k
  program_at_lem k l =
      let few : length m ≤ 64 = h.few in
      let short : count_of m k ≤ 64 = h.short k in
      rw (lengths_at k)
      (whole (program_at m k) no_instruction (count_of m k) refl (λ i. slot_of (canonical m) (64 * k + i))
      (λ i q.
      let d : (64 * k + i) / 64 ≡ k = omega arith in
      let r : (64 * k + i) % 64 ≡ i = omega arith in
      slot_at (64 * k + i) (omega arith) ∙ rw (d, r) refl))

  pub fits_meaning : programs (canonical m) ≡ m
  unfolding programs canonical
  fits_meaning = whole m [] (length m) refl (program_of (canonical m)) program_at_lem

  empty_slot : (s : ℕ) → s < 4096 → get_or (canonical m).lengths (s / 64) 0 ≤ s % 64 → get_or (canonical m).codes s 0 ≡ 0
  unfolding canonical
  empty_slot s l q =
      get_d_table 4096 (λ s. code_of (in_slot m s)) s 0 l
      ∙ ap code_of (get_or-eq_default (program_at m (s / 64)) no_instruction (rw (lengths_at (s / 64)) at q))

  pub fits_clear : Clear (canonical m)
  unfolding canonical
  fits_clear =
      record {
        few = h.few;
        short = λ k. rw (lengths_at k) (h.short k);
        lengths_size = length_table 64 (count_of m);
        codes_size = length_table 4096 (λ s. code_of (in_slot m s));
        no_length = λ k l. lengths_at k ∙ no_program m k l;
        no_code = empty_slot;
      }

pub meaning_canonical : (m : Programs) → plan_answer m ≡ Ok tt → programs (canonical m) ≡ m
meaning_canonical m h = fits_meaning m (fits m h)

pub canonical_clear : (m : Programs) → plan_answer m ≡ Ok tt → Clear (canonical m)
canonical_clear m h = fits_clear m (fits m h)

pub canonical_none_clear : Clear (canonical [])
canonical_none_clear = fits_clear [] fits_none

module _ (p : Plan) (c : Clear p) where
  -- the meaning's programs, task by task and slot by slot
  every_count : (k : ℕ) → count_of (programs p) k ≡ get_or p.lengths k 0
  every_count k =
      by_cases (dec_lt k p.tasks) (count_of_lem p k) (λ l. rw (no_program_of p k (omega arith), c.no_length k (omega arith)) refl)

  used : (s : ℕ) → s < 4096 → s % 64 < get_or p.lengths (s / 64) 0 → in_slot (programs p) s ≡ slot_of p s
  used s l q =
      let e : 64 * (s / 64) + s % 64 ≡ s = omega arith in
      by_cases
      (dec_lt (s / 64) p.tasks)
      (λ t. instruction_of_lem p (s / 64) (s % 64) t q ∙ ap (slot_of p) e)
      (λ t. absurd (omega (arith, c.no_length (s / 64) (omega arith))))

  slot_of_lem : (s : ℕ) → s < 4096 → in_slot (programs p) s ≡ slot_of p s
  slot_of_lem s l =
      by_cases
      (dec_lt (s % 64) (get_or p.lengths (s / 64) 0))
      (used s l)
      (λ q.
      get_or-eq_default (program_at (programs p) (s / 64)) no_instruction (rw (every_count (s / 64)) (omega arith))
      ∙ rw (c.no_code s l (omega arith)) refl)

  pub clear_canonical : canonical (programs p) ≡ p
  unfolding canonical
  clear_canonical =
      let t = tasks_of_lem p in
      let n : table 64 (count_of (programs p)) ≡ p.lengths = whole p.lengths 0 64 c.lengths_size (count_of (programs p)) (λ k l. every_count k) in
      let o : table 4096 (λ s. code_of (in_slot (programs p) s)) ≡ p.codes =
      whole p.codes 0 4096 c.codes_size (λ s. code_of (in_slot (programs p) s)) (λ s l. ap code_of (slot_of_lem s l) ∙ code_back (get_or p.codes s 0)) in
      λ i. record { tasks = t i; lengths = n i; codes = o i }
