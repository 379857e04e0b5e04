-- The plan value of no task is zero throughout.
use mathlib.Core.Path.{◌≡◌, refl}
use mathlib.Core.List.{[]}
use lib.ListN.{length, replicate}
use Rattle.plan.specs.declared.Plan.{Plan}
use Rattle.plan.specs.Programs.{program_at, code_of, in_slot, canonical}
use Rattle.base.proofs.Tables.{all_same}

pub no_task_lem : ◌≡◌ {A = Plan} (record { tasks = 0; lengths = replicate 64 0; codes = replicate 4096 0 }) (canonical [])
unfolding canonical
no_task_lem =
    let n = all_same 64 (λ k. length (program_at [] k)) 0 (λ i q. refl) in
    let o = all_same 4096 (λ s. code_of (in_slot [] s)) 0 (λ i q. refl) in
    λ i. record { tasks = 0; lengths = n i; codes = o i }
