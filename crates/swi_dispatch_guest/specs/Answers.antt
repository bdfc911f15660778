-- What store calls answer, in words that all of them share.
use Rattle.std.specs.Prelude.{ℕ, Option, Some, None, Result, Ok, Err, List, []}
use Rattle.arm_run.specs.State.{with_register}
use Rattle.swi_dispatch_plans.specs.Refusal.{Refusal}
use Rattle.swi_dispatch_guest.specs.MachineState.{MachineState, StepOutcome, silent}

-- What a call answers: what it leaves, the machine but for what every call does to the core and the
-- bytes printed, where the guest goes on, and the error, if there is one. So a call may change
-- something and err.
pub record Answer : Type 0 where
  pub left : StepOutcome
  pub next : ℕ
  pub error : Option Refusal

abbrev pub answer_without_error : MachineState → List ℕ → ℕ → Answer
answer_without_error s printed next = record {
  left = record { now = s; printed = printed };
  next = next;
  error = None;
}

-- an error, and nothing is changed
abbrev pub refusal_answer : MachineState → ℕ → Refusal → Answer
refusal_answer s next e = record { left = silent s; next = next; error = Some e }

abbrev pub went_on : MachineState → ℕ → Result MachineState Refusal → Answer
went_on s next (Ok t) = answer_without_error t [] next
went_on s next (Err e) = refusal_answer s next e

abbrev pub with_answer : MachineState → ℕ → ℕ → MachineState
with_answer s n v = record s { cpu = with_register s.cpu n v }
