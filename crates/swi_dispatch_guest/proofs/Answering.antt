-- A call's answer, and then what the machine does with it, are the written call.
use Rattle.std.proofs.Common.{◌≡◌, ℕ, Bool, true, false, List, [], Result, Ok, Err, Some, refl, sym, ◌∙◌, ap}
use Rattle.std.specs.Prelude.{OnErr}
use Rattle.profile.specs.Outcome.{Leaves}
use Rattle.swi_dispatch_plans.specs.Refusal.{Refusal}
use Rattle.swi_dispatch_plans.specs.Call.{Call}
use Rattle.swi_dispatch_guest.specs.MachineState.{MachineState, StepOutcome, outcome_with, silent}
use Rattle.swi_dispatch_guest.specs.Answers.{Answer, went_on}
use Rattle.swi_dispatch_guest.specs.GuestState.{Answers}
use Rattle.swi_dispatch_guest.specs.Step.{call_of, outcome_of_answer, outcome_of_end}
use Rattle.swi_dispatch_guest.specs.Returns.{gone_back, error_answered, outcome_of_error}

pub ended_done : (s mid new : MachineState) (printed : List ℕ) (a : Answer) (call after : Call)
    → Answers a after.next (Ok tt) (outcome_with mid printed) → after ≡ record call { next = after.next }
    → call ≡ call_of s call.is_x call.next false → new ≡ gone_back after.caller mid false after.next
    → outcome_with new printed ≡ outcome_of_answer s call.is_x a
ended_done s mid new printed a call after done same made back =
    let psr = ap (λ (c : Call). c.caller) same ∙ ap (λ (c : Call). c.caller) made in
    let went : new ≡ gone_back s.cpu.psr a.left.now false a.next =
    back ∙ (λ i. gone_back (psr i) ((done.left i).now) false (done.next i)) in
    let text : printed ≡ a.left.printed = ap (λ (y : StepOutcome). y.printed) done.left in
    let both : outcome_with new printed ≡ record a.left { now = gone_back s.cpu.psr a.left.now false a.next } = λ i. record { now = went i; printed = text i } in
    both ∙ sym (ap (outcome_of_end s call.is_x a) done.error)

-- with the X bit it doesn't count what the machine was before
erred_same : (s mid : MachineState) (x : Bool) (answered : StepOutcome) → (x ≡ false → mid ≡ s) → outcome_of_error mid x answered ≡ outcome_of_error s x answered
erred_same s mid true answered unmoved = refl
erred_same s mid false answered unmoved = ap (λ (t : MachineState). outcome_of_error t false answered) (unmoved refl)

pub ended_error : (s mid new : MachineState) (printed : List ℕ) (a : Answer) (call after : Call) (e : Refusal)
    → Answers a after.next (Err e) (outcome_with mid printed) → after ≡ record call { next = after.next }
    → call ≡ call_of s call.is_x call.next false → (call.is_x ≡ false → mid ≡ s) → printed ≡ []
    → silent new ≡ outcome_of_error mid after.is_x (error_answered after.caller (silent mid) after.next e)
    → outcome_with new printed ≡ outcome_of_answer s call.is_x a
ended_error s mid new printed a call after e given same made unmoved unprinted ended =
    let psr = ap (λ (c : Call). c.caller) same ∙ ap (λ (c : Call). c.caller) made in
    let left : silent mid ≡ a.left = ap (outcome_with mid) (sym unprinted) ∙ given.left in
    ap (outcome_with new) unprinted ∙ ended
    ∙ (λ i. outcome_of_error mid ((same i).is_x) (error_answered (psr i) (left i) (given.next i) e))
    ∙ erred_same s mid call.is_x (error_answered s.cpu.psr a.left a.next e) unmoved
    ∙ sym (ap (outcome_of_end s call.is_x a) given.error)

-- a call that goes on with what it leaves, or leaves all as it was and errs
went_by : (s t : MachineState) (next : ℕ) (r : Result MachineState Refusal) (x : Result (Unit {0}) Refusal)
    → Leaves {U = Unit {0}} s r x t → Answers (went_on s next r) next x (silent t)
went_by s t next (Ok u) (Ok v) left = record { left = ap silent left; next = refl; error = refl }
went_by s t next (Err f) (Err e) left = record { left = ap silent left.1; next = refl; error = ap Some (sym left.0) }
went_by s t next (Ok u) (Err e) left = absurd left
went_by s t next (Err f) (Ok v) left = absurd left

pub went_answers : (s t : MachineState) (next : ℕ) (a : Answer) (r : Result MachineState Refusal) (x : Result (Unit {0}) Refusal) (printed : List ℕ)
    → a ≡ went_on s next r → printed ≡ [] → Leaves {U = Unit {0}} s r x t → Answers a next x (outcome_with t printed)
went_answers s t next a r x printed is unprinted left = rw (is, unprinted) (went_by s t next r x left)

-- what errs leaves all as it was
pub went_unmoved : (s t : MachineState) (r : Result MachineState Refusal) (x : Result (Unit {0}) Refusal) (P : Type 0)
    → Leaves {U = Unit {0}} s r x t → OnErr x (P → t ≡ s)
went_unmoved s t (Ok u) (Ok v) P left = tt
went_unmoved s t (Err f) (Err e) P left = λ p. left.1
went_unmoved s t (Ok u) (Err e) P left = absurd left
went_unmoved s t (Err f) (Ok v) P left = absurd left
