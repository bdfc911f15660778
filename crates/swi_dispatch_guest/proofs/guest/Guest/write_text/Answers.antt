use Rattle.std.proofs.Common.{◌≡◌, ◌+◌, ℕ, List, Option, Some, None, Result, Ok, Err, ap, refl, subst, ◌∙◌}
use Rattle.profile.specs.ErrorNumber.TheVariants.{BadString}
use Rattle.os_heap.specs.Memory.{bytes_of}
use Rattle.arm_run.specs.State.{register_of}
use Rattle.os_heap.specs.Store.{store_of}
use Rattle.swi_dispatch_plans.specs.Refusal.{Refusal}
use Rattle.swi_dispatch_plans.specs.Refusal.TheVariants as refusal
use Rattle.swi_dispatch_guest.specs.Answers.{with_answer}
use Rattle.swi_dispatch_guest.specs.Calls.{printable_at, wrote_text_at}
use Rattle.swi_dispatch_guest.specs.GuestState.{Answers, GuestState, state_of}
use Rattle.swi_dispatch_guest.specs.MachineState.{MachineState, outcome_with}
use Rattle.swi_dispatch_guest.proofs.guest.Guest.write_text.Goals as goal

pub returns-in_default-clause-done : goal.returns-in_default-clause-done
unfolding store_of
returns-in_default-clause-done c = λ next.
    let s : MachineState = state_of c.args.self.now in
    let at : ℕ = register_of s.cpu 0 in
    let bad : Result (Unit {0}) Refusal = Err (refusal.System BadString) in
    let none : None ≡ printable_at s.store.bytes at =
    c.in_default.ensures.text ∙ ap (printable_at (bytes_of c.self.inside.memory)) c.register-at.ensures
    ∙ ap (λ (p : GuestState). printable_at (store_of p.map).bytes (register_of p.cpu 0)) c.self.view_is in
    subst (λ (o : Option (List ℕ)). Answers (wrote_text_at s next at o) next bad (outcome_with s c.args.output.now.items)) none
    (record { left = ap (outcome_with s) c.requires.unprinted; next = refl; error = refl })

pub returns-clause-done : goal.returns-clause-done
unfolding store_of
returns-clause-done c = λ next.
    let s : MachineState = state_of c.args.self.now in
    let at : ℕ = register_of s.cpu 0 in
    let done : Result (Unit {0}) Refusal = Ok tt in
    let here : c.register-at.result ≡ at = c.register-at.ensures ∙ ap (λ (p : GuestState). register_of p.cpu 0) c.self.view_is in
    let size = c.len.ensures.value in
    let some : Some c.in-Some.text.items ≡ printable_at s.store.bytes at =
    c.in-Some.ensures.text ∙ ap (printable_at (bytes_of c.self.inside.memory)) c.register-at.ensures
    ∙ ap (λ (p : GuestState). printable_at (store_of p.map).bytes (register_of p.cpu 0)) c.self.view_is in
    let left = c.answer.ensures ∙ (λ i. with_answer s 0 (here i + size i + 1)) in
    subst (λ (o : Option (List ℕ)). Answers (wrote_text_at s next at o) next done (outcome_with (state_of c.answer.new.self) c.in-Some.text.items)) some
    (record { left = ap (λ (t : MachineState). outcome_with t c.in-Some.text.items) left; next = refl; error = refl })
