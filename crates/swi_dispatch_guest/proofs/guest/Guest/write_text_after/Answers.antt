use Rattle.std.proofs.Common.{◌≡◌, ℕ, List, Option, Some, None, Result, Ok, Err, ap, refl, subst, ◌∙◌}
use Rattle.profile.specs.ErrorNumber.TheVariants.{BadString}
use Rattle.os_heap.specs.Store.{store_of}
use Rattle.swi_dispatch_plans.specs.Refusal.{Refusal}
use Rattle.swi_dispatch_plans.specs.Refusal.TheVariants as refusal
use Rattle.swi_dispatch_guest.specs.Calls.{printable_at, wrote_text_after}
use Rattle.swi_dispatch_guest.specs.GuestState.{Answers, GuestState, state_of}
use Rattle.swi_dispatch_guest.specs.MachineState.{MachineState, outcome_with}
use Rattle.swi_dispatch_guest.proofs.guest.Guest.write_text_after.Goals as goal

pub returns-in_default-clause-done : goal.returns-in_default-clause-done
unfolding store_of
returns-in_default-clause-done c =
    let s : MachineState = state_of c.args.self.now in
    let next : ℕ = c.args.call.now.next in
    let bad : Result (Unit {0}) Refusal = Err (refusal.System BadString) in
    let none : None ≡ printable_at s.store.bytes next =
    c.in_default.ensures.text ∙ ap (λ (p : GuestState). printable_at (store_of p.map).bytes next) c.self.view_is in
    subst (λ (o : Option (List ℕ)). Answers (wrote_text_after s next o) next bad (outcome_with s c.args.output.now.items)) none
    (record { left = ap (outcome_with s) c.requires.unprinted; next = refl; error = refl })

pub returns-clause-done : goal.returns-clause-done
unfolding store_of
returns-clause-done c =
    let s : MachineState = state_of c.args.self.now in
    let next : ℕ = c.args.call.now.next in
    let done : Result (Unit {0}) Refusal = Ok tt in
    let some : Some c.in-Some.text.items ≡ printable_at s.store.bytes next =
    c.in-Some.ensures.text ∙ ap (λ (p : GuestState). printable_at (store_of p.map).bytes next) c.self.view_is in
    subst (λ (o : Option (List ℕ)). Answers (wrote_text_after s next o) c.next_word-call.result done (outcome_with s c.in-Some.text.items)) some
    (record { left = refl; next = rw (c.next_word-call.ensures, c.len.ensures.value) refl; error = refl })
