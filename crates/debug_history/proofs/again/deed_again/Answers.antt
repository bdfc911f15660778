use Rattle.std.proofs.Common.{◌≡◌, ◌∙◌, ℕ, List, ap, subst, sym}
use Rattle.profile.specs.images.Entries.{bytes_of_image}
use Rattle.debug_labels.specs.Writes.{machine_after_poke, machine_at, machine_unhalted, machine_with_bank_register, machine_with_register, machine_with_status}
use Rattle.debug_labels.specs.Value.{MachineValue}
use Rattle.debug_tables.specs.Memory.{script_at}
use Rattle.debug_tables.specs.Session.{script_state}
use Rattle.debug_tables.specs.Step.{module_loaded}
use Rattle.debug_history.specs.Acts.{changed_moment, moment_after_boot, moment_after_deed, moment_after_put, moment_after_word, moment_of_script}
use Rattle.debug_history.specs.Again.{IsAtMoment}
use Rattle.debug_history.specs.declared.act.PastDeed.{PastDeed}
use Rattle.debug_history.proofs.AgainLemmas.{anew_at, boot_at, poke_at, put_at, with_machine_at}
use Rattle.debug_history.proofs.again.deed_again.Goals as goal

pub returns-in_ok-steps_again-in-Steps-clause-moment : goal.returns-in_ok-steps_again-in-Steps-clause-moment
returns-in_ok-steps_again-in-Steps-clause-moment c =
    let s = script_state c.args.session.now c.args.images.now in
    let now = script_state c.steps_again.new.session c.args.images.now in
    subst (λ (d : PastDeed). IsAtMoment s now (moment_after_deed s.images s.sizes d (moment_of_script s))) (sym c.in-Steps.is)
    c.in_ok-steps_again-in-Steps.ensures

pub returns-in_ok-fault_again-in-FaultingStep-clause-moment : goal.returns-in_ok-fault_again-in-FaultingStep-clause-moment
returns-in_ok-fault_again-in-FaultingStep-clause-moment c =
    let s = script_state c.args.session.now c.args.images.now in
    let now = script_state c.fault_again.new.session c.args.images.now in
    subst (λ (d : PastDeed). IsAtMoment s now (moment_after_deed s.images s.sizes d (moment_of_script s))) (sym c.in-FaultingStep.is)
    c.in_ok-fault_again-in-FaultingStep.ensures

pub returns-in_ok-answer-in-Boot-clause-moment : goal.returns-in_ok-answer-in-Boot-clause-moment
returns-in_ok-answer-in-Boot-clause-moment c =
    let s = script_state c.args.session.now c.args.images.now in
    let now = script_state c.answer.new.self c.answer.new.images in
    let name = c.bytes-name.result.now in
    subst (λ (d : PastDeed). IsAtMoment s now (moment_after_deed s.images s.sizes d (moment_of_script s))) (sym c.in-Boot.is)
    (subst (λ (bytes : List ℕ). IsAtMoment s now (moment_after_boot s.sizes (moment_of_script s) (bytes_of_image s.images bytes)))
    c.bytes-name.ensures
    (boot_at s now name (bytes_of_image s.images name) c.in_ok-answer-in-Boot.ensures.reported.state))

pub returns-in_ok-call_again-in-Call-clause-moment : goal.returns-in_ok-call_again-in-Call-clause-moment
returns-in_ok-call_again-in-Call-clause-moment c =
    let s = script_state c.args.session.now c.args.images.now in
    let now = script_state c.call_again.new.session c.args.images.now in
    subst (λ (d : PastDeed). IsAtMoment s now (moment_after_deed s.images s.sizes d (moment_of_script s))) (sym c.in-Call.is)
    c.in_ok-call_again-in-Call.ensures

pub returns-in_ok-call_again-in-Load-clause-moment : goal.returns-in_ok-call_again-in-Load-clause-moment
returns-in_ok-call_again-in-Load-clause-moment c =
    let s = script_state c.args.session.now c.args.images.now in
    let now = script_state c.call_again-in-Load.new.session c.args.images.now in
    subst (λ (d : PastDeed). IsAtMoment s now (moment_after_deed s.images s.sizes d (moment_of_script s))) (sym c.in-Load.is)
    (subst (λ (text : List ℕ). IsAtMoment s now (changed_moment (module_loaded s.images s.machine text).now))
    c.bytes.ensures
    c.in_ok-call_again-in-Load.ensures)

pub returns-in-Register-clause-moment : goal.returns-in-Register-clause-moment
returns-in-Register-clause-moment c =
    let s = script_state c.args.session.now c.args.images.now in
    let now = script_state c.set_register.new.self c.args.images.now in
    subst (λ (d : PastDeed). IsAtMoment s now (moment_after_deed s.images s.sizes d (moment_of_script s))) (sym c.in-Register.is)
    (subst (λ (number : ℕ). IsAtMoment s now (changed_moment (machine_with_register s.machine number c.in-Register.value)))
    c.number-number.ensures.value
    (with_machine_at s now (machine_with_register s.machine c.number-number.result c.in-Register.value)
    (c.set_register.ensures c.args.images.now)))

pub returns-in-Word-clause-moment : goal.returns-in-Word-clause-moment
returns-in-Word-clause-moment c =
    let s = script_state c.args.session.now c.args.images.now in
    let now = script_state c.store_word.new.self c.args.images.now in
    subst (λ (d : PastDeed). IsAtMoment s now (moment_after_deed s.images s.sizes d (moment_of_script s))) (sym c.in-Word.is)
    (subst (λ (at : ℕ). IsAtMoment s now
    (moment_after_word (moment_of_script s) (machine_after_poke s.machine at c.in-Word.value)))
    c.address-at.ensures.value
    (poke_at s now c.address-at.result c.in-Word.value c.store_word.result (c.store_word.ensures c.args.images.now)))

pub returns-in-Place-clause-moment : goal.returns-in-Place-clause-moment
returns-in-Place-clause-moment c =
    let s = script_state c.args.session.now c.args.images.now in
    let now = script_state c.set_pc.new.self c.args.images.now in
    subst (λ (d : PastDeed). IsAtMoment s now (moment_after_deed s.images s.sizes d (moment_of_script s))) (sym c.in-Place.is)
    (subst (λ (pc : ℕ). IsAtMoment s now (changed_moment (machine_at s.machine pc)))
    c.address.ensures.value
    (with_machine_at s now (machine_at s.machine c.address.result) (c.set_pc.ensures c.args.images.now)))

pub returns-in-Status-clause-moment : goal.returns-in-Status-clause-moment
returns-in-Status-clause-moment c =
    let s = script_state c.args.session.now c.args.images.now in
    let now = script_state c.set_psr.new.self c.args.images.now in
    subst (λ (d : PastDeed). IsAtMoment s now (moment_after_deed s.images s.sizes d (moment_of_script s))) (sym c.in-Status.is)
    (with_machine_at s now (machine_with_status s.machine c.in-Status.status) (c.set_psr.ensures c.args.images.now))

pub returns-in-Banked-clause-moment : goal.returns-in-Banked-clause-moment
returns-in-Banked-clause-moment c =
    let s = script_state c.args.session.now c.args.images.now in
    let now = script_state c.set_register_in.new.self c.args.images.now in
    subst (λ (d : PastDeed). IsAtMoment s now (moment_after_deed s.images s.sizes d (moment_of_script s))) (sym c.in-Banked.is)
    (subst (λ (number : ℕ). IsAtMoment s now
    (changed_moment (machine_with_bank_register s.machine c.in-Banked.mode number c.in-Banked.value)))
    c.number-number-in-Banked.ensures.value
    (with_machine_at s now (machine_with_bank_register s.machine c.in-Banked.mode c.number-number-in-Banked.result c.in-Banked.value)
    (c.set_register_in.ensures c.args.images.now)))

pub returns-in-Woken-clause-moment : goal.returns-in-Woken-clause-moment
returns-in-Woken-clause-moment c =
    let s = script_state c.args.session.now c.args.images.now in
    let now = script_state c.wake.new.self c.args.images.now in
    subst (λ (d : PastDeed). IsAtMoment s now (moment_after_deed s.images s.sizes d (moment_of_script s))) (sym c.in-Woken.is)
    (with_machine_at s now (machine_unhalted s.machine) (c.wake.ensures c.args.images.now))

pub returns-in-Routine-clause-moment : goal.returns-in-Routine-clause-moment
returns-in-Routine-clause-moment c =
    let s = script_state c.args.session.now c.args.images.now in
    let now = script_state c.set_pc-in-Routine.new.self c.args.images.now in
    let first = c.set_register-in-Routine.ensures c.args.images.now in
    subst (λ (d : PastDeed). IsAtMoment s now (moment_after_deed s.images s.sizes d (moment_of_script s))) (sym c.in-Routine.is)
    (with_machine_at s now (machine_at (machine_with_register s.machine 14 c.in-Routine.link) c.in-Routine.address)
    (c.set_pc-in-Routine.ensures c.args.images.now
    ∙ (λ i. script_at (first i) (c.address-in-Routine.ensures.value i))))

pub returns-in-Bytes-clause-moment : goal.returns-in-Bytes-clause-moment
returns-in-Bytes-clause-moment c =
    let s = script_state c.args.session.now c.args.images.now in
    let now = script_state c.put_bytes.new.session c.args.images.now in
    subst (λ (d : PastDeed). IsAtMoment s now (moment_after_deed s.images s.sizes d (moment_of_script s))) (sym c.in-Bytes.is)
    (subst (λ (bytes : List ℕ). IsAtMoment s now (moment_after_put (moment_of_script s) c.in-Bytes.address bytes))
    c.bytes-in-Bytes.ensures
    (put_at s now c.in-Bytes.address c.bytes-in-Bytes.result.now c.put_bytes.result (c.put_bytes.ensures c.args.images.now)))

pub returns-in_ok-start_anew-in-Anew-clause-moment : goal.returns-in_ok-start_anew-in-Anew-clause-moment
returns-in_ok-start_anew-in-Anew-clause-moment c =
    let s = script_state c.args.session.now c.args.images.now in
    let now = script_state c.start_anew.new.self c.args.images.now in
    subst (λ (d : PastDeed). IsAtMoment s now (moment_after_deed s.images s.sizes d (moment_of_script s))) (sym c.in-Anew.is)
    (anew_at s now c.config-config.result c.left-budget.result
    (c.config-config.ensures ∙ ap (λ (m : MachineValue). m.sizes) c.machine.ensures)
    (c.in_ok-start_anew-in-Anew.ensures.made c.args.images.now))
