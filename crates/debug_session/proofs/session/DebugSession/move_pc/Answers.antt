-- By whether a fault has halted the machine.
use Rattle.std.proofs.Common.{◌++◌, ◌∙◌, ℕ, List, Option, ap, subst}
use Rattle.std.specs.Option.{option_map}
use Rattle.std.specs.Prelude.{OnOk}
use Rattle.arm_core.specs.State.{State}
use Rattle.debug_modules.specs.Halted.{halted_at_text, halting_fault}
use Rattle.debug_tables.specs.GuestState.{state_of}
use Rattle.debug_tables.specs.MachineState.{stop_of}
use Rattle.debug_tables.specs.Value.{MachineValue}
use Rattle.profile.specs.Fault.{Fault}
use Rattle.debug_tables.specs.Memory.{script_at}
use Rattle.debug_modules.specs.PastDeed.TheVariants.{Place}
use Rattle.debug_session.specs.DebugScript.{set_pc_by}
use Rattle.debug_session.specs.DebugState.{IsDebugged}
use Rattle.debug_session.specs.Session.{debug_state}
use Rattle.debug_session.proofs.EndLemmas.{ends_silent}
use Rattle.debug_session.proofs.OwnLemmas.{changed_silently, view_of_text}
use Rattle.debug_session.proofs.session.DebugSession.move_pc.Goals as goal

pub returns-in-None-clause-reported : goal.returns-in-None-clause-reported
returns-in-None-clause-reported g c images =
    let d = debug_state c.args.self.now images in
    let held = g.W.Sink.contents c.args.sink.now in
    let now = debug_state c.set_pc.new.self images in
    let none = c.in-None.ensures ∙ ap halting_fault (c.stop.ensures.halt ∙ ap (λ (m : MachineValue). option_map stop_of m.guest.halt) c.machine.ensures) in
    subst (λ (o : Option Fault). OnOk c.set_pc.result (IsDebugged held held now (set_pc_by o c.args.self.now.setting d c.args.number c.args.address)))
    none
    (changed_silently c.set_pc.result held now d c.args.number (Place c.args.address) (script_at d.script c.args.address)
    (c.set_pc.ensures.reported images))

pub returns-in-Ok-clause-reported : goal.returns-in-Ok-clause-reported
returns-in-Ok-clause-reported g c images =
    let d = debug_state c.args.self.now images in
    let before = g.W.Sink.contents c.args.sink.now in
    let after = g.W.Sink.contents c.view.new.sink in
    let now = debug_state c.view.new.self images in
    let some = c.in-Some.ensures ∙ ap halting_fault (c.stop.ensures.halt ∙ ap (λ (m : MachineValue). option_map stop_of m.guest.halt) c.machine.ensures) in
    let at = c.pc.ensures.value ∙ ap (λ (cpu : State). cpu.pc)
    (c.cpu.ensures ∙ ap (λ (m : MachineValue). (state_of m.guest).cpu) c.machine-in-Some.ensures) in
    let said = c.into_bytes.ensures ∙ c.in-Ok.ensures.text
    ∙ ap (λ (xs : List ℕ). xs ++ halted_at_text c.in-Some.fault c.pc.result) c.new-text.ensures
    ∙ ap (halted_at_text c.in-Some.fault) at in
    subst (λ (o : Option Fault). OnOk c.view.result (IsDebugged before after now (set_pc_by o c.args.self.now.setting d c.args.number c.args.address)))
    some
    (view_of_text c.view.result before after now d c.args.self.now.setting c.into_bytes.result.items _ said
    (c.view.ensures.reported images))

pub returns-in-None-clause-ends : goal.returns-in-None-clause-ends
returns-in-None-clause-ends g c = ends_silent g.W.Sink.has_failed c.args.sink.now c.set_pc.result c.set_pc.ensures.errors

pub returns-in-Ok-clause-ends : goal.returns-in-Ok-clause-ends
returns-in-Ok-clause-ends g c = c.view.ensures.ends

pub returns-in-None-clause-setting : goal.returns-in-None-clause-setting
returns-in-None-clause-setting g c = c.set_pc.ensures.setting

pub returns-in-Ok-clause-setting : goal.returns-in-Ok-clause-setting
returns-in-Ok-clause-setting g c = c.view.ensures.setting
