use Rattle.std.proofs.Common.{◌∙◌, ap}
use Rattle.debug_tables.specs.Memory.{script_with_status}
use Rattle.debug_tables.specs.Session.{script_state}
use Rattle.debug_modules.specs.Checks.{status_after_pattern}
use Rattle.debug_tables.specs.Value.{MachineValue}
use Rattle.arm_core.specs.State.{State}
use Rattle.arm_core.specs.declared.psr.Psr.{Psr}
use Rattle.debug_modules.specs.Noted.{past_with_deed}
use Rattle.debug_modules.specs.PastDeed.TheVariants.{Status}
use Rattle.debug_tables.specs.GuestState.{state_of}
use Rattle.debug_session.specs.Session.{debug_state}
use Rattle.debug_session.proofs.OwnLemmas.{changed_script}
use Rattle.debug_session.proofs.session.DebugSession.set_psr.Goals as goal

pub returns-clause-reported : goal.returns-clause-reported
returns-clause-reported c images =
    let s = script_state c.args.self.now.session images in
    let status = c.status_with-status.ensures ∙ ap (status_after_pattern c.args.pattern) (c.psr.ensures ∙ ap (λ (cpu : State). cpu.psr)
    (c.cpu.ensures ∙ ap (λ (m : MachineValue). (state_of m.guest).cpu) c.machine.ensures)) in
    changed_script (debug_state c.args.self.now images) (script_state c.set_psr.new.self images)
    (script_with_status s (status_after_pattern c.args.pattern s.machine.cpu.psr)) c.put.new.self _ c.new.result.items
    (c.set_psr.ensures images ∙ ap (script_with_status s) status)
    (c.in_ok-put.ensures ∙ ap (λ (p : Psr). past_with_deed c.args.self.now.past c.args.number (Status p)) status)
    c.new.ensures.items
