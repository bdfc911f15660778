use Rattle.std.proofs.Common.{◌≡◌, false, ap, sym, ◌∙◌}
use Rattle.std.specs.Prelude.{None, Option, Some, option_map}
use Rattle.debug_session.specs.CommandShellSession.{script_state}
use Rattle.gdb_machine.specs.MachineState.{stop_of}
use Rattle.gdb_machine.specs.GuestState.{state_of}
use Rattle.gdb_machine.specs.Value.{MachineValue}
use Rattle.profile.specs.declared.stop.Stop.{Stop}
use Rattle.gdb_server.specs.session.Runs.{with_whole_budget}
use Rattle.gdb_server.specs.session.Session.{gdb_state}
use Rattle.gdb_server.specs.session.State.{GdbState, with_script}
use Rattle.gdb_server.proofs.SessionLemmas.RunLemmas.{answered_as, goes_halted, goes_nowhere, goes_unhalted}
use Rattle.gdb_server.proofs.session.session.GdbSession.go.Goals as goal

pub returns-then-is_gone-clause-reported : goal.returns-then-is_gone-clause-reported
returns-then-is_gone-clause-reported c =
    let images = c.args.images.now in
    let g : GdbState = gdb_state c.args.self.now images in
    let there : GdbState = with_script g (script_state c.set_budget.new.self images) in
    let renewed : there ≡ with_whole_budget g = ap (with_script g) (c.set_budget.ensures images) in
    answered_as _ _ _ _ (goes_nowhere g there c.args.going c.args.signal renewed (sym c.is_gone.ensures ∙ c.if-is_gone.true))
    (c.stand.ensures.reported images)

pub returns-in-Some-clause-reported : goal.returns-in-Some-clause-reported
returns-in-Some-clause-reported c =
    let images = c.args.images.now in
    let g : GdbState = gdb_state c.args.self.now images in
    let there : GdbState = with_script g (script_state c.set_budget.new.self images) in
    let renewed : there ≡ with_whole_budget g = ap (with_script g) (c.set_budget.ensures images) in
    let halted : option_map stop_of there.debug.script.machine.halt ≡ Some c.in-Some.stop =
    sym (ap (λ (m : MachineValue). option_map stop_of (state_of m.guest).halt) c.machine.ensures) ∙ sym c.stop.ensures.halt ∙ c.in-Some.is in
    answered_as _ _ _ _ (goes_halted g there c.args.going c.args.signal c.in-Some.stop renewed
    (sym c.is_gone.ensures ∙ c.if-is_gone.false) halted)
    (c.stand_halted.ensures.reported images)

pub returns-in-None-clause-reported : goal.returns-in-None-clause-reported
returns-in-None-clause-reported c =
    let images = c.args.images.now in
    let g : GdbState = gdb_state c.args.self.now images in
    let there : GdbState = with_script g (script_state c.set_budget.new.self images) in
    let renewed : there ≡ with_whole_budget g = ap (with_script g) (c.set_budget.ensures images) in
    let unhalted : option_map stop_of there.debug.script.machine.halt ≡ None =
    sym (ap (λ (m : MachineValue). option_map stop_of (state_of m.guest).halt) c.machine.ensures) ∙ sym c.stop.ensures.halt ∙ c.in-None.is in
    answered_as _ _ _ _ (goes_unhalted g there c.args.going c.args.signal renewed
    (sym c.is_gone.ensures ∙ c.if-is_gone.false) unhalted)
    c.go_unhalted.ensures.reported
