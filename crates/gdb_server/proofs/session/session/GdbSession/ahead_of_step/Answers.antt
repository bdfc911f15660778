-- Both parts, as they are known.
use Rattle.std.proofs.Common.{Bool, List, ap, ◌∙◌}
use Rattle.std.specs.Prelude.{Option}
use Rattle.address_map.specs.Bytes.{Bytes}
use Rattle.address_map.specs.Memory.{bytes_of}
use Rattle.arm_core.specs.State.{State}
use Rattle.gdb_machine.specs.GuestState.{state_of}
use Rattle.gdb_machine.specs.Value.{MachineValue}
use Rattle.gdb_machine.specs.StepEnds.{may_change_list}
use Rattle.gdb_machine.specs.declared.watches.WatchedPlace.{WatchedPlace}
use Rattle.profile.specs.images.Entries.{Entry}
use Rattle.gdb_machine.specs.declared.step_ends.StepAhead.{StepAhead}
use Rattle.gdb_server.specs.session.Session.{gdb_state}
use Rattle.gdb_server.specs.session.Steps.{struck_ahead}
use Rattle.gdb_server.proofs.session.session.GdbSession.ahead_of_step.Goals as goal

pub returns : goal.returns
returns c = λ (images : List Entry).
    let m = (gdb_state c.args.self.now images).debug.script.machine in
    let going = c.args.going in
    let changes = c.may_change_list.ensures
    ∙ ap (λ (s : State). may_change_list going s (bytes_of c.memory.result.now))
    (c.cpu.ensures ∙ ap (λ (v : MachineValue). (state_of v.guest).cpu) c.machine-machine.ensures)
    ∙ ap (λ (b : Bytes). may_change_list going m.cpu b)
    (c.memory.ensures.bytes ∙ ap (λ (v : MachineValue). (state_of v.guest).store.bytes) c.machine-machine.ensures) in
    let first : StepAhead = record { may_change = may_change_list going m.cpu m.store.bytes; struck = c.struck_ahead.result } in
    ap (λ (b : Bool). record first { may_change = b }) changes
    ∙ ap (λ (o : Option WatchedPlace). record first { struck = o }) (c.struck_ahead.ensures images)
