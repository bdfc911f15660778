use Rattle.std.proofs.Common.{◌≡◌, ap, sym, ◌∙◌}
use Rattle.std.specs.Prelude.{Option}
use Rattle.address_map.specs.Bytes.{Bytes}
use Rattle.gdb_machine.specs.GuestState.{state_of}
use Rattle.gdb_machine.specs.Value.{MachineValue}
use Rattle.gdb_machine.specs.Watches.{first_changed}
use Rattle.gdb_machine.specs.declared.watches.WatchedPlace.{WatchedPlace}
use Rattle.gdb_server.specs.session.Back.{changed_or}
use Rattle.gdb_server.specs.session.Runs.{stop_here}
use Rattle.gdb_server.specs.session.Session.{gdb_state}
use Rattle.gdb_server.specs.session.State.{GdbState}
use Rattle.gdb_server.proofs.session.session.GdbSession.stop_after.Goals as goal

pub returns-in-Some : goal.returns-in-Some
returns-in-Some c images =
    let g : GdbState = gdb_state c.args.self.now images in
    let found : c.first_changed.result ≡ first_changed g.debug.script.machine.store.bytes c.args.seen.now = c.first_changed.ensures
    ∙ ap (λ (b : Bytes). first_changed b c.args.seen.now)
    (c.memory.ensures.bytes ∙ ap (λ (m : MachineValue). (state_of m.guest).store.bytes) c.machine.ensures) in
    sym (ap (λ (o : Option WatchedPlace). changed_or o (stop_here g)) (sym found ∙ c.in-Some.is))

pub returns-in-None : goal.returns-in-None
returns-in-None c images =
    let g : GdbState = gdb_state c.args.self.now images in
    let found : c.first_changed.result ≡ first_changed g.debug.script.machine.store.bytes c.args.seen.now = c.first_changed.ensures
    ∙ ap (λ (b : Bytes). first_changed b c.args.seen.now)
    (c.memory.ensures.bytes ∙ ap (λ (m : MachineValue). (state_of m.guest).store.bytes) c.machine.ensures) in
    c.stop_here.ensures images ∙ sym (ap (λ (o : Option WatchedPlace). changed_or o (stop_here g)) (sym found ∙ c.in-None.is))
