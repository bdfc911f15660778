-- Nothing is known ahead of a step that can't be taken; else it is what the core and memory strike.
use Rattle.std.proofs.Common.{ℕ, List, ap, ◌∙◌, arith}
use Rattle.profile.specs.images.Entries.{Entry}
use Rattle.address_map.specs.Bytes.{Bytes}
use Rattle.address_map.specs.Memory.{bytes_of}
use Rattle.arm_core.specs.State.{State}
use Rattle.gdb_machine.specs.GuestState.{state_of}
use Rattle.gdb_machine.specs.Value.{MachineValue}
use Rattle.gdb_machine.specs.Watches.{struck_place}
use Rattle.gdb_server.proofs.SessionLemmas.StepLemmas.{known_ahead, none_ahead}
use Rattle.gdb_server.proofs.session.session.GdbSession.struck_ahead.Goals as goal

pub returns-then-left-eq0 : goal.returns-then-left-eq0
returns-then-left-eq0 c = λ (images : List Entry).
    let session = c.args.self.now.debug.session in
    let machine = state_of session.machine.guest in
    let left = c.left.ensures images in
    none_ahead session.left (struck_place machine.cpu machine.store.bytes c.args.self.now.watches) (omega (arith, left, c.if-left-eq0.true))

pub returns : goal.returns
returns c = λ (images : List Entry).
    let session = c.args.self.now.debug.session in
    let machine = state_of session.machine.guest in
    let watches = c.args.self.now.watches in
    let left = c.left.ensures images in
    c.struck_place.ensures
    ∙ ap (λ (s : State). struck_place s (bytes_of c.memory.result.now) watches)
    (c.cpu.ensures ∙ ap (λ (m : MachineValue). (state_of m.guest).cpu) c.machine-machine.ensures)
    ∙ ap (λ (b : Bytes). struck_place machine.cpu b watches)
    (c.memory.ensures.bytes ∙ ap (λ (m : MachineValue). (state_of m.guest).store.bytes) c.machine-machine.ensures)
    ∙ known_ahead session.left (struck_place machine.cpu machine.store.bytes watches) (omega (arith, left, c.if-left-eq0.false))
