use Rattle.std.proofs.Common.{◌≡◌, List, [], ap, ◌∙◌}
use Rattle.address_map.specs.Bytes.{Bytes}
use Rattle.gdb_machine.specs.GuestState.{state_of}
use Rattle.gdb_machine.specs.Value.{MachineValue}
use Rattle.gdb_machine.specs.Watches.{first_changed, watched_bytes}
use Rattle.gdb_machine.specs.declared.stops.GdbStop.{GdbStop}
use Rattle.gdb_machine.specs.declared.watches.SeenByte.{SeenByte}
use Rattle.gdb_server.specs.session.Back.{changed_or, gone_back_to, stepped_back}
use Rattle.gdb_server.specs.session.Runs.{gdb_stop_shown, stop_here}
use Rattle.gdb_server.specs.session.Session.{gdb_state}
use Rattle.gdb_server.specs.session.State.{GdbState}
use Rattle.gdb_server.proofs.SessionLemmas.RunLemmas.{answered_as}
use Rattle.gdb_server.proofs.session.session.GdbSession.step_back_to.Goals as goal

pub returns-clause-reported : goal.returns-clause-reported
returns-clause-reported c =
    let g : GdbState = gdb_state c.args.self.now c.args.images.now in
    let there : GdbState = gdb_state c.go_back.new.self c.go_back.new.images in
    let seen : c.as_slice.result.now ≡ watched_bytes g.debug.script.machine.store.bytes g.watches =
    c.as_slice.ensures.value ∙ c.in_ok-seen.ensures
    ∙ ap (λ (b : Bytes). watched_bytes b g.watches)
    (c.memory-map.ensures.bytes ∙ ap (λ (m : MachineValue). (state_of m.guest).store.bytes) c.machine.ensures) in
    answered_as _ _ _ _ (ap (λ (w : GdbStop). gdb_stop_shown there [] w) (c.stop_after-stop.ensures c.go_back.new.images)
    ∙ ap (λ (xs : List SeenByte). gdb_stop_shown there [] (changed_or (first_changed there.debug.script.machine.store.bytes xs) (stop_here there))) seen
    ∙ ap (stepped_back g) c.in_ok-go_back.ensures.reported)
    (c.stand.ensures.reported c.go_back.new.images)
