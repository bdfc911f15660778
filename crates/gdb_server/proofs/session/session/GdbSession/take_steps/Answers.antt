use Rattle.std.proofs.Common.{◌≡◌, List, ap, subst, ◌∙◌}
use Rattle.address_map.specs.Bytes.{Bytes}
use Rattle.gdb_machine.specs.GuestState.{state_of}
use Rattle.gdb_machine.specs.Value.{MachineValue}
use Rattle.gdb_machine.specs.Watches.{watched_bytes}
use Rattle.gdb_machine.specs.declared.watches.SeenByte.{SeenByte}
use Rattle.profile.specs.text_sink.TextSink.{sink_text_of}
use Rattle.gdb_server.specs.session.Session.{gdb_state, IsAfterLooked}
use Rattle.gdb_server.specs.session.State.{GdbState}
use Rattle.gdb_server.specs.session.Steps.{gdb_steps, looked_steps, looks_at}
use Rattle.gdb_server.proofs.SessionLemmas.StepLemmas.{steps_noted}
use Rattle.gdb_server.proofs.session.session.GdbSession.take_steps.Goals as goal

pub returns-clause-taken : goal.returns-clause-taken
returns-clause-taken c =
    let images = c.args.images.now in
    let g : GdbState = gdb_state c.args.self.now images in
    let here : GdbState = gdb_state c.take_looked.new.self images in
    let seen : c.as_slice.result.now ≡ watched_bytes g.debug.script.machine.store.bytes g.watches =
    c.as_slice.ensures.value ∙ c.in_ok-seen.ensures
    ∙ ap (λ (b : Bytes). watched_bytes b g.watches)
    (c.memory-map.ensures.bytes ∙ ap (λ (m : MachineValue). (state_of m.guest).store.bytes) c.machine.ensures) in
    let looked = subst (λ (xs : List SeenByte). IsAfterLooked g here (sink_text_of c.args.printed.now) (sink_text_of c.take_looked.new.printed)
    c.in_ok-stop.stop (looked_steps (looks_at g c.args.going xs) c.args.count g.debug.script)) seen c.in_ok-stop.ensures.taken in
    steps_noted g here (gdb_state c.note_steps.new.self images) (sink_text_of c.args.printed.now) (sink_text_of c.take_looked.new.printed)
    c.in_ok-stop.stop (gdb_steps g c.args.going c.args.count) c.left-left.result looked (c.in_ok-note_steps.ensures.reported images)
    (c.left-left.ensures images)
