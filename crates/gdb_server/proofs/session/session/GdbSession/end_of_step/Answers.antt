use Rattle.std.proofs.Common.{◌≡◌, true, ap, subst, sym, ◌∙◌, arith}
use Rattle.std.specs.Prelude.{IfOk, None, Option}
use Rattle.address_map.specs.Bytes.{Bytes}
use Rattle.gdb_machine.proofs.GateLemmas.{none_else}
use Rattle.gdb_machine.specs.GuestState.{state_of}
use Rattle.debug_session.specs.State.{ScriptState}
use Rattle.gdb_machine.specs.Value.{MachineValue}
use Rattle.gdb_machine.specs.Watches.{first_changed}
use Rattle.gdb_machine.specs.declared.stops.GdbStop.{GdbStop}
use Rattle.gdb_server.specs.session.Session.{gdb_state}
use Rattle.gdb_server.specs.session.State.{GdbState}
use Rattle.gdb_server.specs.session.Steps.{looks_at}
use Rattle.gdb_server.proofs.SessionLemmas.StepLemmas.{looks_beside}
use Rattle.gdb_server.proofs.session.session.GdbSession.end_of_step.Goals as goal

pub returns : goal.returns
returns c images =
    let g : GdbState = gdb_state c.args.self.now images in
    let bytes = c.memory.ensures.bytes ∙ ap (λ (m : MachineValue). (state_of m.guest).store.bytes) c.machine.ensures in
    let same = subst (λ (b : Bytes). first_changed b c.args.seen.now ≡ None) bytes
    (sym c.first_changed.ensures ∙ none_else c.first_changed.result c.in_default.not-Some) in
    let goes : c.goes_on.result ≡ true = grind arith in
    subst (λ (o : Option GdbStop). IfOk c.end_beside.result (λ (end : Option GdbStop). end ≡ o))
    (looks_beside (looks_at g c.args.going c.args.seen.now) c.args.ahead c.args.stop g.debug.script same
    (sym c.struck_after.ensures ∙ none_else c.struck_after.result c.in_default-struck_after.not-Some) (sym c.goes_on.ensures ∙ goes))
    (c.end_beside.ensures images)
