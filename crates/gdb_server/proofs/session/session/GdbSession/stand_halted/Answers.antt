use Rattle.std.proofs.Common.{◌≡◌, ◌++◌, ℕ, List, ap, sym, ◌∙◌}
use Rattle.gdb_machine.specs.StepEnds.{halted_text, is_own_signal}
use Rattle.gdb_machine.specs.declared.stops.GdbStop.TheVariants as reason
use Rattle.profile.specs.declared.stop.Stop.TheVariants as stop
use Rattle.profile.specs.text_sink.TextSink.{sink_text_of}
use Rattle.gdb_server.specs.session.Runs.{halt_shown, stop_shown_with}
use Rattle.gdb_server.specs.session.Session.{gdb_state}
use Rattle.gdb_server.specs.session.State.{GdbState}
use Rattle.gdb_server.proofs.SessionLemmas.RunLemmas.{answered_as, fault_ends, fault_stays, halts_so}
use Rattle.gdb_server.proofs.session.session.GdbSession.stand_halted.Goals as goal

pub returns-in_default-clause-reported : goal.returns-in_default-clause-reported
returns-in_default-clause-reported c images =
    let g : GdbState = gdb_state c.args.self.now images in
    answered_as _ _ _ _ (halts_so g c.args.signal c.args.stop c.in_default.not-Fault) (c.stand.ensures.reported images)

pub returns-then-is_own_signal-clause-reported : goal.returns-then-is_own_signal-clause-reported
returns-then-is_own_signal-clause-reported c images =
    let g : GdbState = gdb_state c.args.self.now images in
    let fault = c.in-Fault.fault in
    answered_as _ _ _ _ (fault_ends g (is_own_signal c.args.signal fault) fault (sym c.is_own_signal.ensures ∙ c.if-is_own_signal.true)
    ∙ ap (halt_shown g c.args.signal) (sym c.in-Fault.is))
    (c.stand-then-is_own_signal.ensures.reported images)

pub returns-clause-reported : goal.returns-clause-reported
returns-clause-reported c images =
    let g : GdbState = gdb_state c.args.self.now images in
    let fault = c.in-Fault.fault in
    let text : sink_text_of c.push_halted.new.sink ≡ halted_text fault g.debug.script.machine.cpu.pc =
    c.in_ok-push_halted.ensures.text ∙ ap (λ (x : List ℕ). x ++ halted_text fault c.pc.result) c.new-reported.ensures
    ∙ ap (λ (at : ℕ). halted_text fault at) (c.pc.ensures images) in
    answered_as _ _ _ _ (ap (λ (x : List ℕ). stop_shown_with g x (reason.Ran (stop.Fault fault))) text
    ∙ fault_stays g (is_own_signal c.args.signal fault) fault (sym c.is_own_signal.ensures ∙ c.if-is_own_signal.false)
    ∙ ap (halt_shown g c.args.signal) (sym c.in-Fault.is))
    (c.stopped_with.ensures.reported images)
