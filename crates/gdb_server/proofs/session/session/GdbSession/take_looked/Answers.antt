use Rattle.std.proofs.Common.{◌≡◌, refl, ap, subst, sym, ◌∙◌, arith}
use Rattle.std.specs.Prelude.{Some, None}
use Rattle.gdb_machine.proofs.GateLemmas.{none_else}
use Rattle.gdb_machine.specs.declared.stops.GdbStop.TheVariants as reason
use Rattle.profile.specs.text_sink.TextSink.{sink_text_of}
use Rattle.gdb_server.specs.session.Session.{gdb_state}
use Rattle.gdb_server.specs.session.State.{GdbState}
use Rattle.gdb_machine.specs.declared.step_ends.StepAhead.{StepAhead}
use Rattle.gdb_server.specs.session.Steps.{StepLooks, ahead_of, end_of_step, looks_at}
use Rattle.gdb_server.proofs.SessionLemmas.StepLemmas.{ends_here, ends_there, goes_further, same_looks}
use Rattle.gdb_server.proofs.session.session.GdbSession.take_looked.Goals as goal

pub returns-in-Some-clause-taken : goal.returns-in-Some-clause-taken
returns-in-Some-clause-taken c =
    let images = c.args.images.now in
    let first : GdbState = gdb_state c.args.self.now images in
    let here : GdbState = gdb_state c.loop-left.self images in
    let now : GdbState = gdb_state (record c.loop-left.self { debug = record c.loop-left.self.debug { session = c.take_steps.new.self } }) images in
    let l : StepLooks = looks_at first c.args.going c.args.seen.now in
    let same : looks_at now c.args.going c.args.seen.now ≡ l =
    same_looks first here now c.args.going c.args.seen.now c.loop-left.invariant.steps.others refl in
    let ahead : c.ahead_of_step-ahead.result ≡ ahead_of c.args.going l.watches here.debug.script =
    c.ahead_of_step-ahead.ensures images
    ∙ ap (λ (g : GdbState). ahead_of c.args.going g.watches here.debug.script) c.loop-left.invariant.steps.others in
    let is : end_of_step l (ahead_of c.args.going l.watches here.debug.script) (reason.Ran c.in_ok-ran.ran.stop) now.debug.script
    ≡ Some c.in-Some.stop =
    ap (λ (a : StepAhead). end_of_step l a (reason.Ran c.in_ok-ran.ran.stop) now.debug.script) (sym ahead)
    ∙ ap (λ (k : StepLooks). end_of_step k c.ahead_of_step-ahead.result (reason.Ran c.in_ok-ran.ran.stop) now.debug.script) (sym same)
    ∙ sym (c.in_ok-end.ensures images) ∙ c.in-Some.is in
    ends_there l first here now (sink_text_of c.args.printed.now) (sink_text_of c.loop-left.printed) (sink_text_of c.take_steps.new.sink)
    c.args.count c.loop-left.left c.in_ok-ran.ran.taken c.in_ok-ran.ran.stop c.in-Some.stop c.loop-left.invariant.steps
    (omega (arith, c.loop-left-test.true)) refl c.in_ok-ran.ensures.ran is

pub loop-left-preserved : goal.loop-left-preserved
loop-left-preserved c =
    let images = c.args.images.now in
    let first : GdbState = gdb_state c.args.self.now images in
    let here : GdbState = gdb_state c.loop-left.self images in
    let now : GdbState = gdb_state (record c.loop-left.self { debug = record c.loop-left.self.debug { session = c.take_steps.new.self } }) images in
    let l : StepLooks = looks_at first c.args.going c.args.seen.now in
    let same : looks_at now c.args.going c.args.seen.now ≡ l =
    same_looks first here now c.args.going c.args.seen.now c.loop-left.invariant.steps.others refl in
    let ahead : c.ahead_of_step-ahead.result ≡ ahead_of c.args.going l.watches here.debug.script =
    c.ahead_of_step-ahead.ensures images
    ∙ ap (λ (g : GdbState). ahead_of c.args.going g.watches here.debug.script) c.loop-left.invariant.steps.others in
    let is : end_of_step l (ahead_of c.args.going l.watches here.debug.script) (reason.Ran c.in_ok-ran.ran.stop) now.debug.script
    ≡ None =
    ap (λ (a : StepAhead). end_of_step l a (reason.Ran c.in_ok-ran.ran.stop) now.debug.script) (sym ahead)
    ∙ ap (λ (k : StepLooks). end_of_step k c.ahead_of_step-ahead.result (reason.Ran c.in_ok-ran.ran.stop) now.debug.script) (sym same)
    ∙ sym (c.in_ok-end.ensures images) ∙ none_else c.in_ok-end.end c.in_default.not-Some in
    record {
      steps = goes_further l first here now (sink_text_of c.args.printed.now) (sink_text_of c.loop-left.printed)
          (sink_text_of c.take_steps.new.sink) c.args.count c.loop-left.left c.in_ok-ran.ran.taken c.in_ok-ran.ran.stop
          c.loop-left.invariant.steps (omega (arith, c.loop-left-test.true)) refl c.in_ok-ran.ensures.ran is;
    }

pub returns-clause-taken : goal.returns-clause-taken
returns-clause-taken c =
    ends_here (looks_at (gdb_state c.args.self.now c.args.images.now) c.args.going c.args.seen.now)
    (gdb_state c.args.self.now c.args.images.now) (gdb_state c.loop-left.self c.args.images.now)
    (sink_text_of c.args.printed.now) (sink_text_of c.loop-left.printed) c.args.count c.loop-left.left c.loop-left.invariant.steps
    (omega (arith, c.loop-left-test.false))
