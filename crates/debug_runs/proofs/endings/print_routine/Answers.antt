use Rattle.std.proofs.Common.{ℕ, ◌-◌, subst, ◌∙◌}
use Rattle.std.specs.Prelude.{OnOk}
use Rattle.std.specs.Io.KnownBytes.{Appends}
use Rattle.debug_tables.specs.Session.{script_state}
use Rattle.debug_tables.specs.Routines.{returned_text, script_back}
use Rattle.debug_runs.proofs.TraceWriterLemmas.{shows_at}
use Rattle.debug_runs.proofs.endings.print_routine.Goals as goal

pub returns : goal.returns
returns g c images =
    let s = script_state c.args.session.now images in
    let a = g.W.Sink.contents c.args.sink.now in
    let b = g.W.Sink.contents c.print_returned.new.sink in
    let steps = c.saturating_sub-steps.ensures ∙ (λ i. c.left.ensures i - c.left-2.ensures images i) in
    shows_at c.print_returned.result a b (script_state c.go_back.new.session images) (script_back c.args.caller s)
    (returned_text (c.args.caller.left - s.left)) (c.go_back.ensures images)
    (subst (λ (n : ℕ). OnOk c.print_returned.result (Appends a b (returned_text n))) steps c.print_returned.ensures.text)
