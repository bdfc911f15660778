use Rattle.std.proofs.Common.{ℕ, ap, subst}
use Rattle.std.specs.Prelude.{OnOk, nat_le}
use Rattle.debug_tables.specs.Session.{script_state}
use Rattle.debug_tables.specs.State.{IsAnswered}
use Rattle.debug_tables.specs.Stepping.{step_answer}
use Rattle.debug_listing.proofs.RunMeterLemmas.SliceLemmas.{step_answered}
use Rattle.debug_listing.proofs.run_meter.metered.step.Goals as goal

pub returns-clause-reported : goal.returns-clause-reported
returns-clause-reported g c =
    let images = c.args.images.now in
    let s = script_state c.args.session.now images in
    let now = script_state c.take_steps.new.session images in
    let before = g.W.Sink.contents c.args.sink.now in
    let after = g.W.Sink.contents c.print_stepped.new.sink in
    subst (λ (n : ℕ). OnOk c.print_stepped.result (IsAnswered before after now (step_answer s n))) c.from-count.ensures
    (step_answered c.print_stepped.result s now c.from-count.result _ c.place_of.result _ before
    (g.W.Sink.contents c.take_steps.new.sink) after c.in_ok-stop.stop
    (ap (λ (n : ℕ). nat_le c.from-count.result n) (c.left.ensures images)) c.in_ok-stop.ensures.ran
    (c.place_of.ensures images) c.print_stepped.ensures.text)
