use Rattle.debug_tables.specs.Session.{script_state}
use Rattle.debug_listing.proofs.RunMeterLemmas.SliceLemmas.{run_answered}
use Rattle.debug_listing.proofs.run_meter.metered.run.Goals as goal

pub returns-clause-reported : goal.returns-clause-reported
returns-clause-reported g c =
    let images = c.args.images.now in
    run_answered c.print_stop.result (script_state c.args.session.now images) (script_state c.take_steps.new.session images)
    c.left-left.result _ c.place_of.result (g.W.Sink.contents c.args.sink.now) (g.W.Sink.contents c.take_steps.new.sink)
    (g.W.Sink.contents c.print_stop.new.sink) c.in_ok-stop.stop (c.left-left.ensures images) c.in_ok-stop.ensures.ran
    (c.place_of.ensures images) c.print_stop.ensures.text
