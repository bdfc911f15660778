-- By the lemmas that are named.
use Rattle.std.proofs.Common.{◌≡◌, ◌<◌, arith, length, subst}
use Rattle.std.specs.Prelude.{OnOk}
use Rattle.debug_runs.specs.LastSteps.{LastState, last_ones_of}
use Rattle.profile.specs.text_sink.TextSink.{sink_text_of}
use Rattle.debug_runs.proofs.LastLemmas.{one_gone}
use Rattle.debug_runs.proofs.last_steps.LastSteps.shorten.Goals as goal

pub returns-in-Some : goal.returns-in-Some
returns-in-Some c =
    let l : LastState = record {
      count = c.self.inside.count;
      before = c.self.inside.before;
      untold = sink_text_of c.self.inside.untold;
      steps = c.self.inside.steps.items;
    } in
    let many : c.self.inside.count < length c.self.inside.steps.items = omega (arith, c.self.inside.steps.ok.0) in
    subst (λ (m : LastState). OnOk c.print_printed.result (c.print_printed.new.self ≡ last_ones_of m)) c.self.view_is
    (one_gone c.print_printed.result l c.print_printed.new.self c.in-Some.step c.pop_front.new.self.items c.in-Some.ensures.items
    many c.print_printed.ensures)
