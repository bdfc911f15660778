use Rattle.std.proofs.Common.{ap}
use Rattle.debug_tables.specs.Session.{script_state}
use Rattle.debug_tables.proofs.AnswerLemmas.{shows_same}
use Rattle.debug_runs.specs.Endings.{line_end_answer, watch_answer}
use Rattle.debug_runs.proofs.endings.print_line_end.Goals as goal

pub returns-in-Watched : goal.returns-in-Watched
returns-in-Watched g c images =
    let s = script_state c.args.session.now images in
    shows_same c.print_hit.result (g.W.Sink.contents c.args.sink.now) (g.W.Sink.contents c.print_hit.new.sink)
    (script_state c.print_hit.new.session images) (watch_answer s c.in-Watched.hit) (line_end_answer c.args.kind s c.args.end)
    (ap (line_end_answer c.args.kind s) c.in-Watched.is) (c.print_hit.ensures images)
