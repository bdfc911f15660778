use Rattle.std.proofs.Common.{ap}
use Rattle.debug_tables.specs.Session.{script_state}
use Rattle.debug_tables.proofs.AnswerLemmas.{shows_same}
use Rattle.debug_runs.specs.Endings.{goal_answer, routine_answer}
use Rattle.debug_runs.specs.declared.endings.EndKind.{EndKind}
use Rattle.debug_runs.proofs.endings.print_goal.Goals as goal

pub returns-in-Routine : goal.returns-in-Routine
returns-in-Routine g c images =
    let s = script_state c.args.session.now images in
    shows_same c.print_routine.result (g.W.Sink.contents c.args.sink.now) (g.W.Sink.contents c.print_routine.new.sink)
    (script_state c.print_routine.new.session images) (routine_answer c.in-Routine.caller s) (goal_answer c.args.kind s)
    (ap (λ (k : EndKind). goal_answer k s) c.in-Routine.is) (c.print_routine.ensures images)
