use Rattle.std.proofs.Common.{}
use Rattle.debug_tables.specs.Session.{script_state}
use Rattle.debug_runs.proofs.LastLemmas.{last_run_answer}
use Rattle.debug_runs.proofs.last.run_last.Goals as goal

pub returns-clause-ran : goal.returns-clause-ran
returns-clause-ran c =
    let images = c.args.context.now.images.now in
    last_run_answer c.args.writer.now _ c.args.context.now.modes.now c.args.context.now.labels.now c.args.count c.args.most
    (script_state c.args.session.now images) (script_state c.take_last.new.session images) c.new-last.result c.take_last.new.last c.in_ok-end.end
    c.in_ok-end.ensures.ran c.new-last.ensures c.in_ok-end.ensures.last c.in_ok-print.ensures
