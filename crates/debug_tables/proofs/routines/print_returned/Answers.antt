use Rattle.std.specs.Prelude.{codes}
use Rattle.debug_tables.specs.Routines.{step_count_text}
use Rattle.command_shell.proofs.TextLemmas.{two_flags, two_texts}
use Rattle.debug_tables.proofs.routines.print_returned.Goals as goal

pub returns : goal.returns
returns g c = record {
  text = two_texts c.push_steps.result (g.W.Sink.contents c.args.sink.now) (g.W.Sink.contents c.push_all.new.sink)
      (g.W.Sink.contents c.push_steps.new.sink) (codes "returned after ") (step_count_text c.args.steps)
      c.in_ok-push_all.ensures.text c.push_steps.ensures.text;
  flag = c.push_steps.ensures.flag;
  same_flag = two_flags c.push_steps.result (g.W.Sink.has_failed c.args.sink.now) (g.W.Sink.has_failed c.push_all.new.sink)
      (g.W.Sink.has_failed c.push_steps.new.sink) c.in_ok-push_all.ensures.same_flag c.push_steps.ensures.same_flag;
}
