use Rattle.command_shell.specs.WordWatches.{watch_change_text, watched_text}
use Rattle.command_shell.proofs.TextLemmas.{two_flags, two_texts}
use Rattle.command_shell.proofs.watches.push_watch.Goals as goal

pub returns : goal.returns
returns g c = record {
  text = two_texts c.push_change.result (g.W.Sink.contents c.args.sink.now) (g.W.Sink.contents c.push_watched.new.sink)
      (g.W.Sink.contents c.push_change.new.sink) (watched_text c.args.hit.address) (watch_change_text c.args.hit)
      c.in_ok-push_watched.ensures.text c.push_change.ensures.text;
  flag = c.push_change.ensures.flag;
  same_flag = two_flags c.push_change.result (g.W.Sink.has_failed c.args.sink.now) (g.W.Sink.has_failed c.push_watched.new.sink)
      (g.W.Sink.has_failed c.push_change.new.sink) c.in_ok-push_watched.ensures.same_flag c.push_change.ensures.same_flag;
}
