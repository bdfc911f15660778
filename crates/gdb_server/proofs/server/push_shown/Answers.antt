use Rattle.std.proofs.Common.{◌≡◌, ◌<◌, length, ◌∙◌, rules}
use Rattle.profile.proofs.OutputLemmas.{AddsAllBut-more, Appends-from_all_but}
use Rattle.gdb_server.specs.Serving.{text_packet, shown_packets}
use Rattle.gdb_server.proofs.ServingLemmas.{shown_more, shown_none}
use Rattle.gdb_server.proofs.server.push_shown.Goals as goal

pub loop-rest-preserved : goal.loop-rest-preserved
loop-rest-preserved g c =
    let rest = c.loop-rest.rest.now in
    let front = c.split_at.result.0.now in
    let back = c.split_at.result.1.now in
    let some : 0 < length c.loop-rest.rest.now = search rules in
    let more = shown_more rest front back c.min.result some c.min.ensures c.split_at.ensures.front c.split_at.ensures.back
    c.split_at.ensures.back_len in
    record {
      text = AddsAllBut-more (g.W.Sink.contents c.args.sink.now) (g.W.Sink.contents c.loop-rest.sink)
          (g.W.Sink.contents c.push_text.new.sink) (shown_packets rest) (text_packet front) (shown_packets back) (shown_packets c.args.text.now)
          c.loop-rest.invariant.text c.in_ok-push_text.ensures.reported more;
      same_flag = c.in_ok-push_text.ensures.same_flag ∙ c.loop-rest.invariant.same_flag;
    }

pub returns-clause-reported : goal.returns-clause-reported
returns-clause-reported g c =
    let empty : length c.loop-rest.rest.now ≡ 0 = search rules in
    Appends-from_all_but (g.W.Sink.contents c.args.sink.now) (g.W.Sink.contents c.loop-rest.sink) (shown_packets c.loop-rest.rest.now)
    (shown_packets c.args.text.now) c.loop-rest.invariant.text (shown_none c.loop-rest.rest.now empty)
