use Rattle.std.proofs.Common.{◌≡◌, [], ap, ◌∙◌}
use Rattle.std.specs.Prelude.{Some}
use Rattle.command_shell_lines.specs.Blocks.{block_lines}
use Rattle.debug_session.specs.Session.{debug_state}
use Rattle.profile.specs.text_sink.TextSink.{sink_text_of}
use Rattle.gdb_server.specs.session.Session.{gdb_state}
use Rattle.gdb_server.proofs.SessionLemmas.RunLemmas.{line_answered}
use Rattle.gdb_server.proofs.session.session.GdbSession.answer_decoded.Goals as goal

pub returns-clause-reported : goal.returns-clause-reported
unfolding block_lines
returns-clause-reported c =
    let g = gdb_state c.args.self.now c.args.images.now in
    let number : c.new-none.result.number ≡ 0 = cc (c.new-none.ensures) in
    let none : c.new-none.result.left ≡ [] = cc (c.new-none.ensures) in
    let alone : block_lines c.new-none.result.left ≡ [] = ap block_lines none in
    line_answered c.go_on.new.self.setting c.answer_line.new.self.setting g _ (sink_text_of c.new-reported.result)
    (sink_text_of c.answer_line.new.sink) (debug_state c.go_on.new.self c.args.images.now)
    (debug_state c.answer_line.new.self c.answer_line.new.images) c.new-none.result.number (block_lines c.new-none.result.left)
    c.args.line.now c.in_ok-answer_line.ensures.reported c.go_on.ensures.setting
    (c.answer_line.ensures.setting ∙ c.go_on.ensures.setting) (c.go_on.ensures.reported c.args.images.now)
    c.new-reported.ensures number alone c.into_bytes.ensures (ap Some c.in_ok-reply.ensures.items)
