use Rattle.std.proofs.Common.{◌≡◌, ap, ◌∙◌}
use Rattle.std.specs.Str.Lines.{lines}
use Rattle.debug_session.specs.Session.{debug_state}
use Rattle.profile.specs.text_sink.TextSink.{sink_text_of}
use Rattle.gdb_server.specs.session.Runs.{begin_shown, without_quit}
use Rattle.gdb_server.specs.session.Session.{gdb_state}
use Rattle.gdb_server.proofs.SessionLemmas.RunLemmas.{begun_so, lines_answered}
use Rattle.gdb_server.proofs.session.session.GdbSession.begin_anew.Goals as goal

pub returns-clause-reported : goal.returns-clause-reported
returns-clause-reported c =
    let g = gdb_state c.args.self.now c.args.images.now in
    let number : c.new-lines.result.number ≡ 0 = cc (c.new-lines.ensures) in
    let left : c.new-lines.result.left ≡ lines c.as_slice.result.now = cc (c.new-lines.ensures) in
    (lines_answered c.go_on.new.self.setting g (sink_text_of c.new-reported.result)
    (sink_text_of c.answer_lines.new.sink) (debug_state c.go_on.new.self c.args.images.now)
    (debug_state c.answer_lines.new.self c.answer_lines.new.images) c.new-lines.result.number c.new-lines.result.left
    c.in_ok-answer_lines.ensures.reported (c.go_on.ensures.setting ∙ c.in_ok-start_anew.ensures.setting)
    (c.go_on.ensures.reported c.args.images.now ∙ ap without_quit (c.in_ok-start_anew.ensures.made c.args.images.now))
    c.new-reported.ensures number (left ∙ ap lines c.as_slice.ensures.value)).text

pub returns-clause-state : goal.returns-clause-state
returns-clause-state c =
    let g = gdb_state c.args.self.now c.args.images.now in
    let number : c.new-lines.result.number ≡ 0 = cc (c.new-lines.ensures) in
    let left : c.new-lines.result.left ≡ lines c.as_slice.result.now = cc (c.new-lines.ensures) in
    begun_so g c.answer_lines.new.self.setting (debug_state c.answer_lines.new.self c.answer_lines.new.images) (begin_shown g) c.new.result.items
    (c.answer_lines.ensures.setting ∙ c.go_on.ensures.setting ∙ c.in_ok-start_anew.ensures.setting)
    (lines_answered c.go_on.new.self.setting g (sink_text_of c.new-reported.result)
    (sink_text_of c.answer_lines.new.sink) (debug_state c.go_on.new.self c.args.images.now)
    (debug_state c.answer_lines.new.self c.answer_lines.new.images) c.new-lines.result.number c.new-lines.result.left
    c.in_ok-answer_lines.ensures.reported (c.go_on.ensures.setting ∙ c.in_ok-start_anew.ensures.setting)
    (c.go_on.ensures.reported c.args.images.now ∙ ap without_quit (c.in_ok-start_anew.ensures.made c.args.images.now))
    c.new-reported.ensures number (left ∙ ap lines c.as_slice.ensures.value)).state c.new.ensures.items
