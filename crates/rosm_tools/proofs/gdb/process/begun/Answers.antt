use Rattle.std.proofs.Common.{ℕ, List, ap, subst, ◌∙◌}
use Rattle.std.specs.Io.KnownBytes.{Appends}
use Rattle.profile.specs.images.Entries.{Entry}
use Rattle.gdb_server.specs.session.Session.{gdb_state}
use Rattle.gdb_server.specs.declared.session.session.GdbSession.{GdbSession}
use Rattle.gdb_server.specs.Serving.{server_before_bytes}
use Rattle.rosm_tools.proofs.GdbLemmas.ServeLemmas.{session_begun, session_starts, start_text}
use Rattle.rosm_tools.proofs.gdb.process.begun.Goals as goal

pub returns-clause-state : goal.returns-clause-state
returns-clause-state g c =
    let wanted = c.args.wanted.now in
    let images : List Entry = c.args.read.now.images in
    let start : List ℕ = c.args.read.now.start.items in
    let session : GdbSession = c.in_ok-session.session in
    c.new-2.ensures.state c.begin.new.images
    ∙ ap server_before_bytes (session_begun wanted start images (gdb_state session images)
    (gdb_state c.begin.new.self c.begin.new.images)
    (session_starts wanted start c.as_slice.result.now images (gdb_state session images) c.as_slice.ensures.value
    (c.in_ok-session.ensures.state images)) c.in_ok-reported.ensures.state)

pub returns-clause-told : goal.returns-clause-told
returns-clause-told g c heard =
    let wanted = c.args.wanted.now in
    let images : List Entry = c.args.read.now.images in
    let start : List ℕ = c.args.read.now.start.items in
    let session : GdbSession = c.in_ok-session.session in
    subst (λ (text : List ℕ). Appends (g.E.Sink.contents c.args.errors.now) (g.E.Sink.contents c.print.new.errors) text)
    (c.as_slice-2.ensures.value
    ∙ start_text wanted start images (gdb_state session images) c.in_ok-reported.reported.items
    (session_starts wanted start c.as_slice.result.now images (gdb_state session images) c.as_slice.ensures.value
    (c.in_ok-session.ensures.state images)) c.in_ok-reported.ensures.reported)
    (c.print.ensures heard)
