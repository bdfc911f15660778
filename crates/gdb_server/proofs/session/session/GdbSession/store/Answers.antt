use Rattle.std.proofs.Common.{◌≡◌, List, length, ap, ◌∙◌, arith}
use Rattle.std.specs.Prelude.{codes}
use Rattle.debug_session.specs.CommandShellSession.{script_state}
use Rattle.profile.specs.images.Entries.{Entry}
use Rattle.gdb_server.specs.session.Session.{gdb_state}
use Rattle.gdb_server.specs.session.State.{GdbState, packet_reply}
use Rattle.gdb_server.proofs.SessionLemmas.ChangeLemmas.{stored_so}
use Rattle.gdb_server.proofs.session.session.GdbSession.store.Goals as goal

pub returns-in_ok-note_bytes-in-Ok : goal.returns-in_ok-note_bytes-in-Ok
returns-in_ok-note_bytes-in-Ok c = record {
  reported = λ (images : List Entry).
      let g : GdbState = gdb_state c.args.self.now images in
      let fits : length c.args.bytes.now ≡ c.args.range.count = omega (arith, c.if-bytes-range.false) in
      ap (λ (s : GdbState). packet_reply s (codes "OK")) (c.in_ok-note_bytes-in-Ok.ensures.reported images)
      ∙ stored_so g c.args.range c.args.bytes.now (script_state c.put_bytes.new.session images) c.in-Ok.field-0 fits
      (c.in-Ok.ensures images);
}
