use Rattle.std.proofs.Common.{◌≡◌, ◌-◌, ℕ, Bool, List, ap, ◌∙◌}
use Rattle.profile.specs.images.Entries.{Entry}
use Rattle.debug_session.specs.Past.{PastState}
use Rattle.debug_session.specs.PastNoted.{is_faulted, past_with_steps}
use Rattle.gdb_server.specs.session.Session.{gdb_state}
use Rattle.gdb_server.specs.session.State.{GdbState, gdb_line, with_past}
use Rattle.gdb_server.proofs.session.session.GdbSession.note_steps.Goals as goal

pub returns : goal.returns
returns c = record {
  reported = λ (images : List Entry).
      let g : GdbState = gdb_state c.args.self.now images in
      let p : PastState = g.debug.past in
      let left : ℕ = c.args.left in
      ap (with_past g) (c.in_ok-put_steps.ensures
      ∙ ap (λ (n : ℕ). past_with_steps p gdb_line n c.is_faulted-has_faulted.result)
      (c.saturating_sub-taken.ensures ∙ ap (λ (n : ℕ). left - n) (c.left.ensures images))
      ∙ ap (λ (b : Bool). past_with_steps p gdb_line (left - g.debug.script.left) b) (c.is_faulted-has_faulted.ensures images));
}
