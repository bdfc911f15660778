use Rattle.std.proofs.Common.{ℕ, List, ap, sym, ◌∙◌}
use Rattle.profile.specs.images.Entries.{Entry}
use Rattle.debug_session.specs.Memory.{script_unhalted}
use Rattle.debug_session.specs.CommandShellSession.{script_state}
use Rattle.debug_session.specs.Past.{PastState}
use Rattle.debug_session.specs.PastDeed.TheVariants as deed
use Rattle.debug_session.specs.PastNoted.{past_with_deed}
use Rattle.gdb_server.specs.session.Changes.{past_after_write, script_with_change}
use Rattle.gdb_server.specs.session.Session.{gdb_state}
use Rattle.gdb_server.specs.session.State.{GdbState, gdb_line}
use Rattle.gdb_server.proofs.SessionLemmas.ChangeLemmas.{changed_so}
use Rattle.gdb_server.proofs.session.session.GdbSession.make_change.Goals as goal

pub returns-in_ok-put-in-Present : goal.returns-in_ok-put-in-Present
returns-in_ok-put-in-Present c = record {
  reported = λ (images : List Entry).
      let g : GdbState = gdb_state c.args.self.now images in
      changed_so g (script_state c.set_register.new.self images) _ c.args.change
      (c.set_register.ensures images ∙ ap (script_with_change g.debug.script) (sym c.in-Present.is))
      (c.in_ok-put-in-Present.ensures ∙ ap (λ (n : ℕ). past_with_deed g.debug.past gdb_line (deed.Register n c.in-Present.value)) c.new-register.ensures ∙ ap (past_after_write g.debug.past) (sym c.in-Present.is));
}

pub returns-in_ok-put-in-Place-2 : goal.returns-in_ok-put-in-Place-2
returns-in_ok-put-in-Place-2 c = record {
  reported = λ (images : List Entry).
      let g : GdbState = gdb_state c.args.self.now images in
      changed_so g (script_state c.wake.new.self images) _ c.args.change
      (c.wake.ensures images ∙ ap script_unhalted (c.set_pc.ensures images) ∙ ap (script_with_change g.debug.script) (sym c.in-Place.is))
      (c.in_ok-put-in-Place-2.ensures
      ∙ ap (λ (p : PastState). past_with_deed p gdb_line deed.Woken)
      (c.in_ok-put-in-Place.ensures ∙ ap (λ (n : ℕ). past_with_deed g.debug.past gdb_line (deed.Place n)) c.new-at.ensures)
      ∙ ap (past_after_write g.debug.past) (sym c.in-Place.is));
}

pub returns-in_ok-put-in-Status : goal.returns-in_ok-put-in-Status
returns-in_ok-put-in-Status c = record {
  reported = λ (images : List Entry).
      let g : GdbState = gdb_state c.args.self.now images in
      changed_so g (script_state c.set_psr.new.self images) _ c.args.change
      (c.set_psr.ensures images ∙ ap (script_with_change g.debug.script) (sym c.in-Status.is))
      (c.in_ok-put-in-Status.ensures ∙ ap (past_after_write g.debug.past) (sym c.in-Status.is));
}

pub returns-in_ok-put-in-Banked : goal.returns-in_ok-put-in-Banked
returns-in_ok-put-in-Banked c = record {
  reported = λ (images : List Entry).
      let g : GdbState = gdb_state c.args.self.now images in
      changed_so g (script_state c.set_register_in.new.self images) _ c.args.change
      (c.set_register_in.ensures images ∙ ap (script_with_change g.debug.script) (sym c.in-Banked.is))
      (c.in_ok-put-in-Banked.ensures
      ∙ ap (λ (n : ℕ). past_with_deed g.debug.past gdb_line (deed.Banked c.in-Banked.mode n c.in-Banked.value)) c.new-register-in-Banked.ensures
      ∙ ap (past_after_write g.debug.past) (sym c.in-Banked.is));
}
