-- What differs of the machine was written, and nothing else where that stands.
use Rattle.std.proofs.Common.{[], refl, subst, sym}
use Rattle.std.specs.Prelude.{codes, is_some}
use Rattle.trace_effects.specs.declared.record_text.text.RecordText.{RecordText}
use Rattle.trace_json.specs.GuestState.{state_of}
use Rattle.trace_json.specs.Moments.{ShowsChanges, expected_at, step_place}
use Rattle.debug_records.proofs.recorder.Twin.push_step.Goals as goal

pub returns-then-not-may_move_images : goal.returns-then-not-may_move_images
returns-then-not-may_move_images c = record {
  there = c.place.ensures;
  session = refl;
  machine = state_of c.machine-machine.result.now.guest;
  same = c.machine-machine.ensures [];
  shows = c.in_ok-push_changes.ensures;
}

pub returns : goal.returns
returns c =
    let t = state_of c.machine-machine.result.now.guest in
    let before = c.args.before.now in
    record {
      there = c.place-2.ensures;
      session = c.in_ok-push_places.ensures.session;
      machine = t;
      same = c.machine-machine.ensures [];
      shows = λ s e reported words keeps kept.
          subst (λ (x : RecordText). ShowsChanges (codes "next") (expected_at (step_place before) e.cpu.pc (is_some t.halt)) s t
          c.args.self.now.changes x)
          (sym c.in_ok-push_places.ensures.changes) (c.in_ok-push_changes.ensures s e reported words keeps kept);
    }
