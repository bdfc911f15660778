-- A step was taken, or a stub did what it does in its place.
use Rattle.std.proofs.Common.{[], ◌≡◌, ◌∙◌, ap, refl, subst}
use Rattle.std.specs.Prelude.{◌||◌, not}
use Rattle.trace_json.specs.MachineState.{MachineState}
use Rattle.debug_session.specs.Stubs.{deed_ahead}
use Rattle.trace_effects.specs.Cause.{cause_of}
use Rattle.trace_json.specs.Moments.{IsKeptBefore}
use Rattle.trace_json.specs.PlainSteps.{is_plain}
use Rattle.debug_records.specs.Moments.{of_machine}
use Rattle.debug_records.specs.Recording.{twin_machine}
use Rattle.debug_records.proofs.MomentLemmas.{taken_kept}
use Rattle.debug_records.proofs.recorder.Twin.begin_entered.Goals as goal

pub returns : goal.returns
returns c =
    let s = twin_machine c.args.self.now in
    let stubs = c.stubs.result.now in
    let before = c.in_ok-before.before in
    let here = c.machine-machine.ensures [] in
    let ahead : c.ahead-deed.result ≡ deed_ahead stubs s = c.ahead-deed.ensures ∙ ap (λ (m : MachineState). deed_ahead stubs m) here in
    let keeps : IsKeptBefore before s = subst (λ (m : MachineState). IsKeptBefore before m) here c.in_ok-before.ensures.before in
    let made = c.in_ok-take_or_let.ensures stubs ahead in
    record {
      taken = record {
        step = of_machine stubs c.args.self.now.images made;
        keeps = keeps;
        kept = taken_kept stubs c.args.self.now.images s _ c.ahead-deed.result c.is_some.result before.memory c.plain_steps_store.ensures
            keeps.memory ahead c.is_some.ensures
            (c.in_ok-before.ensures.copied ∙ ap (λ (m : MachineState). c.is_some.result || not (is_plain (cause_of m.cpu m.store.bytes))) here) made;
      };
      inside = c.in_ok-before.ensures.inside;
      changes = refl;
    }
