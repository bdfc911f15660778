-- Before a step that is no call from outside the core may be set. Before a call all is copied, and then it is
-- made.
use Rattle.std.proofs.Common.{[], ◌==◌, refl, subst}
use Rattle.trace_json.specs.GuestState.{state_of}
use Rattle.trace_json.specs.MachineState.{MachineState}
use Rattle.debug_records.specs.Moments.{of_caller}
use Rattle.debug_records.specs.Recording.{twin_machine}
use Rattle.debug_records.specs.Taking.{IsMadeBefore, IsTakenFrom}
use Rattle.trace_json.proofs.MomentLemmas.{copied_changes}
use Rattle.debug_records.proofs.MomentLemmas.{inside_taken, outside_taken}
use Rattle.debug_records.proofs.RecordLemmas.{if_ok_both}
use Rattle.debug_records.proofs.recorder.Twin.begin.Goals as goal

pub returns-in_default-clause-taken : goal.returns-in_default-clause-taken
returns-in_default-clause-taken c =
    if_ok_both c.begin_entered.result _ _ _
    (λ r. inside_taken (c.args.index == 0) (twin_machine c.args.self.now) _ (twin_machine c.begin_entered.new.self) r.0
    c.enter_first.ensures.set c.enter_first.ensures.later)
    c.begin_entered.ensures.inside c.begin_entered.ensures.taken

pub returns : goal.returns
returns c =
    let s = twin_machine c.args.self.now in
    let t = state_of c.make_call.new.twin.machine.guest in
    let before = c.in_ok-before.before in
    let made : IsMadeBefore before s =
    subst (λ (m : MachineState). IsMadeBefore before m) (c.machine-machine.ensures []) c.in_ok-before.ensures in
    let taken : IsTakenFrom s t before = record {
      step = of_caller c.args.self.now.images _ c.in_ok-make_call.ensures;
      keeps = made.keeps;
      kept = copied_changes s t before.memory made.copied;
    } in
    record {
      taken = outside_taken (c.args.index == 0) s t before taken;
      changes = refl;
    }
