-- What differs of the machine from the copy was written, where nothing stood.
use Rattle.std.proofs.Common.{[], subst}
use Rattle.std.specs.Prelude.{codes}
use Rattle.std.proofs.lemmas.Result.{on_ok_weaker}
use Rattle.trace_json.specs.MachineState.{MachineState}
use Rattle.trace_json.specs.Moments.{IsCopy}
use Rattle.debug_records.specs.Recording.{session_machine, twin_machine}
use Rattle.debug_records.proofs.MomentLemmas.{shown_from}
use Rattle.debug_records.proofs.recorder.Twin.show_changed.Goals as goal

pub returns : goal.returns
returns c =
    let m = twin_machine c.args.self.now in
    let copy : IsCopy c.in_ok-before.before m =
    subst (λ (s : MachineState). IsCopy c.in_ok-before.before s) (c.machine.ensures []) c.in_ok-before.ensures in
    on_ok_weaker c.push_changed.result
    (shown_from (codes "pc") m.cpu.pc m (session_machine c.args.line.now.session.now) c.clear.new.self.changes
    c.push_changed.new.self.changes c.clear.ensures.changes)
    (c.push_changed.ensures m copy)
