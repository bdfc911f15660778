use Rattle.std.proofs.Common.{◌≡◌, List, [], ◌∷◌, ap, subst, sym, ◌∙◌}
use Rattle.debug_labels.specs.Value.{MachineValue}
use Rattle.debug_tables.specs.GuestState.{state_of}
use Rattle.debug_tables.specs.Session.{script_state}
use Rattle.debug_history.specs.Acts.{PastMoment, moment_after_acts, moment_of_script}
use Rattle.debug_history.specs.Again.{IsAtMoment}
use Rattle.debug_history.specs.Scan.{scan_past}
use Rattle.debug_history.specs.declared.act.Act.{Act}
use Rattle.debug_history.proofs.ScanLemmas.{deed_scanned, one_unit, units_other}
use Rattle.debug_history.proofs.scan.scan_act.Goals as goal

pub returns-in_ok-deed_again-in_default-clause-moment : goal.returns-in_ok-deed_again-in_default-clause-moment
returns-in_ok-deed_again-in_default-clause-moment c =
    let s = script_state c.args.session.now c.args.images.now in
    let now = script_state c.deed_again.new.session c.deed_again.new.images in
    let act : Act = c.args.act.now in
    let one = units_other act.line act.deed c.in_default.not-Steps in
    subst (λ (us : List Act). IsAtMoment s now (moment_after_acts s.images s.sizes us (moment_of_script s))) (sym one)
    (subst (λ (y : PastMoment). IsAtMoment s now y) (one_unit s.images s.sizes act (moment_of_script s))
    c.in_ok-deed_again-in_default.ensures.moment)

pub returns-in_ok-deed_again-in_default-clause-scan : goal.returns-in_ok-deed_again-in_default-clause-scan
returns-in_ok-deed_again-in_default-clause-scan c =
    let s = script_state c.args.session.now c.args.images.now in
    let now = script_state c.deed_again.new.session c.deed_again.new.images in
    let act : Act = c.args.act.now in
    let one = units_other act.line act.deed c.in_default.not-Steps in
    subst (λ (us : List Act). c.pass.new.self ≡ scan_past s.images s.sizes c.args.sought.now us (moment_of_script s) c.args.scan.now)
    (sym one)
    (deed_scanned c.args.sought.now s now act c.args.scan.now c.pass.new.self c.steps.result
    (state_of c.machine.result.now.guest) c.requires.seen c.in_ok-deed_again-in_default.ensures.moment c.steps.ensures
    (ap (λ (m : MachineValue). state_of m.guest) c.machine.ensures) c.pass.ensures.step c.pass.ensures.seen
    c.pass.ensures.found)
