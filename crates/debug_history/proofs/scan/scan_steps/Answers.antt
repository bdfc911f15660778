use Rattle.std.proofs.Common.{◌≡◌, ◌∙◌, ◌^◌, ap, refl, arith}
use Rattle.debug_tables.specs.Session.{script_state}
use Rattle.debug_tables.specs.State.{ScriptState}
use Rattle.debug_tables.specs.MachineState.{MachineState}
use Rattle.debug_tables.specs.Stubs.{stubbed_step}
use Rattle.std.specs.Option.{option_or}
use Rattle.debug_labels.specs.Value.{MachineValue}
use Rattle.debug_tables.specs.GuestState.{state_of}
use Rattle.debug_history.specs.Search.{found_between, value_in, single_steps}
use Rattle.debug_history.proofs.AgainLemmas.{one_step_at}
use Rattle.debug_history.proofs.ScanLemmas.{scan_begins, scan_ends, singles_end, step_fits, step_goes_on}
use Rattle.debug_history.proofs.scan.scan_steps.Goals as goal

pub loop-left-init : goal.loop-left-init
loop-left-init c =
    scan_begins c.args.sought.now (script_state c.args.session.now c.args.images.now) (single_steps c.args.line c.args.stubs.now c.args.count)
    c.args.scan.now c.requires.seen

pub take_step-requires : goal.take_step-requires
take_step-requires c =
    let e : c.set_budget.new.self.left ≡ 1 = ap (λ (t : ScriptState). t.left) (c.set_budget.ensures c.args.images.now) in
    omega (arith, e)

pub pass-requires : goal.pass-requires
pass-requires c =
    let images = c.args.images.now in
    step_fits c.args.sought.now (script_state c.args.session.now images) (script_state c.loop-left.session images)
    (single_steps c.args.line c.args.stubs.now c.args.count) c.args.line c.args.stubs.now c.loop-left.left c.args.count (2 ^ 64) c.args.scan.now c.loop-left.scan
    c.loop-left-test.true refl c.requires.fits c.loop-left.invariant

pub loop-left-preserved : goal.loop-left-preserved
loop-left-preserved c =
    let images = c.args.images.now in
    let now = script_state c.loop-left.session images in
    let next = script_state c.take_step.new.session images in
    let machine = ap (λ (m : MachineValue). state_of m.guest) c.machine.ensures in
    step_goes_on c.args.sought.now (script_state c.args.session.now images) now next (single_steps c.args.line c.args.stubs.now c.args.count)
    c.args.line c.args.stubs.now c.loop-left.left c.args.scan.now c.loop-left.scan c.pass.new.self c.loop-left-test.true c.loop-left.invariant
    (one_step_at now (script_state c.set_budget.new.self images) next (λ (m : MachineState). stubbed_step c.args.stubs.now images m)
    (c.set_budget.ensures images) c.in_ok-take_step.ensures.state)
    c.pass.ensures.step (c.pass.ensures.seen ∙ ap (value_in c.args.sought.now) machine)
    (c.pass.ensures.found ∙ ap (λ (m : MachineState). option_or
    (found_between c.args.sought.now c.args.line c.loop-left.scan.step 1 c.loop-left.scan.seen (value_in c.args.sought.now m))
    c.loop-left.scan.found) machine)

pub returns-clause-moment : goal.returns-clause-moment
returns-clause-moment c =
    let images = c.args.images.now in
    let none : c.loop-left.left ≡ 0 = omega (arith, c.loop-left-test.false) in
    (scan_ends c.args.sought.now (script_state c.args.session.now images) (script_state c.loop-left.session images)
    (single_steps c.args.line c.args.stubs.now c.args.count) (single_steps c.args.line c.args.stubs.now c.loop-left.left) c.args.scan.now c.loop-left.scan
    (ap (single_steps c.args.line c.args.stubs.now) none ∙ singles_end c.args.line c.args.stubs.now) c.loop-left.invariant).0

pub returns-clause-scan : goal.returns-clause-scan
returns-clause-scan c =
    let images = c.args.images.now in
    let none : c.loop-left.left ≡ 0 = omega (arith, c.loop-left-test.false) in
    (scan_ends c.args.sought.now (script_state c.args.session.now images) (script_state c.loop-left.session images)
    (single_steps c.args.line c.args.stubs.now c.args.count) (single_steps c.args.line c.args.stubs.now c.loop-left.left) c.args.scan.now c.loop-left.scan
    (ap (single_steps c.args.line c.args.stubs.now) none ∙ singles_end c.args.line c.args.stubs.now) c.loop-left.invariant).1
