use Rattle.std.proofs.Common.{◌≡◌, ◌∙◌, List, ap, arith}
use Rattle.command_shell_lines.specs.declared.debug_words.stubs.Stub.{Stub}
use Rattle.debug_tables.specs.Calls.{step_made}
use Rattle.debug_tables.specs.Session.{script_state}
use Rattle.debug_tables.specs.State.{ScriptState}
use Rattle.debug_tables.specs.Stubs.{stubbed_step}
use Rattle.debug_history.proofs.AgainLemmas.{stub_goes_on, way_begins, way_ends}
use Rattle.debug_history.proofs.again.steps_again.Goals as goal

pub loop-left-init : goal.loop-left-init
loop-left-init c = way_begins c.args.stubs.now (script_state c.args.session.now c.args.images.now) c.args.count

pub take_step-requires : goal.take_step-requires
take_step-requires c =
    let e : c.set_budget.new.self.left ≡ 1 = ap (λ (t : ScriptState). t.left) (c.set_budget.ensures c.args.images.now) in
    omega (arith, e)

pub loop-left-preserved : goal.loop-left-preserved
loop-left-preserved c =
    let images = c.args.images.now in
    stub_goes_on c.args.stubs.now (script_state c.args.session.now images) (script_state c.loop-left.session images)
    (script_state c.set_budget.new.self images) (script_state c.take_step.new.session images) c.args.count c.loop-left.left
    c.loop-left.invariant c.loop-left-test.true (c.set_budget.ensures images)
    (c.in_ok-take_step.ensures.state
    ∙ ap (λ (stubs : List Stub). step_made (script_state c.set_budget.new.self images)
    (stubbed_step stubs images (script_state c.set_budget.new.self images).machine)) c.in-Some.ensures)

pub returns : goal.returns
returns c =
    let images = c.args.images.now in
    way_ends c.args.stubs.now (script_state c.args.session.now images) (script_state c.loop-left.session images) c.args.count
    c.loop-left.left c.loop-left.invariant (omega (arith, c.loop-left-test.false))
