use Rattle.std.proofs.Common.{◌≡◌, [], None, Some, Option, ap, arith, sym, ◌∙◌}
use Rattle.std.specs.Prelude.{is_some}
use Rattle.profile.specs.declared.stop.Stop.{Stop}
use Rattle.debug_labels.specs.Value.{MachineValue}
use Rattle.debug_tables.specs.Session.{script_state}
use Rattle.debug_history.proofs.AgainLemmas.{halted_is, halted_none, way_ends, way_goes_on, way_halts, way_shrinks, way_takes}
use Rattle.debug_history.proofs.again.take_again.Goals as goal

pub returns-in-Some : goal.returns-in-Some
returns-in-Some c =
    let images = c.args.images.now in
    let h = halted_is c.machine.result.now.guest.halt c.stop.result _ c.stop.ensures.halt c.in-Some.is in
    let old = c.stop.ensures.stepped (ap (is_some {T = Stop}) c.in-Some.is) in
    way_halts (script_state c.args.session.now images) (script_state c.loop-left.session images) c.args.count c.loop-left.left
    h.0 c.loop-left.invariant (sym (ap (λ (m : MachineValue). m.guest.halt) c.machine.ensures) ∙ h.1)
    (sym (ap (λ (m : MachineValue). m.is_fresh) c.machine.ensures) ∙ old)

pub overflow_sub-left : goal.overflow_sub-left
overflow_sub-left c =
    let images = c.args.images.now in
    way_takes (script_state c.loop-left.session images) (script_state c.set_budget.new.self images)
    (script_state c.take_steps.new.self images) c.loop-left.left c.in_ok-ran-in-None.ran.taken None None
    c.in_ok-ran-in-None.ran.stop (c.set_budget.ensures images) c.in_ok-ran-in-None.ensures.ran

pub loop-left-smaller : goal.loop-left-smaller
loop-left-smaller c =
    let images = c.args.images.now in
    let up = halted_none c.machine.result.now.guest.halt c.stop.result c.stop.ensures.halt c.in-None.is in
    way_shrinks (script_state c.loop-left.session images) (script_state c.set_budget.new.self images)
    (script_state c.take_steps.new.self images) c.loop-left.left c.in_ok-ran-in-None.ran.taken None None
    c.in_ok-ran-in-None.ran.stop c.loop-left-test.true
    (sym (ap (λ (m : MachineValue). m.guest.halt) c.machine.ensures) ∙ up)
    (c.set_budget.ensures images) c.in_ok-ran-in-None.ensures.ran

pub loop-left-preserved : goal.loop-left-preserved
loop-left-preserved c =
    let images = c.args.images.now in
    way_goes_on (script_state c.args.session.now images) (script_state c.loop-left.session images)
    (script_state c.set_budget.new.self images) (script_state c.take_steps.new.self images) c.args.count c.loop-left.left
    c.in_ok-ran-in-None.ran.taken None None c.in_ok-ran-in-None.ran.stop c.loop-left.invariant c.loop-left-test.true
    (c.set_budget.ensures images) c.in_ok-ran-in-None.ensures.ran

pub returns : goal.returns
returns c =
    let images = c.args.images.now in
    let none : c.loop-left.left ≡ 0 = omega (arith, c.loop-left-test.false) in
    way_ends [] (script_state c.args.session.now images) (script_state c.loop-left.session images) c.args.count c.loop-left.left
    c.loop-left.invariant none
