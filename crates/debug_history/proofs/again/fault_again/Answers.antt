use Rattle.std.proofs.Common.{◌≡◌, ap, arith}
use Rattle.debug_tables.specs.MachineState.{MachineState}
use Rattle.debug_tables.specs.Step.{machine_step}
use Rattle.debug_tables.specs.Session.{script_state}
use Rattle.debug_tables.specs.State.{ScriptState}
use Rattle.debug_history.proofs.AgainLemmas.{one_step_at}
use Rattle.debug_history.proofs.again.fault_again.Goals as goal

pub take_step-requires : goal.take_step-requires
take_step-requires c =
    let e : c.set_budget.new.self.left ≡ 1 = ap (λ (t : ScriptState). t.left) (c.set_budget.ensures c.args.images.now) in
    omega (arith, e)

pub returns : goal.returns
returns c =
    let images = c.args.images.now in
    one_step_at (script_state c.args.session.now images) (script_state c.set_budget.new.self images)
    (script_state c.take_step.new.self images) (λ (m : MachineState). machine_step images m)
    (c.set_budget.ensures images) c.in_ok-take_step.ensures.state
