use Rattle.std.proofs.Common.{◌≡◌, ap, arith}
use Rattle.debug_tables.specs.MachineState.{MachineState}
use Rattle.debug_tables.specs.Calls.{outside_called}
use Rattle.debug_tables.specs.Session.{script_state}
use Rattle.debug_tables.specs.State.{ScriptState}
use Rattle.debug_history.proofs.AgainLemmas.{one_step_at}
use Rattle.debug_history.proofs.again.call_again.Goals as goal

pub begin_call-requires : goal.begin_call-requires
begin_call-requires c =
    let e : c.set_budget.new.self.left ≡ 1 = ap (λ (t : ScriptState). t.left) (c.set_budget.ensures c.args.images.now) in
    omega (arith, e)

pub returns : goal.returns
returns c =
    let images = c.args.images.now in
    one_step_at (script_state c.args.session.now images) (script_state c.set_budget.new.self images)
    (script_state c.begin_call.new.self images) (λ (m : MachineState). outside_called images m c.args.call)
    (c.set_budget.ensures images) c.in_ok-begin_call.ensures.state
