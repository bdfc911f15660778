-- A call from outside has the one step that it takes.
use Rattle.std.proofs.Common.{ap, arith}
use Rattle.debug_session.specs.State.{ScriptState}
use Rattle.debug_session.specs.CommandShellSession.{script_state}
use Rattle.debug_records.proofs.TakingLemmas.{call_made}
use Rattle.debug_records.proofs.taking.make_call.Goals as goal

pub begin_call-requires : goal.begin_call-requires
begin_call-requires c = omega (arith, ap (λ (s : ScriptState). s.left) (c.set_budget.ensures c.args.images.now))

pub returns-in-Ok : goal.returns-in-Ok
returns-in-Ok c =
    call_made (script_state c.args.twin.now c.args.images.now) _ _ _ (c.set_budget.ensures c.args.images.now) c.in-Ok.ensures.state
