-- One step is left before it.
use Rattle.std.proofs.Common.{ap, arith}
use Rattle.debug_session.specs.State.{ScriptState}
use Rattle.debug_session.specs.CommandShellSession.{script_state}
use Rattle.debug_records.proofs.TakingLemmas.{deed_made, step_taken}
use Rattle.debug_records.proofs.taking.take_or_let.Goals as goal

pub act-requires : goal.act-requires
act-requires c = record { left = λ images. omega (arith, ap (λ (s : ScriptState). s.left) (c.set_budget.ensures images)) }

pub take_step-requires : goal.take_step-requires
take_step-requires c = omega (arith, ap (λ (s : ScriptState). s.left) (c.set_budget.ensures c.args.images.now))

pub returns-in-Some : goal.returns-in-Some
returns-in-Some c = λ stubs met.
    let images = c.args.images.now in
    deed_made stubs images (script_state c.args.twin.now images) _ _ c.args.deed.now _ (c.set_budget.ensures images)
    (c.act.ensures images) c.in-Some.is met

pub returns-in-Ok : goal.returns-in-Ok
returns-in-Ok c = λ stubs met.
    let images = c.args.images.now in
    step_taken stubs images (script_state c.args.twin.now images) _ _ c.args.deed.now (c.set_budget.ensures images)
    c.in-Ok.ensures.state c.in-None.is met
