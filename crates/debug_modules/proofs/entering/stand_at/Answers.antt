-- The status, and one register after another.
use Rattle.std.proofs.Common.{◌≡◌, ◌∙◌, ap, subst}
use Rattle.std.specs.Prelude.{OnOk}
use Rattle.debug_modes.specs.Session.{script_state}
use Rattle.debug_history.specs.Past.{PastState}
use Rattle.debug_modules.specs.Entering.{supervisor}
use Rattle.debug_modules.proofs.EnteringLemmas.{anyhow, past_at, stands_at}
use Rattle.debug_modules.proofs.entering.stand_at.Goals as goal

pub returns-clause-script : goal.returns-clause-script
returns-clause-script c images =
    anyhow c.put_register-3.result _ (stands_at (script_state c.args.session.now images) _ _ _ _ c.supervisor-status.result c.args.entry.now
    (c.supervisor-status.ensures ∙ ap supervisor (c.status_of.ensures images))
    (c.put_status.ensures.script images) (c.put_register.ensures.script images) (c.put_register-2.ensures.script images)
    (c.put_register-3.ensures.script images))

pub returns-clause-past : goal.returns-clause-past
returns-clause-past c images =
    subst (λ (x : PastState). OnOk c.put_register-3.result (c.put_register-3.new.past ≡ x))
    (past_at c.args.past.now _ _ _ c.args.number (script_state c.args.session.now images).machine.cpu.psr c.supervisor-status.result
    c.args.entry.now (c.supervisor-status.ensures ∙ ap supervisor (c.status_of.ensures images))
    c.in_ok-put_status.ensures.past c.in_ok-put_register.ensures.past c.in_ok-put_register-2.ensures.past)
    c.put_register-3.ensures.past
