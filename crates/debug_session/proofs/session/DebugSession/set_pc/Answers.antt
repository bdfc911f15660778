use Rattle.std.proofs.Common.{◌∙◌, ap}
use Rattle.debug_tables.specs.Memory.{script_at}
use Rattle.debug_tables.specs.Session.{script_state}
use Rattle.debug_session.specs.Session.{debug_state}
use Rattle.debug_session.proofs.OwnLemmas.{changed_script}
use Rattle.debug_session.proofs.session.DebugSession.set_pc.Goals as goal

pub returns-clause-reported : goal.returns-clause-reported
returns-clause-reported c images =
    changed_script (debug_state c.args.self.now images) (script_state c.set_pc.new.self images)
    (script_at (script_state c.args.self.now.session images) c.args.address) c.put.new.self _ c.new.result.items
    (c.set_pc.ensures images ∙ ap (script_at (script_state c.args.self.now.session images)) c.address.ensures.value)
    c.in_ok-put.ensures c.new.ensures.items
