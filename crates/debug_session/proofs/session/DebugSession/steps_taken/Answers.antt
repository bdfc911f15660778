use Rattle.std.proofs.Common.{◌-◌, ◌∙◌, [], ap}
use Rattle.debug_session.proofs.session.DebugSession.steps_taken.Goals as goal

pub returns : goal.returns
returns c = c.saturating_sub.ensures ∙ ap (λ n. c.args.self.now.setting.budget - n) (c.left.ensures [])
