-- By the lemmas of GoingOnLemmas.
use Rattle.std.proofs.Common.{ℕ}
use Rattle.std.proofs.lemmas.Result.{IfOk-weaker, on_ok_weaker}
use Rattle.debug_program.proofs.GoingOnLemmas.{both_status, both_text}
use Rattle.debug_program.proofs.going_on.talk_behind_script.Goals as goal

pub returns-in-Ok-clause-text : goal.returns-in-Ok-clause-text
returns-in-Ok-clause-text g c =
    on_ok_weaker c.talk.result
    (both_text _ _ _ _ (g.F.Source.remaining c.args.script.now) _ _ _ _ _ _ c.in-Ok.ensures.talked c.in-Ok.ensures.ends)
    c.talk.ensures.text

pub returns-in-Ok-clause-status : goal.returns-in-Ok-clause-status
returns-in-Ok-clause-status g c =
    IfOk-weaker c.talk.result _ _
    (λ (status : ℕ). both_status _ _ _ _ (g.F.Source.remaining c.args.script.now) _ _ _ _ status c.in-Ok.ensures.talked
    c.in-Ok.ensures.ends) c.talk.ensures.status
