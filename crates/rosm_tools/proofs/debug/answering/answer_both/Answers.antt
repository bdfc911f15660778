-- By the lemmas of GoingOnLemmas.
use Rattle.debug_program.proofs.GoingOnLemmas.{status_of_both_scripts}
use Rattle.rosm_tools.proofs.debug.answering.answer_both.Goals as goal

pub returns : goal.returns
returns g c =
    status_of_both_scripts _ c.in_ok-typing.typing _ (g.F.Source.remaining c.args.script.now) _ _ c.in_ok-typing.ensures.setting
    (c.in_ok-typing.ensures.state c.args.images.now) c.in_ok-typing.ensures.pending c.in_ok-typing.ensures.number
    c.in_ok-talk_behind_script.ensures.status
