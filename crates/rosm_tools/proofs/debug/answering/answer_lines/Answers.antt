-- By the lemmas of TalkLemmas.
use Rattle.debug_program.proofs.TalkLemmas.{status_of_script}
use Rattle.rosm_tools.proofs.debug.answering.answer_lines.Goals as goal

pub returns : goal.returns
returns g c =
    status_of_script _ c.in_ok-typing.typing _ _ _ c.in_ok-typing.ensures.setting (c.in_ok-typing.ensures.state c.args.images.now)
    c.in_ok-typing.ensures.pending c.in_ok-typing.ensures.number c.in_ok-talk.ensures.status
