-- By the lemmas of TalkLemmas.
use Rattle.std.proofs.Common.{◌≡◌, true, inr, refl, sym, ap, ◌∙◌}
use Rattle.debug_session.specs.Session.{debug_state}
use Rattle.debug_session.specs.declared.session.DebugSession.{DebugSession}
use Rattle.debug_program.proofs.ResultLemmas.{fails_in}
use Rattle.debug_program.proofs.TalkLemmas.{talked_failed, talked_front, talked_here, talked_more, talked_none, talked_so, talked_still_by}
use Rattle.debug_program.proofs.talk.answer_pieces.Goals as goal

pub loop-pulls-init : goal.loop-pulls-init
loop-pulls-init g c = record {
  talked = talked_none _ _ _ _ _;
  read_flag = λ down. down;
  same_flag = refl;
}

pub loop-pulls-preserved : goal.loop-pulls-preserved
loop-pulls-preserved g c = record {
  talked = talked_so _ _ _ _ _ _ _ _ _ _ _ c.save_here.ensures.kept c.hand_on.ensures.kept
      (talked_more _ _ _ _ _ _ _ _ _ _ _ _ _ _ _ c.loop-pulls.invariant.talked c.in-Ok.ensures.bytes.0
      c.push_prompt.ensures.plain c.in_ok-answer_piece.ensures.taken c.answer_piece.ensures.setting);
  read_flag = λ down. c.in_ok-save_here.ensures.same_flag ∙ c.in-Ok.ensures.flag;
  same_flag = c.in_ok-hand_on.ensures.same_flag ∙ c.in_ok-answer_piece.ensures.same_flag
      ∙ c.in_ok-push_prompt.ensures.same_flag ∙ c.loop-pulls.invariant.same_flag;
}

pub returns-then-has_quit-clause-ends : goal.returns-then-has_quit-clause-ends
returns-then-has_quit-clause-ends g c =
    inr (sym (ap (λ (x : DebugSession). (debug_state x c.loop-pulls.images).has_quit) c.session.ensures)
    ∙ sym (c.has_quit.ensures c.loop-pulls.images) ∙ c.if-has_quit.true)

pub returns-then-count-eq0-clause-talked : goal.returns-then-count-eq0-clause-talked
returns-then-count-eq0-clause-talked g c =
    talked_still_by _ _ _ _ _ _ _ _ _ _ _ _ _ c.loop-pulls.invariant.talked c.in-Ok.ensures.bytes.0
    c.if-count-eq0.true c.push_prompt.ensures.plain

pub returns-in_default-clause-front : goal.returns-in_default-clause-front
returns-in_default-clause-front g c = inr (talked_front _ _ _ _ _ _ _ _ _ _ c.loop-pulls.invariant.talked c.push_prompt.ensures.plain)

pub returns-in_err-save_here-clause-front : goal.returns-in_err-save_here-clause-front
returns-in_err-save_here-clause-front g c =
    fails_in c.from_residual-in_err-save_here.result _
    (talked_here _ _ _ _ _ _ _ _ _ (talked_so _ _ _ _ _ _ _ _ _ _ _ c.save_here.ensures.kept c.hand_on.ensures.kept
    (talked_more _ _ _ _ _ _ _ _ _ _ _ _ _ _ _ c.loop-pulls.invariant.talked c.in-Ok.ensures.bytes.0
    c.push_prompt.ensures.plain c.in_ok-answer_piece.ensures.taken c.answer_piece.ensures.setting)))

pub returns-in_err-answer_piece-clause-front : goal.returns-in_err-answer_piece-clause-front
returns-in_err-answer_piece-clause-front g c =
    talked_failed c.from_residual-in_err-answer_piece.result _ _ _ _ _ _ _ _ _ _ _ _ _ _
    c.from_residual-in_err-answer_piece.ensures.1 c.in_err-answer_piece.ensures.front c.loop-pulls.invariant.talked
    c.in-Ok.ensures.bytes.0 c.push_prompt.ensures.plain

pub returns-clause-front : goal.returns-clause-front
returns-clause-front g c = inr (talked_here _ _ _ _ _ _ _ _ _ c.loop-pulls.invariant.talked)
