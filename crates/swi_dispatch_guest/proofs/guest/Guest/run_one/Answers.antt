use Rattle.std.proofs.Common.{◌∙◌}
use Rattle.std.proofs.lemmas.Result.{err_from_is_err_and}
use Rattle.swi_dispatch_guest.proofs.NextTurn.{known_turn}
use Rattle.swi_dispatch_guest.proofs.RunEnds.{ends_one, stands_one}
use Rattle.swi_dispatch_guest.proofs.guest.Guest.run_one.Goals as goal

pub returns-in_err-write_output-clause-stands : goal.returns-in_err-write_output-clause-stands
returns-in_err-write_output-clause-stands g c =
    let p = err_from_is_err_and c.from_residual.result c.from_residual.ensures.1 in
    rw p.1 (stands_one _ _ _ _ c.requires.unhalted (c.after_turn.ensures ∙ known_turn _ _ _ c.requires.unhalted c.requires.next)).0

pub returns-in_err-write_output-clause-output : goal.returns-in_err-write_output-clause-output
returns-in_err-write_output-clause-output g c =
    let p = err_from_is_err_and c.from_residual.result c.from_residual.ensures.1 in
    rw p.1 (stands_one _ _ _ _ c.requires.unhalted (c.after_turn.ensures ∙ known_turn _ _ _ c.requires.unhalted c.requires.next)).1

pub returns-clause-ends : goal.returns-clause-ends
returns-clause-ends g c = ends_one _ _ _ _ _ _ _ _ _ c.requires.unhalted (c.after_turn.ensures ∙ known_turn _ _ _ c.requires.unhalted c.requires.next)
    c.in_ok-write_output.ensures.text c.ran_one.ensures.taken c.ran_one.ensures.stop
