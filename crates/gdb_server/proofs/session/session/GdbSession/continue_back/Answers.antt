use Rattle.std.proofs.Common.{length, ap, sym, ◌∙◌, arith}
use Rattle.gdb_machine.specs.BackEnds.{search_begin}
use Rattle.gdb_server.specs.session.Back.{search_shown}
use Rattle.gdb_server.specs.session.Session.{gdb_state}
use Rattle.gdb_server.specs.session.State.{GdbState}
use Rattle.gdb_server.proofs.SessionLemmas.BackLemmas.{back_library, begins_there, searches_back}
use Rattle.gdb_server.proofs.SessionLemmas.RunLemmas.{answered_as}
use Rattle.gdb_server.proofs.session.session.GdbSession.continue_back.Goals as goal

pub returns-then-is_other-clause-reported : goal.returns-then-is_other-clause-reported
returns-then-is_other-clause-reported c =
    let images = c.args.images.now in
    let g : GdbState = gdb_state c.args.self.now images in
    answered_as _ _ _ _ (back_library g (sym (c.in_ok-is_other.ensures images) ∙ c.if-is_other.true))
    (c.stand.ensures.reported images)

pub returns-then-steps-eq0-clause-reported : goal.returns-then-steps-eq0-clause-reported
returns-then-steps-eq0-clause-reported c =
    let images = c.args.images.now in
    let g : GdbState = gdb_state c.args.self.now images in
    answered_as _ _ _ _ (begins_there g c.steps_back-steps.result (sym (c.in_ok-is_other.ensures images) ∙ c.if-is_other.false)
    (c.steps_back-steps.ensures images) (omega (arith, c.if-steps-eq0.true)))
    (c.stand-then-steps-eq0.ensures.reported images)

pub returns-clause-reported : goal.returns-clause-reported
returns-clause-reported c =
    let g : GdbState = gdb_state c.args.self.now c.args.images.now in
    answered_as _ _ _ _ (ap (search_shown g) (c.begin-so_far.ensures ∙ ap search_begin (ap length c.acts.ensures))
    ∙ searches_back g c.steps_back-steps.result (sym (c.in_ok-is_other.ensures c.args.images.now) ∙ c.if-is_other.false)
    (c.steps_back-steps.ensures c.args.images.now) (omega (arith, c.if-steps-eq0.false)))
    c.search_on.ensures.reported
