use Rattle.std.proofs.Common.{ap, sym, ◌∙◌}
use Rattle.gdb_packets.specs.declared.going.Going.{Going}
use Rattle.gdb_packets.specs.declared.going.Going.TheVariants as going
use Rattle.gdb_server.specs.session.Runs.{unhalted_answer, gdb_step_shown, slice_shown}
use Rattle.gdb_server.specs.session.Session.{gdb_state}
use Rattle.gdb_server.specs.session.State.{GdbState}
use Rattle.gdb_server.proofs.SessionLemmas.RunLemmas.{answered_as, step_to_take, step_was_taken}
use Rattle.gdb_server.proofs.session.session.GdbSession.go_unhalted.Goals as goal

pub returns-in-Some-clause-reported : goal.returns-in-Some-clause-reported
returns-in-Some-clause-reported c =
    let images = c.args.images.now in
    let g : GdbState = gdb_state c.args.self.now images in
    answered_as _ _ _ _ (step_was_taken g c.in-Some.stop (gdb_step_shown g) (sym (c.step_taken.ensures images) ∙ c.in-Some.is)
    ∙ ap (λ (w : Going). unhalted_answer g w) (sym c.in-Once.is))
    (c.stand.ensures.reported images)

pub returns-in-None-clause-reported : goal.returns-in-None-clause-reported
returns-in-None-clause-reported c =
    let images = c.args.images.now in
    let g : GdbState = gdb_state c.args.self.now images in
    answered_as _ _ _ _ (step_to_take g (gdb_step_shown g) (sym (c.step_taken.ensures images) ∙ c.in-None.is)
    ∙ ap (λ (w : Going). unhalted_answer g w) (sym c.in-Once.is))
    c.step.ensures.reported

pub returns-in-Some-step_taken-clause-reported : goal.returns-in-Some-step_taken-clause-reported
returns-in-Some-step_taken-clause-reported c =
    let images = c.args.images.now in
    let g : GdbState = gdb_state c.args.self.now images in
    answered_as _ _ _ _ (step_was_taken g c.in-Some-step_taken.stop (slice_shown g (going.Within c.in-Within.field-0))
    (sym (c.step_taken-in-Within.ensures images) ∙ c.in-Some-step_taken.is)
    ∙ ap (λ (w : Going). unhalted_answer g w) (sym c.in-Within.is))
    (c.stand-in-Some-step_taken.ensures.reported images)

pub returns-in-None-step_taken-clause-reported : goal.returns-in-None-step_taken-clause-reported
returns-in-None-step_taken-clause-reported c =
    let images = c.args.images.now in
    let g : GdbState = gdb_state c.args.self.now images in
    answered_as _ _ _ _ (ap (λ (w : Going). slice_shown g w) c.in-Within.is
    ∙ step_to_take g (slice_shown g (going.Within c.in-Within.field-0)) (sym (c.step_taken-in-Within.ensures images) ∙ c.in-None-step_taken.is)
    ∙ ap (λ (w : Going). unhalted_answer g w) (sym c.in-Within.is))
    c.slice.ensures.reported
