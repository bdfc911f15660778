use Rattle.std.proofs.Common.{◌≡◌, ℕ, ◌&&◌, false, true, List, ap, subst, sym, ◌∙◌}
use Rattle.std.specs.Prelude.{nat_lt}
use Rattle.profile.specs.text_sink.TextSink.{sink_text_of}
use Rattle.gdb_machine.specs.StepEnds.{steps_further}
use Rattle.gdb_server.specs.session.Runs.{slice_steps}
use Rattle.gdb_server.specs.session.Session.{gdb_state, IsAfterSteps}
use Rattle.gdb_server.specs.session.State.{GdbState}
use Rattle.gdb_server.specs.session.Steps.{gdb_steps}
use Rattle.gdb_server.proofs.SessionLemmas.RunLemmas.{answered_as, slice_asks, slice_ends}
use Rattle.gdb_server.proofs.session.session.GdbSession.slice.Goals as goal

pub returns-then-may_go_on-clause-reported : goal.returns-then-may_go_on-clause-reported
returns-then-may_go_on-clause-reported c =
    let images = c.args.images.now in
    let g : GdbState = gdb_state c.args.self.now images in
    let now : GdbState = gdb_state c.take_steps.new.self images in
    let text : List ℕ = sink_text_of c.take_steps.new.printed in
    let taken = subst (λ (x : List ℕ). IsAfterSteps g now x text c.in_ok-stop.stop (gdb_steps g c.args.going slice_steps))
    c.new-reported.ensures c.in_ok-stop.ensures.taken in
    let goes : steps_further c.in_ok-stop.stop && nat_lt 0 now.debug.script.left ≡ true =
    ap (λ (n : ℕ). steps_further c.in_ok-stop.stop && nat_lt 0 n) (sym (c.left.ensures images)) ∙ sym c.may_go_on.ensures ∙ c.if-may_go_on.true in
    answered_as _ _ _ _ (slice_asks g now c.args.going text c.in_ok-stop.stop taken goes) (c.ask.ensures.reported images)

pub returns-else-may_go_on-clause-reported : goal.returns-else-may_go_on-clause-reported
returns-else-may_go_on-clause-reported c =
    let images = c.args.images.now in
    let g : GdbState = gdb_state c.args.self.now images in
    let now : GdbState = gdb_state c.take_steps.new.self images in
    let text : List ℕ = sink_text_of c.take_steps.new.printed in
    let taken = subst (λ (x : List ℕ). IsAfterSteps g now x text c.in_ok-stop.stop (gdb_steps g c.args.going slice_steps))
    c.new-reported.ensures c.in_ok-stop.ensures.taken in
    let ends : steps_further c.in_ok-stop.stop && nat_lt 0 now.debug.script.left ≡ false =
    ap (λ (n : ℕ). steps_further c.in_ok-stop.stop && nat_lt 0 n) (sym (c.left.ensures images)) ∙ sym c.may_go_on.ensures ∙ c.if-may_go_on.false in
    answered_as _ _ _ _ (slice_ends g now c.args.going text c.in_ok-stop.stop taken ends) (c.stopped.ensures.reported images)
