use Rattle.std.proofs.Common.{◌≡◌}
use Rattle.profile.specs.Output.{AddsAllBut}
use Rattle.command_shell.specs.Calls.{answer_after_steps}
use Rattle.command_shell.specs.Session.{script_state}
use Rattle.command_shell.proofs.CallLemmas.{steps_left}
use Rattle.command_shell.proofs.session.Session.finish.Given as goal

-- what stands written, and what the steps that are left show, are all that the call shows
abbrev pub invariant-loop-end : goal.invariant-loop-end
invariant-loop-end g l =
    let start = script_state l.fn.self l.images in
    let now = script_state l.self l.images in
    record {
      text : AddsAllBut (g.W.Sink.contents l.fn.sink) (g.W.Sink.contents l.sink) (answer_after_steps l.frames now.left now).text
          (answer_after_steps l.frames start.left start).text;
      state : (answer_after_steps l.frames now.left now).state ≡ (answer_after_steps l.frames start.left start).state;
      same_flag : g.W.Sink.has_failed l.sink ≡ g.W.Sink.has_failed l.fn.sink;
    }

abbrev pub decreases-loop-end : goal.decreases-loop-end
decreases-loop-end g l = steps_left (script_state l.self l.images)
