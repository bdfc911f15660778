-- What differs of the core, and then of the words.
use Rattle.trace_json.proofs.MomentLemmas.{shows_step}
use Rattle.trace_json.proofs.step.StepBefore.push_changes.Goals as goal

pub returns : goal.returns
returns c = λ s e core words before kept.
    shows_step c.args.self.now s e _ c.stop-stop.result c.args.reported.now c.cpu.result.now c.expected-expected.result c.args.text.now
    c.push_core_changes.new.text c.push_memory.new.text core words before c.cpu.ensures c.stop-stop.ensures.halt
    c.expected-expected.ensures c.in_ok-push_core_changes.ensures (c.in_ok-push_memory.ensures e before.memory kept)
