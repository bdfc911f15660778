use Rattle.debug_records.specs.LineRecords.{Adds}
use Rattle.debug_records.specs.Moments.{AreStepRecords}
use Rattle.debug_records.specs.Recording.{twin_machine}
use Rattle.debug_records.proofs.recorder.Twin.record_each.Given as goal

-- the steps before this one have their records
abbrev pub invariant-loop-index : goal.invariant-loop-index
invariant-loop-index g l = Adds (AreStepRecords l.line.before l.line.taken l.index (twin_machine l.fn.self) (twin_machine l.self))
    (g.W.Sink.contents l.fn.sink) (g.W.Sink.contents l.sink)
