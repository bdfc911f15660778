use Rattle.law_machine.proofs.HeapAloneLemmas.Storing.{step_past}
use Rattle.law_machine.proofs.heap_alone.laws.steps_leave_bytes.Goals as goal

pub returns : goal.returns
returns c = step_past
