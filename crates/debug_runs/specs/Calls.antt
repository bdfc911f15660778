-- A call from outside, as the code has it.
use Rattle.std.specs.Prelude.{ℕ, List}
use Rattle.debug_tables.specs.OutsideCall.{OutsideCall}
use Rattle.debug_tables.specs.OutsideCall.TheVariants as outside
use Rattle.debug_tables.specs.MachineState.{MachineState, StepOutcome}
use Rattle.trace_text.specs.Step.{call_start_text, load_start_text}
use Rattle.debug_runs.specs.TraceWriter.{call_text_behind}

abbrev pub outside_start_text : OutsideCall → MachineState → List ℕ
outside_start_text (outside.Swi number) s = call_start_text s.cpu s.store.bytes number
outside_start_text (outside.Load text) s = load_start_text text.now

abbrev pub outside_text : OutsideCall → MachineState → StepOutcome → List ℕ
outside_text call s o = call_text_behind (outside_start_text call s) s o
