-- By the digits of the address and the bytes of the fault's name.
use Rattle.std.proofs.Common.{ℕ, List, subst, ◌∙◌}
use Rattle.profile.specs.FaultNames.{fault_name}
use Rattle.profile.specs.Output.{Writes}
use Rattle.gdb_machine.specs.StepEnds.{halted_line}
use Rattle.gdb_machine.proofs.step_ends.push_halted.Goals as goal

pub returns : goal.returns
returns g c =
    subst (λ (digits : List ℕ). Writes g.W.Sink.contents g.W.Sink.has_failed c.args.sink.now c.push_halted_by.new.sink
    c.push_halted_by.result (halted_line digits (fault_name c.args.fault)))
    (c.as_slice.ensures ∙ c.number.ensures)
    (subst (λ (name : List ℕ). Writes g.W.Sink.contents g.W.Sink.has_failed c.args.sink.now c.push_halted_by.new.sink
    c.push_halted_by.result (halted_line c.as_slice.result.now name))
    (c.as_bytes.ensures.value ∙ c.name.ensures) c.push_halted_by.ensures)
