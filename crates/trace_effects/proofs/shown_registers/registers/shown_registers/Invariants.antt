use Rattle.trace_effects.proofs.ShownRegistersLemmas.ShownLemmas.{IsShown}
use Rattle.trace_effects.proofs.shown_registers.registers.shown_registers.Given as goal

abbrev pub invariant-loop-place : goal.invariant-loop-place
invariant-loop-place l = IsShown l.before.file l.after.file l.place l.reported.items
