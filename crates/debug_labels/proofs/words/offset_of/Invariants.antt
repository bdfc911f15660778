use Rattle.std.proofs.Common.{◌≡◌, drop}
use Rattle.assembler_text.specs.naming.Labels.{address_of}
use Rattle.debug_labels.proofs.words.offset_of.Given as goal

-- no label that was passed has the name
abbrev pub invariant-loop-label : goal.invariant-loop-label
invariant-loop-label l = address_of (drop l.label-index l.labels) l.name ≡ address_of l.labels l.name
