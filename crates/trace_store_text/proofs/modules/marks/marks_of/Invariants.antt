use Rattle.std.proofs.Common.{◌≡◌, ◌++◌, drop}
use Rattle.std.specs.List.{flat_map}
use Rattle.trace_store_text.specs.modules.Marks.{instance_marks, marks_in}
use Rattle.trace_store_text.proofs.modules.marks.marks_of.Given as goal

-- what was passed, and what is left, is all
abbrev pub invariant-loop-number : goal.invariant-loop-number
invariant-loop-number l = instance_marks l.modules ≡ l.marks.items ++ flat_map marks_in (drop l.number l.modules)
