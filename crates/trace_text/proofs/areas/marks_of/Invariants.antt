use Rattle.std.proofs.Common.{◌≡◌, map, take}
use Rattle.trace_text.specs.Areas.{area_marks}
use Rattle.trace_text.proofs.areas.marks_of.Given as goal

-- the marks of the areas that were passed
abbrev pub invariant-loop-area : goal.invariant-loop-area
invariant-loop-area l = l.marks.items ≡ area_marks (take l.area-index l.areas)
