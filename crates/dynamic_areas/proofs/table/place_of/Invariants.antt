use Rattle.dynamic_areas.proofs.Tables.{IsPassed}
use Rattle.dynamic_areas.proofs.table.place_of.Given as goal

abbrev pub invariant-loop-index : goal.invariant-loop-index
invariant-loop-index l = IsPassed l.number l.areas l.index
