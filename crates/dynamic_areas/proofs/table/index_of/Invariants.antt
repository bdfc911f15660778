use Rattle.dynamic_areas.proofs.Tables.{IsSearched}
use Rattle.dynamic_areas.proofs.table.index_of.Given as goal

abbrev pub invariant-loop-index : goal.invariant-loop-index
invariant-loop-index l = IsSearched l.number l.areas l.index
