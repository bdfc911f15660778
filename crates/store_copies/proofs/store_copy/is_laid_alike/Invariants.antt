use Rattle.std.proofs.Common.{◌-◌, ◌≤◌}
use Rattle.store_copies.proofs.CopyLemmas.{AreAmong}
use Rattle.store_copies.proofs.store_copy.is_laid_alike.Given as goal

-- the pages of the memory that were passed are mapped in the copy too
abbrev pub invariant-loop-page : goal.invariant-loop-page
invariant-loop-page l = record {
  limit : l.page ≤ 16384;
  among : AreAmong l.copy l.memory l.page;
}

abbrev pub decreases-loop-page : goal.decreases-loop-page
decreases-loop-page l = 16384 - l.page
