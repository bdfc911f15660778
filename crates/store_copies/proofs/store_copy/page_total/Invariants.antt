use Rattle.std.proofs.Common.{◌≡◌, ◌+◌, ◌-◌, ◌≤◌}
use Rattle.address_map.specs.Memory.{free_pages}
use Rattle.store_copies.proofs.CopyLemmas.{mapped_below}
use Rattle.store_copies.proofs.store_copy.page_total.Given as goal

-- the free pages and those that are mapped below are counted
abbrev pub invariant-loop-page : goal.invariant-loop-page
invariant-loop-page l = record {
  limit : l.page ≤ 16384;
  counted : l.total ≡ free_pages l.memory + mapped_below l.memory l.page;
}

abbrev pub decreases-loop-page : goal.decreases-loop-page
decreases-loop-page l = 16384 - l.page
