use Rattle.std.proofs.Common.{◌≡◌, ◌-◌, ◌*◌, ◌≤◌}
use Rattle.address_map.specs.Memory.{class_of, layout}
use Rattle.store_copies.proofs.RenewLemmas.{AreBytesBelow}
use Rattle.store_copies.proofs.store_copy.copy_pages.Given as goal

-- the pages that were passed have their bytes
abbrev pub invariant-loop-page : goal.invariant-loop-page
invariant-loop-page l = record {
  limit : l.page ≤ 16384;
  bytes : AreBytesBelow l.copy l.machine.guest.map (4096 * l.page);
  layout : layout l.copy ≡ layout l.fn.copy;
  marks : class_of l.copy ≡ class_of l.fn.copy;
}

abbrev pub decreases-loop-page : goal.decreases-loop-page
decreases-loop-page l = 16384 - l.page
