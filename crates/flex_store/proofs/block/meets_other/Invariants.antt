use Rattle.std.proofs.Common.{◌≡◌, false, take, ◌&&◌, not}
use Rattle.std.specs.List.{list_any}
use Rattle.os_heap.specs.Bytes.{shares_address}
use Rattle.os_heap.specs.Records.{is_heap_kind}
use Rattle.os_heap.specs.Store.{is_flex_store}
use Rattle.flex_store.proofs.block.meets_other.Given as goal

abbrev pub invariant-loop-region : goal.invariant-loop-region
invariant-loop-region l = list_any (λ r. not (is_heap_kind r.kind) && (not (is_flex_store r.kind) && shares_address l.at 4 r.at r.len)) (take l.region-index l.regions) ≡ false
