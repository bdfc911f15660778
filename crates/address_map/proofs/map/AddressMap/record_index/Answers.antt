use Rattle.std.proofs.Common.{sym}
use Rattle.address_map.proofs.Lengths.{len_found}
use Rattle.address_map.proofs.Removing.{record_found}
use Rattle.address_map.proofs.map.AddressMap.record_index.Goals as goal

pub returns-then-is_record-clause-found : goal.returns-then-is_record-clause-found
returns-then-is_record-clause-found c =
    rw (← c.regions-regions.ensures)
    (c.loop-index-test.true, record_found _ _ _ _ _ c.loop-index-test.true (sym c.if-is_record.ensures) c.loop-index.invariant.searched)

pub returns-then-is_record-clause-len : goal.returns-then-is_record-clause-len
returns-then-is_record-clause-len c =
    rw (← c.regions-regions.ensures) (len_found _ _ _ _ _ c.loop-index-test.true (sym c.if-is_record.ensures) c.loop-index.invariant.passed)
