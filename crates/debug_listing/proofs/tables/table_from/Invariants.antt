use Rattle.address_map.specs.Memory.{bytes_of}
use Rattle.debug_listing.proofs.TableLemmas.{IsReadSoFar}
use Rattle.debug_listing.proofs.tables.table_from.Given as goal

-- the entries that were read, and those that are left, are all
abbrev pub invariant-loop-number : goal.invariant-loop-number
invariant-loop-number l = IsReadSoFar (bytes_of l.memory) l.limit l.at l._number l.place l.entries.items
