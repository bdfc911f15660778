use Rattle.std.proofs.Common.{◌≡◌, drop}
use Rattle.address_map.specs.Memory.{bytes_of}
use Rattle.debug_tables.specs.byte_writes.Find.{stand_at}
use Rattle.debug_tables.proofs.byte_writes.find.stand_at.Given as goal

-- the bytes that are left stand there where all stand at the first address
abbrev pub invariant-loop-byte : goal.invariant-loop-byte
invariant-loop-byte l = stand_at (bytes_of l.map) l.at (drop l.byte-index l.bytes)
    ≡ stand_at (bytes_of l.map) l.address l.bytes
