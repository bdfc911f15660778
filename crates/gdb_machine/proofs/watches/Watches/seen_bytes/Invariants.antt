use Rattle.std.proofs.Common.{◌≡◌, ◌++◌, drop}
use Rattle.address_map.specs.Memory.{bytes_of}
use Rattle.gdb_machine.specs.Watches.{watched_bytes}
use Rattle.gdb_machine.proofs.watches.Watches.seen_bytes.Given as goal

-- what stands, and the watches that are left, is all
abbrev pub invariant-loop-watch : goal.invariant-loop-watch
invariant-loop-watch l =
    l.seen.items ++ watched_bytes (bytes_of l.map) (drop l.watch-index l.watches) ≡ watched_bytes (bytes_of l.map) l.watches
