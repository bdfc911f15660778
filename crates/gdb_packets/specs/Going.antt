-- What a run is for, and whether it has come to its end.
use Rattle.std.specs.Prelude.{ℕ, not, ◌&&◌, nat_le, nat_lt, Bool, false}
use Rattle.gdb_packets.specs.declared.going.Going.{Going}
use Rattle.gdb_packets.specs.declared.going.Going.TheVariants as going
use Rattle.gdb_packets.specs.declared.requests.PlaceRange.{PlaceRange}

abbrev pub is_within : PlaceRange → ℕ → Bool
is_within places address = nat_le places.start address && nat_lt address places.end

abbrev pub has_left : Going → ℕ → Bool
has_left (going.Within places) address = not (is_within places address)
has_left going.Once address = false
has_left going.On address = false
