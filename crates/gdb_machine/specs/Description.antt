-- The target's description, shown by parts.
use Rattle.std.specs.Prelude.{ℕ, nat_lt, min, List, ◌∷◌, length, take, drop, if◌then◌else◌}
use Rattle.gdb_packets.specs.declared.requests.ByteRange.{ByteRange}
use Rattle.gdb_machine.specs.declared.description.TheConstants.{DESCRIPTION}
use Rattle.gdb_machine.specs.Memory.{most_shown}

-- so many bytes of a text from a place on, behind `l` where they are its last and behind `m` where they
-- aren't
abbrev pub part_of_rest : List ℕ → ℕ → List ℕ
part_of_rest rest count = (if nat_lt (min count most_shown) (length rest) then 109 else 108)
    ∷ take (min count most_shown) rest

abbrev pub part_of : List ℕ → ByteRange → List ℕ
part_of text range = part_of_rest (drop range.start text) range.count

abbrev pub description_text : ByteRange → List ℕ
description_text range = part_of DESCRIPTION.now range
