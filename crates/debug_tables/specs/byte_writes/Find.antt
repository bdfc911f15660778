-- The view FIND: the addresses of a range at which bytes stand, in order. Bytes stand at an address where
-- the byte there is the first of them, the next one the second, and so on; none stands where no memory is
-- mapped. At most 64 addresses are shown, and how many more there are.
use Rattle.std.specs.Prelude.{ℕ, zero, suc, Bool, true, false, ◌-◌, ◌==◌, ◌&&◌, ◌++◌, nat_lt, List, [], ◌∷◌, codes, length, take, Result, Ok, Err, if◌then◌else◌}
use Rattle.std.specs.Fmt.{decimal}
use Rattle.std.specs.List.{filter, flat_map}
use Rattle.profile.specs.Digits.{hex_number}
use Rattle.profile.specs.Fault.{Fault}
use Rattle.profile.specs.Sums.{address_further}
use Rattle.address_map.specs.Bytes.{Bytes, byte_loaded}

abbrev pub is_byte : Result ℕ Fault → ℕ → Bool
is_byte (Ok found) byte = found == byte
is_byte (Err fault) byte = false

abbrev pub stand_at : Bytes → ℕ → List ℕ → Bool
stand_at b address [] = true
stand_at b address (byte ∷ rest) =
    is_byte (byte_loaded b address) byte && stand_at b (address_further address 1) rest

-- so many addresses, one after another
unfoldable pub addresses_from : ℕ → ℕ → List ℕ
addresses_from address zero = []
addresses_from address (suc count) = address ∷ addresses_from (address_further address 1) count

-- those of them at which bytes stand
abbrev pub byte_places : Bytes → ℕ → ℕ → List ℕ → List ℕ
byte_places b address count bytes = filter (λ a. stand_at b a bytes) (addresses_from address count)

-- `found &9010`
abbrev pub place_text : ℕ → List ℕ
place_text address = codes "found &" ++ (hex_number address ++ codes "\n")

-- `.. 12 more`
abbrev pub more_places_text : ℕ → List ℕ
more_places_text count = if count == 0 then [] else codes ".. " ++ (decimal count ++ codes " more\n")

abbrev pub places_text : List ℕ → List ℕ
places_text [] = codes "not found\n"
places_text (first ∷ rest) =
    flat_map place_text (take 64 (first ∷ rest)) ++ more_places_text (length (first ∷ rest) - 64)

-- the addresses, of so many, at which bytes stand
abbrev pub find_text : Bytes → ℕ → ℕ → List ℕ → List ℕ
find_text b address count bytes = places_text (byte_places b address count bytes)

-- what is shown of an address, by whether bytes stand there and how many were found before it
abbrev pub shown_place : Bool → ℕ → ℕ → List ℕ
shown_place stands found address = if stands && nat_lt found 64 then place_text address else []
