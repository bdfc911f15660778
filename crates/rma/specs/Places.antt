-- Where the bytes of memory lie.
use Rattle.std.specs.Prelude.{ℕ, ◌≡◌, true}
use Rattle.dynamic_areas.specs.AddressMap.{AddressMap}
use Rattle.dynamic_areas.specs.Memory.{is_mapped, place}

-- what is mapped stays so, and lies where it lay
abbrev pub KeepsPlaces : AddressMap → AddressMap → Type 0
KeepsPlaces m n = (a : ℕ) → is_mapped m a ≡ true → place n a ≡ place m a
