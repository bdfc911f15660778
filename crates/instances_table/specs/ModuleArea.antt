-- Where the module area lies, which is area 1 (RISC OS 3 Programmer's Reference Manual, "Memory
-- management").
use Rattle.std.specs.Prelude.{ℕ, Bool, ◌+◌, ◌&&◌, nat_le, nat_lt}
use Rattle.profile.specs.MemoryMap.{module_area_maximum, module_area_start}

-- Is an address one of the module area? An image that begins there is a block of it, and any other
-- was inserted in place.
abbrev pub is_in_module_area : ℕ → Bool
is_in_module_area at = nat_le module_area_start at && nat_lt at (module_area_start + module_area_maximum)
