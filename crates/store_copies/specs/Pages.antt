-- Pages that aren't mapped, and where ranges of memory start: the application space, the system pages and
-- each dynamic area (RISC OS 3 Programmer's Reference Manual, "Memory management"; the places are this
-- project's own).
use Rattle.std.specs.Prelude.{◌≡◌, ◌≤◌, ◌<◌, ℕ, ◌*◌, false, List}
use Rattle.std.specs.List.{All}
use Rattle.profile.specs.MemoryMap.{application_start, system_start}
use Rattle.address_map.specs.Memory.{is_mapped}
use Rattle.address_map.specs.declared.map.AddressMap.{AddressMap}
use Rattle.swi_dispatch_guest.specs.Area.{Area}

-- from one page up to another none is mapped
abbrev pub AreUnmappedPages : AddressMap → ℕ → ℕ → Type 0
AreUnmappedPages m from to = (page : ℕ) → from ≤ page → page < to → is_mapped m (4096 * page) ≡ false

-- a start is not after one address and before another
abbrev pub IsNotBetween : ℕ → ℕ → ℕ → Type 0
IsNotBetween at next start = at < start → next ≤ start

-- and none of a machine's ranges has such a start
pub record IsNoStartBetween (list : List Area) (at next : ℕ) : Type 0 where
  pub application : IsNotBetween at next application_start
  pub system : IsNotBetween at next system_start
  pub areas : All (λ (a : Area). IsNotBetween at next a.base) list
