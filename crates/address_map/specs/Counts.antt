-- How many pages are mapped (this project's own).
use Rattle.std.specs.Prelude.{◌≡◌, ℕ, zero, suc, ◌+◌, ◌*◌, Bool, if◌then◌else◌}
use Rattle.address_map.specs.declared.map.AddressMap.{AddressMap}
use Rattle.address_map.specs.Memory.{free_pages, is_mapped, page_total}

-- how many numbers below one pass a test
unfoldable pub number_below : (ℕ → Bool) → ℕ → ℕ
number_below test zero = 0
number_below test (suc n) = number_below test n + (if test n then 1 else 0)

-- all pages of a store are the free ones, and those that one of the 2^14 pages of the address space
-- has
abbrev pub PagesAreCounted : Type 0
PagesAreCounted = (m : AddressMap) → page_total m ≡ free_pages m + number_below
    (λ page. is_mapped m (4096 * page)) 16384
