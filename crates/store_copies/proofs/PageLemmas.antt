-- Pages that are passed over: none of them is mapped, so no word of them is one that differs.
use Rattle.std.proofs.Common.{◌≡◌, ℕ, zero, suc, ◌+◌, ◌-◌, ◌*◌, ◌/◌, ◌<◌, ◌≤◌, Bool, false, List, [], ◌∷◌, refl, sym, ap, ◌∙◌, arith}
use Rattle.std.specs.List.{All, list_any}
use Rattle.std.proofs.lemmas.Bool.{or_from, or_parts}
use Rattle.std.proofs.lemmas.Bool.Decides.{nat_tests}
use Rattle.std.proofs.lemmas.List.Elements.{All-head, All-tail}
use Rattle.profile.specs.MemoryMap.{application_start, system_start}
use Rattle.address_map.specs.Bytes.{Bytes, in_range}
use Rattle.address_map.specs.Memory.{bytes_of, is_mapped}
use Rattle.address_map.specs.declared.map.AddressMap.{AddressMap}
use Rattle.address_map.proofs.Bytes.{is_mapped-page}
use Rattle.swi_dispatch_guest.specs.Area.{Area}
use Rattle.swi_dispatch_guest.specs.DynamicAreasAreas.{AreaTable}
use Rattle.swi_dispatch_guest.specs.DynamicAreasGround.{is_fixed, is_in_area, is_area_table}
use Rattle.swi_dispatch_guest.proofs.OsHeapFrame.{store_bytes}
use Rattle.swi_dispatch_guest.specs.Value.{IsMachine, MachineValue}
use Rattle.store_copies.specs.Pages.{AreUnmappedPages, IsNoStartBetween, IsNotBetween}
use Rattle.store_copies.specs.Words.{word_changes_below}
use Rattle.store_copies.proofs.ChangeLemmas.{unchanged_ahead}
use Rattle.store_copies.proofs.CopyLemmas.{mapped_below, none_mapped_at}
use Rattle.store_copies.proofs.WordLemmas.{unmapped_word}

-- a range that doesn't hold an address holds none after it before the range starts
still_out : (base len at next x : ℕ) → in_range base len at ≡ false → IsNotBetween at next base → at ≤ x → x < next → in_range base len x ≡ false
still_out base len at next x out none from to = grind (arith, nat_tests)

areas_out : (areas : List Area) (at next x : ℕ) → list_any (is_in_area at) areas ≡ false → All (λ (a : Area). IsNotBetween at next a.base) areas
    → at ≤ x → x < next → list_any (is_in_area x) areas ≡ false
areas_out [] at next x out none from to = refl
areas_out (a ∷ rest) at next x out none from to =
    let parts = or_parts (is_in_area at a) (list_any (is_in_area at) rest) out in
    or_from (is_in_area x a) (list_any (is_in_area x) rest)
    (still_out a.base (4096 * a.pages) at next x parts.0 (All-head (λ (b : Area). IsNotBetween at next b.base) a rest none) from to)
    (areas_out rest at next x parts.1 (All-tail (λ (b : Area). IsNotBetween at next b.base) a rest none) from to)

area_table_out : (l : AreaTable) (at next x : ℕ) → is_area_table l at ≡ false → IsNoStartBetween l.areas at next → at ≤ x → x < next → is_area_table l x ≡ false
area_table_out l at next x out none from to =
    let parts = or_parts (is_fixed l.sizes at) (list_any (is_in_area at) l.areas) out in
    let fixed = or_parts (in_range application_start (4096 * l.sizes.app) at) (in_range system_start 0x3000 at) parts.0 in
    or_from (is_fixed l.sizes x) (list_any (is_in_area x) l.areas)
    (or_from (in_range application_start (4096 * l.sizes.app) x) (in_range system_start 0x3000 x)
    (still_out application_start (4096 * l.sizes.app) at next x fixed.0 none.application from to)
    (still_out system_start 0x3000 at next x fixed.1 none.system from to))
    (areas_out l.areas at next x parts.1 none.areas from to)

-- what is mapped of a machine's memory is its area table
is_of_area_table : (m : MachineValue) → IsMachine m → (x : ℕ) → is_mapped m.guest.map x ≡ is_area_table m.guest.tables.area_table x
is_of_area_table m is x = ap (λ (b : Bytes). b.mapped x) (sym (store_bytes m.guest.map)) ∙ is.guest.well_formed.areas.ground.area_table x

pub passed : (m : MachineValue) (page next to : ℕ) → IsMachine m → is_mapped m.guest.map (4096 * page) ≡ false
    → IsNoStartBetween m.guest.tables.area_table.areas (4096 * page) next → to ≡ next / 4096 → AreUnmappedPages m.guest.map page to
passed m page next to is out none at q from below =
    let l = m.guest.tables.area_table in
    is_of_area_table m is (4096 * q)
    ∙ area_table_out l (4096 * page) next (4096 * q) (sym (is_of_area_table m is (4096 * page)) ∙ out) none (omega arith) (omega arith)

-- no word of such pages differs
pub pages_passed : (reported : ℕ → Bool) (b : Bytes) (n : AddressMap) (from to : ℕ) → from ≤ to → AreUnmappedPages n from to
    → word_changes_below reported b (bytes_of n) (1024 * to) ≡ word_changes_below reported b (bytes_of n) (1024 * from)
pages_passed reported b n from to up none =
    let e : 1024 * to ≡ 1024 * from + 1024 * (to - from) = omega arith in
    ap (word_changes_below reported b (bytes_of n)) e
    ∙ unchanged_ahead reported b (bytes_of n) (1024 * from) (1024 * (to - from)) (λ j below.
    unmapped_word b (bytes_of n) (4 * (1024 * from + j))
    (is_mapped-page n (4 * (1024 * from + j)) (4096 * ((1024 * from + j) / 1024)) (omega arith)
    ∙ none ((1024 * from + j) / 1024) (omega arith) (omega arith)))

-- and none of them is counted
pub count_passed : (n : AddressMap) (from k : ℕ) → AreUnmappedPages n from (from + k) → mapped_below n (from + k) ≡ mapped_below n from
count_passed n from zero none = let e : from + 0 ≡ from = omega arith in ap (mapped_below n) e
count_passed n from (suc k) none =
    let e : from + suc k ≡ from + k + 1 = omega arith in
    ap (mapped_below n) e ∙ (none_mapped_at n (from + k) (none (from + k) (omega arith) (omega arith))
    ∙ count_passed n from k (λ page up below. none page up (omega arith)))
