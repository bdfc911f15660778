-- The pages of a memory, counted by the areas that stand on it.
use Rattle.profile.specs.MemoryMap.{application_start, system_start}
use Rattle.std.proofs.Common.{◌≡◌, ℕ, zero, suc, ◌+◌, ◌*◌, ◌/◌, ◌%◌, ◌<◌, ◌≤◌, List, [], ◌∷◌, true, false, refl, sym, ap, ◌∙◌, arith, inl, inr}
use Rattle.std.specs.Prelude.{Bool, ◌||◌}
use Rattle.std.specs.List.{list_any}
use Rattle.std.proofs.lemmas.Bool.{cases_Bool, true≢false}
use Rattle.std.proofs.lemmas.Bool.Decides.{nat_tests}
use Rattle.os_heap.specs.Bytes.{in_range, shares_address}
use Rattle.os_heap.specs.Counts.{number_below}
use Rattle.os_heap.specs.Memory.{free_pages, is_mapped, page_total}
use Rattle.os_heap.specs.AddressMap.{AddressMap}
use Rattle.os_heap.proofs.Counting.{counted_same, pages_counted}
use Rattle.profile.specs.Sizes.{Sizes, AreGood}
use Rattle.os_heap.specs.Store.{store_of}
use Rattle.dynamic_areas.specs.Areas.{AreaTable, pages_of}
use Rattle.dynamic_areas.specs.Ground.{AreAreas, is_fixed, is_in_area, is_area_table}
use Rattle.dynamic_areas.specs.Rooms.{AreRooms, IsBefore, IsAreaRoom}
use Rattle.dynamic_areas.specs.declared.area.Area.{Area}
use Rattle.dynamic_areas.proofs.AreaTableLemmas.{fixed_outside, lies_apart}
use Rattle.dynamic_areas.proofs.PageRanges.{counted_either, counted_range, page_in_range}

-- a range of whole pages
range_counted : (base at count n : ℕ) → base ≡ 4096 * at → at + count ≤ n → number_below (λ page. in_range base (4096 * count) (4096 * page)) n ≡ count
range_counted base at count n is fits =
    counted_same (λ page. in_range base (4096 * count) (4096 * page)) (in_range at count) n
    (λ page below. ap (λ (b : ℕ). in_range b (4096 * count) (4096 * page)) is ∙ page_in_range at count page)
    ∙ counted_range at count n fits

-- an address of an area is no other's
held_once : (a b : Area) (x : ℕ) → IsAreaRoom a → IsAreaRoom b → shares_address a.base a.maximum b.base b.maximum ≡ false → is_in_area x a ≡ true
    → is_in_area x b ≡ false
held_once a b x room other apart held = let within = room.within in let least = other.within in grind (arith, nat_tests)

held_alone : (a : Area) (others : List Area) (x : ℕ) → IsAreaRoom a → IsBefore a others → AreRooms others → is_in_area x a ≡ true
    → list_any (is_in_area x) others ≡ false
held_alone a [] x room before rooms held = refl
held_alone a (b ∷ others) x room before rooms held =
    rw (held_once a b x room rooms.0 before.0.1 held) (held_alone a others x room before.1 rooms.1.1 held)

none_counted : (n : ℕ) → number_below (λ page. false) n ≡ 0
unfolding number_below
none_counted zero = refl
none_counted (suc n) = omega (arith, none_counted n)

areas_counted : (areas : List Area) → AreRooms areas → number_below (λ page. list_any (is_in_area (4096 * page)) areas) 16384 ≡ pages_of areas
areas_counted [] rooms = none_counted 16384
areas_counted (a ∷ others) rooms =
    let room : IsAreaRoom a = rooms.0 in
    let lies = lies_apart a room in
    let own = range_counted a.base (a.base / 4096) a.pages 16384 (omega (arith, room.page)) (omega (arith, room.page, room.within, lies.high)) in
    let rest = areas_counted others rooms.1.1 in
    let both = counted_either (λ page. is_in_area (4096 * page) a) (λ page. list_any (is_in_area (4096 * page)) others) 16384
    (λ page below held. held_alone a others (4096 * page) room rooms.1.0 rooms.1.1 held) in
    omega (arith, own, rest, both)

-- the application space and the system pages
fixed_once : (sizes : Sizes) (x : ℕ) → AreGood sizes → in_range application_start (4096 * sizes.app) x ≡ true → in_range system_start 0x3000 x ≡ false
fixed_once sizes x good inside = let limit = good.in_limit in let room = good.has_room in grind (arith, nat_tests)

fixed_counted : (sizes : Sizes) → AreGood sizes → number_below (λ page. is_fixed sizes (4096 * page)) 16384 ≡ sizes.app + 3
fixed_counted sizes good =
    let app = range_counted application_start 8 sizes.app 16384 refl (omega (arith, good.in_limit, good.has_room)) in
    let system = range_counted system_start 7168 3 16384 refl (omega arith) in
    let both = counted_either (λ page. in_range application_start (4096 * sizes.app) (4096 * page)) (λ page. in_range system_start 0x3000 (4096 * page)) 16384
    (λ page below inside. fixed_once sizes (4096 * page) good inside) in
    omega (arith, app, system, both)

-- and no area's
held_inside : (a : Area) (x : ℕ) → IsAreaRoom a → is_in_area x a ≡ true → in_range a.base a.maximum x ≡ true
held_inside a x room held = let within = room.within in grind (arith, nat_tests)

unheld : (sizes : Sizes) (a : Area) (x : ℕ) → AreGood sizes → IsAreaRoom a → is_fixed sizes x ≡ true → is_in_area x a ≡ false
unheld sizes a x good room fixed =
    elim (cases_Bool (is_in_area x a)) [
      | inl held ↦ absurd (true≢false (sym fixed ∙ fixed_outside sizes a x good room (held_inside a x room held)))
      | inr none ↦ none
    ]

fixed_alone : (sizes : Sizes) (areas : List Area) (x : ℕ) → AreGood sizes → AreRooms areas → is_fixed sizes x ≡ true
    → list_any (is_in_area x) areas ≡ false
fixed_alone sizes [] x good rooms fixed = refl
fixed_alone sizes (a ∷ others) x good rooms fixed =
    rw (unheld sizes a x good rooms.0 fixed) (fixed_alone sizes others x good rooms.1.1 fixed)

pub areas_count_pages : (m : AddressMap) (l : AreaTable) → AreAreas (store_of m) (free_pages m) l → page_total m ≡ l.sizes.pages
unfolding store_of
areas_count_pages m l areas =
    let ground = areas.ground in
    let total = pages_counted m in
    let same = counted_same (λ page. is_mapped m (4096 * page)) (λ page. is_area_table l (4096 * page)) 16384 (λ page below. ground.area_table (4096 * page)) in
    let both = counted_either (λ page. is_fixed l.sizes (4096 * page)) (λ page. list_any (is_in_area (4096 * page)) l.areas) 16384
    (λ page below fixed. fixed_alone l.sizes l.areas (4096 * page) ground.sizes ground.table.rooms fixed) in
    let fixed = fixed_counted l.sizes ground.sizes in
    let held = areas_counted l.areas ground.table.rooms in
    let pages = ground.pages in
    omega (arith, total, same, both, fixed, held, pages)
