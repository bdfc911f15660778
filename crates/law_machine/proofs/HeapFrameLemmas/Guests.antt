-- Where a guest's heap lies: in the application space, in an area that was created, or in a live
-- block of the module area.
use Rattle.profile.specs.MemoryMap.{application_start, area_window_end, area_window_start, module_area_start, system_start}
use Rattle.std.proofs.Common.{ℕ, ◌+◌, ◌*◌, ◌==◌, ◌≡◌, ◌≢◌, ◌≤◌, ◌<◌, ◌⊎◌, ◌∙◌, true, false, List, [], ◌∷◌, Option, Some, None, is_some, refl, sym, ap, subst, inl, inr, arith}
use Rattle.std.proofs.lemmas.Bool.{and_parts, both_ways, cases_eq, eq-eqb, false_from_ne_true, false≢true, le-leb, leb-true, lt-ltb, ne_eqb, or_cases}
use Rattle.std.specs.Prelude.{nat_le}
use Rattle.std.specs.List.{list_any}
use Rattle.address_map.specs.Bytes.{in_range}
use Rattle.address_map.specs.declared.region.Kind.TheVariants.{Rma}
use Rattle.os_heap_words.specs.lists.Heap.{HeapList, IsHeapIn}
use Rattle.os_heap.proofs.Apart.{found_other, range_parts}
use Rattle.os_heap.proofs.Found.{found_heap, found_start}
use Rattle.os_heap.proofs.Stores.{are_others, clear_of-found}
use Rattle.os_heap.specs.Calls.{has_own_size}
use Rattle.os_heap.specs.Nesting.{IsWithin, is_module_area}
use Rattle.os_heap.specs.Store.{AreClear, Store, find_heap}
use Rattle.dynamic_areas.proofs.ModuleArea.{IsModuleArea, module_area_known}
use Rattle.dynamic_areas.proofs.RoomLemmas.{found_behind, found_room, in_window}
use Rattle.dynamic_areas.proofs.SystemWrites.{system_clear}
use Rattle.dynamic_areas.specs.declared.area.Area.{Area}
use Rattle.dynamic_areas.specs.Areas.{find_area}
use Rattle.dynamic_areas.specs.Ground.{AreaStore, IsAreaStore, is_fixed, is_in_area, is_area_table}
use Rattle.dynamic_areas.specs.Rooms.{AreRooms, IsAreaRoom}
use Rattle.law_machine.specs.heap_frame.Fits.{is_module_byte}
use Rattle.law_machine.specs.heap_frame.GuestLaws.{AreaStoresAreFit, GuestHeapsLieOutside, HasGuestHeap, OutsideKeepsHeap}

-- area 1 of an area store, which is there
record HasModuleArea (e : AreaStore) : Type 0 where
  area : Area
  found : find_area 1 e.area_table.areas ≡ Some area
  known : IsModuleArea e.store area
  room : IsAreaRoom area

module_area : (e : AreaStore) → IsAreaStore e → HasModuleArea e
module_area e area_store = of_area (find_area 1 e.area_table.areas) refl area_store.ground.table.first where
  of_area : (o : Option Area) → find_area 1 e.area_table.areas ≡ o → is_some o ≡ true → HasModuleArea e
  of_area None none some = absurd (false≢true some)
  of_area (Some a) found some = record {
    area = a;
    found = found;
    known = module_area_known e.store e.pool e.area_table a area_store found;
    room = found_room 1 e.area_table.areas a area_store.ground.table.rooms found;
  }

pub area_stores_fit : AreaStoresAreFit
area_stores_fit e area_store =
    let m : HasModuleArea e = module_area e area_store in
    let maximum : m.area.maximum ≡ 4194304 = m.known.maximum in
    let within : 4096 * m.area.pages ≤ m.area.maximum = m.room.within in
    record {
      area = m.area;
      found = m.found;
      most = omega (arith, maximum);
      store = record {
        heap = m.known.heap;
        found = m.known.found;
        totals = m.known.spelled.totals;
        inside = omega (arith, m.known.spelled.inside, m.known.end);
        end = m.known.end;
        room = omega (arith, within, maximum);
        place = area_store.ground.sound.limits.place;
      };
    }

-- an area that was created lies after the system pages
pub created_low : (a : Area) → IsAreaRoom a → a.number ≢ 1 → area_window_start ≤ a.base
created_low a room other = leb-true area_window_start a.base (and_parts (nat_le area_window_start a.base) (nat_le (a.base + a.maximum) area_window_end)
    (in_window a.number a.base a.maximum other room.place)).0

-- the area that has a byte
pub record IsHeldBy (areas : List Area) (a : ℕ) : Type 0 where
  pub area : Area
  pub found : find_area area.number areas ≡ Some area
  pub room : IsAreaRoom area
  pub held : in_range area.base (4096 * area.pages) a ≡ true

pub held_by : (areas : List Area) (a : ℕ) → AreRooms areas → list_any (is_in_area a) areas ≡ true → IsHeldBy areas a
held_by [] a rooms is = absurd (false≢true is)
held_by (g ∷ areas) a rooms is = elim (or_cases (is_in_area a g) (list_any (is_in_area a) areas) is) [
  | inl here ↦ record { area = g; found = rw (eq-eqb g.number g.number refl) refl; room = rooms.0; held = here }
  | inr later ↦
      let rest : IsHeldBy areas a = held_by areas a rooms.1.1 later in
      let less : g.number < rest.area.number = (found_behind g rest.area rest.area.number areas rooms.1.0 rest.found).0 in
      let other : (g.number == rest.area.number) ≡ false = ne_eqb g.number rest.area.number (λ same. omega (arith, less, same)) in
      record { area = rest.area; found = rw other rest.found; room = rest.room; held = rest.held }
]

-- a guest's heap is clear of the module area's, or lies in a live block of that
clear_or_within : (e : AreaStore) (h k : HeapList) → HasGuestHeap e h → find_heap module_area_start e.store.heaps ≡ Some k → k.kind ≡ Rma
    → AreClear k.start k.end h.start h.end ⊎ IsWithin k h
clear_or_within e h k g found area =
    let s : Store = e.store in
    let start : k.start ≡ module_area_start = found_start module_area_start s.heaps k found in
    let own : find_heap k.start s.heaps ≡ Some k = subst (λ (p : ℕ). find_heap p s.heaps ≡ Some k) (sym start) found in
    elim (found_other k h.start s.heaps h (are_others s.bytes k.start s.heaps k g.area_store.ground.sound.heaps own) g.found) [
      | inl same ↦ absurd (false≢true (sym (ap (λ (x : HeapList). has_own_size x.kind) same ∙ ap has_own_size area) ∙ g.own))
      | inr other ↦ elim other.1 [
        | inl clear ↦ inl clear
        | inr nested ↦ elim nested [
          | inl within ↦ inr within
          | inr round ↦ absurd (false≢true (sym round.guest ∙ ap is_module_area area))
        ]
      ]
    ]

module _ (e : AreaStore) (h : HeapList) (g : HasGuestHeap e h) (k : HeapList) (round : find_heap module_area_start e.store.heaps ≡ Some k)
    (clear : AreClear k.start k.end h.start h.end) (a : ℕ) (inside : in_range h.start h.end a ≡ true) where
  in_module_area : (area : Area) → IsModuleArea e.store area → in_range module_area_start (4096 * area.pages) a ≡ true → ⊥
  in_module_area area m there =
      let both : Some m.heap ≡ Some k = sym m.found ∙ round in
      let same : m.heap ≡ k = cc in
      let here : in_range m.heap.start m.heap.end a ≡ true = rw (m.start, m.end) there in
      both_ways (in_range h.start h.end a) (clear a (subst (λ (x : HeapList). in_range x.start x.end a ≡ true) same here)) inside

  in_area : IsHeldBy e.area_table.areas a → is_module_byte a ≡ true → ⊥
  in_area held is = elim (cases_eq held.area.number 1) [
    | inl first ↦
        let found : find_area 1 e.area_table.areas ≡ Some held.area = subst (λ (n : ℕ). find_area n e.area_table.areas ≡ Some held.area) first held.found in
        let m : IsModuleArea e.store held.area = module_area_known e.store e.pool e.area_table held.area g.area_store found in
        in_module_area held.area m (subst (λ (p : ℕ). in_range p (4096 * held.area.pages) a ≡ true) m.base held.held)
    | inr other ↦
        let parts : (held.area.base ≤ a) × (a < held.area.base + 4096 * held.area.pages) = range_parts held.area.base (4096 * held.area.pages) a held.held in
        let byte : (module_area_start ≤ a) × (a < 0x01C03000) = range_parts module_area_start 0x403000 a is in
        omega (arith, created_low held.area held.room other, parts.0, byte.1)
  ]

  in_fixed : is_fixed e.area_table.sizes a ≡ true → is_module_byte a ≡ true → ⊥
  in_fixed fixed is =
      let good = g.area_store.ground.sizes in
      let byte : (module_area_start ≤ a) × (a < 0x01C03000) = range_parts module_area_start 0x403000 a is in
      elim (or_cases (in_range application_start (4096 * e.area_table.sizes.app) a) (in_range system_start 0x3000 a) fixed) [
        | inl low ↦
            let parts : (application_start ≤ a) × (a < application_start + 4096 * e.area_table.sizes.app) = range_parts application_start (4096 * e.area_table.sizes.app) a low in
            omega (arith, parts.1, byte.0, good.in_limit, good.has_room)
        | inr system ↦ both_ways (in_range h.start h.end a)
            (clear_of-found system_start 0x3000 h.start e.store.heaps h
            (system_clear e.store.heaps e.store.others g.area_store.ground.sound.placed g.system) g.found a system) inside
      ]

  outside : is_module_byte a ≡ false
  outside =
      let heap : IsHeapIn e.store.bytes h.start h.end h.items = found_heap e.store.bytes h.start e.store.heaps h g.area_store.ground.sound.heaps g.found in
      let parts : (h.start ≤ a) × (a < h.start + h.end) = range_parts h.start h.end a inside in
      let area_table : is_area_table e.area_table a ≡ true = sym (g.area_store.ground.area_table a) ∙ heap.mapped a parts.0 parts.1 in
      false_from_ne_true (is_module_byte a) (λ is.
      elim (or_cases (is_fixed e.area_table.sizes a) (list_any (is_in_area a) e.area_table.areas) area_table) [
        | inl fixed ↦ in_fixed fixed is
        | inr held ↦ in_area (held_by e.area_table.areas a g.area_store.ground.table.rooms held) is
      ])

pub guests_outside : GuestHeapsLieOutside
guests_outside e h g =
    let m : HasModuleArea e = module_area e g.area_store in
    elim (clear_or_within e h m.known.heap g m.known.found m.known.kind) [
      | inl clear ↦ inl (λ a inside. outside e h g m.known.heap m.known.found clear a inside)
      | inr within ↦ inr (record { area = m.known.heap; round = m.known.found; found = g.found; within = within })
    ]

-- it doesn't start where the module area does
pub guest_elsewhere : (e : AreaStore) (h : HeapList) → HasGuestHeap e h → h.start ≢ module_area_start
guest_elsewhere e h g same =
    let m : HasModuleArea e = module_area e g.area_store in
    let there : find_heap module_area_start e.store.heaps ≡ Some h = subst (λ (p : ℕ). find_heap p e.store.heaps ≡ Some h) same g.found in
    let both : Some m.known.heap ≡ Some h = sym m.known.found ∙ there in
    let is : m.known.heap ≡ h = cc in
    false≢true (sym (ap (λ (x : HeapList). has_own_size x.kind) (sym is) ∙ ap has_own_size m.known.kind) ∙ g.own)

-- a heap has its first byte
first_inside : (start end : ℕ) → 0 < end → in_range start end start ≡ true
first_inside start end some = rw (le-leb start start (omega arith), lt-ltb start (start + end) (omega (arith, some))) refl

pub outside_keeps : OutsideKeepsHeap
outside_keeps e t h g kept still =
    let heap : IsHeapIn e.store.bytes h.start h.end h.items = found_heap e.store.bytes h.start e.store.heaps h g.area_store.ground.sound.heaps g.found in
    record {
      found = kept.heaps h.start (guest_elsewhere e h g) (λ there. elim (guests_outside e h g) [
        | inl outside ↦ absurd (both_ways (is_module_byte h.start) (outside h.start (first_inside h.start h.end (omega (arith, heap.inside)))) there)
        | inr lies ↦ still lies
      ])
          ∙ g.found;
      bytes = λ a inside. elim (guests_outside e h g) [
        | inl outside ↦ kept.bytes a (outside a inside)
        | inr lies ↦ (kept.inner h (omega (arith, heap.inside)) lies (still lies)).bytes a inside
      ];
      anchors = λ a inside. kept.anchors a;
    }
