-- The module area where it grows: how far its heap reaches then.
use Rattle.dynamic_areas.specs.MemoryMap.{module_area_start}
use Rattle.std.proofs.Common.{◌≡◌, ◌==◌, ℕ, Bool, ◌||◌, ◌+◌, ◌-◌, ◌*◌, ◌/◌, ◌<◌, ◌≤◌, List, [], ◌∷◌, true, false, refl, sym, ap, ◌∙◌, subst, Some, None, Ok, Err, inl, inr, arith}
use Rattle.std.specs.Prelude.{Option, Result, is_ok, is_some, nat_le, nat_lt, min}
use Rattle.std.proofs.lemmas.Bool.{cases_Bool, cases_lt, lt-ltb, le-ltb, le-leb, lt-leb, leb-false, leb-true, ltb-true, ltb-false}
use Rattle.dynamic_areas.specs.Outcome.{Leaves}
use Rattle.dynamic_areas.specs.ErrorNumber.{ErrorNumber}
use Rattle.dynamic_areas.specs.ErrorNumber.TheVariants.{AreaNoPages, RmaNoRoom}
use Rattle.dynamic_areas.specs.Bytes.{in_range}
use Rattle.dynamic_areas.specs.Heap.{HeapList, AreTotals}
use Rattle.dynamic_areas.specs.Calls.{with_end}
use Rattle.dynamic_areas.specs.Forgetting.{holds_heap, starts_in}
use Rattle.dynamic_areas.specs.Store.{Store, find_heap}
use Rattle.dynamic_areas.specs.declared.area.Area.{Area}
use Rattle.dynamic_areas.specs.declared.area.Changed.{Changed}
use Rattle.dynamic_areas.specs.Areas.{AreaTable, find_area}
use Rattle.dynamic_areas.specs.Changing.{change_answer, growth_room, is_growth, area_table_changed, area_table_more, moving, pages_had, store_changed, store_extended}
use Rattle.dynamic_areas.specs.Creating.{pages_for}
use Rattle.dynamic_areas.specs.Ground.{AreAreas, AreaStore, IsAreaStore}
use Rattle.dynamic_areas.specs.Rooms.{IsAreaRoom}
use Rattle.dynamic_areas.proofs.GroundLemmas.{or_true}
use Rattle.dynamic_areas.proofs.AreaTableLemmas.{pages_counted}
use Rattle.dynamic_areas.proofs.ModuleArea.{IsModuleArea, module_area_known, find_ended}
use Rattle.dynamic_areas.proofs.RoomLemmas.{found_room}
use Rattle.rma.specs.Calls.{area_pages, area_room, grown_to, pages_short, room_in, with_pages_more}

-- the area, with its heap
pub record HasArea (e : AreaStore) : Type 0 where
  pub area : Area
  pub found : find_area 1 e.area_table.areas ≡ Some area
  pub known : IsModuleArea e.store area
  pub room : IsAreaRoom area

pub area_there : (e : AreaStore) → IsAreaStore e → HasArea e
area_there e good = go (find_area 1 e.area_table.areas) refl good.ground.table.first where
  go : (found : Option Area) → find_area 1 e.area_table.areas ≡ found → is_some found ≡ true → HasArea e
  go None is some = absurd (let no : false ≡ true = some in cc)
  go (Some a) is some = record {
    area = a;
    found = is;
    known = module_area_known e.store e.pool e.area_table a good is;
    room = found_room 1 e.area_table.areas a good.ground.table.rooms is;
  }

-- what growth leaves: the same heap, which reaches far enough
pub record IsGrown (e g : AreaStore) (end : ℕ) : Type 0 where
  pub heap : HeapList
  pub found : find_heap module_area_start e.store.heaps ≡ Some heap
  pub totals : AreTotals heap.items
  pub start : heap.start ≡ module_area_start
  pub limit : ℕ
  pub there : find_heap module_area_start g.store.heaps ≡ Some (record { kind = heap.kind; start = heap.start; end = limit; items = heap.items })
  pub reaches : end ≤ limit
  pub others : g.store.others ≡ e.store.others
  pub anchors : g.store.anchor ≡ e.store.anchor
  pub holds : (at len : ℕ) → holds_heap g.store.heaps at len ≡ holds_heap e.store.heaps at len

-- a heap that gets another end starts where it started
ended_holds : (start end at len : ℕ) (hs : List HeapList) → holds_heap (with_end start end hs) at len ≡ holds_heap hs at len
ended_holds start end at len [] = refl
ended_holds start end at len (g ∷ hs) = elim (cases_Bool (g.start == start)) [
  | inl here ↦ rw here (ap (λ (t : Bool). starts_in at len g || t) (ended_holds start end at len hs))
  | inr other ↦ rw other (ap (λ (t : Bool). starts_in at len g || t) (ended_holds start end at len hs))
]

more_grown : (e : AreaStore) (end count : ℕ) (h : HasArea e) → end ≤ 4096 * (h.area.pages + count) → IsGrown e (with_pages_more e count) end
more_grown e end count h enough =
    let a : Area = h.area in
    let m : IsModuleArea e.store a = h.known in
    record {
      heap = m.heap;
      found = m.found;
      totals = m.spelled.totals;
      start = m.start;
      limit = 4096 * (a.pages + count);
      there = rw (h.found, m.found) (find_ended e.store.heaps m.heap module_area_start (4096 * (a.pages + count)) m.found);
      reaches = enough;
      others = rw (h.found, m.found) refl;
      anchors = rw (h.found, m.found) refl;
      holds = λ at len. rw (h.found, m.found) (ended_holds m.heap.start (4096 * (a.pages + count)) at len e.store.heaps);
    }

pub is_grown : (e g : AreaStore) (end : ℕ) → IsAreaStore e → grown_to e end ≡ Ok g → IsGrown e g end
unfolding grown_to
is_grown e g end good is =
    let h : HasArea e = area_there e good in
    let a : Area = h.area in
    let m : IsModuleArea e.store a = h.known in
    let size : 4096 * area_pages e ≡ 4096 * a.pages = ap (λ (x : Option Area). 4096 * pages_had x) h.found in
    let pages : pages_short e end ≡ (end - 4096 * a.pages + 4095) / 4096 = ap (λ (x : Option Area). pages_for (end - 4096 * pages_had x)) h.found in
    elim (cases_Bool (nat_le end (4096 * area_pages e))) [
      | inl fits ↦
          let e' = rw fits at is in
          let same : e ≡ g = cc in
          let here : IsGrown e e end = record {
            heap = m.heap;
            found = m.found;
            totals = m.spelled.totals;
            start = m.start;
            limit = m.heap.end;
            there = m.found;
            reaches = omega (arith, leb-true end (4096 * area_pages e) fits, size, m.end);
            others = refl;
            anchors = refl;
            holds = λ at len. refl;
          } in
          subst (λ (x : AreaStore). IsGrown e x end) same here
      | inr short ↦
          let by = rw short at is in
          elim (cases_Bool (nat_lt (area_room e) (pages_short e end))) [
            | inl none ↦ absurd (let no : Err RmaNoRoom ≡ Ok g = rw none at by in cc)
            | inr room ↦
                let done : Ok (with_pages_more e (pages_short e end)) ≡ Ok g = rw room at by in
                let same : with_pages_more e (pages_short e end) ≡ g = cc in
                subst (λ (x : AreaStore). IsGrown e x end) same
                (more_grown e end (pages_short e end) h (omega (arith, pages)))
          ]
    ]

-- growth that can be had can be had in part, and what can't has one reason
pub grown_less : (e g : AreaStore) (less end : ℕ) → less ≤ end → grown_to e end ≡ Ok g → (x : AreaStore) × (grown_to e less ≡ Ok x)
unfolding grown_to
grown_less e g less end low is = elim (cases_Bool (nat_le less (4096 * area_pages e))) [
  | inl fits ↦ (e, rw fits refl)
  | inr short ↦
      let past : nat_le end (4096 * area_pages e) ≡ false =
      lt-leb end (4096 * area_pages e) (omega (arith, leb-false less (4096 * area_pages e) short, low)) in
      let by = rw past at is in
      elim (cases_Bool (nat_lt (area_room e) (pages_short e end))) [
        | inl none ↦ absurd (let no : Err RmaNoRoom ≡ Ok g = rw none at by in cc)
        | inr room ↦
            let test : nat_lt (area_room e) (pages_short e less) ≡ false =
            le-ltb (area_room e) (pages_short e less) (omega (arith, ltb-false (area_room e) (pages_short e end) room, low)) in
            (with_pages_more e (pages_short e less), rw (short, test) refl)
      ]
]

pub growth_error : (e : AreaStore) (end : ℕ) (f : ErrorNumber) → grown_to e end ≡ Err f → RmaNoRoom ≡ f
unfolding grown_to
growth_error e end f is = elim (cases_Bool (nat_le end (4096 * area_pages e))) [
  | inl fits ↦ absurd (let no : Ok e ≡ Err f = rw fits at is in cc)
  | inr short ↦
      let by = rw short at is in
      elim (cases_Bool (nat_lt (area_room e) (pages_short e end))) [
        | inl none ↦ (let same : Err RmaNoRoom ≡ Err f = rw none at by in cc)
        | inr room ↦ absurd (let no : Ok (with_pages_more e (pages_short e end)) ≡ Err f = rw room at by in cc)
      ]
]

pub refused_where : (e : AreaStore) (end : ℕ) → is_ok (grown_to e end) ≡ false → grown_to e end ≡ Err RmaNoRoom
refused_where e end not_ok = go (grown_to e end) refl not_ok where
  go : (r : Result AreaStore ErrorNumber) → grown_to e end ≡ r → is_ok r ≡ false → grown_to e end ≡ Err RmaNoRoom
  go (Ok g) is fails = absurd (let no : true ≡ false = fails in cc)
  go (Err f) is fails = is ∙ ap (λ (x : ErrorNumber). Err x) (sym (growth_error e end f is))

-- what is answered, and what the area's own call makes of it
pub grown_not : (e : AreaStore) (end : ℕ) → end ≤ 4096 * area_pages e → grown_to e end ≡ Ok e
unfolding grown_to
grown_not e end fits = rw (le-leb end (4096 * area_pages e) fits) refl

room_there : (e : AreaStore) (h : HasArea e) → area_room e ≡ growth_room e.pool h.area
room_there e h = ap (room_in e.pool) h.found

pub growth_refused : (e : AreaStore) (h : HasArea e) (end amount : ℕ) → 4096 * area_pages e < end → amount ≡ end - 4096 * area_pages e
    → growth_room e.pool h.area < pages_for amount → grown_to e end ≡ Err RmaNoRoom
unfolding grown_to
growth_refused e h end amount past is few =
    let test : nat_lt (area_room e) (pages_short e end) ≡ true =
    lt-ltb (area_room e) (pages_short e end) (omega (arith, room_there e h, ap pages_for is, few)) in
    rw (lt-leb end (4096 * area_pages e) past, test) refl

pub growth_done : (e : AreaStore) (h : HasArea e) (end amount : ℕ) → 4096 * area_pages e < end → amount ≡ end - 4096 * area_pages e
    → pages_for amount ≤ growth_room e.pool h.area → grown_to e end ≡ Ok (with_pages_more e (pages_for amount))
unfolding grown_to
growth_done e h end amount past is room =
    let test : nat_lt (area_room e) (pages_short e end) ≡ false =
    le-ltb (area_room e) (pages_short e end) (omega (arith, room_there e h, ap pages_for is, room)) in
    rw (lt-leb end (4096 * area_pages e) past, test) (ap (λ (n : ℕ). Ok (with_pages_more e n)) (sym (ap pages_for is)))

-- past the maximum there is no room
pub far_refused : (e : AreaStore) (h : HasArea e) (end : ℕ) → 4194304 < end → grown_to e end ≡ Err RmaNoRoom
far_refused e h end far =
    let a : Area = h.area in
    let size : area_pages e ≡ a.pages = ap pages_had h.found in
    let most : growth_room e.pool a ≡ min (1024 - a.pages) e.pool = ap (λ (m : ℕ). min (m / 4096 - a.pages) e.pool) h.known.maximum in
    growth_refused e h end (end - 4096 * area_pages e) (omega (arith, size, far, h.room.within, h.known.maximum)) refl
    (omega (arith, size, far, h.room.within, h.known.maximum, most))

pub measured : (e : AreaStore) (h : HasArea e) (amount : ℕ) → is_growth amount ≡ true
    → change_answer e.area_table.areas e.store e.pool 1 amount ≡ moving (pages_for amount) (growth_room e.pool h.area) AreaNoPages
unfolding change_answer
measured e h amount grows = rw (h.found, grows) refl

pub error_there : (asked room : ℕ) → is_some (moving asked room AreaNoPages).error ≡ true → room < asked
error_there asked room some = elim (cases_Bool (nat_lt room asked)) [
  | inl few ↦ ltb-true room asked few
  | inr enough ↦ absurd (let no : false ≡ true = rw enough at some in cc)
]

pub error_none : (asked room : ℕ) → is_some (moving asked room AreaNoPages).error ≡ false → asked ≤ room
error_none asked room none = elim (cases_Bool (nat_lt room asked)) [
  | inl few ↦ absurd (let no : true ≡ false = rw few at none in cc)
  | inr enough ↦ ltb-false room asked enough
]

-- the area store after the area's own call
pub is_changed : (e : AreaStore) (h : HasArea e) (s : Store) (pool : ℕ) (l : AreaTable) (amount bytes : ℕ) → IsAreaStore e → AreAreas s pool l
    → is_growth amount ≡ true → bytes ≡ 4096 * min (pages_for amount) (growth_room e.pool h.area) → pages_for amount ≤ growth_room e.pool h.area
    → l ≡ area_table_changed e.area_table 1 amount bytes → s ≡ store_changed e.store e.area_table.areas 1 amount bytes
    → (let g : AreaStore = record { store = s; pool = pool; area_table = l } in g ≡ with_pages_more e (pages_for amount))
is_changed e h s pool l amount bytes good after grows moved room area_table store =
    let a : Area = h.area in
    let count : ℕ = pages_for amount in
    let whole : bytes / 4096 ≡ count = omega (arith, moved, room) in
    let area_table' : l ≡ area_table_more e.area_table 1 count = (let t = rw (grows, whole) at area_table in t) in
    let store' : s ≡ store_extended e.store 1 count (find_area 1 e.area_table.areas) = (let t = rw (grows, whole) at store in t) in
    let pages = rw (area_table', h.found) at after.ground.pages in
    let pool' : pool ≡ e.pool - count =
    omega (arith, pages, good.ground.pages, pages_counted 1 e.area_table.areas a (a.pages + count) h.found) in
    λ i. record { store = store' i; pool = pool' i; area_table = area_table' i }

-- where growth is allowed, it stays in the maximum, and there is room for its pages
pub can_grow : (e : AreaStore) (h : HasArea e) (end : ℕ) → is_ok (grown_to e end) ≡ true → 4096 * area_pages e < end
    → (end ≤ 4194304) × (pages_for (end - 4096 * area_pages e) ≤ growth_room e.pool h.area)
can_grow e h end can past = (
  elim (cases_lt 4194304 end) [
    | inl far ↦ absurd (let no : false ≡ true = sym (ap is_ok (far_refused e h end far)) ∙ can in cc)
    | inr near ↦ near
  ],
  elim (cases_lt (growth_room e.pool h.area) (pages_for (end - 4096 * area_pages e))) [
    | inl few ↦ absurd (let no : false ≡ true = sym (ap is_ok (growth_refused e h end (end - 4096 * area_pages e) past refl few)) ∙ can in cc)
    | inr room ↦ room
  ],
)

-- the area's own call where growth is allowed: the area store has all pages then
pub has_more : (e : AreaStore) (h : HasArea e) (s : Store) (pool : ℕ) (l : AreaTable) (amount : ℕ) (made : Changed) → IsAreaStore e → AreAreas s pool l
    → amount < 2147483648 → pages_for amount ≤ growth_room e.pool h.area → made ≡ change_answer e.area_table.areas e.store e.pool 1 amount
    → l ≡ area_table_changed e.area_table 1 amount made.bytes → s ≡ store_changed e.store e.area_table.areas 1 amount made.bytes
    → (let g : AreaStore = record { store = s; pool = pool; area_table = l } in g ≡ with_pages_more e (pages_for amount))
has_more e h s pool l amount made good after low room change area_table store =
    let grows : is_growth amount ≡ true = lt-ltb amount 2147483648 low in
    let moved = ap (λ (x : Changed). x.bytes) (change ∙ measured e h amount grows) in
    is_changed e h s pool l amount made.bytes good after grows moved room area_table store

pub mapped_more : (e : AreaStore) (h : HasArea e) (count x : ℕ) → e.store.bytes.mapped x ≡ true
    → (with_pages_more e count).store.bytes.mapped x ≡ true
mapped_more e h count x mapped =
    let m : IsModuleArea e.store h.area = h.known in
    rw (h.found, m.found, mapped) (or_true (in_range (h.area.base + 4096 * h.area.pages) (4096 * count) x))

pub leaves_done : (e g : AreaStore) (r : Result AreaStore ErrorNumber) → Leaves e r (let done : Result (Unit {0}) ErrorNumber = Ok tt in done) g → r ≡ Ok g
leaves_done e g (Ok x) leaves = ap (λ (y : AreaStore). Ok y) (sym leaves)
leaves_done e g (Err f) leaves = absurd leaves

pub others_more : (e : AreaStore) (h : HasArea e) (count : ℕ) → (with_pages_more e count).store.others ≡ e.store.others
others_more e h count = rw (h.found, h.known.found) refl
