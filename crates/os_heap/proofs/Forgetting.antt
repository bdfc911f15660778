-- Heaps that are forgotten with a block, or with what is cut off one: what is left of a sound store, and which heaps these are.
use Rattle.std.proofs.Common.{Bool, List, ℕ, [], ◌∷◌, ◌≡◌, ◌≤◌, ◌<◌, ◌+◌, ◌-◌, ◌==◌, ◌&&◌, ◌⊎◌, ◌∙◌, ltb, Some, None, not, true, false, refl, sym, ap, subst, inl, inr, arith}
use Rattle.std.proofs.lemmas.Bool.{and_parts, both_ways, cases_Bool, cases_lt, eqb-true, false_from_ne_true, le-leb, lt-ltb, ltb-true, ne_eqb, eq-eqb}
use Rattle.os_heap_words.specs.Bytes.{Bytes, in_range}
use Rattle.os_heap_words.specs.Items.{size_of}
use Rattle.os_heap_words.specs.Region.{Region}
use Rattle.os_heap_words.proofs.ListsLemmas.LiveBlocks.{LiveBytes, law_live_bytes}
use Rattle.os_heap_words.specs.lists.Heap.{HeapList, IsHeapIn}
use Rattle.os_heap_words.specs.lists.Lists.{live_total}
use Rattle.os_heap.proofs.Apart.{range_parts, within_here}
use Rattle.os_heap.proofs.Nesting.{apart_starts, within_low}
use Rattle.os_heap.proofs.Stores.{IsOther}
use Rattle.os_heap.specs.Forgetting.{store_after_forget, lowest_lost, starts_in, without_heaps_in}
use Rattle.os_heap.specs.Nesting.{StandApart}
use Rattle.os_heap.specs.Store.{AreHeapsIn, ArePlaced, IsAnchorPlace, IsPlacedIn, IsSound, StandAreas, Store, area_count, find_heap, guest_count, is_module_area}

-- what holds of all heaps, or of each two, holds of those that are left
stand_left : (at len : ℕ) (h : HeapList) (hs : List HeapList) → StandApart h hs → StandApart h (without_heaps_in at len hs)
stand_left at len h [] stand = tt
stand_left at len h (g ∷ hs) stand = elim (cases_Bool (starts_in at len g)) [
  | inl gone ↦ rw gone (stand_left at len h hs stand.1)
  | inr kept ↦ rw kept (stand.0, stand_left at len h hs stand.1)
]

pub parts_left : (b : Bytes) (at len : ℕ) (hs : List HeapList) → AreHeapsIn b hs → AreHeapsIn b (without_heaps_in at len hs)
parts_left b at len [] parts = tt
parts_left b at len (g ∷ hs) parts = elim (cases_Bool (starts_in at len g)) [
  | inl gone ↦ rw gone (parts_left b at len hs parts.1.1)
  | inr kept ↦ rw kept (parts.0, (stand_left at len g hs parts.1.0, parts_left b at len hs parts.1.1))
]

guests_left : (at len : ℕ) (hs : List HeapList) → guest_count (without_heaps_in at len hs) ≤ guest_count hs
guests_left at len [] = omega arith
guests_left at len (g ∷ hs) =
    let rest : guest_count (without_heaps_in at len hs) ≤ guest_count hs = guests_left at len hs in
    elim (cases_Bool (starts_in at len g)) [
      | inl gone ↦ rw gone (elim (cases_Bool (is_module_area g.kind)) [ inl area ↦ rw area rest | inr guest ↦ rw guest (omega (arith, rest)) ])
      | inr kept ↦ rw kept (elim (cases_Bool (is_module_area g.kind)) [ inl area ↦ rw area rest | inr guest ↦ rw guest (omega (arith, rest)) ])
    ]

areas_left : (at len : ℕ) (hs : List HeapList) → area_count (without_heaps_in at len hs) ≤ area_count hs
areas_left at len [] = omega arith
areas_left at len (g ∷ hs) =
    let rest : area_count (without_heaps_in at len hs) ≤ area_count hs = areas_left at len hs in
    elim (cases_Bool (starts_in at len g)) [
      | inl gone ↦ rw gone (elim (cases_Bool (is_module_area g.kind)) [ inl area ↦ rw area (omega (arith, rest)) | inr guest ↦ rw guest rest ])
      | inr kept ↦ rw kept (elim (cases_Bool (is_module_area g.kind)) [ inl area ↦ rw area (omega (arith, rest)) | inr guest ↦ rw guest rest ])
    ]

pub areas_stand : (at len : ℕ) (hs : List HeapList) → StandAreas hs → StandAreas (without_heaps_in at len hs)
areas_stand at len [] stand = tt
areas_stand at len (g ∷ hs) stand = elim (cases_Bool (starts_in at len g)) [
  | inl gone ↦ rw gone (areas_stand at len hs stand.1)
  | inr kept ↦ rw kept (stand.0, areas_stand at len hs stand.1)
]

placed_left : (at len : ℕ) (hs : List HeapList) (r : Region) → IsPlacedIn hs r → IsPlacedIn (without_heaps_in at len hs) r
placed_left at len [] r placed = tt
placed_left at len (g ∷ hs) r placed = elim (cases_Bool (starts_in at len g)) [
  | inl gone ↦ rw gone (placed_left at len hs r placed.1)
  | inr kept ↦ rw kept (placed.0, placed_left at len hs r placed.1)
]

all_placed_left : (at len : ℕ) (hs : List HeapList) (rs : List Region) → ArePlaced hs rs → ArePlaced (without_heaps_in at len hs) rs
all_placed_left at len hs [] placed = tt
all_placed_left at len hs (r ∷ rs) placed = (placed_left at len hs r placed.0, all_placed_left at len hs rs placed.1)

anchor_left : (at len : ℕ) (hs : List HeapList) (a : ℕ) → IsAnchorPlace hs a → IsAnchorPlace (without_heaps_in at len hs) a
anchor_left at len [] a place = tt
anchor_left at len (g ∷ hs) a place = elim (cases_Bool (starts_in at len g)) [
  | inl gone ↦ rw gone (anchor_left at len hs a place.1)
  | inr kept ↦ rw kept (place.0, anchor_left at len hs a place.1)
]

left_sound : (s : Store) (at len : ℕ) → IsSound s → IsSound (record s { heaps = without_heaps_in at len s.heaps })
left_sound s at len sound = record {
  heaps = parts_left s.bytes at len s.heaps sound.heaps;
  limits = record {
    guests = omega (arith, guests_left at len s.heaps, sound.limits.guests);
    areas = omega (arith, areas_left at len s.heaps, sound.limits.areas);
    place = areas_stand at len s.heaps sound.limits.place;
  };
  placed = all_placed_left at len s.heaps s.others sound.placed;
  apart = sound.apart;
  few = sound.few;
  anchors = λ a is. ((sound.anchors a is).0, anchor_left at len s.heaps a (sound.anchors a is).1);
  headers = sound.headers;
}

pub forgot_sound : (s : Store) (block total from : ℕ) → IsSound s → IsSound (store_after_forget s block total from)
forgot_sound s block total from sound =
    let low : ℕ = lowest_lost block (total - 4) from s.heaps in
    left_sound s low (block - 4 + total - low) sound

-- which heaps are found then: those that do not start in the range
pub find_left : (at len start : ℕ) (hs : List HeapList) (h : HeapList) → find_heap start hs ≡ Some h → starts_in at len h ≡ false
    → find_heap start (without_heaps_in at len hs) ≡ Some h
find_left at len start [] h found kept = absurd (let none : None ≡ Some h = found in cc)
find_left at len start (g ∷ hs) h found kept = elim (cases_Bool (g.start == start)) [
  | inl here ↦
      let found' = rw here at found in
      let same : g ≡ h = cc in
      let kept' : starts_in at len g ≡ false = ap (λ (x : HeapList). starts_in at len x) same ∙ kept in
      rw (kept', here) (ap (λ (x : HeapList). Some x) same)
  | inr other ↦
      let rest : find_heap start (without_heaps_in at len hs) ≡ Some h = find_left at len start hs h (rw other at found) kept in
      elim (cases_Bool (starts_in at len g)) [ inl gone ↦ rw gone rest | inr stays ↦ rw (stays, other) rest ]
]

none_left : (at len start : ℕ) (hs : List HeapList) → find_heap start hs ≡ None → find_heap start (without_heaps_in at len hs) ≡ None
none_left at len start [] none = refl
none_left at len start (g ∷ hs) none = elim (cases_Bool (g.start == start)) [
  | inl here ↦ let none' = rw here at none in absurd (let some : Some g ≡ None = none' in cc)
  | inr other ↦
      let rest : find_heap start (without_heaps_in at len hs) ≡ None = none_left at len start hs (rw other at none) in
      elim (cases_Bool (starts_in at len g)) [ inl gone ↦ rw gone rest | inr stays ↦ rw (stays, other) rest ]
]

-- no other heap starts where one starts
none_more : (b : Bytes) (g : HeapList) (hs : List HeapList) → IsHeapIn b g.start g.end g.items → StandApart g hs → AreHeapsIn b hs
    → find_heap g.start hs ≡ None
none_more b g [] heap stand parts = refl
none_more b g (k ∷ hs) heap stand parts =
    rw (ne_eqb k.start g.start (apart_starts b b g k heap parts.0 stand.0)) (none_more b g hs heap stand.1 parts.1.1)

pub find_gone : (b : Bytes) (at len start : ℕ) (hs : List HeapList) (h : HeapList) → AreHeapsIn b hs → find_heap start hs ≡ Some h
    → starts_in at len h ≡ true → find_heap start (without_heaps_in at len hs) ≡ None
find_gone b at len start [] h parts found gone = refl
find_gone b at len start (g ∷ hs) h parts found gone = elim (cases_Bool (g.start == start)) [
  | inl here ↦
      let found' = rw here at found in
      let same : g ≡ h = cc in
      let gone' : starts_in at len g ≡ true = ap (λ (x : HeapList). starts_in at len x) same ∙ gone in
      let none : find_heap start hs ≡ None =
      subst (λ (x : ℕ). find_heap x hs ≡ None) (eqb-true g.start start here) (none_more b g hs parts.0 parts.1.0 parts.1.1) in
      rw gone' (none_left at len start hs none)
  | inr other ↦
      let rest : find_heap start (without_heaps_in at len hs) ≡ None = find_gone b at len start hs h parts.1.1 (rw other at found) gone in
      elim (cases_Bool (starts_in at len g)) [ inl went ↦ rw went rest | inr stays ↦ rw (stays, other) rest ]
]

-- a range that a guest's heap starts in
pub record StartsIn (at len : ℕ) (h : HeapList) : Type 0 where
  pub guest : is_module_area h.kind ≡ false
  pub low : at ≤ h.start
  pub high : h.start < at + len

not_true : (t : Bool) → not t ≡ true → t ≡ false
not_true true e = sym e
not_true false e = refl

pub starts_so : (at len : ℕ) (h : HeapList) → starts_in at len h ≡ true → StartsIn at len h
starts_so at len h is =
    let both = and_parts (not (is_module_area h.kind)) (in_range at len h.start) is in
    let parts : (at ≤ h.start) × (h.start < at + len) = range_parts at len h.start both.1 in
    record { guest = not_true (is_module_area h.kind) both.0; low = parts.0; high = parts.1 }

pub so_starts : (at len : ℕ) (h : HeapList) → StartsIn at len h → starts_in at len h ≡ true
so_starts at len h is = rw (is.guest, le-leb at h.start is.low, lt-ltb h.start (at + len) is.high) refl

-- the least start of a heap that has a byte from `from` on: none that has one starts before
abbrev pub IsAbove : ℕ → ℕ → ℕ → ℕ → HeapList → Type 0
IsAbove low block len from g = starts_in block len g ≡ true → from < g.start + g.end → low ≤ g.start

abbrev pub AreAbove : ℕ → ℕ → ℕ → ℕ → List HeapList → Type 0
AreAbove low block len from [] = Unit {0}
AreAbove low block len from (g ∷ gs) = IsAbove low block len from g × AreAbove low block len from gs

pub are_above : (low block len from : ℕ) (hs : List HeapList) → low ≤ lowest_lost block len from hs → AreAbove low block len from hs
are_above low block len from [] least = tt
are_above low block len from (g ∷ hs) least = elim (cases_Bool (starts_in block len g && ltb from (g.start + g.end))) [
  | inl lost ↦
      let least' = rw lost at least in
      (λ starts freed. omega (arith, least'), are_above low block len from hs (omega (arith, least')))
  | inr kept ↦ (
    λ starts freed. absurd (both_ways (starts_in block len g && ltb from (g.start + g.end)) kept (rw (starts, lt-ltb from (g.start + g.end) freed) refl)),
    are_above low block len from hs (rw kept at least),
  )
]

pub above_found : (low block len from start : ℕ) (hs : List HeapList) (g : HeapList) → AreAbove low block len from hs → find_heap start hs ≡ Some g
    → IsAbove low block len from g
above_found low block len from start [] g above found = absurd (let none : None ≡ Some g = found in cc)
above_found low block len from start (k ∷ hs) g above found = elim (cases_Bool (k.start == start)) [
  | inl here ↦
      let found' = rw here at found in
      let same : k ≡ g = cc in
      subst (λ (x : HeapList). IsAbove low block len from x) same above.0
  | inr other ↦ above_found low block len from start hs g above.1 (rw other at found)
]

pub lowest_most : (block len from : ℕ) (hs : List HeapList) → lowest_lost block len from hs ≤ from
lowest_most block len from [] = omega arith
lowest_most block len from (g ∷ hs) =
    let rest : lowest_lost block len from hs ≤ from = lowest_most block len from hs in
    elim (cases_Bool (starts_in block len g && ltb from (g.start + g.end))) [
      | inl lost ↦ rw lost (omega (arith, rest))
      | inr kept ↦ rw kept rest
    ]

-- It is `from`, or such a heap starts there.
pub record IsLowest (block len from low : ℕ) (all : List HeapList) : Type 0 where
  pub heap : HeapList
  pub found : find_heap heap.start all ≡ Some heap
  pub starts : StartsIn block len heap
  pub freed : from < heap.start + heap.end
  pub here : heap.start ≡ low

abbrev pub AreFound : List HeapList → List HeapList → Type 0
AreFound all [] = Unit {0}
AreFound all (g ∷ gs) = (find_heap g.start all ≡ Some g) × AreFound all gs

found_behind : (b : Bytes) (g : HeapList) (all hs : List HeapList) → IsHeapIn b g.start g.end g.items → StandApart g hs → AreHeapsIn b hs
    → AreFound all hs → AreFound (g ∷ all) hs
found_behind b g all [] heap stand parts found = tt
found_behind b g all (k ∷ hs) heap stand parts found = (
  rw (ne_eqb g.start k.start (λ (same : g.start ≡ k.start). apart_starts b b g k heap parts.0 stand.0 (sym same))) found.0,
  found_behind b g all hs heap stand.1 parts.1.1 found.1,
)

pub are_found : (b : Bytes) (hs : List HeapList) → AreHeapsIn b hs → AreFound hs hs
are_found b [] parts = tt
are_found b (g ∷ hs) parts = (rw (eq-eqb g.start g.start refl) refl, found_behind b g hs hs parts.0 parts.1.0 parts.1.1 (are_found b hs parts.1.1))

lowest_among : (block len from : ℕ) (all hs : List HeapList) → AreFound all hs
    → (lowest_lost block len from hs ≡ from) ⊎ IsLowest block len from (lowest_lost block len from hs) all
lowest_among block len from all [] found = inl refl
lowest_among block len from all (g ∷ hs) found =
    let rest : ℕ = lowest_lost block len from hs in
    let below = lowest_among block len from all hs found.1 in
    elim (cases_Bool (starts_in block len g && ltb from (g.start + g.end))) [
      | inr kept ↦ rw kept below
      | inl lost ↦
          let both = and_parts (starts_in block len g) (ltb from (g.start + g.end)) lost in
          rw lost (elim (cases_lt g.start rest) [
            | inl less ↦ inr (record {
              heap = g;
              found = found.0;
              starts = starts_so block len g both.0;
              freed = ltb-true from (g.start + g.end) both.1;
              here = omega (arith, less);
            })
            | inr more ↦ elim below [
              | inl same ↦ inl (omega (arith, more, same))
              | inr low ↦ inr (record { heap = low.heap; found = low.found; starts = low.starts; freed = low.freed; here = omega (arith, more, low.here) })
            ]
          ])
    ]

pub lowest_found : (b : Bytes) (block len from : ℕ) (hs : List HeapList) → AreHeapsIn b hs
    → (lowest_lost block len from hs ≡ from) ⊎ IsLowest block len from (lowest_lost block len from hs) hs
lowest_found b block len from hs parts = lowest_among block len from hs hs (are_found b hs parts)

pub lowest_least : (block len from : ℕ) (hs : List HeapList) → block ≤ from → block ≤ lowest_lost block len from hs
lowest_least block len from [] above = above
lowest_least block len from (g ∷ hs) above =
    let rest : block ≤ lowest_lost block len from hs = lowest_least block len from hs above in
    elim (cases_Bool (starts_in block len g && ltb from (g.start + g.end))) [
      | inr kept ↦ rw kept rest
      | inl lost ↦
          let starts : StartsIn block len g = starts_so block len g (and_parts (starts_in block len g) (ltb from (g.start + g.end)) lost).0 in
          rw lost (omega (arith, rest, starts.low))
    ]

-- a heap that starts before the block stays
pub own_left : (s : Store) (h : HeapList) (block total from : ℕ) → find_heap h.start s.heaps ≡ Some h → h.start < block → block ≤ from
    → find_heap h.start (store_after_forget s block total from).heaps ≡ Some h
own_left s h block total from found before above =
    let low : ℕ = lowest_lost block (total - 4) from s.heaps in
    let len : ℕ = block - 4 + total - low in
    let least : block ≤ low = lowest_least block (total - 4) from s.heaps above in
    find_left low len h.start s.heaps h found (false_from_ne_true (starts_in low len h) (λ is.
    let starts : StartsIn low len h = starts_so low len h is in
    omega (arith, starts.low, least, before)))

-- a heap that starts in a live block of another lies in that block
pub record IsIn (block total : ℕ) (g : HeapList) : Type 0 where
  pub low : block ≤ g.start
  pub high : g.start + g.end + 4 ≤ block + total

pub in_block : (b : Bytes) (h g : HeapList) (block total : ℕ) → IsHeapIn b h.start h.end h.items → IsHeapIn b g.start g.end g.items
    → live_total block (h.start + 16) h.items ≡ Some total → IsOther h g → StartsIn block (total - 4) g → IsIn block total g
in_block b h g block total heap other live place starts =
    let lies : LiveBytes block total (h.start + 16) (h.start + 16 + size_of h.items) = law_live_bytes block total (h.start + 16) h.items heap.totals live in
    let there : in_range g.start g.end g.start ≡ true =
    rw (le-leb g.start g.start (omega arith), lt-ltb g.start (g.start + g.end) (omega (arith, other.inside))) refl in
    elim place [
      | inl same ↦
          let start : g.start ≡ h.start = ap (λ (x : HeapList). x.start) same in
          absurd (omega (arith, start, lies.low, starts.low))
      | inr apart ↦ elim apart.1 [
        | inl clear ↦
            let here : in_range h.start h.end g.start ≡ true =
            rw (le-leb h.start g.start (omega (arith, lies.low, starts.low)), lt-ltb g.start (h.start + h.end) (omega (arith, lies.low, lies.high, starts.high, heap.inside))) refl in
            absurd (both_ways (in_range g.start g.end g.start) (clear g.start here) there)
        | inr nested ↦ elim nested [
          | inr round ↦
              let low = within_low b g h other round in
              absurd (omega (arith, low.0, lies.low, starts.low))
          | inl within ↦
              let here : in_range (block - 4) total g.start ≡ true =
              rw (le-leb (block - 4) g.start (omega (arith, starts.low)), lt-ltb g.start (block - 4 + total) (omega (arith, starts.high, lies.low, lies.size))) refl in
              let is : (within.block ≡ block) × (within.total ≡ total) = within_here b h g block total g.start heap within live here there in
              record { low = starts.low; high = omega (arith, within.high, is.0, is.1) }
        ]
      ]
    ]
