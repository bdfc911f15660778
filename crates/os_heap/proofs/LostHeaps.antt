-- Heaps that are forgotten with bytes of a block: where those that are left lie, which words they spell, and that they lie in blocks still.
use Rattle.std.proofs.Common.{Bool, List, ℕ, [], ◌∷◌, ◌≡◌, ◌≢◌, ◌≤◌, ◌<◌, ◌+◌, ◌-◌, ◌||◌, ◌∙◌, Some, true, false, refl, sym, ap, subst, inl, inr, arith}
use Rattle.std.proofs.lemmas.Bool.{both_ways, cases_Bool, cases_eq, cases_lt, false_from_ne_true, le-leb, lt-ltb, or_from, or_parts}
use Rattle.std.specs.List.{list_any}
use Rattle.os_heap_words.specs.Bytes.{Bytes, in_range, word_start}
use Rattle.os_heap_words.specs.Items.{is_heap_word, size_of}
use Rattle.os_heap_words.specs.Item.{Item}
use Rattle.os_heap_words.proofs.ListsLemmas.HeadWords.{byte_inside}
use Rattle.os_heap_words.proofs.ListsLemmas.LiveBlocks.{LiveBytes, law_live_bytes}
use Rattle.os_heap_words.proofs.ListsLemmas.Payloads.{payload_unspelled}
use Rattle.os_heap_words.specs.lists.Heap.{HeapList, IsHeapIn}
use Rattle.os_heap_words.specs.lists.Lists.{live_total}
use Rattle.os_heap_words.specs.lists.Marks.{spells_any}
use Rattle.os_heap.proofs.Apart.{found_other, range_parts, within_here}
use Rattle.os_heap.proofs.Forgetting.{AreAbove, AreFound, IsAbove, IsIn, StartsIn, above_found, are_above, are_found, in_block, lowest_found, lowest_least, so_starts, starts_so}
use Rattle.os_heap.proofs.Found.{found_heap}
use Rattle.os_heap.proofs.Nesting.{KeepsHeaps, within_low, within_unspelled}
use Rattle.os_heap.proofs.Stores.{are_others}
use Rattle.os_heap.specs.Forgetting.{store_after_forget, holds_heap, lowest_lost, starts_in, without_heaps_in}
use Rattle.os_heap.specs.Nesting.{IsWithin}
use Rattle.os_heap.specs.Store.{AreHeapsIn, IsSound, Store, find_heap}

-- a heap in the block that is left ends where the bytes that go begin, or before
kept_ends : (block total from low : ℕ) (g : HeapList) → 4 ≤ block → 8 ≤ total → IsAbove low block (total - 4) from g → StartsIn block (total - 4) g
    → starts_in low (block - 4 + total - low) g ≡ false → g.start + g.end ≤ from
kept_ends block total from low g above some least starts kept = elim (cases_lt from (g.start + g.end)) [
  | inr ends ↦ ends
  | inl past ↦
      let after : low ≤ g.start = least (so_starts block (total - 4) g starts) past in
      let range : StartsIn low (block - 4 + total - low) g =
      record { guest = starts.guest; low = after; high = omega (arith, after, starts.high, above, some) } in
      absurd (both_ways (starts_in low (block - 4 + total - low) g) kept (so_starts low (block - 4 + total - low) g range))
]

-- The list of the heap round them may change then: what lies in a block of it that stays lies there still, and what is left in the block that is cut
-- lies in what is left of that.
pub record HoldsTo (h : HeapList) (items : List Item) (block end : ℕ) : Type 0 where
  pub total : ℕ
  pub live : live_total block (h.start + 16) items ≡ Some total
  pub high : end + 4 ≤ block + total

pub record KeepsBlocks (h : HeapList) (items : List Item) (block from : ℕ) : Type 0 where
  pub others : (other t : ℕ) → other ≢ block → live_total other (h.start + 16) h.items ≡ Some t → live_total other (h.start + 16) items ≡ Some t
  pub own : (end : ℕ) → block < end → end ≤ from → HoldsTo h items block end

kept_within : (b : Bytes) (h g : HeapList) (block total from low : ℕ) (items : List Item) → IsHeapIn b h.start h.end h.items
    → IsHeapIn b g.start g.end g.items → live_total block (h.start + 16) h.items ≡ Some total → IsAbove low block (total - 4) from g
    → starts_in low (block - 4 + total - low) g ≡ false → KeepsBlocks h items block from → (w : IsWithin h g)
    → IsWithin (record { kind = h.kind; start = h.start; end = h.end; items = items }) g
kept_within b h g block total from low items heap other live above kept keeps w = elim (cases_eq w.block block) [
  | inr apart ↦ record {
    guest = w.guest;
    block = w.block;
    total = w.total;
    live = keeps.others w.block w.total apart w.live;
    low = w.low;
    high = w.high;
  }
  | inl same ↦
      let lies : LiveBytes block total (h.start + 16) (h.start + 16 + size_of h.items) = law_live_bytes block total (h.start + 16) h.items heap.totals live in
      let both : Some w.total ≡ Some total = sym (subst (λ (x : ℕ). live_total x (h.start + 16) h.items ≡ Some w.total) same w.live) ∙ live in
      let size : w.total ≡ total = cc in
      let starts : StartsIn block (total - 4) g =
      record { guest = w.guest; low = omega (arith, w.low, same); high = omega (arith, w.high, same, size, other.inside) } in
      let ends : g.start + g.end ≤ from = kept_ends block total from low g (omega (arith, lies.low)) lies.size above starts kept in
      let holds : HoldsTo h items block (g.start + g.end) = keeps.own (g.start + g.end) (omega (arith, w.low, same, other.inside)) ends in
      record { guest = w.guest; block = block; total = holds.total; live = holds.live; low = omega (arith, w.low, same); high = omega (arith, holds.high) }
]

left_keeps : (b : Bytes) (h : HeapList) (block total from low : ℕ) (items : List Item) (hs : List HeapList) → IsHeapIn b h.start h.end h.items
    → AreHeapsIn b hs → live_total block (h.start + 16) h.items ≡ Some total → AreAbove low block (total - 4) from hs → KeepsBlocks h items block from
    → KeepsHeaps h items (without_heaps_in low (block - 4 + total - low) hs)
left_keeps b h block total from low items [] heap parts live above keeps = tt
left_keeps b h block total from low items (g ∷ hs) heap parts live above keeps =
    let rest : KeepsHeaps h items (without_heaps_in low (block - 4 + total - low) hs) =
    left_keeps b h block total from low items hs heap parts.1.1 live above.1 keeps in
    elim (cases_Bool (starts_in low (block - 4 + total - low) g)) [
      | inl gone ↦ rw gone rest
      | inr kept ↦ rw kept (kept_within b h g block total from low items heap parts.0 live above.0 kept keeps, rest)
    ]

pub forgot_keeps : (s : Store) (h : HeapList) (block total from : ℕ) (items : List Item) → IsSound s → find_heap h.start s.heaps ≡ Some h
    → live_total block (h.start + 16) h.items ≡ Some total → KeepsBlocks h items block from → KeepsHeaps h items (store_after_forget s block total from).heaps
forgot_keeps s h block total from items sound found live keeps =
    let low : ℕ = lowest_lost block (total - 4) from s.heaps in
    left_keeps s.bytes h block total from low items s.heaps (found_heap s.bytes h.start s.heaps h sound.heaps found) sound.heaps live
    (are_above low block (total - 4) from s.heaps (omega arith)) keeps

-- a range in which no heap starts
pub none_without : (at len : ℕ) (hs : List HeapList) → holds_heap hs at len ≡ false → without_heaps_in at len hs ≡ hs
none_without at len [] none = refl
none_without at len (g ∷ hs) none =
    let parts = or_parts (starts_in at len g) (list_any (starts_in at len) hs) none in
    rw parts.0 (ap (λ (xs : List HeapList). g ∷ xs) (none_without at len hs parts.1))

pub none_lowest : (block len from : ℕ) (hs : List HeapList) → holds_heap hs block len ≡ false → lowest_lost block len from hs ≡ from
none_lowest block len from [] none = refl
none_lowest block len from (g ∷ hs) none =
    let parts = or_parts (starts_in block len g) (list_any (starts_in block len) hs) none in
    rw parts.0 (none_lowest block len from hs parts.1)

pub same_heaps : (s : Store) (hs : List HeapList) → hs ≡ s.heaps → (let t : Store = record s { heaps = hs } in t ≡ s)
same_heaps s hs same = λ i. record s { heaps = same i }

pub forgot_none : (s : Store) (block total : ℕ) → 4 ≤ block → holds_heap s.heaps block (total - 4) ≡ false → 4 ≤ total → store_after_forget s block total block ≡ s
forgot_none s block total above none some =
    let low : lowest_lost block (total - 4) block s.heaps ≡ block = none_lowest block (total - 4) block s.heaps none in
    let len : block - 4 + total - block ≡ total - 4 = omega (arith, above, some) in
    same_heaps s _ (rw (low, len) (none_without block (total - 4) s.heaps none))

empty_none : (at : ℕ) (hs : List HeapList) → holds_heap hs at 0 ≡ false
empty_none at [] = refl
empty_none at (g ∷ hs) = or_from (starts_in at 0 g) (list_any (starts_in at 0) hs)
    (false_from_ne_true (starts_in at 0 g) (λ is. let starts : StartsIn at 0 g = starts_so at 0 g is in omega (arith, starts.low, starts.high))) (empty_none at hs)

pub held_some : (at len : ℕ) (hs : List HeapList) → holds_heap hs at len ≡ true → 0 < len
held_some at len hs held = elim (cases_lt 0 len) [
  | inl more ↦ more
  | inr none ↦
      let empty : len ≡ 0 = omega (arith, none) in
      absurd (both_ways (holds_heap hs at 0) (empty_none at hs) (subst (λ (n : ℕ). holds_heap hs at n ≡ true) empty held))
]

pub forgot_empty : (s : Store) (block : ℕ) → store_after_forget s block 0 block ≡ s
forgot_empty s block =
    let low : lowest_lost block 0 block s.heaps ≡ block = none_lowest block 0 block s.heaps (empty_none block s.heaps) in
    let len : block - 4 + 0 - block ≡ 0 = omega arith in
    same_heaps s _ (rw (low, len) (none_without block 0 s.heaps (empty_none block s.heaps)))

-- a heap that is found is one of the block's, where it starts there
pub found_in_block : (s : Store) (h g : HeapList) (block total : ℕ) → IsSound s → find_heap h.start s.heaps ≡ Some h
    → live_total block (h.start + 16) h.items ≡ Some total → find_heap g.start s.heaps ≡ Some g → StartsIn block (total - 4) g → IsIn block total g
found_in_block s h g block total sound found live found' starts =
    let b : Bytes = s.bytes in
    in_block b h g block total (found_heap b h.start s.heaps h sound.heaps found) (found_heap b g.start s.heaps g sound.heaps found') live
    (found_other h g.start s.heaps g (are_others b h.start s.heaps h sound.heaps found) found') starts

-- where nothing is given up nothing is forgotten
pub forgot_beyond : (s : Store) (h : HeapList) (block total from : ℕ) → IsSound s → find_heap h.start s.heaps ≡ Some h
    → live_total block (h.start + 16) h.items ≡ Some total → block - 4 + total ≤ from → store_after_forget s block total from ≡ s
forgot_beyond s h block total from sound found live past =
    let heap : IsHeapIn s.bytes h.start h.end h.items = found_heap s.bytes h.start s.heaps h sound.heaps found in
    let lies : LiveBytes block total (h.start + 16) (h.start + 16 + size_of h.items) = law_live_bytes block total (h.start + 16) h.items heap.totals live in
    let low : lowest_lost block (total - 4) from s.heaps ≡ from = elim (lowest_found s.bytes block (total - 4) from s.heaps sound.heaps) [
      | inl same ↦ same
      | inr lowest ↦
          let place : IsIn block total lowest.heap = found_in_block s h lowest.heap block total sound found live lowest.found lowest.starts in
          absurd (omega (arith, lowest.freed, place.high, past, lies.low))
    ] in
    let len : block - 4 + total - from ≡ 0 = omega (arith, past) in
    same_heaps s _ (rw (low, len) (none_without from 0 s.heaps (empty_none from s.heaps)))

-- a heap in the block that is left ends before the range that is swept
kept_below : (s : Store) (h g : HeapList) (block total from : ℕ) → IsSound s → find_heap h.start s.heaps ≡ Some h
    → live_total block (h.start + 16) h.items ≡ Some total → find_heap g.start s.heaps ≡ Some g → StartsIn block (total - 4) g
    → (let low : ℕ = lowest_lost block (total - 4) from s.heaps in
    starts_in low (block - 4 + total - low) g ≡ false → g.start + g.end ≤ low)
kept_below s h g block total from sound found live found' starts kept =
    let b : Bytes = s.bytes in
    let low : ℕ = lowest_lost block (total - 4) from s.heaps in
    let heap : IsHeapIn b h.start h.end h.items = found_heap b h.start s.heaps h sound.heaps found in
    let other : IsHeapIn b g.start g.end g.items = found_heap b g.start s.heaps g sound.heaps found' in
    let lies : LiveBytes block total (h.start + 16) (h.start + 16 + size_of h.items) = law_live_bytes block total (h.start + 16) h.items heap.totals live in
    let above : IsAbove low block (total - 4) from g =
    above_found low block (total - 4) from g.start s.heaps g (are_above low block (total - 4) from s.heaps (omega arith)) found' in
    let ends : g.start + g.end ≤ from = kept_ends block total from low g (omega (arith, lies.low)) lies.size above starts kept in
    let before : g.start < low = elim (cases_lt g.start low) [
      | inl less ↦ less
      | inr more ↦
          let range : StartsIn low (block - 4 + total - low) g =
          record { guest = starts.guest; low = more; high = omega (arith, more, starts.high, lies.low, lies.size) } in
          absurd (both_ways (starts_in low (block - 4 + total - low) g) kept (so_starts low (block - 4 + total - low) g range))
    ] in
    elim (lowest_found b block (total - 4) from s.heaps sound.heaps) [
      | inl same ↦ omega (arith, ends, same)
      | inr lowest ↦
          let k : HeapList = lowest.heap in
          let third : IsHeapIn b k.start k.end k.items = found_heap b k.start s.heaps k sound.heaps lowest.found in
          elim (found_other g k.start s.heaps k (are_others b g.start s.heaps g sound.heaps found') lowest.found) [
            | inl same ↦
                let start : k.start ≡ g.start = ap (λ (x : HeapList). x.start) same in
                absurd (omega (arith, start, lowest.here, before))
            | inr apart ↦ elim apart.1 [
              | inl clear ↦ elim (cases_lt k.start (g.start + g.end)) [
                | inr past ↦ omega (arith, past, lowest.here)
                | inl inside ↦
                    let here : in_range g.start g.end k.start ≡ true =
                    rw (le-leb g.start k.start (omega (arith, before, lowest.here)), lt-ltb k.start (g.start + g.end) inside) refl in
                    let there : in_range k.start k.end k.start ≡ true =
                    rw (le-leb k.start k.start (omega arith), lt-ltb k.start (k.start + k.end) (omega (arith, third.inside))) refl in
                    absurd (both_ways (in_range k.start k.end k.start) (clear k.start here) there)
              ]
              | inr nested ↦ elim nested [
                | inl within ↦ let low' = within_low b g k other within in absurd (omega (arith, low'.1, ends, lowest.freed))
                | inr round ↦ let low' = within_low b k g third round in absurd (omega (arith, low'.0, before, lowest.here))
              ]
            ]
          ]
    ]

-- so no heap that is left spells a word there
kept_unspelled : (s : Store) (h g : HeapList) (block total from a : ℕ) → IsSound s → find_heap h.start s.heaps ≡ Some h
    → live_total block (h.start + 16) h.items ≡ Some total → block ≤ from → find_heap g.start s.heaps ≡ Some g
    → (let low : ℕ = lowest_lost block (total - 4) from s.heaps in
    starts_in low (block - 4 + total - low) g ≡ false → in_range low (block - 4 + total - low) a ≡ true → is_heap_word g.start g.items (word_start a) ≡ false)
kept_unspelled s h g block total from a sound found live past found' kept inside =
    let b : Bytes = s.bytes in
    let low : ℕ = lowest_lost block (total - 4) from s.heaps in
    let heap : IsHeapIn b h.start h.end h.items = found_heap b h.start s.heaps h sound.heaps found in
    let other : IsHeapIn b g.start g.end g.items = found_heap b g.start s.heaps g sound.heaps found' in
    let lies : LiveBytes block total (h.start + 16) (h.start + 16 + size_of h.items) = law_live_bytes block total (h.start + 16) h.items heap.totals live in
    let least : block ≤ low = lowest_least block (total - 4) from s.heaps past in
    let parts : (low ≤ a) × (a < low + (block - 4 + total - low)) = range_parts low (block - 4 + total - low) a inside in
    let high : a < block + (total - 4) = omega (arith, parts.0, parts.1, lies.low, lies.size) in
    let round : in_range h.start h.end a ≡ true =
    rw (le-leb h.start a (omega (arith, lies.low, least, parts.0)), lt-ltb a (h.start + h.end) (omega (arith, high, lies.high, lies.low, lies.size, heap.inside))) refl in
    elim (found_other h g.start s.heaps g (are_others b h.start s.heaps h sound.heaps found) found') [
      | inl same ↦ subst (λ (x : HeapList). is_heap_word x.start x.items (word_start a) ≡ false) (sym same)
          (payload_unspelled h.start h.items block total a heap.aligned heap.totals live (omega (arith, least, parts.0)) high)
      | inr apart ↦ elim apart.1 [
        | inl clear ↦ false_from_ne_true _ (λ is.
            both_ways (in_range g.start g.end a) (clear a round) (byte_inside b g.start g.end g.items a other is))
        | inr nested ↦ elim nested [
          | inr outer ↦ within_unspelled b g h a other outer round
          | inl within ↦ false_from_ne_true _ (λ is.
              let there : in_range g.start g.end a ≡ true = byte_inside b g.start g.end g.items a other is in
              let here : in_range (block - 4) total a ≡ true =
              rw (le-leb (block - 4) a (omega (arith, least, parts.0)), lt-ltb a (block - 4 + total) (omega (arith, high, lies.low, lies.size))) refl in
              let place : (within.block ≡ block) × (within.total ≡ total) = within_here b h g block total a heap within live here there in
              let starts : StartsIn block (total - 4) g = record {
                guest = within.guest;
                low = omega (arith, within.low, place.0);
                high = omega (arith, within.high, place.0, place.1, other.inside);
              } in
              let ends : g.start + g.end ≤ low = kept_below s h g block total from sound found live found' starts kept in
              let byte : (g.start ≤ a) × (a < g.start + g.end) = range_parts g.start g.end a there in
              omega (arith, ends, byte.1, parts.0))
        ]
      ]
    ]

-- and one that is forgotten spells words there alone
lost_inside : (s : Store) (h g : HeapList) (block total from a : ℕ) → IsSound s → find_heap h.start s.heaps ≡ Some h
    → live_total block (h.start + 16) h.items ≡ Some total → block ≤ from → find_heap g.start s.heaps ≡ Some g
    → (let low : ℕ = lowest_lost block (total - 4) from s.heaps in
    starts_in low (block - 4 + total - low) g ≡ true → in_range low (block - 4 + total - low) a ≡ false → is_heap_word g.start g.items (word_start a) ≡ false)
lost_inside s h g block total from a sound found live past found' gone outside =
    let b : Bytes = s.bytes in
    let low : ℕ = lowest_lost block (total - 4) from s.heaps in
    let heap : IsHeapIn b h.start h.end h.items = found_heap b h.start s.heaps h sound.heaps found in
    let other : IsHeapIn b g.start g.end g.items = found_heap b g.start s.heaps g sound.heaps found' in
    let lies : LiveBytes block total (h.start + 16) (h.start + 16 + size_of h.items) = law_live_bytes block total (h.start + 16) h.items heap.totals live in
    let least : block ≤ low = lowest_least block (total - 4) from s.heaps past in
    let range : StartsIn low (block - 4 + total - low) g = starts_so low (block - 4 + total - low) g gone in
    let starts : StartsIn block (total - 4) g =
    record { guest = range.guest; low = omega (arith, range.low, least); high = omega (arith, range.low, range.high, lies.low, lies.size) } in
    let place : IsIn block total g = found_in_block s h g block total sound found live found' starts in
    false_from_ne_true _ (λ is.
    let byte : (g.start ≤ a) × (a < g.start + g.end) = range_parts g.start g.end a (byte_inside b g.start g.end g.items a other is) in
    let inside : in_range low (block - 4 + total - low) a ≡ true =
    rw (le-leb low a (omega (arith, range.low, byte.0)), lt-ltb a (low + (block - 4 + total - low)) (omega (arith, range.low, byte.0, byte.1, place.high, lies.low))) refl in
    both_ways (in_range low (block - 4 + total - low) a) outside inside)

none_spelled : (s : Store) (h : HeapList) (block total from a : ℕ) (hs : List HeapList) → IsSound s → find_heap h.start s.heaps ≡ Some h
    → live_total block (h.start + 16) h.items ≡ Some total → block ≤ from → AreFound s.heaps hs
    → (let low : ℕ = lowest_lost block (total - 4) from s.heaps in
    in_range low (block - 4 + total - low) a ≡ true → spells_any (without_heaps_in low (block - 4 + total - low) hs) (word_start a) ≡ false)
none_spelled s h block total from a [] sound found live past all inside = refl
none_spelled s h block total from a (g ∷ hs) sound found live past all inside =
    let low : ℕ = lowest_lost block (total - 4) from s.heaps in
    let len : ℕ = block - 4 + total - low in
    let rest : spells_any (without_heaps_in low len hs) (word_start a) ≡ false = none_spelled s h block total from a hs sound found live past all.1 inside in
    elim (cases_Bool (starts_in low len g)) [
      | inl gone ↦ rw gone rest
      | inr kept ↦ rw kept (or_from (is_heap_word g.start g.items (word_start a)) (spells_any (without_heaps_in low len hs) (word_start a))
          (kept_unspelled s h g block total from a sound found live past all.0 kept inside) rest)
    ]

same_spelled : (s : Store) (h : HeapList) (block total from a : ℕ) (hs : List HeapList) → IsSound s → find_heap h.start s.heaps ≡ Some h
    → live_total block (h.start + 16) h.items ≡ Some total → block ≤ from → AreFound s.heaps hs
    → (let low : ℕ = lowest_lost block (total - 4) from s.heaps in
    in_range low (block - 4 + total - low) a ≡ false
    → spells_any (without_heaps_in low (block - 4 + total - low) hs) (word_start a) ≡ spells_any hs (word_start a))
same_spelled s h block total from a [] sound found live past all outside = refl
same_spelled s h block total from a (g ∷ hs) sound found live past all outside =
    let low : ℕ = lowest_lost block (total - 4) from s.heaps in
    let len : ℕ = block - 4 + total - low in
    let rest : spells_any (without_heaps_in low len hs) (word_start a) ≡ spells_any hs (word_start a) =
    same_spelled s h block total from a hs sound found live past all.1 outside in
    elim (cases_Bool (starts_in low len g)) [
      | inl gone ↦ rw (gone, lost_inside s h g block total from a sound found live past all.0 gone outside) rest
      | inr kept ↦ rw kept (ap (λ (t : Bool). is_heap_word g.start g.items (word_start a) || t) rest)
    ]

-- the words that are spelled when heaps are forgotten: none where their marks are taken away, and the same elsewhere
pub forgot_unspelled : (s : Store) (h : HeapList) (block total from a : ℕ) → IsSound s → find_heap h.start s.heaps ≡ Some h
    → live_total block (h.start + 16) h.items ≡ Some total → block ≤ from
    → (let low : ℕ = lowest_lost block (total - 4) from s.heaps in
    in_range low (block - 4 + total - low) a ≡ true → spells_any (store_after_forget s block total from).heaps (word_start a) ≡ false)
forgot_unspelled s h block total from a sound found live past inside =
    none_spelled s h block total from a s.heaps sound found live past (are_found s.bytes s.heaps sound.heaps) inside

pub forgot_spelled : (s : Store) (h : HeapList) (block total from a : ℕ) → IsSound s → find_heap h.start s.heaps ≡ Some h
    → live_total block (h.start + 16) h.items ≡ Some total → block ≤ from
    → (let low : ℕ = lowest_lost block (total - 4) from s.heaps in
    in_range low (block - 4 + total - low) a ≡ false → spells_any (store_after_forget s block total from).heaps (word_start a) ≡ spells_any s.heaps (word_start a))
forgot_spelled s h block total from a sound found live past outside =
    same_spelled s h block total from a s.heaps sound found live past (are_found s.bytes s.heaps sound.heaps) outside
