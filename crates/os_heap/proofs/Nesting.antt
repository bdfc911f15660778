-- Heaps that share no byte, or of which one lies in a live block of the other: a word that one of them spells is none of the other's words.
use Rattle.std.proofs.Common.{List, ℕ, [], ◌∷◌, ◌++◌, ◌≡◌, ◌≢◌, ◌+◌, ◌≤◌, Some, true, false, refl, inl, inr, arith}
use Rattle.std.proofs.lemmas.Bool.{both_ways, false_from_ne_true, le-leb, lt-ltb, leb-true, ltb-true, and_parts}
use Rattle.os_heap_words.specs.Bytes.{Bytes, in_range, word_start}
use Rattle.os_heap_words.specs.Items.{is_heap_word, size_of}
use Rattle.os_heap_words.specs.Item.{Item}
use Rattle.os_heap_words.proofs.ListsLemmas.HeadWords.{byte_inside}
use Rattle.os_heap_words.proofs.ListsLemmas.LiveBlocks.{LiveBytes, law_live_bytes}
use Rattle.os_heap_words.proofs.ListsLemmas.Payloads.{payload_unspelled}
use Rattle.os_heap_words.specs.lists.Heap.{HeapList, IsHeapIn}
use Rattle.os_heap_words.specs.lists.Lists.{live_total}
use Rattle.os_heap.specs.Nesting.{AreClear, IsClearOfHeaps, IsWithin, StandsApart, StandApart}

-- ranges that share no byte stand apart
pub clear_stands : (h : HeapList) (gs : List HeapList) → IsClearOfHeaps h.start h.end gs → StandApart h gs
clear_stands h [] clear = tt
clear_stands h (g ∷ gs) clear = (inl clear.0, clear_stands h gs clear.1)

pub clear_turned : (at len other other_len : ℕ) → AreClear at len other other_len → AreClear other other_len at len
clear_turned at len other other_len clear a there =
    false_from_ne_true (in_range at len a) (λ here. both_ways (in_range other other_len a) (clear a here) there)

pub apart_turned : (h g : HeapList) → StandsApart h g → StandsApart g h
apart_turned h g (inl clear) = inl (clear_turned h.start h.end g.start g.end clear)
apart_turned h g (inr (inl within)) = inr (inr within)
apart_turned h g (inr (inr within)) = inr (inl within)

-- a heap within another starts at least 20 bytes later, and ends in it
pub within_low : (b : Bytes) (h g : HeapList) → IsHeapIn b h.start h.end h.items → IsWithin h g
    → (h.start + 20 ≤ g.start) × (g.start + g.end ≤ h.start + h.end)
within_low b h g heap within =
    let place : LiveBytes within.block within.total (h.start + 16) (h.start + 16 + size_of h.items) =
    law_live_bytes within.block within.total (h.start + 16) h.items heap.totals within.live in
    (omega (arith, place.low, within.low), omega (arith, place.high, within.high, heap.inside))

-- no byte of its range is in a word that the heap round it spells
pub within_unspelled : (b : Bytes) (h g : HeapList) (a : ℕ) → IsHeapIn b h.start h.end h.items → IsWithin h g → in_range g.start g.end a ≡ true
    → is_heap_word h.start h.items (word_start a) ≡ false
within_unspelled b h g a heap within inside =
    let both = and_parts _ _ inside in
    let low : g.start ≤ a = leb-true g.start a both.0 in
    let high = ltb-true a (g.start + g.end) both.1 in
    payload_unspelled h.start h.items within.block within.total a heap.aligned heap.totals within.live (omega (arith, within.low, low))
    (omega (arith, within.high, high))

-- a word that one heap spells is in no other heap's words
pub words_apart : (b c : Bytes) (h g : HeapList) (a : ℕ) → IsHeapIn b h.start h.end h.items → IsHeapIn c g.start g.end g.items → StandsApart h g
    → is_heap_word h.start h.items (word_start a) ≡ true → is_heap_word g.start g.items (word_start a) ≡ false
words_apart b c h g a heap other (inl clear) is = false_from_ne_true _ (λ is'.
    both_ways (in_range g.start g.end a) (clear a (byte_inside b h.start h.end h.items a heap is)) (byte_inside c g.start g.end g.items a other is'))
words_apart b c h g a heap other (inr (inl within)) is = false_from_ne_true _ (λ is'.
    both_ways (is_heap_word h.start h.items (word_start a)) (within_unspelled b h g a heap within (byte_inside c g.start g.end g.items a other is')) is)
words_apart b c h g a heap other (inr (inr within)) is =
    within_unspelled c g h a other within (byte_inside b h.start h.end h.items a heap is)

-- a heap does not stand apart from itself
pub not_itself : (b : Bytes) (h : HeapList) → IsHeapIn b h.start h.end h.items → StandsApart h h → ⊥
not_itself b h heap (inl clear) =
    let here : in_range h.start h.end h.start ≡ true =
    rw (le-leb h.start h.start (omega arith), lt-ltb h.start (h.start + h.end) (omega (arith, heap.inside))) refl in
    both_ways (in_range h.start h.end h.start) (clear h.start here) here
not_itself b h heap (inr (inl within)) = let low = within_low b h h heap within in omega (arith, low.0)
not_itself b h heap (inr (inr within)) = let low = within_low b h h heap within in omega (arith, low.0)

-- heaps that stand apart start at different places
pub apart_starts : (b c : Bytes) (h g : HeapList) → IsHeapIn b h.start h.end h.items → IsHeapIn c g.start g.end g.items → StandsApart h g → g.start ≢ h.start
apart_starts b c h g heap other (inl clear) e =
    let here : in_range h.start h.end g.start ≡ true =
    rw (le-leb h.start g.start (omega (arith, e)), lt-ltb g.start (h.start + h.end) (omega (arith, e, heap.inside))) refl in
    let there : in_range g.start g.end g.start ≡ true =
    rw (le-leb g.start g.start (omega arith), lt-ltb g.start (g.start + g.end) (omega (arith, other.inside))) refl in
    both_ways (in_range g.start g.end g.start) (clear g.start here) there
apart_starts b c h g heap other (inr (inl within)) e = let low = within_low b h g heap within in omega (arith, low.0, e)
apart_starts b c h g heap other (inr (inr within)) e = let low = within_low c g h other within in omega (arith, low.0, e)

-- one heap more
pub stand_more : (g : HeapList) (hs : List HeapList) (h : HeapList) → StandApart g hs → StandsApart g h → StandApart g (hs ++ h ∷ [])
stand_more g [] h stand last = (last, tt)
stand_more g (k ∷ hs) h stand last = (stand.0, stand_more g hs h stand.1 last)

-- A heap gets another list: what lies in its blocks lies in them still.
abbrev pub listed : HeapList → List Item → HeapList
listed h items = record { kind = h.kind; start = h.start; end = h.end; items = items }

abbrev pub KeepsWithin : HeapList → List Item → HeapList → Type 0
KeepsWithin h items g = IsWithin h g → IsWithin (listed h items) g

abbrev pub KeepsHeaps : HeapList → List Item → List HeapList → Type 0
KeepsHeaps h items [] = Unit {0}
KeepsHeaps h items (g ∷ gs) = KeepsWithin h items g × KeepsHeaps h items gs

-- where all its live blocks stay
pub keeps_by_blocks : (h : HeapList) (items : List Item) (gs : List HeapList)
    → ((block total : ℕ) → live_total block (h.start + 16) h.items ≡ Some total → live_total block (h.start + 16) items ≡ Some total) → KeepsHeaps h items gs
keeps_by_blocks h items [] still = tt
keeps_by_blocks h items (g ∷ gs) still = (
  λ within. record {
    guest = within.guest;
    block = within.block;
    total = within.total;
    live = still within.block within.total within.live;
    low = within.low;
    high = within.high;
  },
  keeps_by_blocks h items gs still,
)

-- the new list in place of the old one
pub stands_own : (h g : HeapList) (items : List Item) → KeepsWithin h items g → StandsApart h g → StandsApart (listed h items) g
stands_own h g items keeps (inl clear) = inl clear
stands_own h g items keeps (inr (inl within)) = inr (inl (keeps within))
stands_own h g items keeps (inr (inr within)) = inr (inr (record {
  guest = within.guest;
  block = within.block;
  total = within.total;
  live = within.live;
  low = within.low;
  high = within.high;
}))
