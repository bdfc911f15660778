-- Writes to what a live block holds change no list, where no heap lies in the block.
use Rattle.std.proofs.Common.{List, ℕ, [], ◌∷◌, ◌≡◌, ◌+◌, ◌-◌, ◌≤◌, ◌<◌, true, false, Some, inl, inr, refl, sym, subst, arith}
use Rattle.std.proofs.lemmas.Bool.{both_ways, false_from_ne_true, le-leb, lt-ltb, or_from, or_parts}
use Rattle.os_heap_words.specs.Bytes.{Bytes, in_range, word_start}
use Rattle.os_heap_words.specs.Items.{is_heap_word, size_of}
use Rattle.os_heap_words.specs.Memory.{byte_at, class_of, layout}
use Rattle.os_heap_words.specs.AddressMap.{AddressMap}
use Rattle.os_heap_words.proofs.ListsLemmas.HeadWords.{are_owned, byte_inside}
use Rattle.os_heap_words.proofs.ListsLemmas.LiveBlocks.{LiveBytes, law_live_bytes}
use Rattle.os_heap_words.proofs.ListsLemmas.Payloads.{payload_unspelled}
use Rattle.os_heap_words.specs.lists.Heap.{HeapList, IsHeapIn}
use Rattle.os_heap_words.specs.lists.Lists.{live_total}
use Rattle.os_heap.proofs.Apart.{block_inside, range_parts, within_here}
use Rattle.os_heap.proofs.Forgetting.{StartsIn, so_starts}
use Rattle.os_heap.proofs.Found.{found_heap}
use Rattle.os_heap.proofs.Frame.{IsKept, heads_kept}
use Rattle.os_heap.proofs.Nesting.{within_unspelled}
use Rattle.os_heap.proofs.Stores.{AreOthers, are_others}
use Rattle.os_heap.specs.Forgetting.{holds_heap, starts_in}
use Rattle.os_heap.specs.Nesting.{IsWithin, StandsApart}
use Rattle.os_heap.specs.Store.{AreHeapsIn, IsSound, find_heap, store_of}

-- what a live block holds is spelled by no heap, where none lies in the block
block_unowned : (b : Bytes) (h : HeapList) (block total a : ℕ) (hs : List HeapList) → IsHeapIn b h.start h.end h.items
    → live_total block (h.start + 16) h.items ≡ Some total → in_range block (total - 4) a ≡ true → in_range h.start h.end a ≡ true
    → AreHeapsIn b hs → AreOthers h hs → holds_heap hs block (total - 4) ≡ false → are_owned hs a ≡ false
block_unowned b h block total a [] heap live is inside parts others none = refl
block_unowned b h block total a (g ∷ hs) heap live is inside parts others none =
    or_from (is_heap_word g.start g.items (word_start a)) (are_owned hs a) (elim others.0 [
      | inl same ↦ subst (λ (x : HeapList). is_heap_word x.start x.items (word_start a) ≡ false) (sym same)
          (payload_unspelled h.start h.items block total a heap.aligned heap.totals live byte.0 byte.1)
      | inr apart ↦ beside apart.1
    ]) (block_unowned b h block total a hs heap live is inside parts.1.1 others.1 empty.1) where
      byte : (block ≤ a) × (a < block + (total - 4))
      byte = range_parts block (total - 4) a is

      empty : (starts_in block (total - 4) g ≡ false) × (holds_heap hs block (total - 4) ≡ false)
      empty = or_parts (starts_in block (total - 4) g) (holds_heap hs block (total - 4)) none

      place : LiveBytes block total (h.start + 16) (h.start + 16 + size_of h.items)
      place = law_live_bytes block total (h.start + 16) h.items heap.totals live

      in_it : IsWithin h g → in_range g.start g.end a ≡ true → ⊥
      in_it within there =
          let here : in_range (block - 4) total a ≡ true =
          rw (le-leb (block - 4) a (omega (arith, byte.0)), lt-ltb a (block - 4 + total) (omega (arith, byte.1, place.low, place.size))) refl in
          let same : (within.block ≡ block) × (within.total ≡ total) = within_here b h g block total a heap within live here there in
          let starts : StartsIn block (total - 4) g = record {
            guest = within.guest;
            low = omega (arith, within.low, same.0);
            high = omega (arith, within.high, same.0, same.1, parts.0.inside);
          } in
          both_ways (starts_in block (total - 4) g) empty.0 (so_starts block (total - 4) g starts)

      beside : StandsApart h g → is_heap_word g.start g.items (word_start a) ≡ false
      beside (inl clear) =
          false_from_ne_true _ (λ spelled. both_ways (in_range g.start g.end a) (clear a inside) (byte_inside b g.start g.end g.items a parts.0 spelled))
      beside (inr (inl within)) = false_from_ne_true _ (λ spelled. in_it within (byte_inside b g.start g.end g.items a parts.0 spelled))
      beside (inr (inr within)) = within_unspelled b g h a parts.0 within inside

payload_unowned : (m : AddressMap) (h : HeapList) (block total a : ℕ) → IsSound (store_of m) → find_heap h.start (store_of m).heaps ≡ Some h
    → live_total block (h.start + 16) h.items ≡ Some total → holds_heap (store_of m).heaps block (total - 4) ≡ false
    → in_range block (total - 4) a ≡ true → are_owned (store_of m).heaps a ≡ false
payload_unowned m h block total a sound found live none is =
    let b : Bytes = (store_of m).bytes in
    let heap : IsHeapIn b h.start h.end h.items = found_heap b h.start (store_of m).heaps h sound.heaps found in
    let place : LiveBytes block total (h.start + 16) (h.start + 16 + size_of h.items) = law_live_bytes block total (h.start + 16) h.items heap.totals live in
    let parts : (block ≤ a) × (a < block + (total - 4)) = range_parts block (total - 4) a is in
    let inside : in_range h.start h.end a ≡ true = block_inside b h block total a heap live
    (rw (le-leb (block - 4) a (omega (arith, parts.0)), lt-ltb a (block - 4 + total) (omega (arith, parts.1, place.low, place.size))) refl) in
    block_unowned b h block total a (store_of m).heaps heap live is inside sound.heaps (are_others b h.start (store_of m).heaps h sound.heaps found) none

pub payload_kept : (m n : AddressMap) (h : HeapList) (block total : ℕ) → layout n ≡ layout m → class_of n ≡ class_of m → IsSound (store_of m)
    → find_heap h.start (store_of m).heaps ≡ Some h → live_total block (h.start + 16) h.items ≡ Some total
    → holds_heap (store_of m).heaps block (total - 4) ≡ false → ((a : ℕ) → in_range block (total - 4) a ≡ false → byte_at n a ≡ byte_at m a) → IsKept m n
payload_kept m n h block total same marks sound found live none kept =
    heads_kept m n same marks sound (λ a owned. kept a (false_from_ne_true (in_range block (total - 4) a) (λ is.
    both_ways (are_owned (store_of m).heaps a) (payload_unowned m h block total a sound found live none is) owned)))
