-- No module image begins at a block of a guest's heap: an image shares no byte with one.
use Rattle.std.proofs.Common.{ℕ, ◌≡◌, ◌+◌, ◌-◌, ◌<◌, ◌==◌, ◌&&◌, true, false, List, [], ◌∷◌, Some, refl, sym, subst, inl, inr, arith}
use Rattle.std.proofs.lemmas.Bool.{and_parts, both_ways, eqb-true, false_from_ne_true, false≢true, le-leb, lt-ltb, or_from}
use Rattle.address_map.specs.Bytes.{Bytes, in_range}
use Rattle.address_map.specs.Items.{size_of}
use Rattle.address_map.specs.declared.region.Kind.{Kind}
use Rattle.address_map.specs.declared.region.Kind.TheVariants as kind
use Rattle.address_map.specs.declared.region.Region.{Region}
use Rattle.os_heap_words.proofs.ListsLemmas.LiveBlocks.{LiveBytes, law_live_bytes}
use Rattle.os_heap_words.specs.lists.Heap.{HeapList, IsHeapIn}
use Rattle.os_heap_words.specs.lists.Lists.{live_total}
use Rattle.os_heap.proofs.Apart.{block_inside}
use Rattle.os_heap.proofs.Found.{found_heap}
use Rattle.os_heap.proofs.Stores.{placed_by}
use Rattle.os_heap.specs.Calls.{has_own_size}
use Rattle.os_heap.specs.Store.{ArePlaced, Store, find_heap, has_image, is_module_area, is_image}
use Rattle.law_machine.specs.heap_calls.Laws.{AreImagesFull, IsGuestHeap}

area_own : (k : Kind) → is_module_area k ≡ true → has_own_size k ≡ true → ⊥
area_own kind.Heap area own = false≢true area
area_own other area own = false≢true own

-- the first byte of a live block
first_inside : (b : Bytes) (h : HeapList) (block total : ℕ) → IsHeapIn b h.start h.end h.items → live_total block (h.start + 16) h.items ≡ Some total
    → in_range h.start h.end block ≡ true
first_inside b h block total heap live =
    let place : LiveBytes block total (h.start + 16) (h.start + 16 + size_of h.items) = law_live_bytes block total (h.start + 16) h.items heap.totals live in
    block_inside b h block total block heap live
    (rw (le-leb (block - 4) block (omega arith), lt-ltb block (block - 4 + total) (omega (arith, place.size, place.low))) refl)

none_there : (h : HeapList) (hs : List HeapList) (rs : List Region) (block : ℕ) → find_heap h.start hs ≡ Some h → has_own_size h.kind ≡ true
    → ArePlaced hs rs → AreImagesFull rs → in_range h.start h.end block ≡ true → has_image block rs ≡ false
none_there h hs [] block found own placed full here = refl
none_there h hs (r ∷ rs) block found own placed full here =
    or_from (is_image r.kind && r.at == block) (has_image block rs)
    (false_from_ne_true (is_image r.kind && r.at == block) (λ is.
    let both = and_parts (is_image r.kind) (r.at == block) is in
    let at : r.at ≡ block = eqb-true r.at block both.1 in
    let there : in_range h.start h.end r.at ≡ true = subst (λ (a : ℕ). in_range h.start h.end a ≡ true) (sym at) here in
    elim (placed_by h.start hs h r placed.0 found) [
      | inl clear ↦
          let some : 0 < r.len = full.0 both.0 in
          both_ways (in_range h.start h.end r.at)
          (clear r.at (rw (le-leb r.at r.at (omega arith), lt-ltb r.at (r.at + r.len) (omega arith)) refl)) there
      | inr image ↦ area_own h.kind image.area own
    ]))
    (none_there h hs rs block found own placed.1 full.1 here)

pub guest_images : (s : Store) (h : HeapList) (block total : ℕ) → IsGuestHeap s h → live_total block (h.start + 16) h.items ≡ Some total
    → has_image block s.others ≡ false
guest_images s h block total guest live =
    let heap : IsHeapIn s.bytes h.start h.end h.items = found_heap s.bytes h.start s.heaps h guest.sound.heaps guest.found in
    none_there h s.heaps s.others block guest.found guest.own guest.sound.placed guest.images (first_inside s.bytes h block total heap live)
