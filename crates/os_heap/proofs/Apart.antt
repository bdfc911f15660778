-- Live blocks that share a byte: they are one, or one lies in what the other holds.
use Rattle.std.proofs.Common.{List, ℕ, [], ◌∷◌, ◌≡◌, ◌==◌, ◌+◌, ◌-◌, ◌≤◌, ◌<◌, ◌⊎◌, ◌∙◌, Some, None, true, refl, sym, ap, subst, inl, inr, arith}
use Rattle.std.proofs.lemmas.Bool.{cases_Bool, cases_eq, both_ways, and_parts, leb-true, ltb-true, le-leb, lt-ltb}
use Rattle.os_heap_words.specs.Bytes.{in_range, Bytes}
use Rattle.os_heap_words.specs.Items.{size_of}
use Rattle.os_heap_words.proofs.ListsLemmas.LiveBlocks.{LiveBytes, law_live_bytes, live_apart}
use Rattle.os_heap_words.specs.lists.Heap.{HeapList, IsHeapIn}
use Rattle.os_heap_words.specs.lists.Lists.{live_total}
use Rattle.os_heap.proofs.Found.{found_heap}
use Rattle.os_heap.proofs.Stores.{IsOther, AreOthers, are_others}
use Rattle.os_heap.specs.Laws.{IsInPayload}
use Rattle.os_heap.specs.Nesting.{IsWithin}
use Rattle.os_heap.specs.Store.{Store, IsSound, find_heap}

-- a heap that is found is the one, or stands apart from it
pub found_other : (h : HeapList) (start : ℕ) (hs : List HeapList) (g : HeapList) → AreOthers h hs → find_heap start hs ≡ Some g → IsOther h g
found_other h start [] g others e = absurd (let none : None ≡ Some g = e in cc)
found_other h start (k ∷ hs) g others e = elim (cases_Bool (k.start == start)) [
  | inl here ↦
      let e' = rw here at e in
      let same : k ≡ g = cc in
      subst (λ (x : HeapList). IsOther h x) same others.0
  | inr later ↦ found_other h start hs g others.1 (rw later at e)
]

pub range_parts : (at len a : ℕ) → in_range at len a ≡ true → (at ≤ a) × (a < at + len)
range_parts at len a inside =
    let both = and_parts _ _ inside in
    (leb-true at a both.0, ltb-true a (at + len) both.1)

-- a byte of a block is in its heap's range
pub block_inside : (b : Bytes) (h : HeapList) (block total a : ℕ) → IsHeapIn b h.start h.end h.items → live_total block (h.start + 16) h.items ≡ Some total
    → in_range (block - 4) total a ≡ true → in_range h.start h.end a ≡ true
block_inside b h block total a heap live inside =
    let place : LiveBytes block total (h.start + 16) (h.start + 16 + size_of h.items) = law_live_bytes block total (h.start + 16) h.items heap.totals live in
    let parts : (block - 4 ≤ a) × (a < block - 4 + total) = range_parts (block - 4) total a inside in
    rw (le-leb h.start a (omega (arith, parts.0, place.low)), lt-ltb a (h.start + h.end) (omega (arith, parts.1, place.low, place.high, heap.inside))) refl

pub one_block : (b : Bytes) (h : HeapList) (block total other other_total a : ℕ) → IsHeapIn b h.start h.end h.items
    → live_total block (h.start + 16) h.items ≡ Some total → live_total other (h.start + 16) h.items ≡ Some other_total
    → in_range (block - 4) total a ≡ true → in_range (other - 4) other_total a ≡ true → block ≡ other
one_block b h block total other other_total a heap first second here there = elim (cases_eq block other) [
  | inl same ↦ same
  | inr apart ↦
      let one : (block - 4 ≤ a) × (a < block - 4 + total) = range_parts (block - 4) total a here in
      let two : (other - 4 ≤ a) × (a < other - 4 + other_total) = range_parts (other - 4) other_total a there in
      let low : LiveBytes block total (h.start + 16) (h.start + 16 + size_of h.items) = law_live_bytes block total (h.start + 16) h.items heap.totals first in
      let low' : LiveBytes other other_total (h.start + 16) (h.start + 16 + size_of h.items) = law_live_bytes other other_total (h.start + 16) h.items heap.totals second in
      absurd (elim (live_apart block total other other_total (h.start + 16) h.items heap.totals first second apart) [
        | inl before ↦ omega (arith, one.1, two.0, low.low, low'.low)
        | inr behind ↦ omega (arith, two.1, one.0, low.low, low'.low)
      ])
]

-- the block that a heap lies in, where a byte of that heap is one of its
pub within_here : (b : Bytes) (h g : HeapList) (block total a : ℕ) → IsHeapIn b h.start h.end h.items → (w : IsWithin h g)
    → live_total block (h.start + 16) h.items ≡ Some total → in_range (block - 4) total a ≡ true → in_range g.start g.end a ≡ true
    → (w.block ≡ block) × (w.total ≡ total)
within_here b h g block total a heap w live here inside =
    let parts : (g.start ≤ a) × (a < g.start + g.end) = range_parts g.start g.end a inside in
    let place : LiveBytes w.block w.total (h.start + 16) (h.start + 16 + size_of h.items) = law_live_bytes w.block w.total (h.start + 16) h.items heap.totals w.live in
    let there : in_range (w.block - 4) w.total a ≡ true =
    rw (le-leb (w.block - 4) a (omega (arith, w.low, parts.0)), lt-ltb a (w.block - 4 + w.total) (omega (arith, w.high, parts.1, place.low))) refl in
    let same : w.block ≡ block = one_block b h w.block w.total block total a heap w.live live there here in
    let both : Some w.total ≡ Some total = sym (subst (λ (x : ℕ). live_total x (h.start + 16) h.items ≡ Some w.total) same w.live) ∙ live in
    (same, cc)

-- a block of the inner of two heaps lies, with its length word, in what the block round it holds
inner_block : (b : Bytes) (h g : HeapList) (block total other other_total a : ℕ) → IsHeapIn b h.start h.end h.items → IsHeapIn b g.start g.end g.items
    → IsWithin h g → live_total block (h.start + 16) h.items ≡ Some total → live_total other (g.start + 16) g.items ≡ Some other_total
    → in_range (block - 4) total a ≡ true → in_range (other - 4) other_total a ≡ true → IsInPayload block total (other - 4) other_total
inner_block b h g block total other other_total a heap inner w first second here there =
    let is : (w.block ≡ block) × (w.total ≡ total) = within_here b h g block total a heap w first here (block_inside b g other other_total a inner second there) in
    let place : LiveBytes other other_total (g.start + 16) (g.start + 16 + size_of g.items) = law_live_bytes other other_total (g.start + 16) g.items inner.totals second in
    (omega (arith, is.0, w.low, place.low), omega (arith, is.0, is.1, w.high, place.low, place.high, inner.inside))

pub blocks_apart : (s : Store) (h g : HeapList) (block total other other_total a : ℕ) → IsSound s
    → find_heap h.start s.heaps ≡ Some h → find_heap g.start s.heaps ≡ Some g
    → live_total block (h.start + 16) h.items ≡ Some total → live_total other (g.start + 16) g.items ≡ Some other_total
    → in_range (block - 4) total a ≡ true → in_range (other - 4) other_total a ≡ true
    → ((h.start ≡ g.start) × (block ≡ other)) ⊎ (IsInPayload block total (other - 4) other_total ⊎ IsInPayload other other_total (block - 4) total)
blocks_apart s h g block total other other_total a sound found found' first second here there =
    let heap : IsHeapIn s.bytes h.start h.end h.items = found_heap s.bytes h.start s.heaps h sound.heaps found in
    let heap' : IsHeapIn s.bytes g.start g.end g.items = found_heap s.bytes g.start s.heaps g sound.heaps found' in
    elim (found_other h g.start s.heaps g (are_others s.bytes h.start s.heaps h sound.heaps found) found') [
      | inl same ↦
          let second' : live_total other (h.start + 16) h.items ≡ Some other_total =
          subst (λ (x : HeapList). live_total other (x.start + 16) x.items ≡ Some other_total) same second in
          inl (sym (ap (λ (x : HeapList). x.start) same), one_block s.bytes h block total other other_total a heap first second' here there)
      | inr apart ↦ elim apart.1 [
        | inl clear ↦ absurd (both_ways (in_range g.start g.end a) (clear a (block_inside s.bytes h block total a heap first here))
            (block_inside s.bytes g other other_total a heap' second there))
        | inr nested ↦ inr (elim nested [
          | inl within ↦ inl (inner_block s.bytes h g block total other other_total a heap heap' within first second here there)
          | inr within ↦ inr (inner_block s.bytes g h other other_total block total a heap' heap within second first there here)
        ])
      ]
    ]
