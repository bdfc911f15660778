-- A recorded range more that is no heap, as the system pages or an image.
use Rattle.std.proofs.Common.{ℕ, true, ◌&&◌, false, inl, [], ◌≡◌, refl, List, ◌++◌, inr, ◌∷◌, length, arith, length-append, ◌<◌}
use Rattle.std.proofs.lemmas.Bool.{cases_Bool, false≢true, or_left, or_right}
use Rattle.os_heap_words.specs.Bytes.{Bytes, in_range}
use Rattle.os_heap_words.specs.Classes.{is_flex_header, is_anchor}
use Rattle.os_heap_words.specs.Memory.{bytes_of, regions, class_of}
use Rattle.os_heap_words.specs.Records.{is_heap_kind}
use Rattle.os_heap_words.specs.AddressMap.{AddressMap}
use Rattle.os_heap_words.specs.Region.{Region}
use Rattle.os_heap_words.specs.lists.Heap.{HeapList}
use Rattle.os_heap.proofs.Stores.{placed_clear}
use Rattle.os_heap.specs.Store.{AreClear, heaps_in, others_in, IsClearOfHeaps, ArePlaced, IsClearOfRanges, AreRangesApart, is_flex_store, is_in_flex_store, store_of, IsSound, Store}

heaps_in-other : (b : Bytes) (rs : List Region) (r : Region) → is_heap_kind r.kind ≡ false → heaps_in b (rs ++ r ∷ []) ≡ heaps_in b rs
heaps_in-other b [] r other = rw other refl
heaps_in-other b (g ∷ rs) r other =
    elim (cases_Bool (is_heap_kind g.kind)) [
      | inl heap ↦ rw (heap, heaps_in-other b rs r other) refl
      | inr plain ↦ rw (plain, heaps_in-other b rs r other) refl
    ]

pub others_in-other : (rs : List Region) (r : Region) → is_heap_kind r.kind ≡ false → others_in (rs ++ r ∷ []) ≡ others_in rs ++ r ∷ []
others_in-other [] r other = rw other refl
others_in-other (g ∷ rs) r other =
    elim (cases_Bool (is_heap_kind g.kind)) [
      | inl heap ↦ rw (heap, others_in-other rs r other) refl
      | inr plain ↦ rw (plain, others_in-other rs r other) refl
    ]

placed_other : (hs : List HeapList) (rs : List Region) (r : Region) → ArePlaced hs rs → IsClearOfHeaps r.at r.len hs → ArePlaced hs (rs ++ r ∷ [])
placed_other hs [] r placed last = (placed_clear hs r last, tt)
placed_other hs (g ∷ rs) r placed last = (placed.0, placed_other hs rs r placed.1 last)

-- a range that meets none of the others
abbrev pub IsClearOfAll : Region → List Region → Type 0
IsClearOfAll r [] = Unit {0}
IsClearOfAll r (q ∷ rs) = AreClear q.at q.len r.at r.len × IsClearOfAll r rs

clear_other : (q r : Region) (rs : List Region) → IsClearOfRanges q rs → AreClear q.at q.len r.at r.len → IsClearOfRanges q (rs ++ r ∷ [])
clear_other q r [] clear last = (last, tt)
clear_other q r (p ∷ rs) clear last = (clear.0, clear_other q r rs clear.1 last)

pub apart_other : (rs : List Region) (r : Region) → AreRangesApart rs → IsClearOfAll r rs → AreRangesApart (rs ++ r ∷ [])
apart_other [] r apart clear = (tt, tt)
apart_other (q ∷ rs) r apart clear = (clear_other q r rs apart.0 clear.0, apart_other rs r apart.1 clear.1)

-- the store keeps its heaps
pub store_recorded : (m n : AddressMap) (r : Region) → is_heap_kind r.kind ≡ false → regions n ≡ regions m ++ r ∷ [] → bytes_of n ≡ bytes_of m
    → ((a : ℕ) → class_of n a ≡ class_of m a) → store_of n ≡ record (store_of m) { others = (store_of m).others ++ r ∷ [] }
unfolding store_of
store_recorded m n r other records bytes marks =
    let heaps : heaps_in (bytes_of m) (regions m ++ r ∷ []) ≡ heaps_in (bytes_of m) (regions m) = heaps_in-other (bytes_of m) (regions m) r other in
    let others : others_in (regions m ++ r ∷ []) ≡ others_in (regions m) ++ r ∷ [] = others_in-other (regions m) r other in
    rw (bytes, records) (λ i. record {
      bytes = bytes_of m;
      heaps = heaps i;
      others = others i;
      anchor = λ a. is_anchor (marks a i);
      header = λ a. is_flex_header (marks a i);
    })

pub in_more : (rs : List Region) (r : Region) (a : ℕ) → is_in_flex_store rs a ≡ true → is_in_flex_store (rs ++ r ∷ []) a ≡ true
in_more [] r a is = absurd (false≢true is)
in_more (q ∷ rs) r a is = elim (cases_Bool (is_flex_store q.kind && in_range q.at q.len a)) [
  | inl here ↦ or_left _ (is_in_flex_store (rs ++ r ∷ []) a) here
  | inr other ↦ or_right (is_flex_store q.kind && in_range q.at q.len a) _ (in_more rs r a (rw other at is))
]

-- and stays sound, where the range meets no heap
pub recorded_sound : (s : Store) (r : Region) → IsSound s → IsClearOfHeaps r.at r.len s.heaps → IsClearOfAll r s.others → length s.others < 68
    → IsSound (record s { others = s.others ++ r ∷ [] })
recorded_sound s r sound clear apart room = record {
  heaps = sound.heaps;
  limits = sound.limits;
  placed = placed_other s.heaps s.others r sound.placed clear;
  apart = apart_other s.others r sound.apart apart;
  few = omega (arith, length-append {A = Region});
  anchors = sound.anchors;
  headers = λ a is. in_more s.others r a (sound.headers a is);
}
