-- The store after pages were mapped, or taken away: memory spells the same heaps, and the store
-- stays sound.
use Rattle.std.proofs.Common.{Bool, ◌≡◌, ℕ, ◌+◌, ◌<◌, ◌≤◌, ◌&&◌, ◌||◌, not, true, false, List, [], ◌∷◌, refl, sym, ap, ◌∙◌, inl, inr}
use Rattle.std.proofs.lemmas.Bool.{cases_Bool, or_from, and_parts, false≢true, false_from_ne_true}
use Rattle.os_heap.proofs.InRange.{range_inside}
use Rattle.os_heap.specs.AddressMap.{AddressMap}
use Rattle.os_heap.specs.Item.{Item}
use Rattle.os_heap.specs.Bytes.{Bytes, in_range, AreMapped, AreUnmapped, with_zeros_at}
use Rattle.os_heap.specs.Classes.{is_flex_header, is_anchor}
use Rattle.os_heap.specs.Memory.{is_mapped, byte_at, bytes_of, regions, class_of}
use Rattle.os_heap.proofs.Anchors.{none_among}
use Rattle.os_heap.specs.Records.{anchor_among, with_plain_at}
use Rattle.os_heap.specs.Region.{Region}
use Rattle.os_heap.specs.lists.Heap.{HeapList, IsHeapIn}
use Rattle.os_heap.proofs.HeapWords.{heap_kept}
use Rattle.os_heap.specs.Store.{Store, store_of, IsSound, AreHeapsIn, IsClearOfHeaps, AreClear, is_flex_store, is_in_flex_store}
use Rattle.os_heap.proofs.FlexWords.{AreSameFlex, same_flex}
use Rattle.os_heap.proofs.Frame.{store_spelled}
use Rattle.os_heap.proofs.RangeTests.{range_high, range_low}
use Rattle.os_heap.proofs.Stores.{clear_both_ways}
use Rattle.dynamic_areas.specs.Changing.{AreRangesClear}
use Rattle.dynamic_areas.specs.Remapped.{with_pages_at, without_pages_at}

-- a heap whose range is mapped, and has the same bytes
pub heap_remapped : (b c : Bytes) (start end : ℕ) (items : List Item) → IsHeapIn b start end items → AreMapped c.mapped start end
    → ((a : ℕ) → start ≤ a → a < start + end → c.at a ≡ b.at a) → IsHeapIn c start end items
heap_remapped b c start end items heap mapped kept =
    let d : Bytes = record { mapped = b.mapped; at = c.at } in
    let there : IsHeapIn d start end items = heap_kept b d start end items heap refl kept in
    record {
      aligned = there.aligned;
      whole = there.whole;
      mapped = mapped;
      name = there.name;
      first = there.first;
      base = there.base;
      limit = there.limit;
      spelled = there.spelled;
      totals = there.totals;
      spaced = there.spaced;
      inside = there.inside;
    }

-- what changes lies in a range: outside it no byte changes, and what was mapped is so still
pub record ChangesWithin (b c : Bytes) (at len : ℕ) : Type 0 where
  pub bytes : (a : ℕ) → in_range at len a ≡ false → c.at a ≡ b.at a
  pub mapped : (a : ℕ) → in_range at len a ≡ false → b.mapped a ≡ true → c.mapped a ≡ true

pub heaps_remapped : (b c : Bytes) (at len : ℕ) (hs : List HeapList) → ChangesWithin b c at len → IsClearOfHeaps at len hs → AreHeapsIn b hs → AreHeapsIn c hs
heaps_remapped b c at len [] change clear parts = tt
heaps_remapped b c at len (h ∷ hs) change clear parts =
    let apart : AreClear h.start h.end at len = clear_both_ways at len h.start h.end clear.0 in (
      heap_remapped b c h.start h.end h.items parts.0
          (λ a low high. change.mapped a (apart a (range_inside h.start h.end a low high)) (parts.0.mapped a low high))
          (λ a low high. change.bytes a (apart a (range_inside h.start h.end a low high))),
      (parts.1.0, heaps_remapped b c at len hs change clear.1 parts.1.1),
    )

pub sound_remapped : (s : Store) (c : Bytes) (at len : ℕ) → IsSound s → ChangesWithin s.bytes c at len → IsClearOfHeaps at len s.heaps
    → ((a : ℕ) → s.anchor a ≡ true → in_range at len a ≡ false)
    → IsSound (record s { bytes = c })
sound_remapped s c at len sound change clear apart = record {
  heaps = heaps_remapped s.bytes c at len s.heaps change clear sound.heaps;
  limits = sound.limits;
  placed = sound.placed;
  apart = sound.apart;
  few = sound.few;
  anchors = λ a is. (change.mapped a (apart a is) (sound.anchors a is).0, (sound.anchors a is).1);
  headers = sound.headers;
}

-- a range that is not mapped meets no heap
pub clear_unmapped : (b : Bytes) (at len : ℕ) (hs : List HeapList) → AreUnmapped b.mapped at len → AreHeapsIn b hs → IsClearOfHeaps at len hs
clear_unmapped b at len [] unmapped parts = tt
clear_unmapped b at len (h ∷ hs) unmapped parts =
    (λ a inside. out a inside, clear_unmapped b at len hs unmapped parts.1.1) where
      out : (a : ℕ) → in_range at len a ≡ true → in_range h.start h.end a ≡ false
      out a inside = false_from_ne_true (in_range h.start h.end a) (λ there.
          let mapped : b.mapped a ≡ true = parts.0.mapped a (range_low h.start h.end a there) (range_high h.start h.end a there) in
          false≢true (sym (unmapped a (range_low at len a inside) (range_high at len a inside)) ∙ mapped))

grows : (b : Bytes) (at len : ℕ) → ChangesWithin b (record { mapped = λ a. in_range at len a || b.mapped a; at = b.at }) at len
grows b at len = record {
  bytes = λ a out. refl;
  mapped = λ a out was. rw (out, was) refl;
}

shrinks : (b : Bytes) (at len : ℕ) → ChangesWithin b (record { mapped = λ a. b.mapped a && not (in_range at len a); at = with_zeros_at b.at at len }) at len
shrinks b at len = record {
  bytes = λ a out. rw out refl;
  mapped = λ a out was. rw (out, was) refl;
}

outside : (anchor : ℕ → Bool) (at len : ℕ) → anchor_among anchor at len ≡ false → (a : ℕ) → anchor a ≡ true → in_range at len a ≡ false
outside anchor at len none a is = false_from_ne_true (in_range at len a) (λ inside.
    false≢true (sym (none_among anchor at len a none (range_low at len a inside) (range_high at len a inside)) ∙ is))

-- a range that meets none of the others has no header
header_apart : (at len : ℕ) (rs : List Region) (a : ℕ) → AreRangesClear at len rs → in_range at len a ≡ true → is_in_flex_store rs a ≡ false
header_apart at len [] a clear inside = refl
header_apart at len (r ∷ rs) a clear inside =
    or_from (is_flex_store r.kind && in_range r.at r.len a) (is_in_flex_store rs a)
    (false_from_ne_true (is_flex_store r.kind && in_range r.at r.len a) (λ both.
    false≢true (sym (clear.0 a inside) ∙ (and_parts (is_flex_store r.kind) (in_range r.at r.len a) both).1)))
    (header_apart at len rs a clear.1 inside)

pub sound_grown : (s : Store) (at len : ℕ) → IsSound s → AreUnmapped s.bytes.mapped at len → IsSound (with_pages_at s at len)
sound_grown s at len sound unmapped =
    sound_remapped s (record { mapped = λ a. in_range at len a || s.bytes.mapped a; at = s.bytes.at }) at len sound (grows s.bytes at len)
    (clear_unmapped s.bytes at len s.heaps unmapped sound.heaps)
    (λ a is. false_from_ne_true (in_range at len a) (λ inside.
    false≢true (sym (unmapped a (range_low at len a inside) (range_high at len a inside)) ∙ (sound.anchors a is).0)))

pub sound_shrunk : (s : Store) (at len : ℕ) → IsSound s → IsClearOfHeaps at len s.heaps → anchor_among s.anchor at len ≡ false
    → IsSound (without_pages_at s at len)
sound_shrunk s at len sound clear none =
    sound_remapped s (record { mapped = λ a. s.bytes.mapped a && not (in_range at len a); at = with_zeros_at s.bytes.at at len }) at len sound (shrinks s.bytes at len) clear (outside s.anchor at len none)

-- the store of a map after its pages changed
pub store_grown : (m n : AddressMap) (at len : ℕ) → IsSound (store_of m) → AreUnmapped (is_mapped m) at len
    → ((a : ℕ) → is_mapped n a ≡ (in_range at len a || is_mapped m a)) → ((a : ℕ) → byte_at n a ≡ byte_at m a) → regions n ≡ regions m
    → class_of n ≡ class_of m → store_of n ≡ with_pages_at (store_of m) at len
unfolding store_of
store_grown m n at len sound unmapped mapped bytes same marks =
    let c : Bytes = record { mapped = λ a. in_range at len a || is_mapped m a; at = byte_at m } in
    let now : bytes_of n ≡ c = λ i. record { mapped = λ a. mapped a i; at = λ a. bytes a i } in
    let kept : IsSound (with_pages_at (store_of m) at len) = sound_grown (store_of m) at len sound unmapped in
    let heaps : AreHeapsIn (bytes_of n) (store_of m).heaps = rw now kept.heaps in
    store_spelled m n same heaps (same_flex (class_of m) (class_of n) marks) ∙ ap (λ (b : Bytes). let t : Store = record (store_of m) { bytes = b } in t) now

-- no word of the flex store goes with pages
flex_unmapped : (m n : AddressMap) (at len : ℕ) → IsSound (store_of m) → AreRangesClear at len (store_of m).others
    → anchor_among (store_of m).anchor at len ≡ false → ((a : ℕ) → class_of n a ≡ with_plain_at (class_of m) at len a)
    → AreSameFlex (class_of m) (class_of n)
unfolding store_of
flex_unmapped m n at len sound ranges none marks = record {
  anchors = λ a. elim (cases_Bool (in_range at len a)) [
    | inl inside ↦ ap is_anchor (marks a) ∙ rw inside (sym (none_among (store_of m).anchor at len a none (range_low at len a inside) (range_high at len a inside)))
    | inr outside ↦ ap is_anchor (marks a) ∙ rw outside refl
  ];
  headers = λ a. elim (cases_Bool (in_range at len a)) [
    | inl inside ↦ ap is_flex_header (marks a) ∙ rw inside (sym (false_from_ne_true (is_flex_header (class_of m a)) (λ is.
        false≢true (sym (header_apart at len (store_of m).others a ranges inside) ∙ sound.headers a is))))
    | inr outside ↦ ap is_flex_header (marks a) ∙ rw outside refl
  ];
}

pub store_shrunk : (m n : AddressMap) (at len : ℕ) → IsSound (store_of m) → IsClearOfHeaps at len (store_of m).heaps
    → AreRangesClear at len (store_of m).others → anchor_among (store_of m).anchor at len ≡ false
    → ((a : ℕ) → is_mapped n a ≡ (is_mapped m a && not (in_range at len a))) → ((a : ℕ) → byte_at n a ≡ with_zeros_at (byte_at m) at len a)
    → regions n ≡ regions m → ((a : ℕ) → class_of n a ≡ with_plain_at (class_of m) at len a) → store_of n ≡ without_pages_at (store_of m) at len
unfolding store_of
store_shrunk m n at len sound clear ranges none mapped bytes same marks =
    let c : Bytes = record { mapped = λ a. is_mapped m a && not (in_range at len a); at = with_zeros_at (byte_at m) at len } in
    let now : bytes_of n ≡ c = λ i. record { mapped = λ a. mapped a i; at = λ a. bytes a i } in
    let kept : IsSound (without_pages_at (store_of m) at len) = sound_shrunk (store_of m) at len sound clear none in
    let heaps : AreHeapsIn (bytes_of n) (store_of m).heaps = rw now kept.heaps in
    store_spelled m n same heaps (flex_unmapped m n at len sound ranges none marks) ∙ ap (λ (b : Bytes). let t : Store = record (store_of m) { bytes = b } in t) now
