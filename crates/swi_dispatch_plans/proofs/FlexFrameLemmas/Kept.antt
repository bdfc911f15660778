-- The flex store of a machine over calls other than its own, over what guests store, and at
-- the start.
use Rattle.std.proofs.Common.{◌≡◌, ◌≤◌, ◌<◌, ℕ, ◌+◌, ◌-◌, ◌&&◌, ◌||◌, ◌==◌, Bool, true, false, List, [], ◌∷◌, Option, Some, None, length, suc, inl, inr, refl, sym, ap, subst, ◌∙◌, arith}
use Rattle.std.proofs.lemmas.Bool.{and_parts, both_ways, cases_Bool, false_from_ne_true, eqb-true, false≢true, or_left, or_right}
use Rattle.flex_store.specs.Sizes.{Sizes}
use Rattle.os_heap.proofs.Bytes.{is_mapped-layout}
use Rattle.os_heap.specs.Bytes.{AreMapped, Bytes, word_start, in_range}
use Rattle.os_heap.specs.Classes.{is_anchor, is_flex_header}
use Rattle.os_heap.specs.Memory.{byte_at, bytes_of, class_of, is_mapped}
use Rattle.os_heap.specs.Class.{Class}
use Rattle.os_heap.specs.AddressMap.{AddressMap}
use Rattle.os_heap.specs.Kind.{Kind}
use Rattle.os_heap.specs.Kind.TheVariants as kind
use Rattle.os_heap.specs.Region.{Region}
use Rattle.flex_store.proofs.Frame.{layout-others}
use Rattle.flex_store.specs.Store.{IsSound, Store, is_flex_store, is_flex_word, is_image, is_in_flex_store, owned_in, store_of}
use Rattle.instances.specs.Areas.{AreaTable}
use Rattle.instances.specs.Ground.{AreAreas, AreRangesMapped}
use Rattle.instances.specs.DynamicAreasStart.{start_store}
use Rattle.instances.specs.flex_frame.Keeping.{AreAnchorsFree, IsFlexKept, KeepsFlex, beside_images, is_flex_byte, is_in_other_record}
use Rattle.flex_store.proofs.Staying.{flex_stays}
use Rattle.flex_store.specs.Staying.{IsExtentThere, StaysFlex}
use Rattle.flex_store.specs.State.{IsFlex, IsFlexAt, IsNoFlex, IsRecordedStore, blocks_of, flex_in, is_recorded, is_store_record}
use Rattle.flex_store.specs.declared.flex.Extent.{Extent}
use Rattle.flex_store.specs.declared.flex.Flex.{Flex}
use Rattle.instances.specs.module_state.Sound.{count_beside}
use Rattle.swi_dispatch_plans.specs.flex_frame.Ground.{records_with}
use Rattle.flex_store.proofs.Keeping.{in_extent}
use Rattle.flex_store.proofs.Listing.{store_text}
use Rattle.flex_store.proofs.Texts.{text_kept, text_read}
use Rattle.flex_store.specs.Blocks.{Block, bytes_taken_by_all}
use Rattle.flex_store.proofs.Anchored.{header_outside}
use Rattle.flex_store.proofs.Apart.{block_inside}
use Rattle.flex_store.proofs.Found.{found_heap}
use Rattle.flex_store.specs.lists.Heap.{IsHeapIn}
use Rattle.swi_dispatch_plans.specs.flex_frame.Laws.{BlocksKept, StoreIsApart, FlexKept, FlexStarted, FlexStored, FlexUnmade}

-- The records beside module images: how many there are, and the store's is one of these.
pub count_is : (rs : List Region) → count_beside rs ≡ length (beside_images rs)
count_is [] = refl
count_is (r ∷ rs) = elim (cases_Bool (is_image r.kind)) [
  | inl image ↦ rw image (count_is rs)
  | inr other ↦ rw other (ap suc (count_is rs))
]

pub no_store : (k : Kind) → is_image k ≡ true → is_flex_store k ≡ false
no_store kind.FlexStore image = absurd (false≢true image)
no_store kind.Image image = refl
no_store kind.Heap image = refl
no_store kind.Rma image = refl
no_store kind.SystemPage image = refl
no_store kind.HeadWord image = refl
no_store kind.FlexHeader image = refl
no_store kind.Anchor image = refl

pub recorded_beside : (rs : List Region) (start end : ℕ) → is_recorded rs start end ≡ is_recorded (beside_images rs) start end
recorded_beside [] start end = refl
recorded_beside (r ∷ rs) start end = elim (cases_Bool (is_image r.kind)) [
  | inl image ↦ rw (image, no_store r.kind image) (recorded_beside rs start end)
  | inr other ↦ rw other (ap (λ (t : Bool). is_store_record start end r || t) (recorded_beside rs start end))
]

-- a recorded range is mapped
range_there : (mapped : ℕ → Bool) (rs : List Region) (start end : ℕ) → AreRangesMapped mapped rs → is_recorded rs start end ≡ true
    → AreMapped mapped start (end - start)
range_there mapped [] start end all there = absurd (false≢true there)
range_there mapped (r ∷ rs) start end all there = elim (cases_Bool (is_store_record start end r)) [
  | inl here ↦
      let parts = and_parts (is_flex_store r.kind) (r.at == start && r.len == end - start) here in
      let place = and_parts (r.at == start) (r.len == end - start) parts.1 in
      let at : r.at ≡ start = eqb-true r.at start place.0 in
      let len : r.len ≡ end - start = eqb-true r.len (end - start) place.1 in
      λ a low high. all.0 a (omega (arith, at, low)) (omega (arith, at, len, high))
  | inr other ↦ range_there mapped rs start end all.1 (rw other at there)
]

extent_there : (m : AddressMap) (mapped : ℕ → Bool) (rs : List Region) (o : Option Extent) → IsFlexAt m o
    → ((start end : ℕ) → is_recorded (store_of m).others start end ≡ true → is_recorded rs start end ≡ true) → AreRangesMapped mapped rs
    → IsExtentThere mapped o
extent_there m mapped rs None is stays all = tt
extent_there m mapped rs (Some e) is stays all = range_there mapped rs e.start e.end all (stays e.start e.end is.recorded)

-- a byte of one of the store's words is the store's
word_byte : (s : Store) (a : ℕ) → IsSound s → is_flex_word s a ≡ true → is_flex_byte s a ≡ true
word_byte s a sound word = elim (cases_Bool (s.header a)) [
  | inl header ↦ or_left (is_in_flex_store s.others a) (s.anchor a) (sound.headers a header)
  | inr other ↦ or_right (is_in_flex_store s.others a) (s.anchor a) (rw other at word)
]

beside_recorded : (s t : Store) → IsFlexKept s t → (start end : ℕ) → is_recorded s.others start end ≡ true → is_recorded t.others start end ≡ true
beside_recorded s t k start end there =
    recorded_beside t.others start end
    ∙ (ap (λ (rs : List Region). is_recorded rs start end) k.beside ∙ (sym (recorded_beside s.others start end) ∙ there))

kept_stays : (m n : AddressMap) (f : Flex) (free : ℕ) (l : AreaTable) → IsFlex m f → IsSound (store_of m) → IsFlexKept (store_of m) (store_of n)
    → AreAreas (store_of n) free l → StaysFlex m n f
unfolding store_of
kept_stays m n f free l is sound k areas = record {
  bytes = λ a word. k.bytes a (word_byte (store_of m) a sound word);
  anchors = k.anchors;
  headers = k.headers;
  mapped = λ a anchor. (areas.ground.sound.anchors a (k.anchors a ∙ anchor)).0;
  range = extent_there m (is_mapped n) (store_of n).others f.extent is (beside_recorded (store_of m) (store_of n) k) areas.ground.ranges;
  recorded = beside_recorded (store_of m) (store_of n) k;
}

pub flex_frame : FlexKept
unfolding KeepsFlex
flex_frame m n f free l has sound keeps areas =
    let k = keeps has.free in
    record {
      is = flex_stays m n f has.is (kept_stays m n f free l has.is sound k.0 areas);
      free = k.1;
      beside = count_is (store_of n).others ∙ (ap length k.0.beside ∙ (sym (count_is (store_of m).others) ∙ has.beside));
    }

-- The store's bytes spell the same blocks then.
blocks_same : (m n : AddressMap) (e : Extent) → IsRecordedStore m e → ((a : ℕ) → e.start ≤ a → a < e.end → byte_at n a ≡ byte_at m a)
    → blocks_of n e ≡ blocks_of m e
blocks_same m n e is same =
    let fits : e.start + bytes_taken_by_all (blocks_of m e) ≤ e.end = is.held.store.fits in
    let used_is : bytes_taken_by_all (blocks_of m e) ≡ e.used = is.held.used_is in
    let spelled : Bytes = record { mapped = is_mapped m; at = byte_at n } in
    text_read spelled e.start (e.start + e.used) (blocks_of m e)
    (text_kept (bytes_of m) spelled e.start (e.start + e.used) (blocks_of m e) refl (λ a low high. same a low (omega (arith, fits, used_is, high))) (store_text m e is))

store_same : (m n : AddressMap) (o : Option Extent) → IsFlexAt m o → IsFlexKept (store_of m) (store_of n) → flex_in n o ≡ flex_in m o
unfolding store_of
store_same m n None is k = refl
store_same m n (Some e) is k =
    ap (λ (bs : List Block). Some (record { start = e.start; end = e.end; blocks = bs }))
    (blocks_same m n e is (λ a low high. k.bytes a (or_left (is_in_flex_store (store_of m).others a) ((store_of m).anchor a) (in_extent m e a is low high))))

pub blocks_kept : BlocksKept
unfolding KeepsFlex
blocks_kept m n f has keeps = store_same m n f.extent has.is (keeps has.free).0

-- and it lies outside all heaps
extent_byte : (m : AddressMap) (o : Option Extent) (e : Extent) (a : ℕ) → IsFlexAt m o → o ≡ Some e → e.start ≤ a → a < e.end
    → is_in_flex_store (store_of m).others a ≡ true
extent_byte m o e a is there low high = in_extent m e a (subst (IsFlexAt m) there is) low high

pub store_apart : StoreIsApart
store_apart m f e h block total a has there sound found live low high =
    let outside : in_range h.start h.end a ≡ false =
    header_outside h.start (store_of m).heaps (store_of m).others h a sound.placed found (extent_byte m f.extent e a has.is there low high) in
    let heap : IsHeapIn (store_of m).bytes h.start h.end h.items = found_heap (store_of m).bytes h.start (store_of m).heaps h sound.heaps found in
    false_from_ne_true _ (λ inside. both_ways (in_range h.start h.end a) outside (block_inside (store_of m).bytes h block total a heap live inside))

-- A guest's store: a byte of one of the store's words is marked as the whole word is.
pub whole_word : (a : ℕ) → word_start (word_start a) ≡ word_start a
whole_word a = omega arith

word_marks : (m : AddressMap) (o : Option Extent) → IsFlexAt m o → (a : ℕ) → is_flex_word (store_of m) (word_start a) ≡ is_flex_word (store_of m) a
unfolding store_of
word_marks m None is a = rw (is.headers a, is.anchors a, is.headers (word_start a), is.anchors (word_start a)) refl
word_marks m (Some e) is a =
    let s = is.held.store in
    rw (s.headers (word_start a), s.anchors (word_start a), s.headers a, s.anchors a, whole_word a) refl

word_owned : (m : AddressMap) (f : Flex) → IsFlex m f → (a : ℕ) → is_flex_word (store_of m) a ≡ true → owned_in (store_of m) a ≡ true
unfolding owned_in
word_owned m f is a word = or_right _ (is_flex_word (store_of m) (word_start a)) (word_marks m f.extent is a ∙ word)

extent_stays : (m : AddressMap) (mapped : ℕ → Bool) (o : Option Extent) → IsFlexAt m o → mapped ≡ is_mapped m → IsExtentThere mapped o
extent_stays m mapped None is same = tt
extent_stays m mapped (Some e) is same = λ a low high. ap (λ (p : ℕ → Bool). p a) same ∙ is.held.store.range.there a low high

same_anchors : (m n : AddressMap) → class_of n ≡ class_of m → (a : ℕ) → (store_of n).anchor a ≡ (store_of m).anchor a
unfolding store_of
same_anchors m n same a = ap (λ (c : ℕ → Class). is_anchor (c a)) same

same_headers : (m n : AddressMap) → class_of n ≡ class_of m → (a : ℕ) → (store_of n).header a ≡ (store_of m).header a
unfolding store_of
same_headers m n same a = ap (λ (c : ℕ → Class). is_flex_header (c a)) same

sound_mapped : (n : AddressMap) → IsSound (store_of n) → (a : ℕ) → (store_of n).anchor a ≡ true → is_mapped n a ≡ true
unfolding store_of
sound_mapped n sound a anchor = (sound.anchors a anchor).0

-- the same anchors and records
still_free : (m n : AddressMap) → class_of n ≡ class_of m → (store_of n).others ≡ (store_of m).others → AreAnchorsFree (store_of m) → AreAnchorsFree (store_of n)
unfolding AreAnchorsFree
still_free m n marks others free = λ a anchor. ap (λ (rs : List Region). is_in_other_record rs a) others ∙ free a (sym (same_anchors m n marks a) ∙ anchor)

pub flex_stored : FlexStored
flex_stored m n f has sound same marks kept =
    let others : (store_of n).others ≡ (store_of m).others = layout-others m n same in
    record {
      is = flex_stays m n f has.is (record {
        bytes = λ a word. kept a (word_owned m f has.is a word);
        anchors = same_anchors m n marks;
        headers = same_headers m n marks;
        mapped = λ a anchor. sound_mapped n sound a (same_anchors m n marks a ∙ anchor);
        range = extent_stays m (is_mapped n) f.extent has.is (is_mapped-layout m n same);
        recorded = λ start end there. ap (λ (rs : List Region). is_recorded rs start end) others ∙ there;
      });
      free = still_free m n marks others has.free;
      beside = ap count_beside others ∙ has.beside;
    }

-- Without a store nothing is marked.
none_still : (m n : AddressMap) → class_of n ≡ class_of m → IsNoFlex m → IsNoFlex n
none_still m n marks none = record {
  headers = λ a. ap (λ (c : ℕ → Class). is_flex_header (c a)) marks ∙ none.headers a;
  anchors = λ a. ap (λ (c : ℕ → Class). is_anchor (c a)) marks ∙ none.anchors a;
}

pub flex_unmade : FlexUnmade
flex_unmade m n f has none marks others = record {
  is = subst (IsFlexAt n) (sym none) (none_still m n marks (subst (IsFlexAt m) none has.is));
  free = still_free m n marks others has.free;
  beside = ap count_beside others ∙ has.beside;
}

none_at_start : (m : AddressMap) (s : Sizes) → store_of m ≡ start_store s → IsNoFlex m
unfolding store_of
none_at_start m s start = record {
  headers = λ a. ap (λ (t : Store). t.header a) start;
  anchors = λ a. ap (λ (t : Store). t.anchor a) start;
}

free_at_start : (m : AddressMap) (s : Sizes) → store_of m ≡ start_store s → AreAnchorsFree (store_of m)
unfolding AreAnchorsFree
free_at_start m s start = λ a anchor. absurd (false≢true (sym (ap (λ (t : Store). t.anchor a) start) ∙ anchor))

pub flex_started : FlexStarted
flex_started m s f start none = record {
  is = subst (IsFlexAt m) (sym none) (none_at_start m s start);
  free = free_at_start m s start;
  beside = ap (λ (t : Store). count_beside t.others) start ∙ ap records_with (sym none);
}
