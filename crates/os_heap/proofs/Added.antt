-- A heap more, behind all others: its descriptor is written, and its range recorded.
use Rattle.os_heap_words.specs.MemoryMap.{heap_name}
use Rattle.std.proofs.Common.{Bool, ap, cond, subst, arith, inl, ◌+◌, ◌≡◌, ℕ, true, inr, refl, false, [], List, ◌∷◌, ◌++◌, ◌≤◌, ◌&&◌, ◌-◌, leb, ◌^◌, ◌<◌, ◌⊎◌, ◌∙◌, sym, Err, Ok}
use Rattle.std.proofs.lemmas.Bool.{cases_lt, and_parts, both_ways, false_from_ne_true, or_parts, le-leb, lt-ltb, cases_Bool, false≢true, or_from}
use Rattle.std.proofs.lemmas.Bool.Decides.{nat_tests}
use Rattle.std.specs.List.{list_any}
use Rattle.os_heap_words.specs.ErrorNumber.TheVariants.{HeapBadRegion, HeapOverlaps, HeapTableFull}
use Rattle.os_heap_words.specs.Bytes.{in_range, shares_address, word_start, Bytes, with_word_at, word_at}
use Rattle.os_heap_words.specs.Items.{is_heap_word, items_in}
use Rattle.os_heap_words.specs.Classes.{is_flex_header, is_anchor}
use Rattle.os_heap_words.proofs.Anchors.{none_among}
use Rattle.os_heap_words.specs.Memory.{is_mapped, bytes_of, byte_at, class_of, regions}
use Rattle.os_heap_words.specs.Records.{is_heap_kind, with_region}
use Rattle.os_heap_words.specs.Class.TheVariants as class
use Rattle.os_heap_words.specs.AddressMap.{AddressMap}
use Rattle.os_heap_words.specs.Kind.{Kind}
use Rattle.os_heap_words.specs.Region.{Region}
use Rattle.os_heap_words.proofs.ListsLemmas.HeadWords.{are_owned, byte_inside}
use Rattle.os_heap_words.proofs.ListsLemmas.Payloads.{payload_unspelled}
use Rattle.os_heap_words.proofs.ListsLemmas.Reading.{items_in-heap}
use Rattle.os_heap_words.specs.lists.Heap.{HeapList, IsHeapIn, with_heap}
use Rattle.os_heap.proofs.Held.{AreBy, marks_begun}
use Rattle.os_heap.proofs.Anchored.{place_more}
use Rattle.os_heap.proofs.FlexWords.{AreSameFlex, IsUnflexed}
use Rattle.os_heap.proofs.Frame.{heaps_in-spelled, parts_kept}
use Rattle.os_heap.specs.Probes.{init_probes, region_probes}
use Rattle.os_heap.specs.Ranges.{IsWithinHeapLimit, is_heap_region, overlaps, MayBegin}
use Rattle.os_heap.proofs.Nesting.{apart_turned, clear_turned, stand_more}
use Rattle.os_heap.specs.Nesting.{StandApart, is_crossed}
use Rattle.os_heap.specs.Store.{AreClasses, AreClear, AreHeapsIn, ArePlaced, Store, IsSound, heap_in, heaps_in, is_module_area, is_flex_store, is_in_flex_store, others_in, store_of, IsPlacedIn, guest_count}
use Rattle.os_heap.specs.Calls.{store_with_new_heap, store_after_init}
use Rattle.os_heap_words.specs.Kind.TheVariants as kind
use Rattle.os_heap.proofs.Limits.{empty, limits_more}
use Rattle.os_heap.proofs.RangeTests.{clear_unless, CanHold, can_hold, range_low, range_high, unlapped, uncrossed}

parts_more : (b : Bytes) (hs : List HeapList) (h : HeapList) → AreHeapsIn b hs → StandApart h hs → IsHeapIn b h.start h.end h.items
    → AreHeapsIn b (hs ++ h ∷ [])
parts_more b [] h parts stand last = (last, (tt, tt))
parts_more b (g ∷ hs) h parts stand last =
    (parts.0, (stand_more g hs h parts.1.0 (apart_turned h g stand.0), parts_more b hs h parts.1.1 stand.1 last))

-- a heap more that a recorded range does not meet
placed_more : (hs : List HeapList) (h : HeapList) (r : Region) → IsPlacedIn hs r → AreClear r.at r.len h.start h.end → IsPlacedIn (hs ++ h ∷ []) r
placed_more [] h r placed clear = (inl clear, tt)
placed_more (g ∷ hs) h r placed clear = (placed.0, placed_more hs h r placed.1 clear)

others_more : (hs : List HeapList) (h : HeapList) (rs : List Region) → ArePlaced hs rs → list_any (λ r. shares_address h.start h.end r.at r.len) rs ≡ false
    → ArePlaced (hs ++ h ∷ []) rs
others_more hs h [] placed none = tt
others_more hs h (r ∷ rs) placed none =
    let parts = or_parts (shares_address h.start h.end r.at r.len) (list_any (λ r. shares_address h.start h.end r.at r.len) rs) none in (
      placed_more hs h r placed.0 (clear_turned h.start h.end r.at r.len (clear_unless h.start h.end r.at r.len parts.0)),
      others_more hs h rs placed.1 parts.1,
    )

-- a word that was written, and all else
word_here : (f : ℕ → ℕ) (at v : ℕ) → v < 2 ^ 32 → word_at (with_word_at f at v) at ≡ v
word_here f at v fits = grind (arith, nat_tests)

byte_other : (f : ℕ → ℕ) (at v a : ℕ) → (a + 1 ≤ at) ⊎ (at + 4 ≤ a) → with_word_at f at v a ≡ f a
byte_other f at v a apart = grind (arith, nat_tests)

word_other : (f : ℕ → ℕ) (at v a : ℕ) → (a + 4 ≤ at) ⊎ (at + 4 ≤ a) → word_at (with_word_at f at v) a ≡ word_at f a
word_other f at v a apart =
    let b0 : with_word_at f at v a ≡ f a = byte_other f at v a (elim apart [ inl low ↦ inl (omega arith) | inr high ↦ inr (omega arith) ]) in
    let b1 : with_word_at f at v (a + 1) ≡ f (a + 1) = byte_other f at v (a + 1) (elim apart [ inl low ↦ inl (omega arith) | inr high ↦ inr (omega arith) ]) in
    let b2 : with_word_at f at v (a + 2) ≡ f (a + 2) = byte_other f at v (a + 2) (elim apart [ inl low ↦ inl (omega arith) | inr high ↦ inr (omega arith) ]) in
    let b3 : with_word_at f at v (a + 3) ≡ f (a + 3) = byte_other f at v (a + 3) (elim apart [ inl low ↦ inl (omega arith) | inr high ↦ inr (omega arith) ]) in
    rw (b0, b1, b2, b3) refl

module _ (f : ℕ → ℕ) (at size : ℕ) (fits : size < 2 ^ 32) where
  named : ℕ → ℕ
  named = with_word_at f at heap_name

  linked : ℕ → ℕ
  linked = with_word_at named (at + 4) (0 - at)

  based : ℕ → ℕ
  based = with_word_at linked (at + 8) 16

  written_name : word_at (with_heap f at size []) at ≡ heap_name
  unfolding named linked based
  written_name = word_other based (at + 12) size at (inl (omega arith)) ∙ word_other linked (at + 8) 16 at (inl (omega arith))
      ∙ word_other named (at + 4) (0 - at) at (inl (omega arith)) ∙ word_here f at heap_name (omega arith)

  written_link : word_at (with_heap f at size []) (at + 4) ≡ 0 - at
  unfolding named linked based
  written_link = word_other based (at + 12) size (at + 4) (inl (omega arith)) ∙ word_other linked (at + 8) 16 (at + 4) (inl (omega arith))
      ∙ word_here named (at + 4) (0 - at) (omega arith)

  written_base : word_at (with_heap f at size []) (at + 8) ≡ 16
  unfolding named linked based
  written_base = word_other based (at + 12) size (at + 8) (inl (omega arith)) ∙ word_here linked (at + 8) 16 (omega arith)

  written_end : word_at (with_heap f at size []) (at + 12) ≡ size
  unfolding named linked based
  written_end = word_here based (at + 12) size fits

  written_other : (a : ℕ) → (a + 1 ≤ at) ⊎ (at + 16 ≤ a) → with_heap f at size [] a ≡ f a
  unfolding named linked based
  written_other a apart =
      byte_other based (at + 12) size a (elim apart [ inl low ↦ inl (omega arith) | inr high ↦ inr (omega arith) ])
      ∙ byte_other linked (at + 8) 16 a (elim apart [ inl low ↦ inl (omega arith) | inr high ↦ inr (omega arith) ])
      ∙ byte_other named (at + 4) (0 - at) a (elim apart [ inl low ↦ inl (omega arith) | inr high ↦ inr (omega arith) ])
      ∙ byte_other f at heap_name a (elim apart [ inl low ↦ inl (omega arith) | inr high ↦ inr (omega arith) ])

pub empty_heap : (b : Bytes) (at size : ℕ) → CanHold b at size
    → IsHeapIn (record { mapped = b.mapped; at = with_heap b.at at size [] }) at size []
empty_heap b at size can =
    let fits : size < 2 ^ 32 = omega (arith, can.high) in
    record {
      aligned = can.aligned;
      whole = can.whole;
      mapped = can.mapped;
      name = written_name b.at at size fits;
      first = written_link b.at at size fits;
      base = written_base b.at at size fits;
      limit = written_end b.at at size fits;
      spelled = tt;
      totals = tt;
      spaced = tt;
      inside = can.low;
    }

-- a heap that a range does not cross spells no word there
unspelled_there : (b : Bytes) (at len a : ℕ) (h : HeapList) → IsHeapIn b h.start h.end h.items → is_crossed at len h ≡ false → in_range at len a ≡ true
    → is_heap_word h.start h.items (word_start a) ≡ false
unspelled_there b at len a h heap none inside = elim (uncrossed b at len h heap none) [
  | inl clear ↦ false_from_ne_true (is_heap_word h.start h.items (word_start a)) (λ is.
      both_ways (in_range h.start h.end a) (clear a inside) (byte_inside b h.start h.end h.items a heap is))
  | inr held ↦
      let low : at ≤ a = range_low at len a inside in
      let high : a < at + len = range_high at len a inside in
      payload_unspelled h.start h.items held.block held.total a heap.aligned heap.totals held.live (omega (arith, held.low, low))
      (omega (arith, held.high, high))
]

unowned_there : (b : Bytes) (at len a : ℕ) (hs : List HeapList) → AreHeapsIn b hs → list_any (is_crossed at len) hs ≡ false → in_range at len a ≡ true
    → are_owned hs a ≡ false
unowned_there b at len a [] parts none inside = refl
unowned_there b at len a (h ∷ hs) parts none inside =
    let each = or_parts (is_crossed at len h) (list_any (is_crossed at len) hs) none in
    or_from (is_heap_word h.start h.items (word_start a)) (are_owned hs a) (unspelled_there b at len a h parts.0 each.0 inside)
    (unowned_there b at len a hs parts.1.1 each.1 inside)

stand_begun : (b : Bytes) (k : Kind) (at size : ℕ) (hs : List HeapList) → is_module_area k ≡ false → AreHeapsIn b hs → list_any (is_crossed at size) hs ≡ false
    → StandApart (empty k at size) hs
stand_begun b k at size [] guest parts none = tt
stand_begun b k at size (h ∷ hs) guest parts none =
    let each = or_parts (is_crossed at size h) (list_any (is_crossed at size) hs) none in (
      elim (uncrossed b at size h parts.0 each.0) [
        | inl clear ↦ inl clear
        | inr held ↦ inr (inr (record {
          guest = guest;
          block = held.block;
          total = held.total;
          live = held.live;
          low = held.low;
          high = held.high;
        }))
      ],
      stand_begun b k at size hs guest parts.1.1 each.1,
    )

begun_stands : (k : Kind) (s : Store) (at size : ℕ) → IsWithinHeapLimit k s at → AreHeapsIn s.bytes s.heaps → list_any (is_crossed at size) s.heaps ≡ false
    → StandApart (empty k at size) s.heaps
begun_stands kind.Heap s at size room parts none = stand_begun s.bytes kind.Heap at size s.heaps refl parts none
begun_stands kind.Rma s at size room parts none = subst (λ (hs : List HeapList). StandApart (empty kind.Rma at size) hs) (sym room.0) tt
begun_stands kind.FlexStore s at size room parts none = absurd room
begun_stands kind.FlexHeader s at size room parts none = absurd room
begun_stands kind.Anchor s at size room parts none = absurd room
begun_stands kind.HeadWord s at size room parts none = absurd room
begun_stands kind.Image s at size room parts none = absurd room
begun_stands kind.SystemPage s at size room parts none = absurd room

pub begun_old : (k : Kind) (s : Store) (at size : ℕ) → MayBegin k s at size → IsSound s → AreHeapsIn (store_with_new_heap k s at size).bytes s.heaps
begun_old k s at size may sound =
    let can : CanHold s.bytes at size = can_hold s.bytes at size may.region in
    let none = (unlapped at size s may.clear).0 in
    parts_kept s.bytes (store_with_new_heap k s at size).bytes s.heaps refl
    (λ a is. written_other s.bytes.at at size (omega (arith, can.high)) a (elim (cases_lt a at) [
      | inl low ↦ inl (omega arith)
      | inr high ↦ inr (elim (cases_lt a (at + size)) [
        | inl below ↦ absurd (both_ways (are_owned s.heaps a)
            (unowned_there s.bytes at size a s.heaps sound.heaps none.0 (rw (le-leb at a high, lt-ltb a (at + size) below) refl)) is)
        | inr past ↦ omega (arith, can.low)
      ])
    ])) sound.heaps

-- the store with a heap more is sound too
pub begun_sound : (k : Kind) (s : Store) (at size : ℕ) → MayBegin k s at size → IsSound s → IsSound (store_with_new_heap k s at size)
begun_sound k s at size may sound =
    let can : CanHold s.bytes at size = can_hold s.bytes at size may.region in
    let none = (unlapped at size s may.clear).0 in
    record {
      heaps = parts_more (store_with_new_heap k s at size).bytes s.heaps (empty k at size) (begun_old k s at size may sound)
          (begun_stands k s at size may.room sound.heaps none.0) (empty_heap s.bytes at size can);
      limits = limits_more k s at size may.room sound.limits;
      placed = others_more s.heaps (empty k at size) s.others sound.placed none.1;
      apart = sound.apart;
      few = sound.few;
      anchors = λ a is. (
        (sound.anchors a is).0,
        place_more s.heaps (empty k at size) a (sound.anchors a is).1 (false_from_ne_true (in_range at size a) (λ inside.
            both_ways (s.anchor a) (none_among s.anchor at size a (unlapped at size s may.clear).1 (range_low at size a inside) (range_high at size a inside)) is)),
      );
      headers = sound.headers;
    }

-- the record with a heap more
heaps_in-more : (b : Bytes) (rs : List Region) (r : Region) → is_heap_kind r.kind ≡ true → heaps_in b (rs ++ r ∷ []) ≡ heaps_in b rs ++ heap_in b r ∷ []
heaps_in-more b [] r heap = rw heap refl
heaps_in-more b (g ∷ rs) r heap =
    elim (cases_Bool (is_heap_kind g.kind)) [
      | inl is ↦ rw (is, heaps_in-more b rs r heap) refl
      | inr other ↦ rw (other, heaps_in-more b rs r heap) refl
    ]

others_in-more : (rs : List Region) (r : Region) → is_heap_kind r.kind ≡ true → others_in (rs ++ r ∷ []) ≡ others_in rs
others_in-more [] r heap = rw heap refl
others_in-more (g ∷ rs) r heap =
    elim (cases_Bool (is_heap_kind g.kind)) [
      | inl is ↦ rw (is, others_in-more rs r heap) refl
      | inr other ↦ rw (other, others_in-more rs r heap) refl
    ]

-- a range of any kind but an anchor is recorded at the end
pub recorded : (rs : List Region) (k : Kind) (at len : ℕ) → is_heap_kind k ≡ true
    → with_region rs (record { kind = k; at = at; len = len }) ≡ rs ++ record { kind = k; at = at; len = len } ∷ []
recorded rs kind.Heap at len heap = refl
recorded rs kind.Rma at len heap = refl
recorded rs kind.FlexStore at len heap = absurd (false≢true heap)
recorded rs kind.FlexHeader at len heap = absurd (false≢true heap)
recorded rs kind.Anchor at len heap = absurd (false≢true heap)
recorded rs kind.HeadWord at len heap = absurd (false≢true heap)
recorded rs kind.Image at len heap = absurd (false≢true heap)
recorded rs kind.SystemPage at len heap = absurd (false≢true heap)

pub store_begun : (m n : AddressMap) (k : Kind) (at size : ℕ) → is_heap_kind k ≡ true → MayBegin k (store_of m) at size → IsSound (store_of m)
    → regions n ≡ regions m ++ record { kind = k; at = at; len = size } ∷ []
    → bytes_of n ≡ record { mapped = is_mapped m; at = with_heap (byte_at m) at size [] }
    → AreSameFlex (class_of m) (class_of n) → store_of n ≡ store_with_new_heap k (store_of m) at size
unfolding store_of
store_begun m n k at size heap may sound records bytes flex =
    let c : Bytes = record { mapped = is_mapped m; at = with_heap (byte_at m) at size [] } in
    let r : Region = record { kind = k; at = at; len = size } in
    let old : heaps_in c (regions m) ≡ heaps_in (bytes_of m) (regions m) =
    heaps_in-spelled (bytes_of m) c (regions m) (begun_old k (store_of m) at size may sound) in
    let items : items_in (word_at c.at) at ≡ [] =
    items_in-heap c at size [] (empty_heap (bytes_of m) at size (can_hold (bytes_of m) at size may.region)) in
    let heaps : heaps_in c (regions m ++ r ∷ []) ≡ heaps_in (bytes_of m) (regions m) ++ empty k at size ∷ [] =
    heaps_in-more c (regions m) r heap ∙ (rw (old, items) refl) in
    let others : others_in (regions m ++ r ∷ []) ≡ others_in (regions m) = others_in-more (regions m) r heap in
    rw (bytes, records) (λ i. record {
      bytes = c;
      heaps = heaps i;
      others = others i;
      anchor = λ a. flex.anchors a i;
      header = λ a. flex.headers a i;
    })

-- the refusals in their order
pub begun_bad : (s : Store) (at size : ℕ) → is_heap_region s.bytes at size ≡ false → store_after_init s at size ≡ Err HeapBadRegion
unfolding store_after_init
begun_bad s at size bad = rw bad refl

-- what is looked at where a heap is to be made
pub init_unlooked : (s : Store) (at size : ℕ) → is_heap_region s.bytes at size ≡ false → init_probes s at size ≡ 0
unfolding init_probes
init_unlooked s at size bad = ap (λ (t : Bool). cond t (region_probes s at size at size) 0) bad

pub init_looked : (s : Store) (at size : ℕ) → is_heap_region s.bytes at size ≡ true → init_probes s at size ≡ region_probes s at size at size
unfolding init_probes
init_looked s at size good = ap (λ (t : Bool). cond t (region_probes s at size at size) 0) good

pub begun_over : (s : Store) (at size : ℕ) → is_heap_region s.bytes at size ≡ true → overlaps at size s ≡ true → store_after_init s at size ≡ Err HeapOverlaps
unfolding store_after_init
begun_over s at size good over = rw (good, over) refl

pub begun_full : (s : Store) (at size : ℕ) → is_heap_region s.bytes at size ≡ true → overlaps at size s ≡ false
    → leb 64 (guest_count s.heaps) ≡ true → store_after_init s at size ≡ Err HeapTableFull
unfolding store_after_init
begun_full s at size good clear full = rw (good, clear, full) refl

pub begun_done : (s : Store) (at size : ℕ) → MayBegin kind.Heap s at size → store_after_init s at size ≡ Ok (store_with_new_heap kind.Heap s at size, tt)
unfolding store_after_init
begun_done s at size may = rw (may.region, may.clear, may.room) refl

-- a store with no record is sound
pub sound_empty : (m : AddressMap) → regions m ≡ [] → ((a : ℕ) → class_of m a ≡ class.Plain) → IsSound (store_of m)
unfolding store_of
sound_empty m none plain = rw none (record {
  heaps = tt;
  limits = record { guests = omega arith; areas = omega arith; place = tt };
  placed = tt;
  apart = tt;
  few = omega arith;
  anchors = λ a is. absurd (false≢true (sym (ap is_anchor (plain a)) ∙ is));
  headers = λ a is. absurd (false≢true (sym (ap is_flex_header (plain a)) ∙ is));
})

unmet_flex : (at size : ℕ) (rs : List Region) (a : ℕ) → list_any (λ r. shares_address at size r.at r.len) rs ≡ false → at ≤ a → a < at + size
    → is_in_flex_store rs a ≡ true → ⊥
unmet_flex at size [] a none low high is = false≢true is
unmet_flex at size (r ∷ rs) a none low high is =
    let parts = or_parts (shares_address at size r.at r.len) (list_any (λ q. shares_address at size q.at q.len) rs) none in
    elim (cases_Bool (is_flex_store r.kind && in_range r.at r.len a)) [
      | inr other ↦ unmet_flex at size rs a parts.1 low high (rw other at is)
      | inl here ↦
          let inside : in_range r.at r.len a ≡ true = (and_parts (is_flex_store r.kind) (in_range r.at r.len a) here).1 in
          let from : r.at ≤ a = range_low r.at r.len a inside in
          let to : a < r.at + r.len = range_high r.at r.len a inside in
          both_ways (shares_address at size r.at r.len) parts.0
          (rw (lt-ltb 0 size (omega arith), lt-ltb 0 r.len (omega arith), lt-ltb at (r.at + r.len) (omega arith), lt-ltb r.at (at + size) (omega arith)) refl)
    ]

-- no word of the new heap's descriptor is an anchor's or a header's
pub begun_unflexed : (m : AddressMap) (k : Kind) (at size : ℕ) → MayBegin k (store_of m) at size → IsSound (store_of m)
    → (a : ℕ) → in_range at 16 (word_start a) ≡ true → IsUnflexed (class_of m a)
unfolding store_of
begun_unflexed m k at size may sound a inside =
    let can : CanHold (bytes_of m) at size = can_hold (bytes_of m) at size may.region in
    let low : at ≤ word_start a = range_low at 16 (word_start a) inside in
    let high : word_start a < at + 16 = range_high at 16 (word_start a) inside in
    let none = unlapped at size (store_of m) may.clear in
    let aligned = can.aligned in
    let most : 16 ≤ size = can.low in
    let above : at ≤ a = omega arith in
    let below : a < at + size = omega arith in
    record {
      anchor = none_among (store_of m).anchor at size a none.1 above below;
      header = false_from_ne_true (is_flex_header (class_of m a)) (λ is.
          unmet_flex at size (store_of m).others a none.0.1 above below (sound.headers a is));
    }

-- the marks with a heap more
pub classes_begun : (m n : AddressMap) (k : Kind) (at size : ℕ) → store_of n ≡ store_with_new_heap k (store_of m) at size
    → ((a : ℕ) → class_of n a ≡ cond (in_range at 16 (word_start a)) class.Heap (class_of m a)) → AreClasses m → AreClasses n
classes_begun m n k at size store change same =
    subst (λ (s : Store). AreBy (class_of n) s.heaps) (sym store)
    (marks_begun (class_of m) (class_of n) (store_of m).heaps (empty k at size) refl same change)
