-- What is written to the system pages after the private words is no part of what the stores mean.
use Rattle.profile.specs.MemoryMap.{error_block_start, module_area_start, system_start}
use Rattle.std.proofs.Common.{ℕ, true, false, ◌+◌, ◌==◌, ◌≡◌, ◌≤◌, ◌<◌, ◌∙◌, List, [], ◌∷◌, Option, Some, None, refl, sym, ap, subst, inl, inr, arith}
use Rattle.std.specs.Prelude.{if◌then◌else◌}
use Rattle.std.proofs.lemmas.Bool.{both_ways, cases_Bool, false_from_ne_true, false≢true, le-leb, lt-ltb}
use Rattle.address_map.proofs.Stores.{in_range-cases}
use Rattle.address_map.specs.Bytes.{Bytes, in_range, word_at}
use Rattle.address_map.specs.Items.{size_of}
use Rattle.address_map.specs.declared.region.Region.{Region}
use Rattle.os_heap_words.specs.lists.Heap.{HeapList, IsHeapIn}
use Rattle.os_heap.proofs.Found.{found_heap}
use Rattle.os_heap.specs.Store.{IsClearOfHeaps, IsSound, Store, find_heap, is_image}
use Rattle.dynamic_areas.proofs.SystemWrites.{system_clear}
use Rattle.dynamic_areas.specs.Ground.{IsRecorded, system_pages_range}
use Rattle.rma.proofs.FlexFrameLemmas.Writes.{system_keeps}
use Rattle.rma.specs.flex_frame.Keeping.{IsFlexKept, KeepsFlex}
use Rattle.flex_store.specs.Laws.{contents_in}
use Rattle.instances_table.specs.plans.Code.{private_of}
use Rattle.swi_dispatch_guest.specs.ModuleState.{private_word}
use Rattle.instances_table.proofs.RoomLemmas.{slots_once}
use Rattle.instances_table.specs.Changes.{is_slot_held}
use Rattle.law_machine.proofs.SlidingStoresLemmas.Called.{images_same, word_same}
use Rattle.law_machine.proofs.SlidingStoresLemmas.Places.{payloads_alike}
use Rattle.law_machine.proofs.SlidingStoresLemmas.Ranges.{recorded_apart}
use Rattle.law_machine.proofs.SlidingStoresLemmas.SlidLists.{map_same}
use Rattle.law_machine.proofs.SlidingStoresLemmas.SlidModuleStates.{slots_below}
use Rattle.law_machine.proofs.SlidingStoresLemmas.Spelled.{spelled_kept}
use Rattle.law_machine.specs.sliding_stores.Besides.{StaysBehind, stores_with_bytes}
use Rattle.law_machine.specs.flex.Numbered.{blocks_seen}
use Rattle.law_machine.specs.flex.Padding.{all_paddings}
use Rattle.law_machine.specs.sliding_stores.Meaning.{AreStores, Stores, area_blocks, area_images, area_names, area_places, payloads_in, contents_of, flex_padding, flex_seen, meaning_of, seen_byte_at, store_in}

-- a heap has no byte of the system pages
clear_of_heap : (at len start : ℕ) (hs : List HeapList) (h : HeapList) (a : ℕ) → IsClearOfHeaps at len hs → find_heap start hs ≡ Some h
    → in_range at len a ≡ true → in_range h.start h.end a ≡ false
clear_of_heap at len start [] h a clear found inside = absurd (let none : None ≡ Some h = found in cc)
clear_of_heap at len start (g ∷ hs) h a clear found inside = elim (cases_Bool (g.start == start)) [
  | inl here ↦
      let found' = rw here at found in
      let same : g ≡ h = cc in
      subst (λ (x : HeapList). in_range x.start x.end a ≡ false) same (clear.0 a inside)
  | inr other ↦ clear_of_heap at len start hs h a clear.1 (rw other at found) inside
]

module _ (x : Stores) (c : Bytes) (are : AreStores x)
    (outside : (a : ℕ) → in_range error_block_start 0xF00 a ≡ false → c.at a ≡ (store_in x).bytes.at a) where
  s : Store
  s = store_in x

  sound : IsSound s
  unfolding s
  sound = are.module_state.area_store.ground.sound

  beyond : (a : ℕ) → in_range system_start 0x3000 a ≡ false → c.at a ≡ s.bytes.at a
  unfolding s
  beyond a out = outside a (false_from_ne_true (in_range error_block_start 0xF00 a) (λ is.
      elim (in_range-cases error_block_start 0xF00 a) [
        | inr r ↦ both_ways (in_range error_block_start 0xF00 a) r.0 is
        | inl r ↦ both_ways (in_range system_start 0x3000 a) out
            (rw (le-leb system_start a (omega (arith, r.1)), lt-ltb a (system_start + 0x3000) (omega (arith, r.2))) refl)
      ]))

  kept : IsFlexKept s (record s { bytes = c })
  unfolding s sound KeepsFlex
  kept = (system_keeps s c sound are.module_state.system beyond are.flex.free).0

  contents_stay : contents_of (stores_with_bytes x c) ≡ contents_of x
  unfolding s kept
  contents_stay = ap contents_in (spelled_kept s (record s { bytes = c }) x.flex.extent are.flex.is kept)

  seen_stays : flex_seen (stores_with_bytes x c) ≡ flex_seen x
  unfolding s kept
  seen_stays = ap blocks_seen (spelled_kept s (record s { bytes = c }) x.flex.extent are.flex.is kept)

  padding_stays : flex_padding (stores_with_bytes x c) ≡ flex_padding x
  unfolding s kept
  padding_stays = ap all_paddings (spelled_kept s (record s { bytes = c }) x.flex.extent are.flex.is kept)

  heap_same : (h : HeapList) (a : ℕ) → find_heap module_area_start s.heaps ≡ Some h → h.start + 16 ≤ a → a < h.start + 16 + size_of h.items
      → c.at a ≡ s.bytes.at a
  unfolding s sound
  heap_same h a found low high =
      let heap : IsHeapIn s.bytes h.start h.end h.items = found_heap s.bytes module_area_start s.heaps h sound.heaps found in
      beyond a (false_from_ne_true (in_range system_start 0x3000 a) (λ is.
      both_ways (in_range h.start h.end a)
      (clear_of_heap system_start 0x3000 module_area_start s.heaps h a (system_clear s.heaps s.others sound.placed are.module_state.system) found is)
      (rw (le-leb h.start a (omega (arith, low)), lt-ltb a (h.start + h.end) (omega (arith, high, heap.inside))) refl)))

  blocks_by : (o : Option HeapList) → find_heap module_area_start s.heaps ≡ o → payloads_in (record s { bytes = c }) o ≡ payloads_in s o
  unfolding s sound
  blocks_by None found = refl
  blocks_by (Some h) found =
      let heap : IsHeapIn s.bytes h.start h.end h.items = found_heap s.bytes module_area_start s.heaps h sound.heaps found in
      payloads_alike (seen_byte_at s.anchor s.bytes.at) (seen_byte_at s.anchor c.at) (h.start + 16) h.items heap.totals
      (λ a low high. ap (λ (b : ℕ). if s.anchor a then None else Some b) (heap_same h a found low high))

  blocks_stay : area_blocks (stores_with_bytes x c).module_state ≡ area_blocks x.module_state
  unfolding s
  blocks_stay = blocks_by (find_heap module_area_start s.heaps) refl

  image_byte : (r : Region) (a : ℕ) → is_image r.kind ≡ true → IsRecorded r s.others → in_range r.at r.len a ≡ true → c.at a ≡ s.bytes.at a
  unfolding s sound
  image_byte r a image recorded inside =
      let differ : r ≡ system_pages_range → ⊥ = λ same. false≢true (sym (ap (λ (q : Region). is_image q.kind) same) ∙ image) in
      beyond a (recorded_apart r system_pages_range s.others differ sound.apart recorded are.module_state.system a inside)

  images_stay : area_images (stores_with_bytes x c).module_state ≡ area_images x.module_state
  unfolding s
  images_stay = images_same s.bytes.at c.at s.others (λ r recorded image.
      map_same s.bytes.at c.at r.at r.at r.len (λ k less.
      image_byte r (r.at + k) image recorded
      (rw (le-leb r.at (r.at + k) (omega arith), lt-ltb (r.at + k) (r.at + r.len) (omega (arith, less))) refl)))

  private_stays : (slot : ℕ) → slot < 64 → word_at c.at (private_of slot) ≡ word_at s.bytes.at (private_of slot)
  unfolding s
  private_stays slot few = word_same s.bytes.at c.at (private_of slot) (λ k less.
      outside (private_of slot + k) (false_from_ne_true (in_range error_block_start 0xF00 (private_of slot + k)) (λ is.
      elim (in_range-cases error_block_start 0xF00 (private_of slot + k)) [
        | inr r ↦ both_ways (in_range error_block_start 0xF00 (private_of slot + k)) r.0 is
        | inl r ↦ absurd (omega (arith, r.1, few, less))
      ])))

  few_slots : (slot : ℕ) → is_slot_held slot x.module_state.modules ≡ true → slot < 64
  few_slots slot there = slots_below x.module_state.modules are.modules slot (omega (arith, slots_once x.module_state.modules are.modules slot there))

  names_stay : (slot : ℕ) → area_names (stores_with_bytes x c).module_state slot ≡ area_names x.module_state slot
  unfolding s
  names_stay slot = elim (cases_Bool (is_slot_held slot x.module_state.modules)) [
    | inr none ↦ rw none refl
    | inl there ↦ rw (there, private_stays slot (few_slots slot there)) refl
  ]

  places_stay : area_places (contents_of (stores_with_bytes x c)) (stores_with_bytes x c).module_state ≡ area_places (contents_of x) x.module_state
  unfolding contents_stay
  places_stay = ap (λ (f : ℕ → Option (List ℕ)). area_places f x.module_state) contents_stay

  stays_behind : meaning_of (stores_with_bytes x c) ≡ meaning_of x
  unfolding meaning_of s contents_stay places_stay seen_stays padding_stays
  stays_behind = λ i. record {
    flex = seen_stays i;
    padding = padding_stays i;
    places = places_stay i;
    blocks = blocks_stay i;
    images = images_stay i;
    names = λ slot. names_stay slot i;
  }

  words_stay : (slot : ℕ) → is_slot_held slot x.module_state.modules ≡ true
      → private_word (stores_with_bytes x c).module_state.area_store slot ≡ private_word x.module_state.area_store slot
  unfolding s
  words_stay slot there = private_stays slot (few_slots slot there)

pub behind : StaysBehind
behind x c are outside = record { meaning = stays_behind x c are outside; words = words_stay x c are outside }
