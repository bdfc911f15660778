-- A flex call leaves the module area, the images and the private words: no byte of these is the
-- store's, and anchors lie in blocks alone.
use Rattle.profile.specs.MemoryMap.{module_area_start, system_start}
use Rattle.std.proofs.Common.{ℕ, Bool, true, false, not, nat_eq, ◌-◌, ◌&&◌, ◌||◌, ◌⊎◌, ◌+◌, ◌%◌, ◌≡◌, ◌≤◌, ◌<◌, ◌∙◌, List, [], ◌∷◌, replicate, Option, Some, None, is_some, option_map, refl, sym, ap, subst, inl, inr, arith}
use Rattle.std.specs.Prelude.{if◌then◌else◌}
use Rattle.std.proofs.lemmas.Bool.{both_ways, cases_Bool, cases_lt, eq-eqb, false_from_ne_true, le-leb, lt-ltb, ne_eqb, or_left, or_right}
use Rattle.address_map.specs.Bytes.{bytes_between, in_range, word_at}
use Rattle.address_map.specs.Items.{size_of}
use Rattle.address_map.specs.declared.item.Item.{Item}
use Rattle.address_map.specs.declared.item.Item.TheVariants.{Free, Live}
use Rattle.os_heap_words.proofs.ListsLemmas.Reading.{total_facts}
use Rattle.address_map.specs.declared.region.Region.{Region}
use Rattle.os_heap_words.specs.lists.Heap.{AreTotals, HeapList, IsHeapIn}
use Rattle.os_heap.proofs.Anchored.{header_outside}
use Rattle.os_heap.proofs.Found.{found_heap}
use Rattle.os_heap.specs.Store.{IsSound, Store, find_heap, is_flex_store, is_image, is_in_flex_store}
use Rattle.dynamic_areas.specs.Ground.{IsRecorded, system_pages_range}
use Rattle.rma.specs.flex_frame.Keeping.{AreAnchorsFree, is_in_other_record}
use Rattle.law_machine.specs.flex.Laws.{outside_of}
use Rattle.flex_store.specs.Runs.{Alloc, Extend, FlexCall, MidExtend, Release}
use Rattle.instances_table.specs.plans.Code.{private_of}
use Rattle.swi_dispatch_guest.specs.ModuleState.{ModuleState, private_word}
use Rattle.instances_table.proofs.RoomLemmas.{slots_once}
use Rattle.instances_table.specs.Changes.{is_slot_held}
use Rattle.instances_table.specs.Modules.{AreModules}
use Rattle.law_machine.proofs.SlidingStoresLemmas.CalledSeen.{anchor_word, seen_left, word_unseen}
use Rattle.law_machine.proofs.SlidingStoresLemmas.Places.{out_of_range, payloads_alike, payloads_seen}
use Rattle.law_machine.proofs.SlidingStoresLemmas.Ranges.{outside_store}
use Rattle.law_machine.proofs.SlidingStoresLemmas.SlidLists.{map_same}
use Rattle.law_machine.proofs.SlidingStoresLemmas.SlidModuleStates.{slots_below}
use Rattle.law_machine.specs.sliding_stores.FlexStore.{IsSpelledAt}
use Rattle.law_machine.specs.sliding_stores.Meaning.{BlockNumber, PayloadPlace, Stores, Value, area_blocks, area_images, area_names, area_places, area_word, payloads_in, contents_of, images_in, meaning_of, block_number_in, one_further, place_among, payload_place_in, seen_byte_at, store_in, word_said}
use Rattle.law_machine.specs.sliding_stores.Rules.{AreAnchorsLeft, IsAnchored, IsAnchoredAlike, IsAnchorGone, with_place_seen}
use Rattle.swi_dispatch_guest.proofs.SwiDispatchPlansKept.{no_store}

said_value : (word value : ℕ) (o : Option ℕ) → word_said word o ≡ Value value → word ≡ value
said_value word value None is = cc
said_value word value (Some k) is = absurd (let no : BlockNumber k ≡ Value value = is in cc)

-- a private word that names no block
pub words_said : (w : ModuleState) (slot word : ℕ) → area_names w slot ≡ Some (Value word) → private_word w.area_store slot ≡ word
words_said w slot word says = elim (cases_Bool (is_slot_held slot w.modules)) [
  | inr none ↦ absurd (let no : None ≡ Some (Value word) = rw none at says in cc)
  | inl there ↦
      let from : ℕ = private_word w.area_store slot in
      let said : Some (area_word w from) ≡ Some (Value word) = rw there at says in
      said_value from word (block_number_in from (find_heap module_area_start w.area_store.store.heaps)) (cc)
]

-- images whose bytes are what they were
pub images_same : (f g : ℕ → ℕ) (rs : List Region) → ((r : Region) → IsRecorded r rs → is_image r.kind ≡ true → bytes_between g r.at r.len ≡ bytes_between f r.at r.len)
    → images_in g rs ≡ images_in f rs
images_same f g [] same = refl
images_same f g (r ∷ rs) same =
    let rest = images_same f g rs (λ q later. same q (inr later)) in
    elim (cases_Bool (is_image r.kind)) [
      | inl image ↦ rw (image, same r (inl refl) image, rest) refl
      | inr other ↦ rw other rest
    ]

in_record : (rs : List Region) (r : Region) (a : ℕ) → is_flex_store r.kind ≡ false → IsRecorded r rs → in_range r.at r.len a ≡ true → is_in_other_record rs a ≡ true
in_record [] r a other recorded inside = absurd recorded
in_record (q ∷ rs) r a other recorded inside = elim recorded [
  | inl same ↦ or_left (not (is_flex_store q.kind) && in_range q.at q.len a) (is_in_other_record rs a)
      (ap (λ (x : Region). not (is_flex_store x.kind) && in_range x.at x.len a) same ∙ rw (other, inside) refl)
  | inr later ↦ or_right (not (is_flex_store q.kind) && in_range q.at q.len a) (is_in_other_record rs a) (in_record rs r a other later inside)
]

unanchored : (s : Store) (r : Region) (a : ℕ) → is_flex_store r.kind ≡ false → AreAnchorsFree s → IsRecorded r s.others → in_range r.at r.len a ≡ true → s.anchor a ≡ false
unfolding AreAnchorsFree
unanchored s r a other free recorded inside = false_from_ne_true (s.anchor a) (λ is.
    both_ways (is_in_other_record s.others a) (free a is) (in_record s.others r a other recorded inside))

pub word_same : (f g : ℕ → ℕ) (at : ℕ) → ((k : ℕ) → k < 4 → g (at + k) ≡ f (at + k)) → word_at g at ≡ word_at f at
word_same f g at same =
    let zero_at : at + 0 ≡ at = omega arith in
    let first : g at ≡ f at = ap g (sym zero_at) ∙ same 0 (omega arith) ∙ ap f zero_at in
    rw (first, same 1 (omega arith), same 2 (omega arith), same 3 (omega arith)) refl

-- an address beside the items is in none of them
unplaced : (a at : ℕ) (xs : List Item) → AreTotals xs → (a < at) ⊎ (at + size_of xs ≤ a) → place_among a at xs ≡ None
unplaced a at [] totals out = refl
unplaced a at (Free t ∷ xs) totals out =
    let least = total_facts t totals.0 in
    unplaced a (at + t) xs totals.1 (elim out [ inl low ↦ inl (omega (arith, low)) | inr past ↦ inr (omega (arith, past)) ])
unplaced a at (Live t ∷ xs) totals out =
    let least = total_facts t totals.0 in
    let none : in_range (at + 4) (t - 4) a ≡ false =
    out_of_range (at + 4) (t - 4) a (elim out [ inl low ↦ inl (omega (arith, low)) | inr past ↦ inr (omega (arith, past, least.0)) ]) in
    rw none (ap (option_map one_further) (unplaced a (at + t) xs totals.1 (elim out [ inl low ↦ inl (omega (arith, low)) | inr past ↦ inr (omega (arith, past)) ])))

-- a call was done on a flex store, and all that is not the store's stayed
pub record IsCalledOn (call : FlexCall) (x y : Stores) : Type 0 where
  pub sound : IsSound (store_in x)
  pub system : IsRecorded system_pages_range (store_in x).others
  pub modules : AreModules x.module_state.modules
  pub old : IsSpelledAt (store_in x) x.flex.extent
  pub old_free : AreAnchorsFree (store_in x)
  pub new_free : AreAnchorsFree (store_in y)
  pub others : (store_in y).others ≡ (store_in x).others
  pub heaps : (store_in y).heaps ≡ (store_in x).heaps
  pub table : y.module_state.modules ≡ x.module_state.modules
  pub aligned : (outside_of call).anchor % 4 ≡ 0
  pub had : is_some (contents_of x (outside_of call).anchor) ≡ (outside_of call).had
  pub stays : (a : ℕ) → is_in_flex_store (store_in x).others a ≡ false → (store_in x).anchor a ≡ false → (store_in y).anchor a ≡ false
      → (store_in y).bytes.at a ≡ (store_in x).bytes.at a
  pub seen : (a : ℕ) → is_in_flex_store (store_in x).others a ≡ false
      → seen_byte_at (store_in y).anchor (store_in y).bytes.at a ≡ seen_left call a (seen_byte_at (store_in x).anchor (store_in x).bytes.at a)
  pub marks : (a : ℕ) → is_in_flex_store (store_in x).others a ≡ false
      → is_some (contents_of y a) ≡ (if nat_eq (a % 4) 0 then (outside_of call).mark a (is_some (contents_of x a)) else is_some (contents_of x a))

module _ (call : FlexCall) (x y : Stores) (c : IsCalledOn call x y) where
  s : Store
  s = store_in x

  t : Store
  t = store_in y

  byte_left : (a : ℕ) → is_in_flex_store s.others a ≡ false → s.anchor a ≡ false → t.anchor a ≡ false → t.bytes.at a ≡ s.bytes.at a
  unfolding s t
  byte_left a outside none_old none_new = c.stays a outside none_old none_new

  -- a byte of a recorded range that is not the store's
  record_left : (r : Region) (a : ℕ) → is_flex_store r.kind ≡ false → IsRecorded r s.others → in_range r.at r.len a ≡ true → t.bytes.at a ≡ s.bytes.at a
  unfolding s t
  record_left r a other recorded inside =
      byte_left a (outside_store r s.others a other c.sound.apart recorded inside)
      (unanchored s r a other c.old_free recorded inside)
      (unanchored t r a other c.new_free (subst (IsRecorded r) (sym c.others) recorded) inside)

  pub images_left : area_images y.module_state ≡ area_images x.module_state
  unfolding s t
  images_left =
      ap (images_in t.bytes.at) c.others
      ∙ images_same s.bytes.at t.bytes.at s.others (λ r recorded image.
      map_same s.bytes.at t.bytes.at r.at r.at r.len (λ k less.
      record_left r (r.at + k) (no_store r.kind image) recorded (rw (le-leb r.at (r.at + k) (omega arith), lt-ltb (r.at + k) (r.at + r.len) (omega (arith, less))) refl)))

  private_left : (slot : ℕ) → slot < 64 → word_at t.bytes.at (private_of slot) ≡ word_at s.bytes.at (private_of slot)
  unfolding s t
  private_left slot few =
      word_same s.bytes.at t.bytes.at (private_of slot) (λ k less.
      record_left system_pages_range (private_of slot + k) refl c.system
      (rw (le-leb system_start (private_of slot + k) (omega arith), lt-ltb (private_of slot + k) (system_start + 0x3000) (omega (arith, few, less))) refl))

  few_slots : (slot : ℕ) → is_slot_held slot x.module_state.modules ≡ true → slot < 64
  few_slots slot there = slots_below x.module_state.modules c.modules slot (omega (arith, slots_once x.module_state.modules c.modules slot there))

  pub names_left : (slot : ℕ) → area_names y.module_state slot ≡ area_names x.module_state slot
  unfolding s t
  names_left slot = elim (cases_Bool (is_slot_held slot x.module_state.modules)) [
    | inr none ↦ rw (c.table, none) refl
    | inl there ↦ rw (c.table, there, c.heaps, private_left slot (few_slots slot there)) refl
  ]

  pub words_left : (slot word : ℕ) → area_names x.module_state slot ≡ Some (Value word) → private_word y.module_state.area_store slot ≡ word
  unfolding s t
  words_left slot word says = elim (cases_Bool (is_slot_held slot x.module_state.modules)) [
    | inr none ↦ absurd (let no : None ≡ Some (Value word) = rw none at says in cc)
    | inl there ↦
        let from : ℕ = private_word x.module_state.area_store slot in
        let said : Some (area_word x.module_state from) ≡ Some (Value word) = rw there at says in
        private_left slot (few_slots slot there) ∙ said_value from word (block_number_in from (find_heap module_area_start s.heaps)) (cc)
  ]

  -- what is seen of a byte of the module area
  heap_in : (h : HeapList) → find_heap module_area_start s.heaps ≡ Some h → IsHeapIn s.bytes h.start h.end h.items
  unfolding s t
  heap_in h found = found_heap s.bytes module_area_start s.heaps h c.sound.heaps found

  area_seen : (h : HeapList) (a : ℕ) → find_heap module_area_start s.heaps ≡ Some h → h.start + 16 ≤ a → a < h.start + 16 + size_of h.items
      → seen_byte_at t.anchor t.bytes.at a ≡ seen_left call a (seen_byte_at s.anchor s.bytes.at a)
  unfolding s t
  area_seen h a found low high =
      let heap : IsHeapIn s.bytes h.start h.end h.items = heap_in h found in
      let outside : is_in_flex_store s.others a ≡ false = false_from_ne_true (is_in_flex_store s.others a) (λ store.
      both_ways (in_range h.start h.end a) (header_outside module_area_start s.heaps s.others h a c.sound.placed found store)
      (rw (le-leb h.start a (omega (arith, low)), lt-ltb a (h.start + h.end) (omega (arith, high, heap.inside))) refl)) in
      c.seen a outside

  -- the blocks of the module area, where a word of theirs is seen otherwise
  blocks_by : (byte : Option ℕ) (anchor : ℕ) (o : Option HeapList) → anchor % 4 ≡ 0 → find_heap module_area_start s.heaps ≡ o
      → ((a : ℕ) (old : Option ℕ) → seen_left call a old ≡ (if in_range anchor 4 a then byte else old))
      → payloads_in t o ≡ with_place_seen byte (payload_place_in anchor o) (payloads_in s o)
  unfolding s t
  blocks_by byte anchor None aligned found by = refl
  blocks_by byte anchor (Some h) aligned found by =
      let heap : IsHeapIn s.bytes h.start h.end h.items = heap_in h found in
      payloads_seen (seen_byte_at s.anchor s.bytes.at) (seen_byte_at t.anchor t.bytes.at) byte anchor (h.start + 16) h.items aligned (omega (arith, heap.aligned)) heap.totals
      (λ a low high. area_seen h a found low high ∙ by a (seen_byte_at s.anchor s.bytes.at a))

  blocks_alike : (o : Option HeapList) → find_heap module_area_start s.heaps ≡ o → ((a : ℕ) (old : Option ℕ) → seen_left call a old ≡ old)
      → payloads_in t o ≡ payloads_in s o
  unfolding s t
  blocks_alike None found by = refl
  blocks_alike (Some h) found by =
      let heap : IsHeapIn s.bytes h.start h.end h.items = heap_in h found in
      payloads_alike (seen_byte_at s.anchor s.bytes.at) (seen_byte_at t.anchor t.bytes.at) (h.start + 16) h.items heap.totals
      (λ a low high. area_seen h a found low high ∙ by a (seen_byte_at s.anchor s.bytes.at a))

  -- the bytes of an anchor are not seen
  blocks_unseen : (anchor : ℕ) (o : Option HeapList) → is_some (contents_of x anchor) ≡ true → find_heap module_area_start s.heaps ≡ o
      → payloads_in s o ≡ with_place_seen None (payload_place_in anchor o) (payloads_in s o)
  unfolding s t
  blocks_unseen anchor None some found = refl
  blocks_unseen anchor (Some h) some found =
      let heap : IsHeapIn s.bytes h.start h.end h.items = heap_in h found in
      payloads_seen (seen_byte_at s.anchor s.bytes.at) (seen_byte_at s.anchor s.bytes.at) None anchor (h.start + 16) h.items
      (anchor_word s x.flex.extent anchor c.old some).0 (omega (arith, heap.aligned)) heap.totals
      (λ a low high. word_unseen s x.flex.extent anchor a c.old some)

  -- the same of the two module states
  blocks_are : area_blocks y.module_state ≡ payloads_in t (find_heap module_area_start s.heaps)
  unfolding s t
  blocks_are = ap (λ (hs : List HeapList). payloads_in t (find_heap module_area_start hs)) c.heaps

  places_are : (a : ℕ) → area_places (contents_of y) y.module_state a ≡ area_places (contents_of y) x.module_state a
  unfolding s t
  places_are a = ap (λ (hs : List HeapList). let o : Option PayloadPlace = if is_some (contents_of y a) then payload_place_in a (find_heap module_area_start hs) else None in o) c.heaps

  place_by : (a : ℕ) (b : Bool) → is_some (contents_of y a) ≡ b
      → area_places (contents_of y) y.module_state a ≡ (if b then payload_place_in a (find_heap module_area_start s.heaps) else None)
  unfolding s t places_are
  place_by a b is = places_are a ∙ ap (λ (q : Bool). let o : Option PayloadPlace = if q then payload_place_in a (find_heap module_area_start s.heaps) else None in o) is

  -- an anchor in the flex store lies in no block of the module area
  in_store_none : (a : ℕ) (o : Option HeapList) → find_heap module_area_start s.heaps ≡ o → is_in_flex_store s.others a ≡ true → payload_place_in a o ≡ None
  unfolding s
  in_store_none a None found inside = refl
  in_store_none a (Some h) found inside =
      let heap : IsHeapIn s.bytes h.start h.end h.items = heap_in h found in
      let out : in_range h.start h.end a ≡ false = header_outside module_area_start s.heaps s.others h a c.sound.placed found inside in
      unplaced a (h.start + 16) h.items heap.totals (elim (cases_lt a (h.start + 16)) [
        | inl low ↦ inl low
        | inr up ↦ elim (cases_lt a (h.start + 16 + size_of h.items)) [
          | inr past ↦ inr past
          | inl below ↦ absurd (both_ways (in_range h.start h.end a) out
              (rw (le-leb h.start a (omega (arith, up)), lt-ltb a (h.start + h.end) (omega (arith, below, heap.inside))) refl))
        ]
      ])

  either_none : (b : Bool) (o : Option PayloadPlace) → o ≡ None → (if b then o else None) ≡ None
  either_none true o none = none
  either_none false o none = refl

  place_old : (a : ℕ) → is_in_flex_store s.others a ≡ true → area_places (contents_of x) x.module_state a ≡ None
  unfolding s
  place_old a inside = either_none (is_some (contents_of x a)) (payload_place_in a (find_heap module_area_start s.heaps)) (in_store_none a (find_heap module_area_start s.heaps) refl inside)

  place_new : (a : ℕ) → is_in_flex_store s.others a ≡ true → area_places (contents_of y) y.module_state a ≡ None
  unfolding s
  place_new a inside = places_are a ∙ either_none (is_some (contents_of y a)) (payload_place_in a (find_heap module_area_start s.heaps)) (in_store_none a (find_heap module_area_start s.heaps) refl inside)

  marked_by : (b : Bool) (p q : Bool) → p ≡ q → (if b then p else q) ≡ q
  marked_by true p q same = same
  marked_by false p q same = refl

  place_stays : (a : ℕ) → (outside_of call).mark a (is_some (contents_of x a)) ≡ is_some (contents_of x a)
      → area_places (contents_of y) y.module_state a ≡ area_places (contents_of x) x.module_state a
  unfolding s
  place_stays a same = elim (cases_Bool (is_in_flex_store s.others a)) [
    | inl inside ↦ place_new a inside ∙ sym (place_old a inside)
    | inr outside ↦ place_by a (is_some (contents_of x a)) (c.marks a outside ∙ marked_by (nat_eq (a % 4) 0) ((outside_of call).mark a (is_some (contents_of x a))) (is_some (contents_of x a)) same)
  ]

  -- the place of the call's own anchor
  own_mark : (b : Bool) → is_in_flex_store s.others (outside_of call).anchor ≡ false → (outside_of call).mark (outside_of call).anchor (is_some (contents_of x (outside_of call).anchor)) ≡ b
      → is_some (contents_of y (outside_of call).anchor) ≡ b
  unfolding s
  own_mark b outside is =
      c.marks (outside_of call).anchor outside
      ∙ (ap (λ (q : Bool). if q then (outside_of call).mark (outside_of call).anchor (is_some (contents_of x (outside_of call).anchor)) else is_some (contents_of x (outside_of call).anchor))
      (eq-eqb ((outside_of call).anchor % 4) 0 c.aligned) ∙ is)

-- the anchors that each call leaves, and the blocks that they lie in
pub anchors_left : (call : FlexCall) (x y : Stores) → IsCalledOn call x y → AreAnchorsLeft call (meaning_of x) (meaning_of y)
unfolding meaning_of s
anchors_left (Alloc anchor size) x y c =
    let h : Option HeapList = find_heap module_area_start (store_in x).heaps in
    let call : FlexCall = Alloc anchor size in
    let now : area_places (contents_of y) y.module_state anchor ≡ payload_place_in anchor h = elim (cases_Bool (is_in_flex_store (store_in x).others anchor)) [
      | inl inside ↦ place_new call x y c anchor inside ∙ sym (in_store_none call x y c anchor h refl inside)
      | inr outside ↦ place_by call x y c anchor true (own_mark call x y c true outside (ap (λ (q : Bool). q || is_some (contents_of x anchor)) (eq-eqb anchor anchor refl)))
    ] in
    record {
      none = ap (λ (q : Bool). let p : Option PayloadPlace = if q then payload_place_in anchor h else None in p) c.had;
      others = λ a apart. place_stays call x y c a (ap (λ (q : Bool). q || is_some (contents_of x a)) (ne_eqb a anchor apart));
      blocks = blocks_are call x y c ∙ blocks_by call x y c None anchor h c.aligned refl (λ a old. refl)
          ∙ ap (λ (p : Option PayloadPlace). with_place_seen None p (area_blocks x.module_state)) (sym now);
    }
anchors_left (Release anchor) x y c =
    let h : Option HeapList = find_heap module_area_start (store_in x).heaps in
    let call : FlexCall = Release anchor in
    let was : area_places (contents_of x) x.module_state anchor ≡ payload_place_in anchor h = ap (λ (q : Bool). let o : Option PayloadPlace = if q then payload_place_in anchor h else None in o) c.had in
    record {
      none = elim (cases_Bool (is_in_flex_store (store_in x).others anchor)) [
        | inl inside ↦ place_new call x y c anchor inside
        | inr outside ↦ place_by call x y c anchor false (own_mark call x y c false outside (ap (λ (q : Bool). not q && is_some (contents_of x anchor)) (eq-eqb anchor anchor refl)))
      ];
      others = λ a apart. place_stays call x y c a (ap (λ (q : Bool). not q && is_some (contents_of x a)) (ne_eqb a anchor apart));
      unseen = blocks_unseen call x y c anchor h c.had refl ∙ ap (λ (p : Option PayloadPlace). with_place_seen None p (area_blocks x.module_state)) (sym was);
      blocks = blocks_are call x y c ∙ blocks_by call x y c (Some 0) anchor h c.aligned refl (λ a old. refl)
          ∙ ap (λ (p : Option PayloadPlace). with_place_seen (Some 0) p (area_blocks x.module_state)) (sym was);
    }
anchors_left (Extend anchor size) x y c = record {
  places = λ a. place_stays (Extend anchor size) x y c a refl;
  blocks = blocks_are (Extend anchor size) x y c ∙ blocks_alike (Extend anchor size) x y c (find_heap module_area_start (store_in x).heaps) refl (λ a old. refl);
}
anchors_left (MidExtend anchor at by) x y c = record {
  places = λ a. place_stays (MidExtend anchor at by) x y c a refl;
  blocks = blocks_are (MidExtend anchor at by) x y c ∙ blocks_alike (MidExtend anchor at by) x y c (find_heap module_area_start (store_in x).heaps) refl (λ a old. refl);
}
