-- A tidied module area keeps what it means: blocks, images, and the blocks that private words name.
use Rattle.profile.specs.MemoryMap.{module_area_start, system_start}
use Rattle.std.proofs.Common.{ℕ, Bool, true, false, ◌+◌, ◌-◌, ◌==◌, ◌||◌, ◌≡◌, ◌≤◌, ◌<◌, ◌⊎◌, ◌∙◌, List, [], ◌∷◌, map, Option, Some, None, is_some, refl, sym, ap, subst, inl, inr, arith}
use Rattle.std.proofs.lemmas.Bool.{cases_Bool, both_ways, eq-eqb, false≢true, le-leb, lt-ltb}
use Rattle.std.proofs.lemmas.Bool.Decides.{nat_tests}
use Rattle.address_map.proofs.Anchors.{none_among}
use Rattle.address_map.proofs.Stores.{in_range-cases}
use Rattle.address_map.specs.Bytes.{bytes_between, in_range, with_word_at}
use Rattle.address_map.specs.Moves.{moved_place, moved_regions, moved_to}
use Rattle.address_map.specs.Records.{anchor_among}
use Rattle.address_map.specs.declared.follow.BlockMove.{BlockMove}
use Rattle.address_map.specs.declared.region.Region.{Region}
use Rattle.os_heap_words.specs.lists.Heap.{HeapList, IsHeapIn}
use Rattle.os_heap.proofs.Anchored.{place_in as block_of_anchor}
use Rattle.os_heap.proofs.Found.{found_heap}
use Rattle.os_heap.proofs.Stores.{clear_of-found, placed_either}
use Rattle.os_heap.specs.Calls.{holds_anchor}
use Rattle.os_heap.specs.Forgetting.{holds_heap}
use Rattle.os_heap.specs.Store.{ArePlaced, IsClearOfHeaps, IsImageBlock, IsImageIn, Store, find_heap, is_image}
use Rattle.rma.proofs.HeapSlideLemmas.Places.{low_still, past_still, some_low}
use Rattle.rma.proofs.HeapSlideLemmas.Records.{image_place, moves_in, still_place}
use Rattle.rma.specs.heap_slide.Slide.{HoldNoAnchor, HoldNoHeap, is_listed, with_slid}
use Rattle.dynamic_areas.specs.Ground.{AreaStore, IsRecorded, system_pages_range}
use Rattle.rma.specs.Calls.{with_store}
use Rattle.instances_table.specs.plans.Code.{private_of}
use Rattle.instances_table.proofs.RoomLemmas.{below_64, slots_counted}
use Rattle.instances_table.specs.Changes.{is_slot_held}
use Rattle.instances_table.specs.Modules.{AreModules, Module, has_instance, number_passing, slot_count, slots_of}
use Rattle.swi_dispatch_guest.specs.Sound.{AreSolid, IsSolid, IsModuleState}
use Rattle.swi_dispatch_guest.specs.ModuleState.{ModuleState, private_word, with_private}
use Rattle.swi_dispatch_guest.proofs.AreaLemmas.{image_found}
use Rattle.swi_dispatch_guest.proofs.Choosing.{IsChosen, chosen}
use Rattle.swi_dispatch_guest.proofs.LawLemmas.{heap_after, keeps_moved, slid_where}
use Rattle.swi_dispatch_guest.proofs.NameLemmas.{names_moved, slid_outside}
use Rattle.swi_dispatch_guest.proofs.Tidying.{HasHeap, heap_there, holds_none as movable_empty, payload_empty}
use Rattle.swi_dispatch_guest.specs.Laws.{AreBytes}
use Rattle.swi_dispatch_guest.specs.Movable.{can_move, movable_blocks}
use Rattle.swi_dispatch_guest.specs.Slid.{image_moved, private_words_of, words_moved, module_state_moved, module_state_slid}
use Rattle.law_machine.proofs.SlidingStoresLemmas.Ranges.{recorded_apart}
use Rattle.law_machine.proofs.SlidingStoresLemmas.SlidLists.{CanSlide, map_same, number_slid, payloads_slid, place_slid, unnamed_still}
use Rattle.law_machine.specs.sliding_stores.Meaning.{BlockNumber, PrivateWord, Value, area_blocks, area_images, area_names, block_number, images_in, payload_place_in, word_said}
use Rattle.law_machine.specs.sliding_stores.Rules.{IsStillNamed}

-- private words are written in the system pages alone
words_anchor : (moves : List BlockMove) (slots : List ℕ) (e : AreaStore) → (words_moved moves slots e).store.anchor ≡ e.store.anchor
words_anchor moves [] e = refl
words_anchor moves (slot ∷ slots) e = words_anchor moves slots (with_private e slot (moved_to moves (private_word e slot)))

words_others : (moves : List BlockMove) (slots : List ℕ) (e : AreaStore) → (words_moved moves slots e).store.others ≡ e.store.others
words_others moves [] e = refl
words_others moves (slot ∷ slots) e = words_others moves slots (with_private e slot (moved_to moves (private_word e slot)))

pub word_outside : (bytes : ℕ → ℕ) (slot value a : ℕ) → slot < 64 → (a < 0x01C02000) ⊎ (0x01C03000 ≤ a) → with_word_at bytes (private_of slot) value a ≡ bytes a
word_outside bytes slot value a few out = elim out [ inl low ↦ grind (arith, nat_tests) | inr high ↦ grind (arith, nat_tests) ]

words_outside : (moves : List BlockMove) (slots : List ℕ) (e : AreaStore) (a : ℕ) → ((s : ℕ) → 1 ≤ number_passing (λ x. x == s) slots → s < 64)
    → (a < 0x01C02000) ⊎ (0x01C03000 ≤ a) → (words_moved moves slots e).store.bytes.at a ≡ e.store.bytes.at a
words_outside moves [] e a below out = refl
words_outside moves (slot ∷ slots) e a below out =
    let value : ℕ = moved_to moves (private_word e slot) in
    let few : slot < 64 = below slot (rw (eq-eqb slot slot refl) (omega arith)) in
    words_outside moves slots (with_private e slot value) a (λ s some. below s (omega (arith, some))) out
    ∙ word_outside e.store.bytes.at slot value a few out

pub slots_below : (modules : List Module) → AreModules modules → (s : ℕ) → 1 ≤ number_passing (λ x. x == s) (slots_of modules) → s < 64
slots_below modules are s some = below_64 s (slot_count s modules) (omega (arith, some, slots_counted s modules)) (are.slots s)

-- each recorded range is in a heap or beside all, and no image is empty
pub placed_of : (hs : List HeapList) (rs : List Region) (r : Region) → ArePlaced hs rs → IsRecorded r rs → IsClearOfHeaps r.at r.len hs ⊎ IsImageIn hs r
placed_of hs [] r placed recorded = absurd recorded
placed_of hs (q ∷ rs) r placed recorded = elim recorded [
  | inl same ↦ subst (λ (x : Region). IsClearOfHeaps x.at x.len hs ⊎ IsImageIn hs x) same (placed_either hs q placed.0)
  | inr later ↦ placed_of hs rs r placed.1 later
]

solid_of : (rs : List Region) (r : Region) → AreSolid rs → IsRecorded r rs → is_image r.kind ≡ true → IsSolid r
solid_of [] r solid recorded = absurd recorded
solid_of (q ∷ rs) r solid recorded = elim recorded [
  | inl same ↦ subst (λ (x : Region). is_image x.kind ≡ true → IsSolid x) same solid.0
  | inr later ↦ solid_of rs r solid.1 later
]

-- images that hold where they went what they held
images_by : (moves : List BlockMove) (rs : List Region) (f g : ℕ → ℕ)
    → ((r : Region) → IsRecorded r rs → is_image r.kind ≡ true → bytes_between g (moved_place moves r.kind r.at) r.len ≡ bytes_between f r.at r.len)
    → images_in g (moved_regions moves rs) ≡ images_in f rs
images_by moves [] f g same = refl
images_by moves (r ∷ rs) f g same =
    let rest = images_by moves rs f g (λ q later. same q (inr later)) in
    elim (cases_Bool (is_image r.kind)) [
      | inl image ↦ rw (image, same r (inl refl) image, rest) refl
      | inr other ↦ rw other rest
    ]

-- instances stay with their modules
held_moved : (slot : ℕ) (moves : List BlockMove) (modules : List Module) → is_slot_held slot (map (image_moved moves) modules) ≡ is_slot_held slot modules
held_moved slot moves [] = refl
held_moved slot moves (m ∷ ms) = ap (λ (b : Bool). has_instance slot m || b) (held_moved slot moves ms)

-- What a word says, where it goes to `to` and then names the block that it named, if it named one,
-- and stays, if it named none.
said_still : (word to : ℕ) (o n : Option ℕ) → (is_some o ≡ true → n ≡ o) → (o ≡ None → to ≡ word) → IsStillNamed (Some (word_said word o)) (Some (word_said to n))
said_still word to (Some k) n same stays = ap (λ (x : Option ℕ). let said : Option PrivateWord = Some (word_said to x) in said) (same refl)
said_still word to None None same stays = inl (ap (λ (v : ℕ). let said : Option PrivateWord = Some (Value v) in said) (stays refl))
said_still word to None (Some k) same stays = inr (k, refl)

said_value : (word value : ℕ) (o : Option ℕ) → word_said word o ≡ Value value → (o ≡ None) × (word ≡ value)
said_value word value None is = (refl, cc)
said_value word value (Some k) is = absurd (let no : BlockNumber k ≡ Value value = is in cc)

-- what slides: the movable blocks of a sound module state's module area
record IsTidied (w : ModuleState) (h : HeapList) (movable : List ℕ) : Type 0 where
  module_state : IsModuleState w []
  modules : AreModules w.modules
  found : find_heap module_area_start w.area_store.store.heaps ≡ Some h
  free : HoldNoAnchor w.area_store.store h movable

module _ (w : ModuleState) (h : HeapList) (movable : List ℕ) (d : IsTidied w h movable) where
  s : Store
  s = w.area_store.store

  t : Store
  t = (module_state_moved w h movable).area_store.store

  moves : List BlockMove
  moves = moves_in h movable

  heap : IsHeapIn w.area_store.store.bytes h.start h.end h.items
  heap = found_heap w.area_store.store.bytes module_area_start w.area_store.store.heaps h d.module_state.area_store.ground.sound.heaps d.found

  -- the blocks
  can_slide : CanSlide (is_listed movable) w.area_store.store.anchor w.area_store.store.bytes.at (module_state_moved w h movable).area_store.store.bytes.at
      (h.start + 16) (h.start + 16) h.items
  unfolding s t moves heap
  can_slide = record {
    low = omega arith;
    totals = heap.totals;
    clear = λ a low high. absurd (omega (arith, low, high));
    held = λ a is low high. elim (block_of_anchor module_area_start s.heaps h a d.found (d.module_state.area_store.ground.sound.anchors a is).1) [
      | inr held ↦ held
      | inl out ↦ absurd (both_ways (in_range h.start h.end a) out
          (rw (le-leb h.start a (omega (arith, low)), lt-ltb a (h.start + h.end) (omega (arith, high, heap.inside))) refl))
    ];
    free = λ b total a moves live low high.
        let least : h.start + 16 + 4 ≤ b = some_low b (h.start + 16) total h.items live in
        let none : anchor_among s.anchor (b - 4) total ≡ false = ap (λ (o : Option ℕ). holds_anchor s.anchor b o) (sym live) ∙ d.free b moves in
        none_among s.anchor (b - 4) total a none (omega (arith, low)) (omega (arith, high, least));
    kept = λ b total k live less. (keeps_moved w h movable d.module_state d.found b total live).1 k less;
  }

  blocks_same : area_blocks (module_state_moved w h movable) ≡ area_blocks w
  unfolding s t moves heap
  blocks_same =
      let anchors : t.anchor ≡ s.anchor = words_anchor moves (slots_of w.modules) (with_store w.area_store (with_slid s h movable)) in
      rw (heap_after w h movable d.found, d.found, anchors)
      (payloads_slid (is_listed movable) s.anchor s.bytes.at t.bytes.at (h.start + 16) (h.start + 16) h.items can_slide)

  -- the places of anchors
  place_same : (a : ℕ) → w.area_store.store.anchor a ≡ true
      → payload_place_in a (find_heap module_area_start (module_state_moved w h movable).area_store.store.heaps) ≡ payload_place_in a (find_heap module_area_start w.area_store.store.heaps)
  unfolding s t moves heap
  place_same a is =
      rw (heap_after w h movable d.found, d.found)
      (place_slid (is_listed movable) s.anchor s.bytes.at t.bytes.at (h.start + 16) (h.start + 16) h.items a can_slide is)

  -- the images
  byte_same : (a : ℕ) → (a < h.start) ⊎ (h.start + h.end ≤ a) → in_range system_start 0x3000 a ≡ false
      → (module_state_moved w h movable).area_store.store.bytes.at a ≡ w.area_store.store.bytes.at a
  unfolding s t moves heap
  byte_same a out beside =
      words_outside moves (slots_of w.modules) (with_store w.area_store (with_slid s h movable)) a (slots_below w.modules d.modules)
      (elim (in_range-cases system_start 0x3000 a) [
        | inl r ↦ absurd (both_ways (in_range system_start 0x3000 a) beside r.0)
        | inr r ↦ elim r.1 [ inl low ↦ inl (omega (arith, low)) | inr high ↦ inr (omega (arith, high)) ]
      ])
      ∙ slid_outside s h movable a heap.aligned heap.totals heap.inside out

  out_of_heap : (a : ℕ) → in_range h.start h.end a ≡ false → (a < h.start) ⊎ (h.start + h.end ≤ a)
  out_of_heap a out = elim (in_range-cases h.start h.end a) [
    | inl r ↦ absurd (both_ways (in_range h.start h.end a) out r.0)
    | inr r ↦ r.1
  ]

  still : (a : ℕ) → in_range h.start h.end a ≡ false → moved_to (moves_in h movable) a ≡ a
  unfolding s t moves heap
  still a out = elim (out_of_heap a out) [
    | inl low ↦ low_still (is_listed movable) (h.start + 16) (h.start + 16) h.items a (omega (arith, low))
    | inr past ↦ past_still (is_listed movable) (h.start + 16) (h.start + 16) h.items a heap.totals (omega (arith, past, heap.inside))
  ]

  clear_image : (r : Region) → IsRecorded r w.area_store.store.others → is_image r.kind ≡ true → IsClearOfHeaps r.at r.len w.area_store.store.heaps → 0 < r.len
      → bytes_between (module_state_moved w h movable).area_store.store.bytes.at (moved_place (moves_in h movable) r.kind r.at) r.len
      ≡ bytes_between w.area_store.store.bytes.at r.at r.len
  unfolding s t moves heap
  clear_image r recorded image clear some =
      let inside : (k : ℕ) → k < r.len → in_range r.at r.len (r.at + k) ≡ true = λ k less.
      rw (le-leb r.at (r.at + k) (omega arith), lt-ltb (r.at + k) (r.at + r.len) (omega (arith, less))) refl in
      let apart = clear_of-found r.at r.len module_area_start s.heaps h clear d.found in
      let first : in_range r.at r.len r.at ≡ true = rw (le-leb r.at r.at (omega arith), lt-ltb r.at (r.at + r.len) (omega (arith, some))) refl in
      let place : moved_place moves r.kind r.at ≡ r.at = still_place moves r.kind r.at (still r.at (apart r.at first)) in
      let other : r ≡ system_pages_range → ⊥ = λ same. false≢true (sym (ap (λ (x : Region). is_image x.kind) same) ∙ image) in
      let pages = recorded_apart r system_pages_range s.others other d.module_state.area_store.ground.sound.apart recorded d.module_state.system in
      map_same s.bytes.at t.bytes.at r.at (moved_place moves r.kind r.at) r.len (λ k less.
      ap (λ (q : ℕ). t.bytes.at (q + k)) place
      ∙ byte_same (r.at + k) (out_of_heap (r.at + k) (apart (r.at + k) (inside k less))) (pages (r.at + k) (inside k less)))

  held_image : (r : Region) → is_image r.kind ≡ true → IsImageBlock h r
      → bytes_between (module_state_moved w h movable).area_store.store.bytes.at (moved_place (moves_in h movable) r.kind r.at) r.len
      ≡ bytes_between w.area_store.store.bytes.at r.at r.len
  unfolding s t moves heap
  held_image r image own =
      map_same s.bytes.at t.bytes.at r.at (moved_place moves r.kind r.at) r.len (λ k less.
      ap (λ (q : ℕ). t.bytes.at (q + k)) (image_place moves r.kind r.at image)
      ∙ (keeps_moved w h movable d.module_state d.found r.at (r.len + 4) own.live).1 k (omega (arith, less)))

  image_same : (r : Region) → IsRecorded r w.area_store.store.others → is_image r.kind ≡ true
      → bytes_between (module_state_moved w h movable).area_store.store.bytes.at (moved_place (moves_in h movable) r.kind r.at) r.len
      ≡ bytes_between w.area_store.store.bytes.at r.at r.len
  unfolding s t moves heap
  image_same r recorded image =
      let sound = d.module_state.area_store.ground.sound in
      elim (placed_of s.heaps s.others r sound.placed recorded) [
        | inl clear ↦ clear_image r recorded image clear (solid_of s.others r d.module_state.solid recorded image).some
        | inr there ↦ held_image r image (image_found s.bytes s.heaps h r sound.heaps sound.limits.place d.found there)
      ]

  images_same : area_images (module_state_moved w h movable) ≡ area_images w
  unfolding s t moves heap
  images_same =
      let others : t.others ≡ moved_regions moves s.others = words_others moves (slots_of w.modules) (with_store w.area_store (with_slid s h movable)) in
      ap (images_in t.bytes.at) others ∙ images_by moves s.others s.bytes.at t.bytes.at image_same

  -- the names
  named_same : (slot : ℕ) → AreBytes w.area_store.store.bytes.at → IsStillNamed (area_names w slot) (area_names (module_state_moved w h movable) slot)
  unfolding s t moves heap
  named_same slot bytes =
      let held : is_slot_held slot (map (image_moved moves) w.modules) ≡ is_slot_held slot w.modules = held_moved slot moves w.modules in
      let from : ℕ = private_word w.area_store slot in
      elim (cases_Bool (is_slot_held slot w.modules)) [
        | inr none ↦ rw (held, none) refl
        | inl there ↦
            let word = names_moved w h movable slot d.module_state d.modules bytes d.found there in
            rw (held, there, heap_after w h movable d.found, d.found, word)
            (said_still from (moved_to moves from) (block_number from (h.start + 16) h.items) _
            (λ some. number_slid (is_listed movable) (h.start + 16) (h.start + 16) h.items from (omega arith) heap.totals some)
            (unnamed_still (is_listed movable) (h.start + 16) (h.start + 16) h.items from))
      ]

  value_same : (slot value : ℕ) → AreBytes w.area_store.store.bytes.at → area_names w slot ≡ Some (Value value)
      → private_word (module_state_moved w h movable).area_store slot ≡ value
  unfolding s t moves heap
  value_same slot value bytes says = elim (cases_Bool (is_slot_held slot w.modules)) [
    | inr none ↦ absurd (let no : None ≡ Some (Value value) = rw none at says in cc)
    | inl there ↦
        let from : ℕ = private_word w.area_store slot in
        let number : Option ℕ = block_number from (h.start + 16) h.items in
        let said = rw (there, d.found) at says in
        let is : (number ≡ None) × (from ≡ value) = said_value from value number (let it : Some (word_said from number) ≡ Some (Value value) = said in cc) in
        names_moved w h movable slot d.module_state d.modules bytes d.found there
        ∙ unnamed_still (is_listed movable) (h.start + 16) (h.start + 16) h.items from is.0
        ∙ is.1
  ]

-- what a tidied module area keeps
pub record IsAreaKept (w v : ModuleState) : Type 0 where
  pub blocks : area_blocks v ≡ area_blocks w
  pub places : (a : ℕ) → w.area_store.store.anchor a ≡ true
      → payload_place_in a (find_heap module_area_start v.area_store.store.heaps) ≡ payload_place_in a (find_heap module_area_start w.area_store.store.heaps)
  pub images : area_images v ≡ area_images w
  pub names : (slot : ℕ) → IsStillNamed (area_names w slot) (area_names v slot)
  pub words : (slot word : ℕ) → area_names w slot ≡ Some (Value word) → private_word v.area_store slot ≡ word

-- no anchor lies in a block that can be moved
pub holds_none : (w : ModuleState) (h : HeapList) (return_address : ℕ) → IsHeapIn w.area_store.store.bytes h.start h.end h.items
    → HoldNoAnchor w.area_store.store h (movable_blocks w.area_store.store w.modules (private_words_of w) return_address h)
holds_none w h return_address heap b is =
    let s : Store = w.area_store.store in
    let test : ℕ → ℕ → Bool = can_move s.anchor (holds_heap s.heaps) w.modules (private_words_of w) return_address in
    let c : IsChosen test (h.start + 16) h.items b = chosen test (h.start + 16) h.items b heap.totals is in
    rw c.live (movable_empty s.anchor (holds_heap s.heaps) w.modules (private_words_of w) return_address (b - 4) c.total c.passes).0

-- and no heap
pub holds_no_heap : (w : ModuleState) (h : HeapList) (return_address : ℕ) → IsHeapIn w.area_store.store.bytes h.start h.end h.items
    → HoldNoHeap w.area_store.store.heaps h (movable_blocks w.area_store.store w.modules (private_words_of w) return_address h)
holds_no_heap w h return_address heap b is =
    let s : Store = w.area_store.store in
    let test : ℕ → ℕ → Bool = can_move s.anchor (holds_heap s.heaps) w.modules (private_words_of w) return_address in
    let c : IsChosen test (h.start + 16) h.items b = chosen test (h.start + 16) h.items b heap.totals is in
    rw c.live (payload_empty s.heaps b c.total (omega (arith, c.low))
    (movable_empty s.anchor (holds_heap s.heaps) w.modules (private_words_of w) return_address (b - 4) c.total c.passes).1)

pub area_kept : (return_address : ℕ) (w : ModuleState) → IsModuleState w [] → AreModules w.modules → AreBytes w.area_store.store.bytes.at
    → IsAreaKept w (module_state_slid return_address w)
area_kept return_address w module_state modules bytes =
    let there : HasHeap w.area_store.store = heap_there w.area_store module_state.area_store in
    let h : HeapList = there.heap in
    let movable : List ℕ = movable_blocks w.area_store.store w.modules (private_words_of w) return_address h in
    let heap = found_heap w.area_store.store.bytes module_area_start w.area_store.store.heaps h module_state.area_store.ground.sound.heaps there.found in
    let d : IsTidied w h movable = record { module_state = module_state; modules = modules; found = there.found; free = holds_none w h return_address heap } in
    subst (λ (v : ModuleState). IsAreaKept w v) (sym (slid_where return_address w h there.found))
    (record {
      blocks = blocks_same w h movable d;
      places = place_same w h movable d;
      images = images_same w h movable d;
      names = λ slot. named_same w h movable d slot bytes;
      words = λ slot word. value_same w h movable d slot word bytes;
    })
