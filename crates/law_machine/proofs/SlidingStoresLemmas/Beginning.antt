-- Flex_Init as a turn of the stores.
use Rattle.profile.specs.MemoryMap.{module_area_start}
use Rattle.std.proofs.Common.{ℕ, Bool, true, false, not, nat_eq, suc, ◌+◌, ◌-◌, ◌%◌, ◌&&◌, ◌≡◌, ◌≤◌, ◌<◌, ◌∙◌, List, [], ◌∷◌, ◌++◌, length, Option, Some, None, Result, Ok, Err, option_map, is_some, refl, sym, ap, subst, inl, inr, arith}
use Rattle.std.specs.Prelude.{nat_lt, if◌then◌else◌}
use Rattle.std.specs.List.{list_any}
use Rattle.std.proofs.lemmas.Bool.{and_parts, cases_Bool, eqb-true, false≢true, ltb-true, not-true, or_parts}
use Rattle.profile.specs.ErrorNumber.{ErrorNumber}
use Rattle.address_map.specs.Bytes.{AreMapped, shares_address, word_start}
use Rattle.address_map.specs.declared.region.Region.{Region}
use Rattle.os_heap.proofs.RangeTests.{are_mapped_all, clear_unless}
use Rattle.os_heap.proofs.Recorded.{IsClearOfAll, recorded_sound}
use Rattle.os_heap.specs.Ranges.{are_bytes_mapped}
use Rattle.os_heap.specs.Store.{IsClearOfHeaps, IsSound, Store, find_heap, is_image}
use Rattle.os_heap_words.specs.lists.Heap.{HeapList}
use Rattle.dynamic_areas.specs.Ground.{IsAreaStore}
use Rattle.rma.specs.flex_frame.Keeping.{AreAnchorsFree}
use Rattle.swi_dispatch_guest.proofs.ModuleStates.{begun_module_state, beside_begun}
use Rattle.swi_dispatch_guest.specs.Ground.{flex_state, records_with, spelled_store, with_flex_record}
use Rattle.flex_store.proofs.Recording.{last_recorded, range_clear_back}
use Rattle.flex_store.proofs.Starting.{no_blocks}
use Rattle.flex_store.specs.Blocks.{Block, FlexStore, contents, find_block, has_anchor, is_header, bytes_taken_by_all}
use Rattle.law_machine.specs.flex.Numbered.{SeenBlock, blocks_seen}
use Rattle.law_machine.specs.flex.Padding.{all_paddings, paddings}
use Rattle.flex_store.specs.Calls.{FlexState, flex_after_init, flex_record, is_flex_range, meets_ranges, with_flex_range}
use Rattle.flex_store.specs.Laws.{contents_in}
use Rattle.flex_store.specs.Memory.{AreAnchored, Holds, blocks_text_of}
use Rattle.flex_store.specs.State.{AreAnchorWords, AreInner, AreWhole}
use Rattle.flex_store.specs.declared.flex.Extent.{Extent}
use Rattle.flex_store.specs.declared.flex.Flex.{Flex}
use Rattle.rma.proofs.ImageLemmas.{mapped_more}
use Rattle.swi_dispatch_guest.proofs.InstancesModuleStates.{few_records}
use Rattle.instances_table.proofs.RoomLemmas.{few_modules}
use Rattle.swi_dispatch_guest.specs.Sound.{count_beside}
use Rattle.swi_dispatch_guest.specs.ModuleState.{ModuleState}
use Rattle.law_machine.proofs.SlidingStoresLemmas.Called.{words_said}
use Rattle.law_machine.proofs.SlidingStoresLemmas.Calling.{IsFollowedBy, stays}
use Rattle.law_machine.specs.sliding_stores.FlexStore.{IsFlexRangeSpelled, IsSpelledAt, IsUnmade, spelled_blocks}
use Rattle.law_machine.specs.sliding_stores.Laws.{IsFollowed}
use Rattle.law_machine.specs.sliding_stores.Meaning.{AreStores, PayloadPlace, Stores, area_names, payloads_in, contents_of, flex_padding, flex_seen, images_in, meaning_of, payloads, payload_place_in, seen_byte_at, store_in}
use Rattle.law_machine.specs.sliding_stores.Turning.{Init, answer_of, answer_of_turn, init_answer, stores_after_flex, stores_after_step, stores_with_flex}

-- ranges that share no byte
heaps_clear : (hs : List HeapList) (at len : ℕ) → list_any (λ h. shares_address at len h.start h.end) hs ≡ false → IsClearOfHeaps at len hs
heaps_clear [] at len apart = tt
heaps_clear (h ∷ hs) at len apart =
    let parts = or_parts (shares_address at len h.start h.end) (list_any (λ g. shares_address at len g.start g.end) hs) apart in
    (clear_unless at len h.start h.end parts.0, heaps_clear hs at len parts.1)

ranges_clear : (rs : List Region) (r : Region) → list_any (λ q. shares_address r.at r.len q.at q.len) rs ≡ false → IsClearOfAll r rs
ranges_clear [] r apart = tt
ranges_clear (q ∷ rs) r apart =
    let parts = or_parts (shares_address r.at r.len q.at q.len) (list_any (λ p. shares_address r.at r.len p.at p.len) rs) apart in
    (range_clear_back r.at r.len q.at q.len parts.0, ranges_clear rs r parts.1)

-- a range that may become the store
record IsRange (s : Store) (start end : ℕ) : Type 0 where
  start_aligned : start % 4 ≡ 0
  end_aligned : end % 4 ≡ 0
  some : start < end
  there : AreMapped s.bytes.mapped start (end - start)
  heaps : IsClearOfHeaps start (end - start) s.heaps
  others : IsClearOfAll (flex_record start end) s.others

range_is : (s : Store) (start end : ℕ) → is_flex_range s start end ≡ true → IsRange s start end
unfolding is_flex_range
range_is s start end is =
    let mapped : Bool = are_bytes_mapped s.bytes.mapped start (end - start) in
    let clear : Bool = not (meets_ranges s start (end - start)) in
    let one = and_parts (nat_eq (start % 4) 0 && nat_eq (end % 4) 0) (nat_lt start end && (mapped && clear)) is in
    let two = and_parts (nat_eq (start % 4) 0) (nat_eq (end % 4) 0) one.0 in
    let three = and_parts (nat_lt start end) (mapped && clear) one.1 in
    let four = and_parts mapped clear three.1 in
    let met : Bool = list_any (λ h. shares_address start (end - start) h.start h.end) s.heaps in
    let apart = or_parts met (list_any (λ r. shares_address start (end - start) r.at r.len) s.others) (not-true (meets_ranges s start (end - start)) four.1) in
    record {
      start_aligned = eqb-true (start % 4) 0 two.0;
      end_aligned = eqb-true (end % 4) 0 two.1;
      some = ltb-true start end three.0;
      there = are_mapped_all s.bytes.mapped start (end - start) four.0;
      heaps = heaps_clear s.heaps start (end - start) apart.0;
      others = ranges_clear s.others (flex_record start end) apart.1;
    }

-- Init was done: there was no store, and its range may become one
record IsInit (s : Store) (o : Option Extent) (start end : ℕ) (q : FlexState × Bool) : Type 0 where
  none : o ≡ None
  range : is_flex_range s start end ≡ true
  left : (let f : Flex = record { extent = o } in let p : FlexState × Bool = (with_flex_range (flex_state s f) start end, true) in q ≡ p)

pair_is : (p q : FlexState × Bool) → (let one : Result (FlexState × Bool) ErrorNumber = Ok p in let two : Result (FlexState × Bool) ErrorNumber = Ok q in one ≡ two)
    → p ≡ q
pair_is p q e = cc

begun_range : (s : Store) (start end : ℕ) (may : Bool) (q : FlexState × Bool) → is_flex_range s start end ≡ may
    → (let f : Flex = record { extent = None } in init_answer s f start end ≡ Ok q) → IsInit s None start end q
unfolding flex_after_init
begun_range s start end false q may is = let is' = rw may at is in absurd (cc)
begun_range s start end true q may is =
    let f : Flex = record { extent = None } in
    let p : FlexState × Bool = (with_flex_range (flex_state s f) start end, true) in
    record { none = refl; range = may; left = pair_is q p (sym (rw may at is)) }

is_init : (s : Store) (o : Option Extent) (start end : ℕ) (q : FlexState × Bool) → (let f : Flex = record { extent = o } in init_answer s f start end ≡ Ok q)
    → IsInit s o start end q
unfolding flex_after_init
is_init s None start end q is = begun_range s start end (is_flex_range s start end) q refl is
is_init s (Some e) start end q is = absurd (cc)

-- the images among records of which one is more
images_more : (bytes : ℕ → ℕ) (start end : ℕ) (rs : List Region) → images_in bytes (rs ++ flex_record start end ∷ []) ≡ images_in bytes rs
images_more bytes start end [] = refl
images_more bytes start end (r ∷ rs) = elim (cases_Bool (is_image r.kind)) [
  | inl image ↦ rw (image, images_more bytes start end rs) refl
  | inr other ↦ rw other (images_more bytes start end rs)
]

no_contents : (s : Store) (o : Option Extent) (a : ℕ) → o ≡ None → contents_in (spelled_store s.bytes.at o) a ≡ None
no_contents s o a none = ap (λ (p : Option Extent). contents_in (spelled_store s.bytes.at p) a) none

same_blocks : (s t : Store) (o : Option HeapList) → t.anchor ≡ s.anchor → t.bytes ≡ s.bytes → payloads_in t o ≡ payloads_in s o
same_blocks s t None anchors bytes = refl
same_blocks s t (Some h) anchors bytes = λ i. payloads (seen_byte_at (anchors i) (bytes i).at) (h.start + 16) h.items

no_store_at : (s : Store) (o : Option Extent) → o ≡ None → IsSpelledAt s o → IsUnmade s
no_store_at s o none is = subst (IsSpelledAt s) none is

module _ (x : Stores) (start end : ℕ) (are : AreStores x) (none : x.flex.extent ≡ None) (range : is_flex_range (store_in x) start end ≡ true) where
  s : Store
  s = store_in x

  v : FlexState
  v = with_flex_range (flex_state (store_in x) x.flex) start end

  y : Stores
  y = stores_with_flex x (with_flex_record (store_in x) start end) v

  e : Extent
  e = record { start = start; end = end; used = 0 }

  r : IsRange (store_in x) start end
  r = range_is (store_in x) start end range

  unmade : IsUnmade (store_in x)
  unmade = no_store_at (store_in x) x.flex.extent none are.flex.is

  -- the store is the one before with a record more
  store : store_in y ≡ with_flex_record (store_in x) start end
  unfolding y v
  store = λ i. record {
    bytes = (store_in x).bytes;
    heaps = (store_in x).heaps;
    others = (store_in x).others ++ flex_record start end ∷ [];
    anchor = λ a. sym (unmade.anchors a) i;
    header = λ a. sym (unmade.headers a) i;
  }

  few : length (store_in x).others < 68
  few = few_records x.module_state x.pending are.module_state (few_modules x.module_state.modules are.modules) are.one

  sound : IsSound (store_in y)
  sound =
      subst IsSound (sym store)
      (recorded_sound (store_in x) (flex_record start end) are.module_state.area_store.ground.sound r.heaps r.others few)

  area_store : IsAreaStore y.module_state.area_store
  unfolding y v store sound
  area_store =
      let g = are.module_state.area_store.ground in
      record {
        ground = record {
          sizes = g.sizes;
          table = g.table;
          area_table = g.area_table;
          pages = g.pages;
          ranges = mapped_more (store_in x).bytes.mapped (store_in x).others (flex_record start end) g.ranges r.there;
          sound = sound;
        };
        heap = are.module_state.area_store.heap;
      }

  blocks : spelled_blocks (store_in y) e ≡ []
  unfolding y v e
  blocks = no_blocks (store_in x).bytes.at start

  spelled : IsFlexRangeSpelled (store_in y) e
  unfolding y v e blocks
  spelled = record {
    range = record { start_aligned = r.start_aligned; end_aligned = r.end_aligned; there = r.there };
    fits = subst (λ (bs : List Block). start + bytes_taken_by_all bs ≤ end) (sym blocks) (omega (arith, r.some));
    whole = subst AreWhole (sym blocks) tt;
    words = subst (λ (bs : List Block). AreAnchorWords (store_in x).bytes.mapped start end bs) (sym blocks) tt;
    inner = subst (λ (bs : List Block). AreInner start end bs) (sym blocks) (λ a has. absurd (false≢true has));
    text = subst (λ (bs : List Block). Holds (store_in x).bytes.at start (blocks_text_of bs)) (sym blocks) (λ k below. absurd (omega (arith, below)));
    anchored = subst (λ (bs : List Block). AreAnchored (store_in x).bytes.at start bs) (sym blocks) tt;
    headers = λ a. ap (λ (bs : List Block). is_header start bs (word_start a)) (sym blocks);
    anchors = λ a. ap (λ (bs : List Block). has_anchor bs (word_start a)) (sym blocks);
    used_is = ap bytes_taken_by_all blocks;
    recorded = last_recorded (store_in x).others start end;
  }

  first : count_beside (store_in x).others ≡ 1
  first = are.flex.beside ∙ ap records_with none

  free : AreAnchorsFree (store_in y)
  unfolding AreAnchorsFree y v
  free = λ a is. absurd (false≢true is)

  stores : AreStores y
  unfolding y v area_store spelled free
  stores = record {
    module_state = begun_module_state x.module_state (stores_with_flex x (with_flex_record (store_in x) start end) (with_flex_range (flex_state (store_in x) x.flex) start end)).module_state
        x.pending start end (record { area_store = area_store; others = refl; modules = refl; first = first }) are.module_state;
    flex = record { is = spelled; free = free; beside = beside_begun start end (store_in x).others ∙ ap suc first };
    modules = are.modules;
    memory = are.memory;
    one = are.one;
  }

  -- what they mean
  old : (a : ℕ) → contents_of x a ≡ None
  old a = no_contents (store_in x) x.flex.extent a none

  new : (a : ℕ) → contents_of y a ≡ None
  unfolding y v e blocks
  new a = ap (λ (bs : List Block). option_map contents (find_block a bs)) blocks

  old_seen : flex_seen x ≡ []
  old_seen = ap (λ (o : Option Extent). blocks_seen (spelled_store (store_in x).bytes.at o)) none

  new_seen : flex_seen y ≡ []
  unfolding y v e blocks
  new_seen = ap (λ (bs : List Block). let o : Option FlexStore = Some (record { start = start; end = end; blocks = bs }) in blocks_seen o) blocks

  old_padding : flex_padding x ≡ []
  old_padding = ap (λ (o : Option Extent). all_paddings (spelled_store (store_in x).bytes.at o)) none

  new_padding : flex_padding y ≡ []
  unfolding y v e blocks
  new_padding = ap paddings blocks

  place : (w : ModuleState) (o : Option (List ℕ)) (a : ℕ) → o ≡ None
      → (let p : Option PayloadPlace = if is_some o then payload_place_in a (find_heap module_area_start w.area_store.store.heaps) else None in p ≡ None)
  place w o a gone = ap (λ (q : Option (List ℕ)). let p : Option PayloadPlace = if is_some q then payload_place_in a (find_heap module_area_start w.area_store.store.heaps) else None in p) gone

  same : meaning_of y ≡ meaning_of x
  unfolding meaning_of y v new_seen new_padding
  same = λ i. record {
    flex = (new_seen ∙ sym old_seen) i;
    padding = (new_padding ∙ sym old_padding) i;
    places = λ a. (place y.module_state (contents_of y a) a (new a) ∙ sym (place x.module_state (contents_of x a) a (old a))) i;
    blocks = same_blocks (store_in x) (store_in y) (find_heap module_area_start (store_in x).heaps) (λ j a. sym (unmade.anchors a) j) refl i;
    images = images_more (store_in x).bytes.at start end (store_in x).others i;
    names = area_names x.module_state;
  }

  pub init_done : IsFollowedBy (Init start end) (Ok true) x (stores_with_flex x (with_flex_record (store_in x) start end) (with_flex_range (flex_state (store_in x) x.flex) start end))
  unfolding meaning_of y v stores same
  init_done = record {
    rule = record { none = old_seen; same = same };
    words = λ slot word says. words_said x.module_state slot word says;
    modules = refl;
    stores = stores;
    mapped = refl;
    pool = refl;
    area_table = refl;
    pending = refl;
  }

init_is : (x : Stores) (start end : ℕ) (q : FlexState × Bool) → AreStores x → IsInit (store_in x) x.flex.extent start end q
    → IsFollowedBy (Init start end) (Ok q.1) x (stores_with_flex x (with_flex_record (store_in x) start end) q.0)
init_is x start end q are is =
    subst (λ (p : FlexState × Bool). IsFollowedBy (Init start end) (Ok p.1) x (stores_with_flex x (with_flex_record (store_in x) start end) p.0)) (sym is.left)
    (init_done x start end are is.none is.range)

init_by : (x : Stores) (start end : ℕ) (r : Result (FlexState × Bool) ErrorNumber) → init_answer (store_in x) x.flex start end ≡ r → AreStores x
    → IsFollowedBy (Init start end) (answer_of r) x (stores_after_flex x (with_flex_record (store_in x) start end) r)
init_by x start end (Err e) is are = stays (Init start end) (Err e) x are refl
init_by x start end (Ok q) is are = init_is x start end q are (is_init (store_in x) x.flex.extent start end q is)

pub init_followed : (x : Stores) (start end : ℕ) → AreStores x → IsFollowed (Init start end) x (stores_after_step (Init start end) x)
unfolding stores_after_step answer_of_turn
init_followed x start end are =
    let f : IsFollowedBy (Init start end) (answer_of (init_answer (store_in x) x.flex start end)) x
    (stores_after_flex x (with_flex_record (store_in x) start end) (init_answer (store_in x) x.flex start end)) =
    init_by x start end (init_answer (store_in x) x.flex start end) refl are in
    record { rule = f.rule; words = f.words; modules = f.modules; stores = f.stores; mapped = f.mapped; pool = f.pool; area_table = f.area_table; pending = f.pending }
