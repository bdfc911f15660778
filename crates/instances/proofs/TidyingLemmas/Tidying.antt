-- The module state after its module area was tidied, and that it is sound.
use Rattle.instances_table.specs.MemoryMap.{module_area_start}
use Rattle.std.proofs.Common.{◌≡◌, ℕ, Bool, true, false, not, ◌+◌, ◌-◌, ◌≤◌, ◌∙◌, ◌&&◌, ◌||◌, List, [], ◌∷◌, length, map, arith, refl, sym, ap, subst, Option, Some, None}
use Rattle.std.proofs.lemmas.Bool.{and_parts, both_ways, false_from_ne_true, not-true, or_from, or_parts}
use Rattle.rma.specs.Bytes.{in_range}
use Rattle.rma.specs.Memory.{Mapping, byte_at, free_pages, mapping}
use Rattle.rma.specs.Records.{anchor_among}
use Rattle.rma.specs.BlockMove.{BlockMove}
use Rattle.rma.specs.AddressMap.{AddressMap}
use Rattle.rma.specs.lists.Heap.{HeapList, IsHeapIn}
use Rattle.rma.proofs.Forgetting.{StartsIn, so_starts, starts_so}
use Rattle.rma.proofs.Found.{found_heap, found_start}
use Rattle.rma.proofs.Moving.{found_held}
use Rattle.rma.specs.OsHeapCalls.{OfHeap}
use Rattle.rma.specs.Forgetting.{holds_heap, starts_in}
use Rattle.rma.specs.Store.{IsSound, Store, find_heap, store_of}
use Rattle.rma.proofs.HeapSlideLemmas.Records.{IsSlide, slid_in}
use Rattle.rma.specs.heap_slide.Slide.{AreBlocks, HoldNoAnchor, HoldNoHeap, IsHeapSlid, MaySlide, with_slid}
use Rattle.rma.specs.Areas.{AreaTable, find_area}
use Rattle.rma.specs.Ground.{EndsWithArea, AreaStore, IsAreaStore, IsGround, area_store_of}
use Rattle.rma.specs.Calls.{with_store}
use Rattle.instances_table.specs.Lookup.{has_image_at}
use Rattle.instances_table.specs.Modules.{Module, slots_of}
use Rattle.instances.specs.module_state.Sound.{IsModuleState}
use Rattle.instances.specs.module_state.ModuleState.{ModuleState, module_state_of}
use Rattle.rma.proofs.HeapCalls.{same_end}
use Rattle.instances.proofs.TidyingLemmas.Choosing.{IsChosen, are_blocks, chosen, few_blocks}
use Rattle.instances.proofs.TidyingLemmas.Following.{beside_moved, images_follow, ranges_mapped, solid_moved, system_moved}
use Rattle.instances.proofs.TidyingLemmas.Sides.{sides_kept}
use Rattle.instances.specs.tidying.Movable.{can_move, is_named_once, movable_blocks, movable_in}
use Rattle.instances.specs.tidying.Slid.{image_moved, moves_in, private_words_of, private_words_at, words_moved, module_state_moved, module_state_slid, module_state_slid_in}

-- a block that can be moved holds no anchor and no heap
pub holds_none : (anchor : ℕ → Bool) (holds : ℕ → ℕ → Bool) (modules : List Module) (words : List ℕ) (return_address at total : ℕ)
    → can_move anchor holds modules words return_address at total ≡ true → (anchor_among anchor at total ≡ false) × (holds at total ≡ false)
holds_none anchor holds modules words return_address at total can =
    let free : Bool = not (anchor_among anchor at total) in
    let empty : Bool = not (holds at total) in
    let away : Bool = not (in_range at total return_address) in
    let tied : Bool = has_image_at (at + 4) modules || is_named_once words (at + 4) in
    let both = and_parts free empty (and_parts (free && empty) away (and_parts tied ((free && empty) && away) can).1).0 in
    (not-true (anchor_among anchor at total) both.0, not-true (holds at total) both.1)

-- so none starts among the bytes that it holds
pub payload_empty : (hs : List HeapList) (block total : ℕ) → 4 ≤ block → holds_heap hs (block - 4) total ≡ false → holds_heap hs block (total - 4) ≡ false
payload_empty [] block total above none = refl
payload_empty (g ∷ hs) block total above none =
    let parts = or_parts (starts_in (block - 4) total g) (holds_heap hs (block - 4) total) none in
    or_from (starts_in block (total - 4) g) (holds_heap hs block (total - 4))
    (false_from_ne_true (starts_in block (total - 4) g) (λ is.
    let starts : StartsIn block (total - 4) g = starts_so block (total - 4) g is in
    both_ways (starts_in (block - 4) total g) parts.0 (so_starts (block - 4) total g (record {
      guest = starts.guest;
      low = omega (arith, starts.low);
      high = omega (arith, starts.high, starts.low, above);
    }))))
    (payload_empty hs block total above parts.1)

-- the module area's heap is there
pub record HasHeap (s : Store) : Type 0 where
  pub heap : HeapList
  pub found : find_heap module_area_start s.heaps ≡ Some heap

pub heap_there : (e : AreaStore) → IsAreaStore e → HasHeap e.store
heap_there e good = go (find_heap module_area_start e.store.heaps) refl good.heap where
  go : (o : Option HeapList) → find_heap module_area_start e.store.heaps ≡ o → EndsWithArea o (find_area 1 e.area_table.areas) → HasHeap e.store
  go None none ends = absurd ends
  go (Some h) found ends = record { heap = h; found = found }

-- what the slide of the heap asks for
may_by : (s : Store) (modules : List Module) (words : List ℕ) (return_address : ℕ) (o : Option HeapList)
    → ((h : HeapList) → o ≡ Some h → IsHeapIn s.bytes h.start h.end h.items) → (o ≡ None → ⊥) → length modules ≤ 64 → length words ≤ 64
    → OfHeap (λ h. AreBlocks (h.start + 16) h.items (movable_in s modules words return_address o)
    × ((length (movable_in s modules words return_address o) ≤ 128)
    × (HoldNoAnchor s h (movable_in s modules words return_address o) × HoldNoHeap s.heaps h (movable_in s modules words return_address o)))) o
may_by s modules words return_address None there none images named = absurd (none refl)
may_by s modules words return_address (Some h) there none images named =
    let holds : ℕ → ℕ → Bool = holds_heap s.heaps in
    let test : ℕ → ℕ → Bool = can_move s.anchor holds modules words return_address in
    let heap : IsHeapIn s.bytes h.start h.end h.items = there h refl in (
      are_blocks test (h.start + 16) h.items heap.totals,
      (
        few_blocks s.anchor holds modules words return_address (h.start + 16) h.items heap.totals images named,
        (
          λ b is.
              let c : IsChosen test (h.start + 16) h.items b = chosen test (h.start + 16) h.items b heap.totals is in
              rw c.live (holds_none s.anchor holds modules words return_address (b - 4) c.total c.passes).0,
          λ b is.
              let c : IsChosen test (h.start + 16) h.items b = chosen test (h.start + 16) h.items b heap.totals is in
              rw c.live (payload_empty s.heaps b c.total (omega (arith, c.low)) (holds_none s.anchor holds modules words return_address (b - 4) c.total c.passes).1),
        ),
      ),
    )

no_heap : (o : Option HeapList) (h : HeapList) → o ≡ Some h → o ≡ None → ⊥
no_heap o h some none = let no : None ≡ Some h = sym none ∙ some in cc

pub may_slide : (m : AddressMap) (l : AreaTable) (modules : List Module) (words movable : List ℕ) (return_address : ℕ) → IsModuleState (module_state_of m l modules) []
    → length modules ≤ 64 → length words ≤ 64
    → movable ≡ movable_in (store_of m) modules words return_address (find_heap module_area_start (store_of m).heaps)
    → MaySlide (store_of m) module_area_start movable
may_slide m l modules words movable return_address module_state images named e =
    let a : HasHeap (store_of m) = heap_there (area_store_of m l) module_state.area_store in
    subst (λ (xs : List ℕ). MaySlide (store_of m) module_area_start xs) (sym e)
    (may_by (store_of m) modules words return_address (find_heap module_area_start (store_of m).heaps)
    (λ h found. found_heap (store_of m).bytes module_area_start (store_of m).heaps h module_state.area_store.ground.sound.heaps found)
    (no_heap (find_heap module_area_start (store_of m).heaps) a.heap a.found) images named)

-- the module state after the blocks, their records and the images of modules moved
abbrev pub after_blocks : ModuleState → HeapList → List ℕ → ModuleState
after_blocks w h movable = record {
  area_store = with_store w.area_store (with_slid w.area_store.store h movable);
  modules = map (image_moved (moves_in h movable)) w.modules;
}

pub blocks_sound : (w : ModuleState) (h : HeapList) (movable : List ℕ) → IsModuleState w [] → find_heap module_area_start w.area_store.store.heaps ≡ Some h
    → IsSound (with_slid w.area_store.store h movable) → IsModuleState (after_blocks w h movable) []
blocks_sound w h movable module_state found sound =
    let s : Store = w.area_store.store in
    let t : Store = with_slid s h movable in
    let p : HeapList = record { kind = h.kind; start = h.start; end = h.end; items = slid_in h movable } in
    let g : IsGround s w.area_store.pool w.area_store.area_table = module_state.area_store.ground in
    let start : h.start ≡ module_area_start = found_start module_area_start s.heaps h found in
    let own : find_heap h.start s.heaps ≡ Some h = subst (λ (q : ℕ). find_heap q s.heaps ≡ Some h) (sym start) found in
    let there : find_heap h.start t.heaps ≡ Some p = found_held h.start (slid_in h movable) s.heaps h own in
    let slide : IsSlide s.bytes t.bytes h movable = record {
      old = found_heap s.bytes module_area_start s.heaps h g.sound.heaps found;
      new = found_heap t.bytes h.start t.heaps p sound.heaps there;
    } in
    let there' : find_heap module_area_start t.heaps ≡ Some p = subst (λ (q : ℕ). find_heap q t.heaps ≡ Some p) start there in
    record {
      area_store = record {
        ground = record {
          sizes = g.sizes;
          table = g.table;
          area_table = g.area_table;
          pages = g.pages;
          ranges = ranges_mapped s.bytes t.bytes h s.heaps movable s.others slide own refl g.sound.placed g.ranges;
          sound = sound;
        };
        heap = rw there' (same_end h p _ refl refl (rw found at module_state.area_store.heap));
      };
      system = system_moved (moves_in h movable) s.others module_state.system;
      images = images_follow (moves_in h movable) s.others w.modules (sides_kept w.area_store h movable module_state.area_store found) module_state.images;
      solid = solid_moved s.bytes t.bytes h s.heaps movable s.others slide own g.sound.placed module_state.solid;
      few = rw (beside_moved (moves_in h movable) s.others) module_state.few;
    }

-- The same of maps: `k` is memory after the blocks slid, and `new` are the modules whose images
-- followed.
pub record IsBlocksSlid (m k : AddressMap) (l : AreaTable) (modules new : List Module) (movable : List ℕ) (moves : List BlockMove) : Type 0 where
  pub heap : HeapList
  pub found : find_heap module_area_start (store_of m).heaps ≡ Some heap
  pub moved : moves ≡ moves_in heap movable
  pub area_store : area_store_of k l ≡ with_store (area_store_of m l) (with_slid (store_of m) heap movable)
  pub images : new ≡ map (image_moved (moves_in heap movable)) modules
  pub store : store_of k ≡ with_slid (store_of m) heap movable

pub blocks_slid : (m k : AddressMap) (l : AreaTable) (modules new : List Module) (movable : List ℕ) (moves : List BlockMove) → IsModuleState (module_state_of m l modules) []
    → IsHeapSlid (store_of m) module_area_start movable (store_of k) moves → mapping k ≡ mapping m → new ≡ map (image_moved moves) modules
    → IsBlocksSlid m k l modules new movable moves
blocks_slid m k l modules new movable moves module_state slid same images =
    let a : HasHeap (store_of m) = heap_there (area_store_of m l) module_state.area_store in
    let h : HeapList = a.heap in
    let both = rw a.found at slid in
    let store : store_of k ≡ with_slid (store_of m) h movable = both.0 in
    let moved : moves ≡ moves_in h movable = both.1 in
    let pool : free_pages k ≡ free_pages m = ap (λ (q : Mapping). q.free_pages) same in
    record {
      heap = h;
      found = a.found;
      moved = moved;
      area_store = λ i. record { store = store i; pool = pool i; area_table = l };
      images = images ∙ ap (λ (x : List BlockMove). map (image_moved x) modules) moved;
      store = store;
    }

pub sound_after : (m k : AddressMap) (l : AreaTable) (modules new : List Module) (movable : List ℕ) (moves : List BlockMove) → IsModuleState (module_state_of m l modules) []
    → IsSound (store_of k) → IsBlocksSlid m k l modules new movable moves → IsModuleState (module_state_of k l new) []
sound_after m k l modules new movable moves module_state sound is =
    let w : ModuleState = module_state_of m l modules in
    let e : module_state_of k l new ≡ after_blocks w is.heap movable = λ i. record { area_store = is.area_store i; modules = is.images i } in
    subst (λ (x : ModuleState). IsModuleState x []) (sym e) (blocks_sound w is.heap movable module_state is.found (subst IsSound is.store sound))

words_are : (m : AddressMap) (l : AreaTable) (modules : List Module) → private_words_of (module_state_of m l modules) ≡ private_words_at (byte_at m) (slots_of modules)
unfolding store_of
words_are m l modules = refl

pub module_state_after : (m k n : AddressMap) (l : AreaTable) (modules new : List Module) (return_address : ℕ) (slots words movable : List ℕ) (moves : List BlockMove)
    → slots ≡ slots_of modules → words ≡ private_words_at (byte_at m) slots
    → movable ≡ movable_in (store_of m) modules words return_address (find_heap module_area_start (store_of m).heaps)
    → IsBlocksSlid m k l modules new movable moves → area_store_of n l ≡ words_moved moves slots (area_store_of k l)
    → module_state_of n l new ≡ module_state_slid return_address (module_state_of m l modules)
unfolding module_state_slid
module_state_after m k n l modules new return_address slots words movable moves is-slots is-words is-movable is is-area_store =
    let w : ModuleState = module_state_of m l modules in
    let h : HeapList = is.heap in
    let all : words ≡ private_words_of w = is-words ∙ ap (private_words_at (byte_at m)) is-slots ∙ sym (words_are m l modules) in
    let blocks : movable ≡ movable_blocks (store_of m) modules (private_words_of w) return_address h =
    is-movable ∙ ap (λ (o : Option HeapList). movable_in (store_of m) modules words return_address o) is.found
    ∙ ap (λ (xs : List ℕ). movable_blocks (store_of m) modules xs return_address h) all in
    let area_store : area_store_of n l ≡ words_moved (moves_in h movable) (slots_of modules) (with_store (area_store_of m l) (with_slid (store_of m) h movable)) =
    is-area_store ∙ ap (λ (x : List BlockMove). words_moved x slots (area_store_of k l)) is.moved
    ∙ ap (λ (xs : List ℕ). words_moved (moves_in h movable) xs (area_store_of k l)) is-slots
    ∙ ap (λ (e : AreaStore). words_moved (moves_in h movable) (slots_of modules) e) is.area_store in
    let after : module_state_of n l new ≡ module_state_moved w h movable = λ i. record { area_store = area_store i; modules = is.images i } in
    after ∙ ap (λ (xs : List ℕ). module_state_moved w h xs) blocks
    ∙ sym (ap (λ (o : Option HeapList). module_state_slid_in return_address w o) is.found)
