-- A module state whose module area was tidied holds all that holds of module states between calls, and its flex
-- store is kept.
use Rattle.profile.specs.MemoryMap.{module_area_start, system_start}
use Rattle.std.proofs.Common.{ℕ, true, false, ◌+◌, cond, ◌-◌, ◌^◌, ◌==◌, ◌≡◌, ◌≤◌, ◌<◌, ◌⊎◌, List, [], ◌∷◌, map, length, Some, refl, sym, ap, subst, inl, inr, arith}
use Rattle.std.proofs.lemmas.Bool.{both_ways, eq-eqb, false≢true}
use Rattle.std.proofs.lemmas.List.{length-map}
use Rattle.address_map.proofs.Stores.{in_range-cases}
use Rattle.address_map.specs.Bytes.{Bytes, in_range, with_word_at, word_at}
use Rattle.address_map.specs.Moves.{moved_to}
use Rattle.address_map.specs.declared.follow.BlockMove.{BlockMove}
use Rattle.os_heap_words.specs.lists.Heap.{HeapList, IsHeapIn}
use Rattle.os_heap.proofs.Found.{found_heap, found_start}
use Rattle.os_heap.proofs.Frame.{store_clear}
use Rattle.os_heap.specs.Forgetting.{holds_heap}
use Rattle.os_heap.specs.Store.{IsClearOfHeaps, IsImageIn, IsSound, Store, find_heap}
use Rattle.os_heap.proofs.Stores.{image_kind}
use Rattle.rma.specs.heap_slide.Slide.{HoldNoAnchor, HoldNoHeap, MaySlide, is_listed, slid_bytes, with_slid}
use Rattle.rma.proofs.HeapSlideLemmas.Records.{moves_in, slid_in}
use Rattle.dynamic_areas.specs.Ground.{AreaStore, IsAreaStore, IsRecorded, system_pages_range}
use Rattle.rma.proofs.FlexFrameLemmas.Keeping.{keeps_same, keeps_then}
use Rattle.rma.proofs.FlexFrameLemmas.Slides.{slides_keep}
use Rattle.rma.proofs.FlexFrameLemmas.Writes.{system_keeps}
use Rattle.rma.specs.flex_frame.Keeping.{KeepsFlex}
use Rattle.rma.specs.Calls.{with_store}
use Rattle.instances_table.specs.plans.Code.{private_of}
use Rattle.instances_table.proofs.RoomLemmas.{few_modules, most_slots}
use Rattle.instances_table.specs.Modules.{AreModules, EachIsModule, Module, has_slot, has_title, number_passing, slot_count, slots_of}
use Rattle.swi_dispatch_guest.proofs.InstancesModuleStates.{module_state_kept}
use Rattle.swi_dispatch_guest.specs.Sound.{IsModuleState}
use Rattle.swi_dispatch_guest.specs.ModuleState.{ModuleState, private_word, with_private}
use Rattle.swi_dispatch_guest.proofs.Choosing.{are_blocks, few_blocks}
use Rattle.swi_dispatch_guest.proofs.LawLemmas.{slid_where}
use Rattle.swi_dispatch_guest.proofs.NameLemmas.{heap_small, slid_small}
use Rattle.swi_dispatch_guest.proofs.Tidying.{HasHeap, after_blocks, blocks_sound, heap_there}
use Rattle.swi_dispatch_guest.specs.Laws.{AreBytes}
use Rattle.swi_dispatch_guest.specs.Movable.{can_move, movable_blocks}
use Rattle.swi_dispatch_guest.specs.Slid.{image_moved, private_words_of, words_moved, module_state_moved, module_state_slid}
use Rattle.law_machine.proofs.SlidingStoresLemmas.SlidStores.{sound_slid}
use Rattle.law_machine.proofs.SlidingStoresLemmas.SlidModuleStates.{holds_no_heap, holds_none, placed_of, slots_below, word_outside}
use Rattle.law_machine.proofs.FlexLemmas.Small.{word_small}

-- the modules are the same, but for the places of their images
titles_same : (ms : List BlockMove) (title : List ℕ) (modules : List Module) → number_passing (has_title title) (map (image_moved ms) modules) ≡ number_passing (has_title title) modules
titles_same ms title [] = refl
titles_same ms title (m ∷ modules) = ap (λ (n : ℕ). cond (has_title title m) 1 0 + n) (titles_same ms title modules)

slots_same : (ms : List BlockMove) (slot : ℕ) (modules : List Module) → slot_count slot (map (image_moved ms) modules) ≡ slot_count slot modules
slots_same ms slot [] = refl
slots_same ms slot (m ∷ modules) = ap (λ (n : ℕ). number_passing (has_slot slot) m.instances + n) (slots_same ms slot modules)

each_same : (ms : List BlockMove) (modules : List Module) → EachIsModule modules → EachIsModule (map (image_moved ms) modules)
each_same ms [] each = tt
each_same ms (m ∷ modules) each = (record { names = each.0.names; preferred = each.0.preferred }, each_same ms modules each.1)

modules_same : (ms : List BlockMove) (modules : List Module) → AreModules modules → AreModules (map (image_moved ms) modules)
modules_same ms modules are = record {
  titles = λ title. rw (titles_same ms title modules) (are.titles title);
  slots = λ slot. rw (slots_same ms slot modules) (are.slots slot);
  each = each_same ms modules are.each;
}

-- private words are written in the system pages, which no heap has a byte of
record IsWritable (s : Store) : Type 0 where
  sound : IsSound s
  recorded : IsRecorded system_pages_range s.others

clear_by : (s : Store) → IsClearOfHeaps system_start 0x3000 s.heaps ⊎ IsImageIn s.heaps system_pages_range → IsClearOfHeaps system_start 0x3000 s.heaps
clear_by s (inl clear) = clear
clear_by s (inr image) = absurd (false≢true (image_kind s.heaps system_pages_range image))

page_outside : (f : ℕ → ℕ) (slot value a : ℕ) → slot < 64 → in_range system_start 0x3000 a ≡ false → with_word_at f (private_of slot) value a ≡ f a
page_outside f slot value a few out = elim (in_range-cases system_start 0x3000 a) [
  | inl r ↦ absurd (both_ways (in_range system_start 0x3000 a) out r.0)
  | inr r ↦ word_outside f slot value a few (elim r.1 [ inl low ↦ inl (omega (arith, low)) | inr high ↦ inr (omega (arith, high)) ])
]

-- what holds of an area store after private words were written
record IsWordsMoved (e f : AreaStore) : Type 0 where
  good : IsAreaStore e → IsAreaStore f
  others : f.store.others ≡ e.store.others
  mapped : f.store.bytes.mapped ≡ e.store.bytes.mapped
  pool : f.pool ≡ e.pool
  area_table : f.area_table ≡ e.area_table
  small : AreBytes e.store.bytes.at → AreBytes f.store.bytes.at
  keeps : KeepsFlex e.store f.store

private_good : (e : AreaStore) (slot value : ℕ) → IsWritable e.store → slot < 64 → IsAreaStore e → IsAreaStore (with_private e slot value)
private_good e slot value w few good =
    let c : Bytes = record { mapped = e.store.bytes.mapped; at = with_word_at e.store.bytes.at (private_of slot) value } in
    let clear : IsClearOfHeaps system_start 0x3000 e.store.heaps =
    clear_by e.store (placed_of e.store.heaps e.store.others system_pages_range w.sound.placed w.recorded) in
    record {
      ground = record {
        sizes = good.ground.sizes;
        table = good.ground.table;
        area_table = good.ground.area_table;
        pages = good.ground.pages;
        ranges = good.ground.ranges;
        sound = store_clear e.store c system_start 0x3000 refl w.sound clear (λ a out. page_outside e.store.bytes.at slot value a few out);
      };
      heap = good.heap;
    }

words_good : (moves : List BlockMove) (slots : List ℕ) (e : AreaStore) → ((s : ℕ) → 1 ≤ number_passing (λ x. x == s) slots → s < 64) → IsAreaStore e
    → IsRecorded system_pages_range e.store.others → IsWordsMoved e (words_moved moves slots e)
words_good moves [] e below good recorded = record {
  good = λ is. is;
  others = refl;
  mapped = refl;
  pool = refl;
  area_table = refl;
  small = λ is. is;
  keeps = keeps_same e.store;
}
words_good moves (slot ∷ slots) e below good recorded =
    let value : ℕ = moved_to moves (private_word e slot) in
    let few : slot < 64 = below slot (rw (eq-eqb slot slot refl) (omega arith)) in
    let next : AreaStore = with_private e slot value in
    let w : IsWritable e.store = record { sound = good.ground.sound; recorded = recorded } in
    let good' : IsAreaStore next = private_good e slot value w few good in
    let rest : IsWordsMoved next (words_moved moves slots next) = words_good moves slots next (λ s some. below s (omega (arith, some))) good' recorded in
    let c : Bytes = record { mapped = e.store.bytes.mapped; at = with_word_at e.store.bytes.at (private_of slot) value } in
    let here : KeepsFlex e.store next.store =
    system_keeps e.store c good.ground.sound recorded (λ a out. page_outside e.store.bytes.at slot value a few out) in
    record {
      good = λ is. rest.good good';
      others = rest.others;
      mapped = rest.mapped;
      pool = rest.pool;
      area_table = rest.area_table;
      small = λ is. rest.small (word_small e.store.bytes.at (private_of slot) value is);
      keeps = keeps_then e.store next.store (words_moved moves slots next).store here rest.keeps;
    }

-- what holds of a tidied module state
pub record IsTidy (w v : ModuleState) : Type 0 where
  pub module_state : IsModuleState v []
  pub modules : AreModules v.modules
  pub mapped : v.area_store.store.bytes.mapped ≡ w.area_store.store.bytes.mapped
  pub pool : v.area_store.pool ≡ w.area_store.pool
  pub area_table : v.area_store.area_table ≡ w.area_store.area_table
  pub small : AreBytes v.area_store.store.bytes.at
  pub keeps : KeepsFlex w.area_store.store v.area_store.store

module _ (return_address : ℕ) (w : ModuleState) (module_state : IsModuleState w []) (are : AreModules w.modules) (small : AreBytes w.area_store.store.bytes.at)
    (low : (a : ℕ) → w.area_store.store.bytes.mapped a ≡ true → a < 2 ^ 26) where
  pub tidy : IsTidy w (module_state_slid return_address w)
  tidy =
      let s : Store = w.area_store.store in
      let there : HasHeap s = heap_there w.area_store module_state.area_store in
      let h : HeapList = there.heap in
      let found : find_heap module_area_start s.heaps ≡ Some h = there.found in
      let sound : IsSound s = module_state.area_store.ground.sound in
      let start : h.start ≡ module_area_start = found_start module_area_start s.heaps h found in
      let own : find_heap h.start s.heaps ≡ Some h = subst (λ (q : ℕ). find_heap q s.heaps ≡ Some h) (sym start) found in
      let heap : IsHeapIn s.bytes h.start h.end h.items = found_heap s.bytes module_area_start s.heaps h sound.heaps found in
      let last : ℕ = h.start + h.end - 1 in
      let ends : h.start + h.end ≤ 2 ^ 26 =
      omega (arith, heap.inside, low last (heap.mapped last (omega (arith, heap.inside)) (omega (arith, heap.inside)))) in
      let movable : List ℕ = movable_blocks s w.modules (private_words_of w) return_address h in
      let free : HoldNoAnchor s h movable = holds_none w h return_address heap in
      let empty : HoldNoHeap s.heaps h movable = holds_no_heap w h return_address heap in
      let after : IsSound (with_slid s h movable) = sound_slid s h movable sound own free empty ends in
      let blocks : IsModuleState (after_blocks w h movable) [] = blocks_sound w h movable module_state found after in
      let moves : List BlockMove = moves_in h movable in
      let e : AreaStore = with_store w.area_store (with_slid s h movable) in
      let words : IsWordsMoved e (words_moved moves (slots_of w.modules) e) =
      words_good moves (slots_of w.modules) e (slots_below w.modules are) blocks.area_store blocks.system in
      let named : length (private_words_of w) ≤ 64 =
      rw (length-map (slots_of w.modules) (λ (slot : ℕ). word_at s.bytes.at (private_of slot))) (most_slots w.modules are) in
      let may : MaySlide s module_area_start movable = rw found (
        are_blocks (can_move s.anchor (holds_heap s.heaps) w.modules (private_words_of w) return_address) (h.start + 16) h.items heap.totals,
        (few_blocks s.anchor (holds_heap s.heaps) w.modules (private_words_of w) return_address (h.start + 16) h.items heap.totals (few_modules w.modules are) named, (free, empty)),
      ) in
      let slides : KeepsFlex s (with_slid s h movable) = slides_keep s (with_slid s h movable) movable moves sound after may (rw found (refl, refl)) in
      subst (λ (v : ModuleState). IsTidy w v) (sym (slid_where return_address w h found)) (record {
        module_state = module_state_kept (after_blocks w h movable) (module_state_moved w h movable) [] blocks refl words.others (words.good blocks.area_store);
        modules = modules_same moves w.modules are;
        mapped = words.mapped;
        pool = words.pool;
        area_table = words.area_table;
        small = words.small (heap_small (slid_bytes (is_listed movable) (h.start + 16) (h.start + 16) h.items s.bytes.at) h.start h.end (slid_in h movable)
            (slid_small (is_listed movable) (h.start + 16) (h.start + 16) h.items s.bytes.at small));
        keeps = keeps_then s (with_slid s h movable) (module_state_moved w h movable).area_store.store slides words.keeps;
      })
