-- Each turn follows its rule, and so do lists of turns.
use Rattle.profile.specs.MemoryMap.{module_area_start}
use Rattle.std.proofs.Common.{ℕ, Bool, true, false, ◌≡◌, ◌∙◌, List, [], ◌∷◌, map, Option, Some, None, is_some, refl, ap, subst, sym, inl, inr, arith}
use Rattle.std.specs.Prelude.{if◌then◌else◌}
use Rattle.std.proofs.lemmas.Bool.{cases_Bool}
use Rattle.address_map.proofs.Bytes.{byte_at-lt, is_mapped-page}
use Rattle.address_map.proofs.Spans.{mapped_below}
use Rattle.address_map.specs.Bytes.{word_start}
use Rattle.address_map.specs.declared.follow.BlockMove.{BlockMove}
use Rattle.address_map.specs.declared.map.AddressMap.{AddressMap}
use Rattle.os_heap_words.specs.lists.Heap.{HeapList}
use Rattle.os_heap.specs.Store.{find_heap, store_of}
use Rattle.rma.specs.flex_frame.Keeping.{IsFlexKept, KeepsFlex}
use Rattle.flex_store.specs.Blocks.{FlexStore}
use Rattle.law_machine.specs.flex.Numbered.{blocks_seen}
use Rattle.law_machine.specs.flex.Padding.{all_paddings}
use Rattle.flex_store.specs.Laws.{contents_in}
use Rattle.instances_table.specs.declared.parts.Image.{Image}
use Rattle.instances_table.specs.Modules.{Module}
use Rattle.swi_dispatch_guest.specs.Sound.{IsModuleState}
use Rattle.swi_dispatch_guest.specs.ModuleState.{ModuleState}
use Rattle.swi_dispatch_guest.specs.Movable.{movable_blocks}
use Rattle.swi_dispatch_guest.specs.Slid.{image_moved, moves_in, private_words_of, module_state_slid, module_state_slid_in}
use Rattle.law_machine.proofs.SlidingStoresLemmas.Beginning.{init_followed}
use Rattle.law_machine.proofs.SlidingStoresLemmas.CalledSeen.{anchor_word}
use Rattle.law_machine.proofs.SlidingStoresLemmas.Calling.{call_followed}
use Rattle.law_machine.proofs.SlidingStoresLemmas.Kept.{kept_store}
use Rattle.law_machine.proofs.SlidingStoresLemmas.SlidSound.{IsTidy, tidy}
use Rattle.law_machine.proofs.SlidingStoresLemmas.SlidModuleStates.{IsAreaKept, area_kept}
use Rattle.law_machine.proofs.SlidingStoresLemmas.Spelled.{has_store, spelled_kept}
use Rattle.law_machine.specs.sliding_stores.Laws.{IsFollowed, MachinesHaveStores, TurnsFollowRules, module_without_place}
use Rattle.law_machine.specs.sliding_stores.Meaning.{AreStores, IsMemory, PayloadPlace, Stores, area_places, contents_of, flex_padding, flex_seen, meaning_of, payload_place_in, store_in}
use Rattle.law_machine.specs.sliding_stores.Turning.{AreAllowed, Call, Init, IsTurnAllowed, Slide, FlexOrSlide, answer_of_turn, stores_after_step}

-- a slide moves images, and leaves all else of their modules
images_alike : (moves : List BlockMove) (ms : List Module) → map module_without_place (map (image_moved moves) ms) ≡ map module_without_place ms
images_alike moves [] = refl
images_alike moves (m ∷ ms) = ap (λ (xs : List Module). module_without_place m ∷ xs) (images_alike moves ms)

modules_slid_in : (return_address : ℕ) (w : ModuleState) (o : Option HeapList)
    → map module_without_place (module_state_slid_in return_address w o).modules ≡ map module_without_place w.modules
modules_slid_in return_address w None = refl
modules_slid_in return_address w (Some h) =
    images_alike (moves_in h (movable_blocks w.area_store.store w.modules (private_words_of w) return_address h)) w.modules

modules_slid : (return_address : ℕ) (w : ModuleState) → map module_without_place (module_state_slid return_address w).modules ≡ map module_without_place w.modules
unfolding module_state_slid
modules_slid return_address w = modules_slid_in return_address w (find_heap module_area_start w.area_store.store.heaps)

place_of_some : (x : Stores) (w : ModuleState) (a : ℕ) (b : Bool) → is_some (contents_of x a) ≡ b
    → area_places (contents_of x) w a ≡ (if b then payload_place_in a (find_heap module_area_start w.area_store.store.heaps) else None)
place_of_some x w a b is = ap (λ (q : Bool). let o : Option PayloadPlace = if q then payload_place_in a (find_heap module_area_start w.area_store.store.heaps) else None in o) is

module _ (return_address : ℕ) (x : Stores) (are : AreStores x) (none : x.pending ≡ []) where
  y : Stores
  y = record x { module_state = module_state_slid return_address x.module_state }

  module_state : IsModuleState x.module_state []
  module_state = subst (IsModuleState x.module_state) none are.module_state

  tidied : IsTidy x.module_state (module_state_slid return_address x.module_state)
  tidied = tidy return_address x.module_state module_state are.modules are.memory.bytes are.memory.low

  kept : IsAreaKept x.module_state (module_state_slid return_address x.module_state)
  kept = area_kept return_address x.module_state module_state are.modules are.memory.bytes

  flex_frame : IsFlexKept (store_in x) (store_in y)
  unfolding KeepsFlex y
  flex_frame = (tidied.keeps are.flex.free).0

  contents_slid : (a : ℕ) → contents_of y a ≡ contents_of x a
  unfolding y flex_frame
  contents_slid a =
      ap (λ (o : Option FlexStore). contents_in o a) (spelled_kept (store_in x) (module_state_slid return_address x.module_state).area_store.store x.flex.extent are.flex.is flex_frame)

  seen_slid : flex_seen y ≡ flex_seen x
  unfolding y flex_frame
  seen_slid = ap blocks_seen (spelled_kept (store_in x) (module_state_slid return_address x.module_state).area_store.store x.flex.extent are.flex.is flex_frame)

  padding_slid : flex_padding y ≡ flex_padding x
  unfolding y flex_frame
  padding_slid = ap all_paddings (spelled_kept (store_in x) (module_state_slid return_address x.module_state).area_store.store x.flex.extent are.flex.is flex_frame)

  places_slid : (a : ℕ) → area_places (contents_of y) y.module_state a ≡ area_places (contents_of x) x.module_state a
  unfolding y contents_slid
  places_slid a =
      let same : is_some (contents_of y a) ≡ is_some (contents_of x a) = ap is_some (contents_slid a) in
      elim (cases_Bool (is_some (contents_of x a))) [
        | inr gone ↦ place_of_some y y.module_state a false (same ∙ gone) ∙ sym (place_of_some x x.module_state a false gone)
        | inl some ↦
            place_of_some y y.module_state a true (same ∙ some)
            ∙ (kept.places a (anchor_word (store_in x) x.flex.extent a are.flex.is some).1 ∙ sym (place_of_some x x.module_state a true some))
      ]

  stores : AreStores y
  unfolding y
  stores = record {
    module_state = subst (IsModuleState (module_state_slid return_address x.module_state)) (sym none) tidied.module_state;
    flex = kept_store (store_in x) (module_state_slid return_address x.module_state).area_store.store x.flex are.flex tidied.keeps tidied.mapped;
    modules = tidied.modules;
    memory = record {
      bytes = tidied.small;
      low = λ a there. are.memory.low a (ap (λ (p : ℕ → Bool). p a) (sym tidied.mapped) ∙ there);
      words = λ a. ap (λ (p : ℕ → Bool). p a) tidied.mapped ∙ (are.memory.words a ∙ ap (λ (p : ℕ → Bool). p (word_start a)) (sym tidied.mapped));
    };
    one = are.one;
  }

  slide_followed : IsFollowed (Slide return_address) x (stores_after_step (Slide return_address) x)
  unfolding stores_after_step answer_of_turn meaning_of y stores contents_slid places_slid seen_slid padding_slid
  slide_followed = record {
    rule = record { flex = seen_slid; padding = padding_slid; places = places_slid; blocks = kept.blocks; images = kept.images; names = kept.names };
    words = kept.words;
    modules = modules_slid return_address x.module_state;
    stores = stores;
    mapped = tidied.mapped;
    pool = tidied.pool;
    area_table = tidied.area_table;
    pending = refl;
  }

followed : (turn : FlexOrSlide) (x : Stores) → AreStores x → IsTurnAllowed x.pending turn → IsFollowed turn x (stores_after_step turn x)
followed (Init start end) x are may = init_followed x start end are
followed (Call call) x are may = call_followed x call are may
followed (Slide return_address) x are may = slide_followed return_address x are may

allowed_still : (pending new : List Image) (turns : List FlexOrSlide) → new ≡ pending → AreAllowed pending turns → AreAllowed new turns
allowed_still pending new turns same may = subst (λ (p : List Image). AreAllowed p turns) (sym same) may

pub turns_follow : TurnsFollowRules
turns_follow x [] are may = tt
turns_follow x (turn ∷ turns) are may =
    let f : IsFollowed turn x (stores_after_step turn x) = followed turn x are may.0 in
    (f, turns_follow (stores_after_step turn x) turns f.stores (allowed_still x.pending (stores_after_step turn x).pending turns f.pending may.1))

-- the memory of a map
is_memory : (m : AddressMap) → IsMemory (store_of m).bytes
unfolding store_of
is_memory m = record {
  bytes = λ a. byte_at-lt m a;
  low = λ a there. mapped_below m a there;
  words = λ a. is_mapped-page m a (word_start a) (omega arith);
}

pub machines_have : MachinesHaveStores
machines_have m l modules pending f module_state has are one =
    record { module_state = module_state; flex = has_store m f has; modules = are; memory = is_memory m; one = one }
