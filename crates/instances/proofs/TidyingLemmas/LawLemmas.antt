-- The laws of tidied module areas.
use Rattle.instances_table.specs.MemoryMap.{module_area_start, system_start}
use Rattle.std.proofs.Common.{◌≡◌, ℕ, ◌+◌, ◌-◌, ◌*◌, ◌%◌, ◌<◌, ◌≤◌, ◌∙◌, true, false, List, [], ◌∷◌, refl, sym, ap, subst, Option, Some, None, Ok, arith}
use Rattle.std.specs.Prelude.{is_some}
use Rattle.std.proofs.lemmas.Bool.Decides.{nat_tests}
use Rattle.rma.specs.Bytes.{with_word_at}
use Rattle.rma.specs.Items.{size_of}
use Rattle.rma.specs.Moves.{moved_to}
use Rattle.rma.specs.BlockMove.{BlockMove}
use Rattle.rma.proofs.LiveBlocks.{LiveBytes, law_live_bytes}
use Rattle.rma.specs.lists.Counts.{free_count}
use Rattle.rma.specs.lists.Heap.{AreTotals, HeapList, IsHeapIn}
use Rattle.rma.specs.lists.Lists.{live_total}
use Rattle.rma.proofs.Found.{found_heap, found_start}
use Rattle.rma.proofs.Moving.{found_held}
use Rattle.rma.specs.OsHeapCalls.{OfHeap, heap_description}
use Rattle.rma.specs.Store.{Store, find_heap}
use Rattle.rma.proofs.HeapSlideLemmas.KeptBlocks.{slide_keeps_blocks}
use Rattle.rma.proofs.HeapSlideLemmas.LawLemmas.{slid_totals, slide_clears, slide_describes, slide_fits}
use Rattle.rma.proofs.HeapSlideLemmas.Records.{slid_in}
use Rattle.rma.specs.heap_slide.Laws.{AreMovable}
use Rattle.rma.specs.heap_slide.Slide.{is_listed, with_slid}
use Rattle.rma.proofs.ModuleArea.{IsModuleArea, module_area_known}
use Rattle.rma.proofs.RoomLemmas.{found_room}
use Rattle.rma.specs.Areas.{find_area}
use Rattle.rma.specs.Ground.{AreaStore, IsAreaStore}
use Rattle.rma.specs.Rooms.{IsAreaRoom}
use Rattle.rma.specs.Area.{Area}
use Rattle.rma.specs.Calls.{or_nothing, rma_described, with_store}
use Rattle.instances_table.specs.plans.Code.{private_of}
use Rattle.instances_table.specs.Modules.{slots_of}
use Rattle.instances.specs.module_state.Sound.{IsModuleState}
use Rattle.instances.specs.module_state.ModuleState.{ModuleState, private_word, with_private}
use Rattle.instances.specs.tidying.Laws.{IsLive, TidyJoinsRoom, TidyKeepsBlocks, tidy_moves_in}
use Rattle.instances.specs.tidying.Movable.{movable_blocks}
use Rattle.instances.specs.tidying.Slid.{moves_in, private_words_of, words_moved, module_state_moved, module_state_slid, module_state_slid_in}

-- the module area's heap has whole pages, and ends below the system pages
record HasPages (end : ℕ) : Type 0 where
  low : module_area_start + end ≤ system_start
  whole : end % 8 ≡ 0

has_pages : (e : AreaStore) (h : HeapList) → IsAreaStore e → find_heap module_area_start e.store.heaps ≡ Some h → HasPages h.end
has_pages e h good found = go (find_area 1 e.area_table.areas) refl good.ground.table.first where
  go : (o : Option Area) → find_area 1 e.area_table.areas ≡ o → is_some o ≡ true → HasPages h.end
  go None none some = absurd (let no : false ≡ true = some in cc)
  go (Some a) there some =
      let known : IsModuleArea e.store a = module_area_known e.store e.pool e.area_table a good there in
      let room : IsAreaRoom a = found_room 1 e.area_table.areas a good.ground.table.rooms there in
      let both : Some h ≡ Some known.heap = sym found ∙ known.found in
      let same : h ≡ known.heap = cc in
      let end : h.end ≡ 4096 * a.pages = ap (λ (x : HeapList). x.end) same ∙ known.end in
      let most : a.maximum ≡ 4194304 = known.maximum in
      let within : 4096 * a.pages ≤ a.maximum = room.within in
      record { low = omega (arith, end, most, within); whole = omega (arith, end) }

pub is_low : (e : AreaStore) (h : HeapList) → IsAreaStore e → find_heap module_area_start e.store.heaps ≡ Some h → module_area_start + h.end ≤ system_start
is_low e h good found = (has_pages e h good found).low

is_whole : (e : AreaStore) (h : HeapList) → IsAreaStore e → find_heap module_area_start e.store.heaps ≡ Some h → h.end % 8 ≡ 0
is_whole e h good found = (has_pages e h good found).whole

-- private words are beyond all heaps
pub words_heaps : (moves : List BlockMove) (slots : List ℕ) (e : AreaStore) → (words_moved moves slots e).store.heaps ≡ e.store.heaps
words_heaps moves [] e = refl
words_heaps moves (slot ∷ slots) e = words_heaps moves slots (with_private e slot (moved_to moves (private_word e slot)))

word_beyond : (bytes : ℕ → ℕ) (slot value a : ℕ) → a < 0x01C02000 → with_word_at bytes (private_of slot) value a ≡ bytes a
word_beyond bytes slot value a low = grind (arith, nat_tests)

words_beyond : (moves : List BlockMove) (slots : List ℕ) (e : AreaStore) (a : ℕ) → a < 0x01C02000 → (words_moved moves slots e).store.bytes.at a ≡ e.store.bytes.at a
words_beyond moves [] e a low = refl
words_beyond moves (slot ∷ slots) e a low =
    let value : ℕ = moved_to moves (private_word e slot) in
    words_beyond moves slots (with_private e slot value) a low ∙ word_beyond e.store.bytes.at slot value a low

-- what was tidied, where the heap is known
pub slid_where : (return_address : ℕ) (w : ModuleState) (h : HeapList) → find_heap module_area_start w.area_store.store.heaps ≡ Some h
    → module_state_slid return_address w ≡ module_state_moved w h (movable_blocks w.area_store.store w.modules (private_words_of w) return_address h)
unfolding module_state_slid
slid_where return_address w h found = ap (λ (o : Option HeapList). module_state_slid_in return_address w o) found

-- the heap afterwards
pub heap_after : (w : ModuleState) (h : HeapList) (movable : List ℕ) → find_heap module_area_start w.area_store.store.heaps ≡ Some h
    → (let p : HeapList = record { kind = h.kind; start = h.start; end = h.end; items = slid_in h movable } in
    find_heap module_area_start (module_state_moved w h movable).area_store.store.heaps ≡ Some p)
heap_after w h movable found =
    let p : HeapList = record { kind = h.kind; start = h.start; end = h.end; items = slid_in h movable } in
    let s : Store = w.area_store.store in
    let start : h.start ≡ module_area_start = found_start module_area_start s.heaps h found in
    let own : find_heap h.start s.heaps ≡ Some h = subst (λ (q : ℕ). find_heap q s.heaps ≡ Some h) (sym start) found in
    let there : find_heap h.start (with_slid s h movable).heaps ≡ Some p = found_held h.start (slid_in h movable) s.heaps h own in
    let there' : find_heap module_area_start (with_slid s h movable).heaps ≡ Some p =
    subst (λ (q : ℕ). find_heap q (with_slid s h movable).heaps ≡ Some p) start there in
    ap (λ (hs : List HeapList). find_heap module_area_start hs)
    (words_heaps (moves_in h movable) (slots_of w.modules) (with_store w.area_store (with_slid s h movable))) ∙ there'

pub keeps_moved : (w : ModuleState) (h : HeapList) (movable : List ℕ) → IsModuleState w [] → find_heap module_area_start w.area_store.store.heaps ≡ Some h
    → (block total : ℕ) → live_total block (h.start + 16) h.items ≡ Some total
    → IsLive (module_state_moved w h movable).area_store.store (moved_to (moves_in h movable) block) total
    × ((k : ℕ) → k + 4 < total → (module_state_moved w h movable).area_store.store.bytes.at (moved_to (moves_in h movable) block + k) ≡ w.area_store.store.bytes.at (block + k))
keeps_moved w h movable module_state found block total live =
    let s : Store = w.area_store.store in
    let spelled : IsHeapIn s.bytes h.start h.end h.items = found_heap s.bytes module_area_start s.heaps h module_state.area_store.ground.sound.heaps found in
    let low : module_area_start + h.end ≤ system_start = is_low w.area_store h module_state.area_store found in
    let start : h.start ≡ module_area_start = found_start module_area_start s.heaps h found in
    let to : ℕ = moved_to (moves_in h movable) block in
    let kept = slide_keeps_blocks s h movable spelled.aligned spelled.totals block total live in
    let e : AreaStore = with_store w.area_store (with_slid s h movable) in
    let fits = (slide_fits (is_listed movable) (h.start + 16) (h.start + 16) h.items (omega arith)).1 in
    let zero : (h.start + 16 - (h.start + 16)) % 8 ≡ 0 = (let none : h.start + 16 - (h.start + 16) ≡ 0 = omega arith in rw none refl) in
    let totals : AreTotals (slid_in h movable) = slid_totals (is_listed movable) (h.start + 16) (h.start + 16) h.items (omega arith) zero spelled.totals in
    let place : LiveBytes to total (h.start + 16) (h.start + 16 + size_of (slid_in h movable)) = law_live_bytes to total (h.start + 16) (slid_in h movable) totals kept.0 in
    let below : (k : ℕ) → k + 4 < total → to + k < 0x01C02000 = λ k less.
    omega (arith, less, place.high, place.low, fits, spelled.inside, low, start) in (
      rw (heap_after w h movable found) kept.0,
      λ k less.
          words_beyond (moves_in h movable) (slots_of w.modules) e (to + k) (below k less) ∙ kept.1 k less,
    )

keeps_where : (return_address : ℕ) (w : ModuleState) (o : Option HeapList) → IsModuleState w [] → find_heap module_area_start w.area_store.store.heaps ≡ o
    → (block total : ℕ) → OfHeap (λ h. live_total block (h.start + 16) h.items ≡ Some total) o
    → IsLive (module_state_slid_in return_address w o).area_store.store (moved_to (tidy_moves_in return_address w o) block) total
    × ((k : ℕ) → k + 4 < total
    → (module_state_slid_in return_address w o).area_store.store.bytes.at (moved_to (tidy_moves_in return_address w o) block + k) ≡ w.area_store.store.bytes.at (block + k))
keeps_where return_address w None module_state found block total live = absurd live
keeps_where return_address w (Some h) module_state found block total live =
    keeps_moved w h (movable_blocks w.area_store.store w.modules (private_words_of w) return_address h) module_state found block total live

pub tidy_keeps_blocks : TidyKeepsBlocks
unfolding module_state_slid
tidy_keeps_blocks return_address w module_state block total live =
    keeps_where return_address w (find_heap module_area_start w.area_store.store.heaps) module_state refl block total live

-- what describe shows reads the heaps alone
described_by : (s t : Store) → t.heaps ≡ s.heaps → heap_description t module_area_start ≡ heap_description s module_area_start
unfolding heap_description
described_by s t same = rw same refl

joins_moved : (w : ModuleState) (h g : HeapList) (movable : List ℕ) → IsModuleState w [] → find_heap module_area_start w.area_store.store.heaps ≡ Some h
    → AreMovable (is_listed movable) (h.start + 16) h.items → find_heap module_area_start (module_state_moved w h movable).area_store.store.heaps ≡ Some g
    → (room : ℕ) → room ≡ g.end - (16 + size_of g.items)
    → (free_count g.items ≡ 0) × (heap_description (module_state_moved w h movable).area_store.store module_area_start ≡ Ok (room - 4, room))
joins_moved w h g movable module_state found all there room is =
    let s : Store = w.area_store.store in
    let p : HeapList = record { kind = h.kind; start = h.start; end = h.end; items = slid_in h movable } in
    let spelled : IsHeapIn s.bytes h.start h.end h.items = found_heap s.bytes module_area_start s.heaps h module_state.area_store.ground.sound.heaps found in
    let start : h.start ≡ module_area_start = found_start module_area_start s.heaps h found in
    let own : find_heap h.start s.heaps ≡ Some h = subst (λ (q : ℕ). find_heap q s.heaps ≡ Some h) (sym start) found in
    let both : Some g ≡ Some p = sym there ∙ heap_after w h movable found in
    let same : g ≡ p = cc in
    let items : g.items ≡ slid_in h movable = ap (λ (x : HeapList). x.items) same in
    let end : g.end ≡ h.end = ap (λ (x : HeapList). x.end) same in
    let room' : room ≡ h.end - (16 + size_of (slid_in h movable)) = is ∙ ap (λ (x : HeapList). x.end - (16 + size_of x.items)) same in
    let reported : heap_description (with_slid s h movable) h.start ≡ Ok (room - 4, room) =
    slide_describes s h movable own spelled.totals (is_whole w.area_store h module_state.area_store found) all room room' in
    let reported' : heap_description (with_slid s h movable) module_area_start ≡ Ok (room - 4, room) =
    subst (λ (q : ℕ). heap_description (with_slid s h movable) q ≡ Ok (room - 4, room)) start reported in
    let heaps = words_heaps (moves_in h movable) (slots_of w.modules) (with_store w.area_store (with_slid s h movable)) in (
      ap free_count items ∙ slide_clears (is_listed movable) (h.start + 16) (h.start + 16) h.items (omega arith) all,
      described_by (with_slid s h movable) (module_state_moved w h movable).area_store.store heaps ∙ reported',
    )

pub tidy_joins_room : TidyJoinsRoom
unfolding rma_described
tidy_joins_room return_address w h g module_state found all there room is =
    let movable : List ℕ = movable_blocks w.area_store.store w.modules (private_words_of w) return_address h in
    let same : module_state_slid return_address w ≡ module_state_moved w h movable = slid_where return_address w h found in
    let there' = subst (λ (x : ModuleState). find_heap module_area_start x.area_store.store.heaps ≡ Some g) same there in
    let both = joins_moved w h g movable module_state found all there' room is in
    (both.0, ap (λ (x : ModuleState). or_nothing (heap_description x.area_store.store module_area_start)) same ∙ ap or_nothing both.1)
