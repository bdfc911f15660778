-- What a tidy writes: words of the module area's heap, the blocks that it moves, and private words.
use Rattle.profile.specs.MemoryMap.{module_area_start}
use Rattle.std.proofs.Common.{ℕ, ◌≡◌, ◌≢◌, ◌+◌, ◌-◌, ◌*◌, ◌%◌, ◌==◌, ◌≤◌, ◌<◌, ◌++◌, ◌∙◌, ◌⊎◌, Bool, true, List, [], ◌∷◌, Option, Some, None, refl, sym, ap, subst, inl, inr, arith}
use Rattle.std.proofs.lemmas.Bool.{cases_Bool, cases_eq, eq-eqb, ne_eqb, or_left, or_right}
use Rattle.address_map.specs.Bytes.{in_range, with_moved_at, word_start}
use Rattle.address_map.specs.Items.{is_heap_word}
use Rattle.address_map.specs.Moves.{moved_to}
use Rattle.address_map.specs.declared.follow.BlockMove.{BlockMove}
use Rattle.address_map.specs.declared.item.Item.{Item}
use Rattle.address_map.specs.declared.item.Item.TheVariants.{Free, Live}
use Rattle.os_heap_words.proofs.ListsLemmas.Payloads.{heap_beside}
use Rattle.os_heap_words.proofs.ListsLemmas.Reading.{total_facts}
use Rattle.os_heap_words.specs.lists.Heap.{AreTotals, HeapList}
use Rattle.os_heap_words.specs.lists.Lists.{live_total}
use Rattle.os_heap.proofs.Apart.{range_parts}
use Rattle.os_heap.proofs.Found.{found_start}
use Rattle.os_heap.specs.Store.{Store, find_heap}
use Rattle.dynamic_areas.specs.Calls.{OfHeap}
use Rattle.dynamic_areas.specs.Ground.{AreaStore}
use Rattle.rma.proofs.HeapSlideLemmas.LawLemmas.{slid_totals}
use Rattle.rma.proofs.HeapSlideLemmas.Places.{between, first_moved, low_still, one_moved, some_low}
use Rattle.rma.proofs.HeapSlideLemmas.Records.{slid_in}
use Rattle.rma.specs.Calls.{with_store}
use Rattle.rma.specs.heap_slide.Slide.{is_listed, item_place_after, move_of, moves_of, slid_bytes, with_slid}
use Rattle.instances_table.specs.plans.Doable.{is_used}
use Rattle.instances_table.specs.Modules.{slots_of}
use Rattle.instances.proofs.TidyingLemmas.LawLemmas.{heap_after}
use Rattle.instances.specs.tidying.Laws.{tidy_moves, tidy_moves_in}
use Rattle.instances.specs.tidying.Movable.{movable_blocks}
use Rattle.instances.specs.tidying.Slid.{moves_in, private_words_of, words_moved, module_state_moved, module_state_slid, module_state_slid_in}
use Rattle.instances.specs.module_state.ModuleState.{ModuleState, private_word, with_private}
use Rattle.law_machine.proofs.HeapFrameLemmas.Holding.{area_of}
use Rattle.law_machine.specs.heap_frame.FitAreaStores.{IsFitAreaStore}
use Rattle.law_machine.proofs.OtherBytesLemmas.Releases.{word_written}
use Rattle.law_machine.specs.other_bytes.ActionWrites.{IsOfHeldSlot, IsOfSlidBlock, IsPrivateByte}
use Rattle.law_machine.specs.other_bytes.AreaWrites.{IsAreaWord}

-- a live item that moved, and the byte is of it where it went
record IsCopied (mv : ℕ → Bool) (top at : ℕ) (xs : List Item) (a : ℕ) : Type 0 where
  block : ℕ
  total : ℕ
  live : live_total block at xs ≡ Some total
  moves : moved_to (moves_of mv top at xs) block ≢ block
  byte : in_range (moved_to (moves_of mv top at xs) block - 4) total a ≡ true

-- a copy to its own place changes nothing
same_place : (f : ℕ → ℕ) (at place t a : ℕ) → place ≡ at → in_range place t a ≡ true → f (at + (a - place)) ≡ f a
same_place f at place t a here inside =
    let parts : (place ≤ a) × (a < place + t) = range_parts place t a inside in
    let same : at + (a - place) ≡ a = omega (arith, parts.0, here) in
    ap f same

module _ (mv : ℕ → Bool) (a : ℕ) where
  -- the first item is copied
  first_copied : (top at t : ℕ) (xs : List Item) (f : ℕ → ℕ) → top ≤ at → AreTotals (Live t ∷ xs)
      → (let place : ℕ = item_place_after (mv (at + 4)) top at in
      (with_moved_at f at place t a ≡ f a) ⊎ IsCopied mv top at (Live t ∷ xs) a)
  first_copied top at t xs f low totals =
      let place : ℕ = item_place_after (mv (at + 4)) top at in
      let bounds : (top ≤ place) × (place ≤ at) = between (mv (at + 4)) top at low in
      let least = total_facts t totals.0 in
      let ms : List BlockMove = moves_of mv (place + t) (at + t) xs in
      elim (cases_Bool (in_range place t a)) [
        | inr outside ↦ inl (rw outside refl)
        | inl inside ↦ elim (cases_eq place at) [
          | inl here ↦ inl (rw inside (same_place f at place t a here inside))
          | inr other ↦
              let to : moved_to (move_of at place ++ ms) (at + 4) ≡ place + 4 =
              first_moved at place ms (low_still mv (place + t) (at + t) xs (at + 4) (omega (arith, least.0))) in
              let back : moved_to (move_of at place ++ ms) (at + 4) - 4 ≡ place = omega (arith, to) in
              inr (record {
                block = at + 4;
                total = t;
                live = rw (eq-eqb (at + 4) (at + 4) refl) refl;
                moves = λ stays. other (omega (arith, to, stays));
                byte = subst (λ (p : ℕ). in_range p t a ≡ true) (sym back) inside;
              })
        ]
      ]

  -- one of the others is
  later_copied : (top at t : ℕ) (xs : List Item) → AreTotals (Live t ∷ xs)
      → (let place : ℕ = item_place_after (mv (at + 4)) top at in IsCopied mv (place + t) (at + t) xs a → IsCopied mv top at (Live t ∷ xs) a)
  later_copied top at t xs totals copied =
      let place : ℕ = item_place_after (mv (at + 4)) top at in
      let ms : List BlockMove = moves_of mv (place + t) (at + t) xs in
      let least = total_facts t totals.0 in
      let far : at + t + 4 ≤ copied.block = some_low copied.block (at + t) copied.total xs copied.live in
      let other : at + 4 ≢ copied.block = λ same. omega (arith, far, same, least.0) in
      let to : moved_to (move_of at place ++ ms) copied.block ≡ moved_to ms copied.block = one_moved at place ms copied.block other in
      record {
        block = copied.block;
        total = copied.total;
        live = rw (ne_eqb (at + 4) copied.block other) copied.live;
        moves = λ stays. copied.moves (sym to ∙ stays);
        byte = subst (λ (p : ℕ). in_range (p - 4) copied.total a ≡ true) (sym to) copied.byte;
      }

  copied_bytes : (top at : ℕ) (xs : List Item) (f : ℕ → ℕ) → top ≤ at → AreTotals xs → (slid_bytes mv top at xs f a ≡ f a) ⊎ IsCopied mv top at xs a
  copied_bytes top at [] f low totals = inl refl
  copied_bytes top at (Free t ∷ xs) f low totals = elim (copied_bytes top (at + t) xs f (omega arith) totals.1) [
    | inl same ↦ inl same
    | inr copied ↦ inr (record { block = copied.block; total = copied.total; live = copied.live; moves = copied.moves; byte = copied.byte })
  ]
  copied_bytes top at (Live t ∷ xs) f low totals =
      let place : ℕ = item_place_after (mv (at + 4)) top at in
      let bounds : (top ≤ place) × (place ≤ at) = between (mv (at + 4)) top at low in
      elim (copied_bytes (place + t) (at + t) xs (with_moved_at f at place t) (omega (arith, bounds.1)) totals.1) [
        | inr copied ↦ inr (later_copied top at t xs totals copied)
        | inl same ↦ elim (first_copied top at t xs f low totals) [
          | inl kept ↦ inl (same ∙ kept)
          | inr copied ↦ inr copied
        ]
      ]

-- private words, one after another
record IsOfSlots (slots : List ℕ) (a : ℕ) : Type 0 where
  slot : ℕ
  held : is_used slot slots ≡ true
  byte : IsPrivateByte slot a

words_written : (moves : List BlockMove) (slots : List ℕ) (e : AreaStore) (a : ℕ) → ((words_moved moves slots e).store.bytes.at a ≡ e.store.bytes.at a) ⊎ IsOfSlots slots a
words_written moves [] e a = inl refl
words_written moves (slot ∷ slots) e a =
    let value : ℕ = moved_to moves (private_word e slot) in
    elim (words_written moves slots (with_private e slot value) a) [
      | inr later ↦ inr (record { slot = later.slot; held = or_right (slot == later.slot) (is_used later.slot slots) later.held; byte = later.byte })
      | inl kept ↦ elim (word_written e slot value a) [
        | inl same ↦ inl (kept ∙ same)
        | inr own ↦ inr (record { slot = slot; held = or_left (slot == slot) (is_used slot slots) (eq-eqb slot slot refl); byte = own })
      ]
    ]

module _ (return_address : ℕ) (w : ModuleState) (a : ℕ) (fit : IsFitAreaStore w.area_store) where
  abbrev Slides : ModuleState → Type 0
  Slides v = (v.area_store.store.bytes.at a ≡ w.area_store.store.bytes.at a)
      ⊎ (IsAreaWord v.area_store.store a ⊎ (IsOfSlidBlock return_address w a ⊎ IsOfHeldSlot w a))

  module _ (h : HeapList) (found : find_heap module_area_start w.area_store.store.heaps ≡ Some h) where
    abbrev movable : List ℕ
    movable = movable_blocks w.area_store.store w.modules (private_words_of w) return_address h

    abbrev Copied : Type 0
    Copied = IsCopied (is_listed movable) (h.start + 16) (h.start + 16) h.items a

    slid_block : Copied → IsOfSlidBlock return_address w a
    slid_block copied =
        let moves : tidy_moves return_address w ≡ moves_in h movable = ap (tidy_moves_in return_address w) found in
        record {
          block = copied.block;
          total = copied.total;
          live = subst (OfHeap (λ g. live_total copied.block (g.start + 16) g.items ≡ Some copied.total)) (sym found) copied.live;
          moves = subst (λ (ms : List BlockMove). moved_to ms copied.block ≢ copied.block) (sym moves) copied.moves;
          byte = subst (λ (ms : List BlockMove). in_range (moved_to ms copied.block - 4) copied.total a ≡ true) (sym moves) copied.byte;
        }

    -- the heap's own slide
    slid_byte : ((with_slid w.area_store.store h movable).bytes.at a ≡ w.area_store.store.bytes.at a)
        ⊎ ((is_heap_word h.start (slid_in h movable) (word_start a) ≡ true) ⊎ Copied)
    slid_byte =
        let s : Store = w.area_store.store in
        let first : ℕ = h.start + 16 in
        let start : h.start ≡ module_area_start = found_start module_area_start s.heaps h found in
        let aligned : h.start % 4 ≡ 0 = rw start refl in
        let own : AreTotals h.items = (area_of (4096 * fit.area.pages) s h fit.store found).totals in
        let zero : (first - first) % 8 ≡ 0 = (let none : first - first ≡ 0 = omega arith in rw none refl) in
        let totals : AreTotals (slid_in h movable) = slid_totals (is_listed movable) first first h.items (omega arith) zero own in
        let bytes : ℕ → ℕ = slid_bytes (is_listed movable) first first h.items s.bytes.at in
        elim (cases_Bool (is_heap_word h.start (slid_in h movable) (word_start a))) [
          | inl word ↦ inr (inl word)
          | inr beside ↦ elim (copied_bytes (is_listed movable) a first first h.items s.bytes.at (omega arith) own) [
            | inl same ↦ inl (heap_beside bytes h.start h.end (slid_in h movable) a aligned totals beside ∙ same)
            | inr copied ↦ inr (inr copied)
          ]
        ]

    moved_by : (with_slid w.area_store.store h movable).bytes.at a ≡ (module_state_moved w h movable).area_store.store.bytes.at a
        → ((with_slid w.area_store.store h movable).bytes.at a ≡ w.area_store.store.bytes.at a)
        ⊎ ((is_heap_word h.start (slid_in h movable) (word_start a) ≡ true) ⊎ Copied)
        → Slides (module_state_moved w h movable)
    moved_by kept (inl same) = inl (sym kept ∙ same)
    moved_by kept (inr (inl word)) = inr (inl (record {
      list = record { kind = h.kind; start = h.start; end = h.end; items = slid_in h movable };
      found = heap_after w h movable found;
      word = word;
    }))
    moved_by kept (inr (inr copied)) = inr (inr (inl (slid_block copied)))

    moved_written : Slides (module_state_moved w h movable)
    moved_written =
        elim (words_written (moves_in h movable) (slots_of w.modules) (with_store w.area_store (with_slid w.area_store.store h movable)) a) [
          | inl kept ↦ moved_by (sym kept) slid_byte
          | inr held ↦ inr (inr (inr (record { slot = held.slot; held = held.held; byte = held.byte })))
        ]

  slid_where : (o : Option HeapList) → find_heap module_area_start w.area_store.store.heaps ≡ o → Slides (module_state_slid_in return_address w o)
  slid_where None found = inl refl
  slid_where (Some h) found = moved_written h found

  pub slid_written : Slides (module_state_slid return_address w)
  unfolding module_state_slid
  slid_written = slid_where (find_heap module_area_start w.area_store.store.heaps) refl
