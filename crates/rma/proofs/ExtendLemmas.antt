-- Blocks of the module area, and where a change of one is sure to be done once the area is grown.
use Rattle.dynamic_areas.specs.MemoryMap.{module_area_start}
use Rattle.std.proofs.Common.{if◌then◌else◌, ◌≡◌, ◌≢◌, ℕ, ◌+◌, ◌-◌, ◌==◌, ◌*◌, ◌^◌, ◌<◌, ◌≤◌, ◌⊎◌, Bool, true, false, refl, sym, ap, subst, ◌∙◌, Some, None, Ok, Err, inl, inr, arith}
use Rattle.std.specs.Prelude.{Option, Result, is_some, is_ok, nat_le, ok_or}
use Rattle.std.proofs.lemmas.Bool.{both_ways, cases_Bool, eq-eqb, eqb-true, leb-true, leb-false}
use Rattle.dynamic_areas.specs.Outcome.{Gives, bind}
use Rattle.dynamic_areas.specs.ErrorNumber.{ErrorNumber}
use Rattle.dynamic_areas.specs.ErrorNumber.TheVariants.{BlockHoldsHeap, HeapBadDesc, HeapNotABlock, RmaBlockHoldsHeap, RmaNoRoom}
use Rattle.dynamic_areas.specs.Items.{size_of}
use Rattle.dynamic_areas.specs.Memory.{bytes_of}
use Rattle.dynamic_areas.specs.AddressMap.{AddressMap}
use Rattle.dynamic_areas.specs.Heap.{HeapList, AreTotals, IsHeapIn}
use Rattle.dynamic_areas.specs.OsHeapWordsLists.{changed_by, live_total, resized_in_place, round_up_8, total_for}
use Rattle.dynamic_areas.proofs.LiveBlocks.{LiveBytes, law_live_bytes}
use Rattle.dynamic_areas.specs.Calls.{block_sized, bytes_held, store_after_get, guests_total, holds_anchor, store_after_resize, unless_image}
use Rattle.dynamic_areas.specs.Forgetting.{holds_heap}
use Rattle.dynamic_areas.specs.Room.{base_offset}
use Rattle.dynamic_areas.specs.Store.{Store, IsSound, find_heap, has_image, store_of}
use Rattle.dynamic_areas.proofs.Found.{found_heap, found_start}
use Rattle.dynamic_areas.proofs.Replace.{heap_below}
use Rattle.dynamic_areas.specs.Changing.{pages_had}
use Rattle.dynamic_areas.specs.Ground.{AreaStore, IsAreaStore}
use Rattle.rma.specs.Calls.{area_pages, block_holds, end_if_moved, end_in_place, grown_in_place, grown_to, in_area, in_grown_area, is_full, or_as_before, rma_base, total_changed}
use Rattle.rma.proofs.AreaStores.{not_full}
use Rattle.rma.proofs.GrowthLemmas.{HasArea, IsGrown, area_there, grown_less, grown_not, growth_error, is_grown}
use Rattle.rma.proofs.ResizeLemmas.{IsGuests, IsMoving, full_free, full_moves, got_fits, in_place_stays, last_fits, resized_fits, resized_holds}

-- the block whose size is asked for
pub record IsSized (s : Store) (h : HeapList) (block size : ℕ) : Type 0 where
  pub total : ℕ
  pub guests : IsGuests s h block total
  pub same : size ≡ total - 4

held_by : (s : Store) (h : HeapList) (block size : ℕ) → bytes_held (guests_total s.others h.start h.items block) ≡ Ok size → IsSized s h block size
held_by s h block size e = go (has_image block s.others) (live_total block (h.start + 16) h.items) refl refl e where
  go : (b : Bool) (o : Option ℕ) → has_image block s.others ≡ b → live_total block (h.start + 16) h.items ≡ o
      → bytes_held (ok_or (unless_image b o) HeapNotABlock) ≡ Ok size → IsSized s h block size
  go true o image live e = absurd (let no : Err HeapNotABlock ≡ Ok size = e in cc)
  go false None image live e = absurd (let no : Err HeapNotABlock ≡ Ok size = e in cc)
  go false (Some t) image live e =
      let one : Ok (t - 4) ≡ Ok size = e in
      let size' : t - 4 ≡ size = cc in
      record { total = t; guests = record { own = image; live = live }; same = sym size' }

pub sized_by : (s : Store) (heap : ℕ) (h : HeapList) (block size : ℕ) → find_heap heap s.heaps ≡ Some h → block_sized s heap block ≡ Ok size
    → IsSized s h block size
unfolding block_sized
sized_by s heap h block size found e = held_by s h block size (let t = rw found at e in t)

pub base_is : (s : Store) (heap : ℕ) (h : HeapList) → find_heap heap s.heaps ≡ Some h → base_offset s heap ≡ 16 + size_of h.items
unfolding base_offset
base_is s heap h found = rw found refl

-- a block lies below the base, and this within memory
pub record LiesBelow (m : AddressMap) (block size : ℕ) : Type 0 where
  pub small : size + 20 ≤ base_offset (store_of m) module_area_start
  pub within : block + size ≤ module_area_start + base_offset (store_of m) module_area_start
  pub base : module_area_start + base_offset (store_of m) module_area_start ≤ 2 ^ 26

lies_in : (m : AddressMap) (h : HeapList) (block size : ℕ) → IsSound (store_of m) → find_heap module_area_start (store_of m).heaps ≡ Some h
    → block_sized (store_of m) module_area_start block ≡ Ok size → LiesBelow m block size
unfolding store_of
lies_in m h block size sound found e =
    let heap : IsHeapIn (bytes_of m) h.start h.end h.items = found_heap (bytes_of m) module_area_start (store_of m).heaps h sound.heaps found in
    let start : h.start ≡ module_area_start = found_start module_area_start (store_of m).heaps h found in
    let top = heap_below m h.start h.end h.items heap in
    let is : IsSized (store_of m) h block size = sized_by (store_of m) module_area_start h block size found e in
    let place : LiveBytes block is.total (h.start + 16) (h.start + 16 + size_of h.items) =
    law_live_bytes block is.total (h.start + 16) h.items heap.totals is.guests.live in
    let base : base_offset (store_of m) module_area_start ≡ 16 + size_of h.items = base_is (store_of m) module_area_start h found in
    record {
      small = omega (arith, base, is.same, place.low, place.high, place.size, start);
      within = omega (arith, base, is.same, place.high, place.size, start);
      base = omega (arith, base, top, heap.inside, start);
    }

sized_none : (s : Store) (heap block size : ℕ) → find_heap heap s.heaps ≡ None → block_sized s heap block ≡ Ok size → ⊥
unfolding block_sized
sized_none s heap block size none e = let no : Err HeapBadDesc ≡ Ok size = rw none at e in cc

pub lies_below : (m : AddressMap) (block size : ℕ) → IsSound (store_of m) → block_sized (store_of m) module_area_start block ≡ Ok size → LiesBelow m block size
lies_below m block size sound e = go (find_heap module_area_start (store_of m).heaps) refl where
  go : (o : Option HeapList) → find_heap module_area_start (store_of m).heaps ≡ o → LiesBelow m block size
  go None none = absurd (sized_none (store_of m) module_area_start block size none e)
  go (Some h) found = lies_in m h block size sound found e

-- a claim in the grown area
pub claim_done : (e g : AreaStore) (size end : ℕ) → IsGrown e g end → end ≡ rma_base e.store + total_for size → is_ok (store_after_get g.store module_area_start size) ≡ true
claim_done e g size end grown is =
    let h : HeapList = grown.heap in
    got_fits g.store module_area_start size (record { kind = h.kind; start = h.start; end = grown.limit; items = h.items }) grown.there
    (omega (arith, grown.reaches, is, base_is e.store module_area_start h grown.found))

-- a change in the grown area, for which that has room
resize_done : (e g : AreaStore) (block total change end : ℕ) (grown : IsGrown e g end) → IsGuests e.store grown.heap block total
    → ((is_some (resized_in_place block (grown.heap.start + grown.limit) (round_up_8 (changed_by total change)) (grown.heap.start + 16) grown.heap.items) ≡ true)
    × (total < round_up_8 (changed_by total change)))
    ⊎ ((holds_anchor g.store.anchor block (Some total) ≡ false)
    × ((holds_heap g.store.heaps block (total - 4) ≡ false) × (16 + size_of grown.heap.items + round_up_8 (changed_by total change) ≤ grown.limit)))
    → is_ok (store_after_resize g.store module_area_start block change) ≡ true
resize_done e g block total change end grown own room =
    let h : HeapList = grown.heap in
    let k : HeapList = record { kind = h.kind; start = h.start; end = grown.limit; items = h.items } in
    let there : find_heap k.start g.store.heaps ≡ Some k = subst (λ (p : ℕ). find_heap p g.store.heaps ≡ Some k) (sym grown.start) grown.there in
    let guests : IsGuests g.store k block total = record { own = ap (has_image block) grown.others ∙ own.own; live = own.live } in
    subst (λ (p : ℕ). is_ok (store_after_resize g.store p block change) ≡ true) grown.start
    (resized_fits g.store k block total change there grown.totals guests room)

-- the total that is asked for
total_is : (size total change : ℕ) → size ≡ total - 4 → 4 ≤ total → total_changed size change ≡ round_up_8 (changed_by total change)
total_is size total change same least = ap (λ (n : ℕ). round_up_8 (changed_by n change)) (let e : size + 4 ≡ total = omega (arith, same, least) in e)

live_least : (s : Store) (h : HeapList) (block total : ℕ) → AreTotals h.items → IsGuests s h block total → LiveBytes block total (h.start + 16) (h.start + 16 + size_of h.items)
live_least s h block total totals own = law_live_bytes block total (h.start + 16) h.items totals own.live

-- the last block, in its place
last_done : (e g : AreaStore) (block change size : ℕ) → block_sized e.store module_area_start block ≡ Ok size → block + size ≡ module_area_start + rma_base e.store
    → size + 4 < total_changed size change → IsGrown e g ((rma_base e.store + total_changed size change) - (size + 4)) → is_ok (store_after_resize g.store module_area_start block change) ≡ true
last_done e g block change size sized last more grown =
    let h : HeapList = grown.heap in
    let is : IsSized e.store h block size = sized_by e.store module_area_start h block size grown.found sized in
    let place : LiveBytes block is.total (h.start + 16) (h.start + 16 + size_of h.items) = live_least e.store h block is.total grown.totals is.guests in
    let new : total_changed size change ≡ round_up_8 (changed_by is.total change) = total_is size is.total change is.same (omega (arith, place.size)) in
    let base : rma_base e.store ≡ 16 + size_of h.items = base_is e.store module_area_start h grown.found in
    resize_done e g block is.total change ((rma_base e.store + total_changed size change) - (size + 4)) grown is.guests
    (inl (
      last_fits block (h.start + grown.limit) (round_up_8 (changed_by is.total change)) (h.start + 16) is.total h.items grown.totals is.guests.live
          (omega (arith, last, base, is.same, place.size, grown.start))
          (omega (arith, last, base, is.same, place.size, grown.start, grown.reaches, new)),
      omega (arith, more, is.same, place.size, new),
    ))

-- the heap's base lies within the area
base_below : (e : AreaStore) → IsAreaStore e → rma_base e.store ≤ 4096 * area_pages e
base_below e good =
    let h : HasArea e = area_there e good in
    let size : area_pages e ≡ h.area.pages = ap pages_had h.found in
    omega (arith, base_is e.store module_area_start h.known.heap h.known.found, h.known.spelled.inside, h.known.end, size)

pub in_place_done : (e : AreaStore) (block change : ℕ) → IsAreaStore e
    → (is_ok (store_after_resize (grown_in_place e block change).store module_area_start block change) ≡ true) ⊎ (grown_in_place e block change ≡ e)
in_place_done e block change good = sized (block_sized e.store module_area_start block) refl where
  tried : (size : ℕ) → block_sized e.store module_area_start block ≡ Ok size → block + size ≡ module_area_start + rma_base e.store → (r : Result AreaStore ErrorNumber)
      → grown_to e ((rma_base e.store + total_changed size change) - (size + 4)) ≡ r
      → (is_ok (store_after_resize (or_as_before e r).store module_area_start block change) ≡ true) ⊎ (or_as_before e r ≡ e)
  tried size is last (Err f) done = inr refl
  tried size is last (Ok g) done =
      let end : ℕ = (rma_base e.store + total_changed size change) - (size + 4) in
      elim (cases_Bool (nat_le end (4096 * area_pages e))) [
        | inl fits ↦ inr (let same : Ok e ≡ Ok g = sym (grown_not e end (leb-true end (4096 * area_pages e) fits)) ∙ done in let e' : e ≡ g = cc in sym e')
        | inr short ↦
            inl (last_done e g block change size is last
            (omega (arith, leb-false end (4096 * area_pages e) short, base_below e good)) (is_grown e g end good done))
      ]

  sized : (r : Result ℕ ErrorNumber) → block_sized e.store module_area_start block ≡ r
      → (let g : AreaStore = or_as_before e (grown_to e (end_in_place (rma_base e.store) block change r)) in
      (is_ok (store_after_resize g.store module_area_start block change) ≡ true) ⊎ (g ≡ e))
  sized (Err f) is = rw (grown_not e 0 (omega arith)) (inr refl)
  sized (Ok size) is = elim (cases_Bool (block + size == module_area_start + rma_base e.store)) [
    | inr other ↦ rw (other, grown_not e 0 (omega arith)) (inr refl)
    | inl last ↦ rw last (tried size is (eqb-true (block + size) (module_area_start + rma_base e.store) last) _ refl)
  ]

-- a block that found no room, at the base
not_a_block : (s : Store) (heap : ℕ) (h : HeapList) (block change : ℕ) → find_heap heap s.heaps ≡ Some h → is_full (store_after_resize s heap block change) ≡ true
    → is_ok (block_sized s heap block) ≡ true
unfolding store_after_resize block_sized
not_a_block s heap h block change found full = go (guests_total s.others h.start h.items block) refl where
  go : (r : Result ℕ ErrorNumber) → guests_total s.others h.start h.items block ≡ r → is_ok (block_sized s heap block) ≡ true
  go (Ok total) is = rw (found, is) refl
  go (Err f) is = absurd (refused (has_image block s.others) (live_total block (h.start + 16) h.items) is) where
    refused : (b : Bool) (o : Option ℕ) → ok_or (unless_image b o) HeapNotABlock ≡ Err f → ⊥
    refused true o e = let same : HeapNotABlock ≡ f = cc in let t = rw (found, is, ← same) at full in let no : false ≡ true = t in cc
    refused false None e = let same : HeapNotABlock ≡ f = cc in let t = rw (found, is, ← same) at full in let no : false ≡ true = t in cc
    refused false (Some t) e = let no : Ok t ≡ Err f = e in cc

pub move_done : (e g : AreaStore) (block change : ℕ) → IsAreaStore e → is_full (store_after_resize e.store module_area_start block change) ≡ true
    → block_holds e.store block (block_sized e.store module_area_start block) ≡ false
    → grown_to e (end_if_moved (rma_base e.store) change (block_sized e.store module_area_start block)) ≡ Ok g
    → is_ok (store_after_resize g.store module_area_start block change) ≡ true
move_done e g block change good full empty done =
    let h : HasArea e = area_there e good in
    go (block_sized e.store module_area_start block) refl (not_a_block e.store module_area_start h.known.heap block change h.known.found full) done where
      go : (r : Result ℕ ErrorNumber) → block_sized e.store module_area_start block ≡ r → is_ok r ≡ true
          → grown_to e (end_if_moved (rma_base e.store) change r) ≡ Ok g → is_ok (store_after_resize g.store module_area_start block change) ≡ true
      go (Err f) is ok done = absurd (let no : false ≡ true = ok in cc)
      go (Ok size) is ok done =
          let end : ℕ = rma_base e.store + total_changed size change in
          let grown : IsGrown e g end = is_grown e g end good done in
          let k : HeapList = grown.heap in
          let one : IsSized e.store k block size = sized_by e.store module_area_start k block size grown.found is in
          let place : LiveBytes block one.total (k.start + 16) (k.start + 16 + size_of k.items) = live_least e.store k block one.total grown.totals one.guests in
          let new : total_changed size change ≡ round_up_8 (changed_by one.total change) = total_is size one.total change one.same (omega (arith, place.size)) in
          let none : holds_anchor e.store.anchor block (Some one.total) ≡ false = full_free e.store module_area_start k block one.total change grown.found one.guests full in
          let none' : holds_anchor g.store.anchor block (Some one.total) ≡ false =
          ap (λ (x : ℕ → Bool). holds_anchor x block (Some one.total)) grown.anchors ∙ none in
          let alone : holds_heap e.store.heaps block size ≡ false = (let t = rw is at empty in t) in
          let empty' : holds_heap g.store.heaps block (one.total - 4) ≡ false =
          grown.holds block (one.total - 4) ∙ ap (λ (n : ℕ). holds_heap e.store.heaps block n) (sym one.same) ∙ alone in
          resize_done e g block one.total change end grown one.guests
          (inr (none', (empty', omega (arith, grown.reaches, new, base_is e.store module_area_start k grown.found))))

-- an area that is large enough as it is
own_reach : (e : AreaStore) (h : HeapList) (end : ℕ) → find_heap module_area_start e.store.heaps ≡ Some h → IsGrown e e end → end ≤ h.end
own_reach e h end found own =
    let k : HeapList = record { kind = own.heap.kind; start = own.heap.start; end = own.limit; items = own.heap.items } in
    let both : Some h ≡ Some k = sym found ∙ own.there in
    let same : h ≡ k = cc in
    let limit : h.end ≡ own.limit = ap (λ (x : HeapList). x.end) same in
    omega (arith, own.reaches, limit)

-- the last block that would not grow in its place, though the area could grow for it
not_last : (e g : AreaStore) (block change size : ℕ) (grown : IsGrown e g (rma_base e.store + total_changed size change)) → IsAreaStore e
    → (one : IsSized e.store grown.heap block size) → block_sized e.store module_area_start block ≡ Ok size → grown_in_place e block change ≡ e
    → grown_to e (rma_base e.store + total_changed size change) ≡ Ok g → IsMoving grown.heap block one.total change
    → block + one.total ≢ grown.heap.start + 16 + size_of grown.heap.items + 4
not_last e g block change size grown good one is tried done moving last =
    let k : HeapList = grown.heap in
    let end : ℕ = (rma_base e.store + total_changed size change) - (size + 4) in
    let place : LiveBytes block one.total (k.start + 16) (k.start + 16 + size_of k.items) = live_least e.store k block one.total grown.totals one.guests in
    let new : total_changed size change ≡ round_up_8 (changed_by one.total change) = total_is size one.total change one.same (omega (arith, place.size)) in
    let base : rma_base e.store ≡ 16 + size_of k.items = base_is e.store module_area_start k grown.found in
    let ends : block + size ≡ module_area_start + rma_base e.store = omega (arith, last, base, one.same, place.size, grown.start) in
    let less = grown_less e g end (rma_base e.store + total_changed size change) (omega arith) done in
    let tried' = rw (is, eq-eqb (block + size) (module_area_start + rma_base e.store) ends, less.1) at tried in
    let same : less.0 ≡ e = tried' in
    let own : IsGrown e e end = subst (λ (x : AreaStore). IsGrown e x end) same (is_grown e less.0 end good less.1) in
    let reach : end ≤ k.end = own_reach e k end grown.found own in
    let some : is_some (resized_in_place block (k.start + k.end) (round_up_8 (changed_by one.total change)) (k.start + 16) k.items) ≡ true =
    last_fits block (k.start + k.end) (round_up_8 (changed_by one.total change)) (k.start + 16) one.total k.items grown.totals one.guests.live
    (omega (arith, last)) (omega (arith, last, base, one.same, place.size, reach, new)) in
    both_ways (is_some (resized_in_place block (k.start + k.end) (round_up_8 (changed_by one.total change)) (k.start + 16) k.items)) (ap is_some moving.none) some

-- a block in which a heap lies is not moved in the grown area
move_refused : (e g : AreaStore) (block change size : ℕ) → IsAreaStore e → is_full (store_after_resize e.store module_area_start block change) ≡ true
    → grown_in_place e block change ≡ e → block_sized e.store module_area_start block ≡ Ok size → holds_heap e.store.heaps block size ≡ true
    → grown_to e (rma_base e.store + total_changed size change) ≡ Ok g → store_after_resize g.store module_area_start block change ≡ Err BlockHoldsHeap
move_refused e g block change size good full tried is holds done =
    let end : ℕ = rma_base e.store + total_changed size change in
    let grown : IsGrown e g end = is_grown e g end good done in
    let h : HeapList = grown.heap in
    let k : HeapList = record { kind = h.kind; start = h.start; end = grown.limit; items = h.items } in
    let one : IsSized e.store h block size = sized_by e.store module_area_start h block size grown.found is in
    let total : ℕ = one.total in
    let place : LiveBytes block total (h.start + 16) (h.start + 16 + size_of h.items) = live_least e.store h block total grown.totals one.guests in
    let new : total_changed size change ≡ round_up_8 (changed_by total change) = total_is size total change one.same (omega (arith, place.size)) in
    let moving : IsMoving h block total change = full_moves e.store module_area_start h block total change grown.found one.guests full in
    let moving' : IsMoving k block total change = record {
      more = moving.more;
      none = sym (in_place_stays block (h.start + h.end) (h.start + grown.limit) (round_up_8 (changed_by total change)) (h.start + 16) total h.items
          one.guests.live (not_last e g block change size grown good one is tried done moving)) ∙ moving.none;
    } in
    let free : holds_anchor g.store.anchor block (Some total) ≡ false =
    ap (λ (x : ℕ → Bool). holds_anchor x block (Some total)) grown.anchors ∙ full_free e.store module_area_start h block total change grown.found one.guests full in
    let holds' : holds_heap g.store.heaps block (total - 4) ≡ true =
    grown.holds block (total - 4) ∙ ap (λ (n : ℕ). holds_heap e.store.heaps block n) (sym one.same) ∙ holds in
    let there : find_heap k.start g.store.heaps ≡ Some k = subst (λ (p : ℕ). find_heap p g.store.heaps ≡ Some k) (sym grown.start) grown.there in
    let guests : IsGuests g.store k block total = record { own = ap (has_image block) grown.others ∙ one.guests.own; live = one.guests.live } in
    subst (λ (p : ℕ). store_after_resize g.store p block change ≡ Err BlockHoldsHeap) grown.start
    (resized_holds g.store k block total change there guests moving' free holds'
    (omega (arith, grown.reaches, new, base_is e.store module_area_start h grown.found)))

-- so the refusal is known before anything is done
pub why_refused : (e : AreaStore) (block change : ℕ) → IsAreaStore e → is_full (store_after_resize e.store module_area_start block change) ≡ true
    → grown_in_place e block change ≡ e → block_holds e.store block (block_sized e.store module_area_start block) ≡ true
    → (let end : ℕ = end_if_moved (rma_base e.store) change (block_sized e.store module_area_start block) in
    let why : Result ℕ ErrorNumber = Err (if is_ok (grown_to e end) then RmaBlockHoldsHeap else RmaNoRoom) in
    Gives e (in_grown_area e end (λ s. store_after_resize s module_area_start block change)) why e)
why_refused e block change good full tried holds = sized (block_sized e.store module_area_start block) refl holds where
  reported : (end size : ℕ) → block_sized e.store module_area_start block ≡ Ok size → holds_heap e.store.heaps block size ≡ true
      → end ≡ rma_base e.store + total_changed size change → (r : Result AreaStore ErrorNumber) → grown_to e end ≡ r
      → (let why : Result ℕ ErrorNumber = Err (if is_ok r then RmaBlockHoldsHeap else RmaNoRoom) in
      Gives e (bind r (λ g. in_area g (store_after_resize g.store module_area_start block change))) why e)
  reported end size is held there (Ok g) done =
      rw (move_refused e g block change size good full tried is held (ap (grown_to e) (sym there) ∙ done)) (refl, refl)
  reported end size is held there (Err f) done = (growth_error e end f done, refl)

  sized : (r : Result ℕ ErrorNumber) → block_sized e.store module_area_start block ≡ r → block_holds e.store block r ≡ true
      → (let end : ℕ = end_if_moved (rma_base e.store) change r in
      let why : Result ℕ ErrorNumber = Err (if is_ok (grown_to e end) then RmaBlockHoldsHeap else RmaNoRoom) in
      Gives e (in_grown_area e end (λ s. store_after_resize s module_area_start block change)) why e)
  sized (Err f) is held = absurd (let no : false ≡ true = held in cc)
  sized (Ok size) is held =
      reported (rma_base e.store + total_changed size change) size is held refl (grown_to e (rma_base e.store + total_changed size change)) refl

-- where the call is full after the area could grow in place, it did not grow: g is the area store then,
-- and f that after the call that was refused
pub record IsTried (e g f : AreaStore) (block change : ℕ) : Type 0 where
  pub none : grown_in_place e block change ≡ e
  pub again : grown_in_place f block change ≡ f

pub is_tried : (e g f : AreaStore) (block change : ℕ) → IsAreaStore e → g ≡ grown_in_place e block change → f ≡ g
    → is_full (store_after_resize g.store module_area_start block change) ≡ true → IsTried e g f block change
is_tried e g f block change good grown same full = elim (in_place_done e block change good) [
  | inl ok ↦ absurd (not_full (store_after_resize g.store module_area_start block change)
      (subst (λ (x : AreaStore). is_ok (store_after_resize x.store module_area_start block change) ≡ true) (sym grown) ok) full)
  | inr none ↦
      let all : f ≡ e = same ∙ grown ∙ none in
      record { none = none; again = ap (λ (x : AreaStore). grown_in_place x block change) all ∙ none ∙ sym all }
]
