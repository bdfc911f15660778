-- A claim without growth, and the release of its block.
use Rattle.dynamic_areas.specs.MemoryMap.{module_area_start}
use Rattle.std.proofs.Common.{◌≡◌, ◌≢◌, ℕ, ◌+◌, ◌-◌, ◌≤◌, true, false, refl, sym, ap, subst, ◌∙◌, Some, None, Ok, Err, inl, inr, arith}
use Rattle.std.specs.Prelude.{Option, Result, is_some, ok_or}
use Rattle.std.proofs.lemmas.Bool.{both_ways, false_from_ne_true, false≢true, le-leb, lt-ltb}
use Rattle.dynamic_areas.specs.Outcome.{bind}
use Rattle.dynamic_areas.specs.ErrorNumber.{ErrorNumber}
use Rattle.dynamic_areas.specs.ErrorNumber.TheVariants.{HeapNoRoom}
use Rattle.dynamic_areas.proofs.Anchors.{among_none}
use Rattle.dynamic_areas.specs.Bytes.{in_range}
use Rattle.dynamic_areas.specs.Items.{is_total, size_of}
use Rattle.dynamic_areas.specs.Heap.{HeapList, AreSpaced, AreTotals, IsHeapIn}
use Rattle.dynamic_areas.specs.OsHeapWordsLists.{Claim, claim_in_items, live_total, items_after_release, total_for}
use Rattle.dynamic_areas.proofs.ClaimedLists.{HasTotals, IsUnheld, IsWithin, claim_totals, claim_unheld, claim_within}
use Rattle.dynamic_areas.proofs.LiveBlocks.{IsFresh, IsStill, LiveBytes, claim_fresh, claim_still, live_apart, law_live_bytes}
use Rattle.dynamic_areas.proofs.ReleaseOfClaim.{gives_back}
use Rattle.dynamic_areas.proofs.Spelling.{total_of-numbers}
use Rattle.dynamic_areas.specs.Calls.{gave_back, store_after_get, store_holding, holds_anchor, items_of, total_or_0, heaps_with_items}
use Rattle.dynamic_areas.specs.Forgetting.{store_after_forget}
use Rattle.dynamic_areas.specs.Store.{IsSound, Store, find_heap, has_image}
use Rattle.dynamic_areas.proofs.Anchored.{place_in}
use Rattle.dynamic_areas.proofs.KeptPayloads.{own_there}
use Rattle.dynamic_areas.proofs.Moving.{found_held}
use Rattle.dynamic_areas.specs.Ground.{AreaStore, IsAreaStore}
use Rattle.rma.specs.Calls.{is_full, or_grown, rma_base, rma_claimed, rma_freed, with_store}
use Rattle.rma.specs.Laws.{FreeUndoesClaim, IsUndone}
use Rattle.rma.proofs.GrowthLemmas.{HasArea, area_there}

-- what is said of an answer that has an area store and a block
abbrev IsUndoneBy : AreaStore → Result (AreaStore × ℕ) ErrorNumber → Type 0
IsUndoneBy e (Ok r) = has_image r.1 e.store.others ≡ false → IsUndone e (rma_freed r.0 r.1)
IsUndoneBy e (Err f) = Unit {0}

-- no anchor lies where a claim makes a block
claim_unanchored : (s : Store) (h : HeapList) (n : ℕ) (c : Claim) → IsSound s → is_total n ≡ true → find_heap h.start s.heaps ≡ Some h
    → IsHeapIn s.bytes h.start h.end h.items → claim_in_items n (h.end - 16) h.items ≡ Some c
    → holds_anchor s.anchor (h.start + 16 + c.offset + 4) (live_total (h.start + 16 + c.offset + 4) (h.start + 16) c.items) ≡ false
claim_unanchored s h n c sound total found heap made =
    let new : ℕ = h.start + 16 + c.offset + 4 in
    let within : size_of c.items ≤ h.end - 16 =
    subst (IsWithin (h.end - 16)) made (claim_within n (h.end - 16) h.items (omega (arith, heap.inside))) in
    let totals : AreTotals c.items = subst HasTotals made (claim_totals n (h.end - 16) h.items total heap.totals) in
    let fresh : live_total (h.start + 16 + c.offset + 4) (h.start + 16) c.items ≡ Some n =
    subst (IsFresh n (h.start + 16)) made (claim_fresh n (h.end - 16) (h.start + 16) h.items heap.totals) in
    let unheld : is_some (live_total (h.start + 16 + c.offset + 4) (h.start + 16) h.items) ≡ false =
    subst (IsUnheld (h.start + 16) h.items) made (claim_unheld n (h.end - 16) (h.start + 16) h.items heap.totals) in
    let place : LiveBytes new n (h.start + 16) (h.start + 16 + size_of c.items) = law_live_bytes new n (h.start + 16) c.items totals fresh in
    rw fresh (among_none s.anchor (h.start + 16 + c.offset + 4 - 4) n (λ a low high. false_from_ne_true (s.anchor a) (λ is.
    elim (place_in h.start s.heaps h a found (sound.anchors a is).1) [
      | inl out ↦ both_ways (in_range h.start h.end a) out
          (rw (le-leb h.start a (omega (arith, low)), lt-ltb a (h.start + h.end) (omega (arith, high, place.high, place.size, within))) refl)
      | inr held ↦
          let still : live_total held.block (h.start + 16) c.items ≡ Some held.total =
          subst (IsStill held.block held.total (h.start + 16)) made (claim_still n (h.end - 16) held.block held.total (h.start + 16) h.items held.live heap.totals) in
          let other : held.block ≢ new = λ (same : held.block ≡ new).
          false≢true (sym unheld ∙ ap is_some (subst (λ (p : ℕ). live_total p (h.start + 16) h.items ≡ Some held.total) same held.live)) in
          elim (live_apart held.block held.total new n (h.start + 16) c.items totals still fresh other) [
            | inl before ↦ omega (arith, before, held.high, low)
            | inr behind ↦ omega (arith, behind, held.low, high)
          ]
    ])))

undone : (e : AreaStore) (h : HeapList) (size : ℕ) (c : Claim) → h.start ≡ module_area_start → find_heap module_area_start e.store.heaps ≡ Some h
    → items_after_release (h.start + 16 + c.offset + 4) (h.start + 16) c.items ≡ Some h.items → has_image (h.start + 16 + c.offset + 4) e.store.others ≡ false
    → holds_anchor e.store.anchor (h.start + 16 + c.offset + 4) (live_total (h.start + 16 + c.offset + 4) (h.start + 16) c.items) ≡ false
    → AreTotals c.items → IsUndone e (rma_freed (with_store e (store_holding e.store h c.items)) (h.start + 16 + c.offset + 4))
unfolding rma_freed gave_back items_of
undone e h size c start found back own free totals =
    let s : Store = e.store in
    let k : HeapList = record { kind = h.kind; start = h.start; end = h.end; items = c.items } in
    let there : find_heap module_area_start (heaps_with_items h.start c.items s.heaps) ≡ Some k =
    subst (λ (p : ℕ). find_heap module_area_start (heaps_with_items p c.items s.heaps) ≡ Some k) (sym start) (found_held module_area_start c.items s.heaps h found) in
    let block : ℕ = h.start + 16 + c.offset + 4 in
    let t : Store = store_holding s h c.items in
    let total : Option ℕ = live_total block (h.start + 16) c.items in
    let v : Store = store_after_forget t block (total_or_0 total) block in
    let own_place : find_heap k.start t.heaps ≡ Some k = subst (λ (p : ℕ). find_heap p t.heaps ≡ Some k) (sym start) there in
    let left : find_heap module_area_start v.heaps ≡ Some k =
    subst (λ (p : ℕ). find_heap p v.heaps ≡ Some k) start (own_there t k block total totals own_place refl) in
    let last : find_heap module_area_start (heaps_with_items h.start h.items v.heaps) ≡ Some (record { kind = h.kind; start = h.start; end = h.end; items = h.items }) =
    subst (λ (p : ℕ). find_heap module_area_start (heaps_with_items p h.items v.heaps)
    ≡ Some (record { kind = h.kind; start = h.start; end = h.end; items = h.items })) (sym start) (found_held module_area_start h.items v.heaps k left) in
    rw (there, own, back, free, last, found) (refl, (refl, refl))

claim_undone : (e : AreaStore) (h : HeapList) (size end : ℕ) (call : Store → Result (Store × ℕ) ErrorNumber) → h.start ≡ module_area_start
    → find_heap module_area_start e.store.heaps ≡ Some h → AreTotals h.items → AreSpaced h.items → IsSound e.store
    → IsHeapIn e.store.bytes h.start h.end h.items → (o : Option Claim)
    → claim_in_items (total_for size) (h.end - 16) h.items ≡ o
    → (let r : Result (Store × ℕ) ErrorNumber = bind (ok_or o HeapNoRoom) (λ c. Ok (store_holding e.store h c.items, h.start + 16 + c.offset + 4)) in
    is_full r ≡ false → IsUndoneBy e (or_grown e end call r))
claim_undone e h size end call start found totals spaced sound heap None made roomy = absurd (let no : true ≡ false = roomy in cc)
claim_undone e h size end call start found totals spaced sound heap (Some c) made roomy = λ own.
    let there : find_heap h.start e.store.heaps ≡ Some h = subst (λ (p : ℕ). find_heap p e.store.heaps ≡ Some h) (sym start) found in
    let total : is_total (total_for size) ≡ true = total_of-numbers (total_for size) (omega arith) (omega arith) in
    undone e h size c start found (gives_back (total_for size) (h.end - 16) (h.start + 16) h.items c totals spaced made) own
    (claim_unanchored e.store h (total_for size) c sound total there heap made)
    (subst HasTotals made (claim_totals (total_for size) (h.end - 16) h.items total totals))

claim_by : (e : AreaStore) (size : ℕ) → IsAreaStore e → is_full (store_after_get e.store module_area_start size) ≡ false → IsUndoneBy e (rma_claimed e size)
unfolding rma_claimed store_after_get
claim_by e size good roomy =
    let a : HasArea e = area_there e good in
    let h : HeapList = a.known.heap in
    let roomy' = rw a.known.found at roomy in
    rw a.known.found (claim_undone e h size (rma_base e.store + total_for size) (λ s. store_after_get s module_area_start size) a.known.start a.known.found a.known.spelled.totals
    a.known.spelled.spaced good.ground.sound a.known.spelled (claim_in_items (total_for size) (h.end - 16) h.items) refl roomy')

pub free_undoes_claim : FreeUndoesClaim
free_undoes_claim e g size block good roomy is own =
    let by : IsUndoneBy e (Ok (g, block)) = subst (IsUndoneBy e) is (claim_by e size good roomy) in
    by own
