-- Get, free and resize in the module area, and a move that a resize makes.
use Rattle.profile.specs.MemoryMap.{module_area_start, system_start}
use Rattle.std.proofs.Common.{if◌then◌else◌, Bool, List, ℕ, ◌≡◌, ◌+◌, ◌-◌, ◌≤◌, ◌<◌, Option, Some, None, Result, Ok, Err, true, false, refl, sym, subst, ◌∙◌, inl, inr, arith}
use Rattle.std.proofs.lemmas.Bool.{cases_Bool, leb-false}
use Rattle.std.specs.Prelude.{nat_le}
use Rattle.profile.specs.Outcome.{bind}
use Rattle.profile.specs.ErrorNumber.{ErrorNumber}
use Rattle.profile.specs.ErrorNumber.TheVariants.{BlockHoldsHeap, HeapHoldsAnchor, HeapBadDesc, HeapNotABlock, HeapNoRoom}
use Rattle.address_map.specs.Bytes.{in_range}
use Rattle.address_map.specs.Records.{anchor_among}
use Rattle.address_map.specs.Items.{is_total, size_of}
use Rattle.address_map.specs.declared.item.Item.{Item}
use Rattle.os_heap_words.proofs.ListsLemmas.ClaimedLists.{HasTotals, IsWithin, claim_totals, claim_within}
use Rattle.os_heap_words.proofs.ListsLemmas.LiveBlocks.{IsFresh, LiveBytes, claim_fresh, law_live_bytes}
use Rattle.os_heap_words.proofs.ListsLemmas.Reading.{total_facts}
use Rattle.os_heap_words.proofs.ListsLemmas.Spelling.{total_of-numbers}
use Rattle.os_heap_words.specs.lists.Heap.{AreTotals, HeapList}
use Rattle.os_heap_words.specs.lists.Lists.{Claim, changed_by, claim_in_items, live_total, items_after_release, resized_in_place, round_up_8, total_for}
use Rattle.os_heap.proofs.Found.{found_start}
use Rattle.os_heap.proofs.Resizing.{larger_where_none}
use Rattle.os_heap.specs.Calls.{store_after_copy, gave_back, store_after_get, handed_over, store_holding, holds_anchor, store_after_move, store_after_resize, resized_or_moved, total_or_0, unless_image}
use Rattle.os_heap.specs.Forgetting.{store_after_forget, holds_heap}
use Rattle.os_heap.specs.Store.{Store, find_heap, has_image}
use Rattle.law_machine.proofs.HeapCallsLemmas.Plain.{unlive}
use Rattle.law_machine.proofs.HeapFrameLemmas.Holding.{area_of, freed_fit, held_fit, range_within, stays_both, written_is_fit}
use Rattle.law_machine.proofs.HeapFrameLemmas.InnerHeaps.{HasArea, carried_inner, claimed_beside, claimed_inner, freed_inner, refitted_inner}
use Rattle.law_machine.proofs.HeapFrameLemmas.Lists.{HasRoomFor, HasRoomIfSome, released_room, resized_room}
use Rattle.law_machine.specs.heap_frame.Fits.{IsFitStore, LiesInArea, StaysFit}
use Rattle.law_machine.specs.heap_frame.HeapLaws.{HeapCallsStayFit}
use Rattle.law_machine.specs.heap_calls.Laws.{IsNotForgotten}
use Rattle.rma.proofs.NewImageLemmas.{shorter}
use Rattle.rma.proofs.FlexFrameLemmas.Heaps.{OnDone, on_if, on_some}

abbrev pub LeavesFit : {A : Type 0} → ℕ → Store → Store × A → Type 0
LeavesFit limit s x = StaysFit limit s x.0

-- and a block that is answered lies in the module area, and shares no byte with a heap that lay in
-- a block there
pub record IsNewBlock (len : ℕ) (s t : Store) (block : ℕ) : Type 0 where
  pub low : module_area_start ≤ block
  pub high : block + len ≤ system_start
  pub beside : (h : HeapList) (a : ℕ) → 0 < h.end → LiesInArea s h → IsNotForgotten t h.start → in_range h.start h.end a ≡ true
      → in_range block len a ≡ false

abbrev pub LeavesBlock : ℕ → ℕ → Store → Store × ℕ → Type 0
LeavesBlock len limit s x = StaysFit limit s x.0 × IsNewBlock len s x.0 x.1

on_answer : (A B : Type 0) (limit : ℕ) (s : Store) (r : Result (Store × A) ErrorNumber) (answer : B) → OnDone (LeavesFit limit s) r
    → OnDone (LeavesFit limit s) (bind r (λ x. Ok (x.0, answer)))
on_answer A B limit s (Ok x) answer done = done
on_answer A B limit s (Err e) answer done = tt

on_each : (A : Type 0) (P Q : Store × A → Type 0) (r : Result (Store × A) ErrorNumber) → ((x : Store × A) → P x → Q x) → OnDone P r → OnDone Q r
on_each A P Q (Ok x) each done = each x done
on_each A P Q (Err e) each done = tt

done_then : (A : Type 0) (P : Store × A → Type 0) (r : Result (Store × A) ErrorNumber) (x : Store × A) → OnDone P r → r ≡ Ok x → P x
done_then A P (Ok y) x done is = let same : y ≡ x = cc in subst P same done
done_then A P (Err e) x done is = absurd (cc)

-- the heap is the one that the call finds
pub items_of_fit : (limit : ℕ) (s : Store) (h : HeapList) (f : IsFitStore limit s) → find_heap module_area_start s.heaps ≡ Some h
    → AreTotals h.items × ((16 + size_of h.items ≤ limit) × (h.end ≡ limit))
items_of_fit limit s h f found =
    let both : Some f.heap ≡ Some h = sym f.found ∙ found in
    let same : f.heap ≡ h = cc in
    subst (λ (x : HeapList). AreTotals x.items × ((16 + size_of x.items ≤ limit) × (x.end ≡ limit))) same (f.totals, (f.inside, f.end))

-- what a claim leaves
record IsRoomy (limit new : ℕ) (h : HeapList) (c : Claim) : Type 0 where
  totals : AreTotals c.items
  inside : 16 + size_of c.items ≤ limit
  low : h.start ≤ h.start + 16 + c.offset + 4
  high : h.start + 16 + c.offset + 4 + (new - 4) ≤ h.start + limit

roomy : (limit new : ℕ) (s : Store) (h : HeapList) (c : Claim) (f : IsFitStore limit s) → find_heap module_area_start s.heaps ≡ Some h → is_total new ≡ true
    → claim_in_items new (h.end - 16) h.items ≡ Some c → IsRoomy limit new h c
roomy limit new s h c f found total is =
    let own = items_of_fit limit s h f found in
    let totals : AreTotals c.items = subst HasTotals is (claim_totals new (h.end - 16) h.items total own.0) in
    let within : size_of c.items ≤ h.end - 16 = subst (IsWithin (h.end - 16)) is (claim_within new (h.end - 16) h.items (omega (arith, own.1.0, own.1.1))) in
    let at : ℕ = h.start + 16 + c.offset + 4 in
    let fresh : live_total at (h.start + 16) c.items ≡ Some new =
    subst (IsFresh new (h.start + 16)) is (claim_fresh new (h.end - 16) (h.start + 16) h.items own.0) in
    let place : LiveBytes at new (h.start + 16) (h.start + 16 + size_of c.items) = law_live_bytes at new (h.start + 16) c.items totals fresh in
    let inside : 16 + size_of c.items ≤ limit = omega (arith, within, own.1.0, own.1.1) in
    record { totals = totals; inside = inside; low = omega arith; high = omega (arith, inside, place.high, place.size) }

pub got_fit : (limit size : ℕ) (s : Store) → IsFitStore limit s → OnDone (LeavesBlock size limit s) (store_after_get s module_area_start size)
unfolding store_after_get
got_fit limit size s f =
    let total : is_total (total_for size) ≡ true = total_of-numbers (total_for size) (omega arith) (omega arith) in
    on_some HeapList ℕ (LeavesBlock size limit s) (find_heap module_area_start s.heaps) HeapBadDesc _ (λ h found.
    on_some Claim ℕ (LeavesBlock size limit s) (claim_in_items (total_for size) (h.end - 16) h.items) HeapNoRoom
    (λ c. Ok (store_holding s h c.items, h.start + 16 + c.offset + 4)) (λ c is.
    let start : h.start ≡ module_area_start = found_start module_area_start s.heaps h found in
    let has : HasArea s h = area_of limit s h f found in
    let at : ℕ = h.start + 16 + c.offset + 4 in
    let r : IsRoomy limit (total_for size) h c = roomy limit (total_for size) s h c f found total is in (
      held_fit limit s h c.items f found r.totals r.inside (claimed_inner s h (total_for size) c has total is),
      record {
        low = omega (arith, start, r.low);
        high = omega (arith, start, r.high, f.room);
        beside = λ g a some lies still here.
            shorter at size (total_for size - 4) a (omega arith) (claimed_beside s h (total_for size) c has total is g a lies here);
      },
    )))

-- a block was given back
pub unless_some : {A : Type 0} (b : Bool) (o : Option A) (x : A) → unless_image b o ≡ Some x → o ≡ Some x
unless_some true o x e = absurd (let none : None ≡ Some x = e in cc)
unless_some false o x e = e

by_total : (limit block : ℕ) (s : Store) (h : HeapList) (items : List Item) (o : Option ℕ) → IsFitStore limit s
    → find_heap module_area_start s.heaps ≡ Some h → items_after_release block (h.start + 16) h.items ≡ Some items → live_total block (h.start + 16) h.items ≡ o
    → StaysFit limit s (store_holding (store_after_forget s block (total_or_0 o) block) h items)
by_total limit block s h items None f found is none =
    absurd (let no : None ≡ Some items = sym (unlive block (h.start + 16) h.items none) ∙ is in cc)
by_total limit block s h items (Some total) f found is live =
    let own = items_of_fit limit s h f found in
    let left : HasRoomFor (size_of h.items) items = subst (HasRoomIfSome (size_of h.items)) is (released_room block (h.start + 16) h.items own.0) in
    let place : LiveBytes block total (h.start + 16) (h.start + 16 + size_of h.items) = law_live_bytes block total (h.start + 16) h.items own.0 live in
    freed_fit limit s h block total block items f found (omega (arith, place.low)) (omega (arith, place.high, own.1.0)) (omega arith) left.0
    (omega (arith, left.1, own.1.0))
    (freed_inner s h block total items (area_of limit s h f found) live is left.0)

pub gave_fit : (limit heap block : ℕ) (s : Store) → heap ≡ module_area_start → IsFitStore limit s → OnDone (LeavesFit limit s) (gave_back s heap block)
unfolding gave_back
gave_fit limit heap block s place f =
    on_some HeapList (Unit {0}) (LeavesFit limit s) (find_heap heap s.heaps) HeapBadDesc _ (λ h found.
    let here : find_heap module_area_start s.heaps ≡ Some h = subst (λ (p : ℕ). find_heap p s.heaps ≡ Some h) place found in
    let o : Option ℕ = live_total block (h.start + 16) h.items in
    let left : Option (List Item) = items_after_release block (h.start + 16) h.items in
    on_some (List Item) (Unit {0}) (LeavesFit limit s) (unless_image (has_image block s.others) left) HeapNotABlock _ (λ items is.
    on_if (Unit {0}) (LeavesFit limit s) (holds_anchor s.anchor block o) HeapHoldsAnchor
    (Ok (store_holding (store_after_forget s block (total_or_0 o) block) h items, tt)) (λ none.
    by_total limit block s h items o f here (unless_some (has_image block s.others) left items is) refl)))

-- a block was moved
moved_fit : (limit : ℕ) (s : Store) (h : HeapList) (block old new : ℕ) → IsFitStore limit s → find_heap module_area_start s.heaps ≡ Some h → is_total new ≡ true
    → old ≤ new → OnDone (LeavesFit limit s) (store_after_move s h block old new)
moved_fit limit s h block old new f found total less =
    on_some Claim ℕ (LeavesFit limit s) (claim_in_items new (h.end - 16) h.items) HeapNoRoom _ (λ c is.
    let start : h.start ≡ module_area_start = found_start module_area_start s.heaps h found in
    let has : HasArea s h = area_of limit s h f found in
    let r : IsRoomy limit new h c = roomy limit new s h c f found total is in
    let at : ℕ = h.start + 16 + c.offset + 4 in
    let t : Store = store_holding s h c.items in
    let u : Store = store_after_copy t block at (old - 4) in
    let one : StaysFit limit s t = held_fit limit s h c.items f found r.totals r.inside (claimed_inner s h new c has total is) in
    let both : StaysFit limit s u = record {
      fit = written_is_fit limit t u.bytes one.fit;
      outside = record {
        bytes = λ a out.
            let apart : in_range at (old - 4) a ≡ false =
            range_within at (old - 4) a (omega (arith, start, r.low)) (omega (arith, start, r.high, f.room, less)) out in
            (rw apart refl) ∙ one.outside.bytes a out;
        heaps = one.outside.heaps;
        anchors = one.outside.anchors;
        inner = carried_inner s h old new block c has total less is;
      };
    } in
    on_if ℕ (LeavesFit limit s) (holds_heap s.heaps block (old - 4)) BlockHoldsHeap (handed_over h.start block (old - 4) t at) (λ unheld.
    on_answer (Unit {0}) ℕ limit s (gave_back u h.start block) at
    (on_each (Unit {0}) (LeavesFit limit u) (LeavesFit limit s) (gave_back u h.start block) (λ x. stays_both limit limit s u x.0 both)
    (gave_fit limit h.start block u start both.fit))))

in_place_fit : (limit : ℕ) (s : Store) (h : HeapList) (block old new : ℕ) (o : Option (List Item)) → IsFitStore limit s → find_heap module_area_start s.heaps ≡ Some h
    → is_total new ≡ true → live_total block (h.start + 16) h.items ≡ Some old → resized_in_place block (h.start + h.end) new (h.start + 16) h.items ≡ o
    → (o ≡ None → old ≤ new) → HasRoomIfSome (limit - 16) o → OnDone (LeavesFit limit s) (resized_or_moved s h block old new o)
in_place_fit limit s h block old new None f found total live is less room =
    on_if ℕ (LeavesFit limit s) (holds_anchor s.anchor block (Some old)) HeapHoldsAnchor (store_after_move s h block old new)
    (λ none. moved_fit limit s h block old new f found total (less refl))
in_place_fit limit s h block old new (Some items) f found total live is less room =
    let own = items_of_fit limit s h f found in
    let place : LiveBytes block old (h.start + 16) (h.start + 16 + size_of h.items) = law_live_bytes block old (h.start + 16) h.items own.0 live in
    on_if ℕ (LeavesFit limit s) (anchor_among s.anchor (block - 4 + new) (old - new)) HeapHoldsAnchor
    (Ok (store_holding (store_after_forget s block old (block - 4 + new)) h items, block)) (λ none.
    freed_fit limit s h block old (block - 4 + new) items f found (omega (arith, place.low)) (omega (arith, place.high, own.1.0))
    (omega (arith, (total_facts new total).0)) room.0 (omega (arith, room.1, f.inside))
    (refitted_inner s h block old new items (area_of limit s h f found) live total is room.0))

sized_fit : (limit : ℕ) (s : Store) (h : HeapList) (block change old : ℕ) → IsFitStore limit s → find_heap module_area_start s.heaps ≡ Some h
    → live_total block (h.start + 16) h.items ≡ Some old
    → (let sum : ℕ = changed_by old change in
    OnDone (LeavesFit limit s) (if nat_le sum 4 then bind (gave_back s module_area_start block) (λ r. Ok (r.0, 0)) else
    resized_or_moved s h block old (round_up_8 sum) (resized_in_place block (h.start + h.end) (round_up_8 sum) (h.start + 16) h.items)))
sized_fit limit s h block change old f found live =
    let sum : ℕ = changed_by old change in
    let new : ℕ = round_up_8 sum in
    let own = items_of_fit limit s h f found in
    elim (cases_Bool (nat_le sum 4)) [
      | inl few ↦ rw few (on_answer (Unit {0}) ℕ limit s (gave_back s module_area_start block) 0 (gave_fit limit module_area_start block s refl f))
      | inr more ↦
          let many : 4 < sum = leb-false sum 4 more in
          let total : is_total new ≡ true = total_of-numbers new (omega (arith, many)) (omega arith) in
          let room : HasRoomIfSome (h.start + h.end - (h.start + 16)) (resized_in_place block (h.start + h.end) new (h.start + 16) h.items) =
          resized_room block (h.start + h.end) new (h.start + 16) h.items total own.0 (omega (arith, own.1.0, own.1.1)) in
          let same : h.start + h.end - (h.start + 16) ≡ limit - 16 = omega (arith, own.1.1) in
          rw more (in_place_fit limit s h block old new (resized_in_place block (h.start + h.end) new (h.start + 16) h.items) f found total live refl
          (λ none. omega (arith, larger_where_none block (h.start + h.end) new (h.start + 16) old h.items live none))
          (subst (λ (n : ℕ). HasRoomIfSome n (resized_in_place block (h.start + h.end) new (h.start + 16) h.items)) same room))
    ]

pub resized_fit : (limit block change : ℕ) (s : Store) → IsFitStore limit s → OnDone (LeavesFit limit s) (store_after_resize s module_area_start block change)
unfolding store_after_resize
resized_fit limit block change s f =
    on_some HeapList ℕ (LeavesFit limit s) (find_heap module_area_start s.heaps) HeapBadDesc _ (λ h found.
    on_some ℕ ℕ (LeavesFit limit s) (unless_image (has_image block s.others) (live_total block (h.start + 16) h.items)) HeapNotABlock _ (λ old is.
    sized_fit limit s h block change old f found (unless_some (has_image block s.others) (live_total block (h.start + 16) h.items) old is)))

pub heap_calls_fit : HeapCallsStayFit
heap_calls_fit limit s t f = record {
  get = λ size block is. (done_then ℕ (LeavesBlock size limit s) (store_after_get s module_area_start size) (t, block) (got_fit limit size s f) is).0;
  free = λ block is. done_then (Unit {0}) (LeavesFit limit s) (gave_back s module_area_start block) (t, tt) (gave_fit limit module_area_start block s refl f) is;
  resize = λ block change new is.
      done_then ℕ (LeavesFit limit s) (store_after_resize s module_area_start block change) (t, new) (resized_fit limit block change s f) is;
  move = λ h block old new answer found total less is.
      done_then ℕ (LeavesFit limit s) (store_after_move s h block old new) (t, answer) (moved_fit limit s h block old new f found total less) is;
}
