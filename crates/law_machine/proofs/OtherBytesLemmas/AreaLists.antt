-- What a call on the module area's heap writes: words of the list that it leaves, and what it
-- copies to a block that is moved.
use Rattle.profile.specs.MemoryMap.{module_area_start}
use Rattle.std.proofs.Common.{ℕ, ◌≡◌, ◌+◌, ◌-◌, ◌%◌, ◌≤◌, ◌<◌, ◌∙◌, ◌⊎◌, true, List, Option, Some, None, Result, Ok, Err, refl, sym, ap, subst, inl, inr, arith, if◌then◌else◌}
use Rattle.std.specs.Prelude.{nat_le}
use Rattle.std.proofs.lemmas.Bool.{cases_Bool, leb-false}
use Rattle.profile.specs.Outcome.{bind}
use Rattle.profile.specs.ErrorNumber.{ErrorNumber}
use Rattle.profile.specs.ErrorNumber.TheVariants.{BlockHoldsHeap, HeapBadDesc, HeapHoldsAnchor, HeapNoRoom, HeapNotABlock}
use Rattle.address_map.specs.Bytes.{Bytes, in_range, word_start}
use Rattle.address_map.specs.Items.{is_heap_word, is_total, size_of}
use Rattle.address_map.specs.Records.{anchor_among}
use Rattle.address_map.specs.declared.item.Item.{Item}
use Rattle.os_heap_words.proofs.ListsLemmas.ClaimedLists.{HasTotals, IsWithin, claim_totals, claim_within}
use Rattle.os_heap_words.proofs.ListsLemmas.LiveBlocks.{LiveBytes, law_live_bytes}
use Rattle.os_heap_words.proofs.ListsLemmas.Payloads.{heap_beside}
use Rattle.os_heap_words.proofs.ListsLemmas.Reading.{total_facts}
use Rattle.os_heap_words.proofs.ListsLemmas.Spelling.{total_of-numbers}
use Rattle.os_heap_words.specs.lists.Heap.{AreTotals, HeapList}
use Rattle.os_heap_words.specs.lists.Lists.{Claim, changed_by, claim_in_items, items_after_release, live_total, resized_in_place, round_up_8, total_for}
use Rattle.os_heap.proofs.Found.{found_start}
use Rattle.os_heap.proofs.Moving.{found_held}
use Rattle.os_heap.proofs.PayloadLists.{with_list}
use Rattle.os_heap.specs.Calls.{gave_back, handed_over, holds_anchor, resized_or_moved, store_after_copy, store_after_get, store_after_move, store_after_resize, store_holding, total_or_0, unless_image}
use Rattle.os_heap.specs.Forgetting.{holds_heap, store_after_forget}
use Rattle.os_heap.specs.Store.{Store, find_heap, has_image}
use Rattle.law_machine.proofs.HeapCallsLemmas.Plain.{unlive}
use Rattle.law_machine.proofs.HeapFrameLemmas.HeapCalls.{items_of_fit, unless_some}
use Rattle.law_machine.proofs.HeapFrameLemmas.Holding.{forgot_is_fit, held_is_fit, written_is_fit}
use Rattle.law_machine.proofs.HeapFrameLemmas.Lists.{HasRoomFor, HasRoomIfSome, released_room, resized_room}
use Rattle.law_machine.specs.heap_frame.Fits.{IsFitStore}
use Rattle.rma.proofs.FlexFrameLemmas.Heaps.{OnDone, on_if, on_some}

-- The heap is there after a call, and ends where it ended; the byte stays, or it is of a word of
-- the heap's list, or one of those that the call writes beside.
pub record Leaves (limit : ℕ) (s t : Store) (a : ℕ) (M : Type 0) : Type 0 where
  pub heap : HeapList
  pub found : find_heap module_area_start t.heaps ≡ Some heap
  pub end : heap.end ≡ limit
  pub byte : (t.bytes.at a ≡ s.bytes.at a) ⊎ ((is_heap_word heap.start heap.items (word_start a) ≡ true) ⊎ M)

abbrev pub LeavesIn : {A : Type 0} → ℕ → Store → ℕ → Type 0 → Store × A → Type 0
LeavesIn limit s a M x = Leaves limit s x.0 a M

-- another list is written
pub listed : (limit : ℕ) (s v : Store) (h : HeapList) (items : List Item) (a : ℕ) (M : Type 0) → find_heap module_area_start v.heaps ≡ Some h → v.bytes ≡ s.bytes
    → AreTotals items → h.end ≡ limit → Leaves limit s (store_holding v h items) a M
listed limit s v h items a M found same totals end =
    let start : h.start ≡ module_area_start = found_start module_area_start v.heaps h found in
    let aligned : h.start % 4 ≡ 0 = rw start refl in
    let own : find_heap h.start v.heaps ≡ Some h = subst (λ (p : ℕ). find_heap p v.heaps ≡ Some h) (sym start) found in
    let there : find_heap h.start (store_holding v h items).heaps ≡ Some (with_list h items) = found_held h.start items v.heaps h own in
    record {
      heap = with_list h items;
      found = subst (λ (p : ℕ). find_heap p (store_holding v h items).heaps ≡ Some (with_list h items)) start there;
      end = end;
      byte = elim (cases_Bool (is_heap_word h.start items (word_start a))) [
        | inl word ↦ inr (inl word)
        | inr beside ↦ inl (heap_beside v.bytes.at h.start h.end items a aligned totals beside ∙ ap (λ (b : Bytes). b.at a) same)
      ];
    }

-- a release
gave_by : (limit block a : ℕ) (s : Store) (M : Type 0) (h : HeapList) (items : List Item) (o : Option ℕ) → IsFitStore limit s → find_heap module_area_start s.heaps ≡ Some h
    → items_after_release block (h.start + 16) h.items ≡ Some items → live_total block (h.start + 16) h.items ≡ o
    → Leaves limit s (store_holding (store_after_forget s block (total_or_0 o) block) h items) a M
gave_by limit block a s M h items None f found is none =
    absurd (let no : None ≡ Some items = sym (unlive block (h.start + 16) h.items none) ∙ is in cc)
gave_by limit block a s M h items (Some total) f found is live =
    let own = items_of_fit limit s h f found in
    let left : HasRoomFor (size_of h.items) items = subst (HasRoomIfSome (size_of h.items)) is (released_room block (h.start + 16) h.items own.0) in
    let place : LiveBytes block total (h.start + 16) (h.start + 16 + size_of h.items) = law_live_bytes block total (h.start + 16) h.items own.0 live in
    let v : Store = store_after_forget s block total block in
    let there = (forgot_is_fit limit s h block total block f found (omega (arith, place.low)) (omega arith)).1 in
    listed limit s v h items a M there refl left.0 own.1.1

pub gave_leaves : (limit block a : ℕ) (s : Store) (M : Type 0) → IsFitStore limit s → OnDone (LeavesIn limit s a M) (gave_back s module_area_start block)
unfolding gave_back
gave_leaves limit block a s M f =
    on_some HeapList (Unit {0}) (LeavesIn limit s a M) (find_heap module_area_start s.heaps) HeapBadDesc _ (λ h found.
    let o : Option ℕ = live_total block (h.start + 16) h.items in
    let left : Option (List Item) = items_after_release block (h.start + 16) h.items in
    on_some (List Item) (Unit {0}) (LeavesIn limit s a M) (unless_image (has_image block s.others) left) HeapNotABlock _ (λ items is.
    on_if (Unit {0}) (LeavesIn limit s a M) (holds_anchor s.anchor block o) HeapHoldsAnchor
    (Ok (store_holding (store_after_forget s block (total_or_0 o) block) h items, tt)) (λ none.
    gave_by limit block a s M h items o f found (unless_some (has_image block s.others) left items is) refl)))

-- a claim
pub got_leaves : (limit size a : ℕ) (s : Store) (M : Type 0) → IsFitStore limit s → OnDone (LeavesIn limit s a M) (store_after_get s module_area_start size)
unfolding store_after_get
got_leaves limit size a s M f =
    let total : is_total (total_for size) ≡ true = total_of-numbers (total_for size) (omega arith) (omega arith) in
    on_some HeapList ℕ (LeavesIn limit s a M) (find_heap module_area_start s.heaps) HeapBadDesc _ (λ h found.
    on_some Claim ℕ (LeavesIn limit s a M) (claim_in_items (total_for size) (h.end - 16) h.items) HeapNoRoom
    (λ c. Ok (store_holding s h c.items, h.start + 16 + c.offset + 4)) (λ c is.
    let own = items_of_fit limit s h f found in
    let totals : AreTotals c.items = subst HasTotals is (claim_totals (total_for size) (h.end - 16) h.items total own.0) in
    listed limit s s h c.items a M found refl totals own.1.1))

-- A block was moved in the heap, which ends at `end`: the byte is of a word of the list in which it
-- stands at both places, or it was copied.
pub record IsMovedIn (h : HeapList) (block change end a : ℕ) : Type 0 where
  pub total : ℕ
  pub live : live_total block (h.start + 16) h.items ≡ Some total
  pub claim : Claim
  pub claims : claim_in_items (round_up_8 (changed_by total change)) (end - 16) h.items ≡ Some claim
  pub byte : (is_heap_word h.start claim.items (word_start a) ≡ true)
      ⊎ (in_range (h.start + 16 + claim.offset + 4) (total - 4) a ≡ true)

pub record Resizes (limit : ℕ) (s t : Store) (block change a : ℕ) : Type 0 where
  pub old : HeapList
  pub found : find_heap module_area_start s.heaps ≡ Some old
  pub leaves : Leaves limit s t a (IsMovedIn old block change limit a)

abbrev pub ResizesIn : ℕ → Store → ℕ → ℕ → ℕ → Store × ℕ → Type 0
ResizesIn limit s block change a x = Resizes limit s x.0 block change a

-- the same of a heap that was found
abbrev Left : ℕ → Store → HeapList → ℕ → ℕ → ℕ → Store × ℕ → Type 0
Left limit s h block change a x = Leaves limit s x.0 a (IsMovedIn h block change limit a)

answer_left : (limit : ℕ) (s u : Store) (h : HeapList) (block change a : ℕ) (r : Result (Store × Unit {0}) ErrorNumber) (answer : ℕ)
    → (u.bytes.at a ≡ s.bytes.at a) ⊎ IsMovedIn h block change limit a → OnDone (LeavesIn limit u a (IsMovedIn h block change limit a)) r
    → OnDone (Left limit s h block change a) (bind r (λ x. Ok (x.0, answer)))
answer_left limit s u h block change a (Ok x) answer before done = record {
  heap = done.heap;
  found = done.found;
  end = done.end;
  byte = elim done.byte [
    | inr written ↦ inr written
    | inl same ↦ elim before [ inl kept ↦ inl (same ∙ kept) | inr moved ↦ inr (inr moved) ]
  ];
}
answer_left limit s u h block change a (Err e) answer before done = tt

-- a block that is moved to what a claim gives
copied_byte : (s : Store) (h : HeapList) (items : List Item) (block to len a : ℕ) (M : Type 0) → h.start % 4 ≡ 0 → AreTotals items
    → (is_heap_word h.start items (word_start a) ≡ true → M) → (in_range to len a ≡ true → M)
    → ((store_after_copy (store_holding s h items) block to len).bytes.at a ≡ s.bytes.at a) ⊎ M
copied_byte s h items block to len a M aligned totals word copied = elim (cases_Bool (in_range to len a)) [
  | inl inside ↦ inr (copied inside)
  | inr outside ↦ elim (cases_Bool (is_heap_word h.start items (word_start a))) [
    | inl is ↦ inr (word is)
    | inr beside ↦ inl (rw outside (heap_beside s.bytes.at h.start h.end items a aligned totals beside))
  ]
]

moved_left : (limit : ℕ) (s : Store) (h : HeapList) (block old change a : ℕ) → IsFitStore limit s → find_heap module_area_start s.heaps ≡ Some h
    → is_total (round_up_8 (changed_by old change)) ≡ true → live_total block (h.start + 16) h.items ≡ Some old
    → OnDone (Left limit s h block change a) (store_after_move s h block old (round_up_8 (changed_by old change)))
moved_left limit s h block old change a f found total live =
    let new : ℕ = round_up_8 (changed_by old change) in
    on_some Claim ℕ (Left limit s h block change a) (claim_in_items new (h.end - 16) h.items) HeapNoRoom _ (λ c is.
    let start : h.start ≡ module_area_start = found_start module_area_start s.heaps h found in
    let aligned : h.start % 4 ≡ 0 = rw start refl in
    let own = items_of_fit limit s h f found in
    let totals : AreTotals c.items = subst HasTotals is (claim_totals new (h.end - 16) h.items total own.0) in
    let within : size_of c.items ≤ h.end - 16 = subst (IsWithin (h.end - 16)) is (claim_within new (h.end - 16) h.items (omega (arith, own.1.0, own.1.1))) in
    let inside : 16 + size_of c.items ≤ limit = omega (arith, within, own.1.0, own.1.1) in
    let to : ℕ = h.start + 16 + c.offset + 4 in
    let t : Store = store_holding s h c.items in
    let u : Store = store_after_copy t block to (old - 4) in
    let fit : IsFitStore limit u = written_is_fit limit t u.bytes (held_is_fit limit s h c.items f found totals inside) in
    let claims : claim_in_items new (limit - 16) h.items ≡ Some c = subst (λ (n : ℕ). claim_in_items new (n - 16) h.items ≡ Some c) own.1.1 is in
    let before : (u.bytes.at a ≡ s.bytes.at a) ⊎ IsMovedIn h block change limit a =
    copied_byte s h c.items block to (old - 4) a (IsMovedIn h block change limit a) aligned totals
    (λ word. record { total = old; live = live; claim = c; claims = claims; byte = inl word })
    (λ copied. record { total = old; live = live; claim = c; claims = claims; byte = inr copied }) in
    on_if ℕ (Left limit s h block change a) (holds_heap s.heaps block (old - 4)) BlockHoldsHeap (handed_over h.start block (old - 4) t to) (λ unheld.
    answer_left limit s u h block change a (gave_back u h.start block) to before
    (subst (λ (p : ℕ). OnDone (LeavesIn limit u a (IsMovedIn h block change limit a)) (gave_back u p block)) (sym start)
    (gave_leaves limit block a u (IsMovedIn h block change limit a) fit))))

refitted_left : (limit : ℕ) (s : Store) (h : HeapList) (block old change a : ℕ) (o : Option (List Item)) → IsFitStore limit s → find_heap module_area_start s.heaps ≡ Some h
    → is_total (round_up_8 (changed_by old change)) ≡ true → live_total block (h.start + 16) h.items ≡ Some old → HasRoomIfSome (limit - 16) o
    → OnDone (Left limit s h block change a) (resized_or_moved s h block old (round_up_8 (changed_by old change)) o)
refitted_left limit s h block old change a None f found total live room =
    let new : ℕ = round_up_8 (changed_by old change) in
    on_if ℕ (Left limit s h block change a) (holds_anchor s.anchor block (Some old)) HeapHoldsAnchor (store_after_move s h block old new)
    (λ none. moved_left limit s h block old change a f found total live)
refitted_left limit s h block old change a (Some items) f found total live room =
    let new : ℕ = round_up_8 (changed_by old change) in
    let own = items_of_fit limit s h f found in
    let place : LiveBytes block old (h.start + 16) (h.start + 16 + size_of h.items) = law_live_bytes block old (h.start + 16) h.items own.0 live in
    let from : ℕ = block - 4 + new in
    let v : Store = store_after_forget s block old from in
    let left = forgot_is_fit limit s h block old from f found (omega (arith, place.low)) (omega (arith, (total_facts new total).0)) in
    on_if ℕ (Left limit s h block change a) (anchor_among s.anchor from (old - new)) HeapHoldsAnchor (Ok (store_holding v h items, block))
    (λ none. listed limit s v h items a (IsMovedIn h block change limit a) left.1 refl room.0 own.1.1)

-- what is asked of a block once it is found
abbrev sized : Store → HeapList → ℕ → ℕ → ℕ → Result (Store × ℕ) ErrorNumber
sized s h block change old =
    let sum : ℕ = changed_by old change in
    if nat_le sum 4 then bind (gave_back s module_area_start block) (λ r. Ok (r.0, 0)) else
    resized_or_moved s h block old (round_up_8 sum) (resized_in_place block (h.start + h.end) (round_up_8 sum) (h.start + 16) h.items)

sized_left : (limit : ℕ) (s : Store) (h : HeapList) (block change old a : ℕ) → IsFitStore limit s → find_heap module_area_start s.heaps ≡ Some h
    → live_total block (h.start + 16) h.items ≡ Some old → OnDone (Left limit s h block change a) (sized s h block change old)
sized_left limit s h block change old a f found live =
    let sum : ℕ = changed_by old change in
    let new : ℕ = round_up_8 sum in
    let own = items_of_fit limit s h f found in
    elim (cases_Bool (nat_le sum 4)) [
      | inl few ↦
          rw few (answer_left limit s s h block change a (gave_back s module_area_start block) 0 (inl refl)
          (gave_leaves limit block a s (IsMovedIn h block change limit a) f))
      | inr more ↦
          let many : 4 < sum = leb-false sum 4 more in
          let total : is_total new ≡ true = total_of-numbers new (omega (arith, many)) (omega arith) in
          let room : HasRoomIfSome (h.start + h.end - (h.start + 16)) (resized_in_place block (h.start + h.end) new (h.start + 16) h.items) =
          resized_room block (h.start + h.end) new (h.start + 16) h.items total own.0 (omega (arith, own.1.0, own.1.1)) in
          let same : h.start + h.end - (h.start + 16) ≡ limit - 16 = omega (arith, own.1.1) in
          rw more (refitted_left limit s h block old change a (resized_in_place block (h.start + h.end) new (h.start + 16) h.items) f found total live
          (subst (λ (n : ℕ). HasRoomIfSome n (resized_in_place block (h.start + h.end) new (h.start + 16) h.items)) same room))
    ]

resizes_by : (limit : ℕ) (s : Store) (h : HeapList) (block change a : ℕ) (r : Result (Store × ℕ) ErrorNumber) → find_heap module_area_start s.heaps ≡ Some h
    → OnDone (Left limit s h block change a) r → OnDone (ResizesIn limit s block change a) r
resizes_by limit s h block change a (Ok x) found left = record { old = h; found = found; leaves = left }
resizes_by limit s h block change a (Err e) found left = tt

pub resized_leaves : (limit block change a : ℕ) (s : Store) → IsFitStore limit s → OnDone (ResizesIn limit s block change a) (store_after_resize s module_area_start block change)
unfolding store_after_resize
resized_leaves limit block change a s f =
    on_some HeapList ℕ (ResizesIn limit s block change a) (find_heap module_area_start s.heaps) HeapBadDesc _ (λ h found.
    on_some ℕ ℕ (ResizesIn limit s block change a) (unless_image (has_image block s.others) (live_total block (h.start + 16) h.items)) HeapNotABlock _ (λ old is.
    resizes_by limit s h block change a (sized s h block change old) found
    (sized_left limit s h block change old a f found (unless_some (has_image block s.others) (live_total block (h.start + 16) h.items) old is))))
