-- What a call on a heap that is done leaves: the store as it was, or the heap with another list, or
-- with another end.
use Rattle.std.proofs.Common.{ℕ, ◌≡◌, ◌+◌, ◌-◌, ◌%◌, ◌≤◌, ◌<◌, ◌==◌, ◌&&◌, ◌∙◌, Bool, true, false, List, Option, Some, None, ok_or, Result, Ok, Err, refl, sym, subst, inl, inr, arith, if◌then◌else◌}
use Rattle.std.proofs.lemmas.Bool.{cases_Bool, false≢true, leb-false}
use Rattle.std.specs.Prelude.{nat_le, nat_lt}
use Rattle.profile.specs.Outcome.{bind}
use Rattle.profile.specs.ErrorNumber.{ErrorNumber}
use Rattle.profile.specs.ErrorNumber.TheVariants.{HeapHoldsAnchor, HeapNotABlock}
use Rattle.profile.specs.declared.reason.HeapReason.{HeapReason}
use Rattle.profile.specs.declared.reason.HeapReason.TheVariants as reason
use Rattle.address_map.specs.Items.{is_total, size_of}
use Rattle.address_map.specs.Records.{anchor_among}
use Rattle.address_map.specs.declared.item.Item.{Item}
use Rattle.address_map.specs.declared.region.Kind.TheVariants as kind
use Rattle.os_heap_words.proofs.ListsLemmas.Reading.{total_facts}
use Rattle.os_heap_words.proofs.ListsLemmas.Spelling.{total_of-numbers}
use Rattle.os_heap_words.specs.lists.Heap.{HeapList}
use Rattle.os_heap_words.specs.lists.Lists.{Claim, changed_by, claim_in_items, live_total, items_after_release, resized_in_place, round_up_8, total_for}
use Rattle.os_heap.proofs.Calls.{claimed_in}
use Rattle.os_heap.proofs.Found.{found_start}
use Rattle.os_heap.proofs.Moving.{found_held}
use Rattle.os_heap.proofs.Resizing.{larger_where_none}
use Rattle.os_heap.specs.Calls.{store_after_init, store_with_new_heap, block_sized, store_after_change, store_after_copy, heap_description, end_changed, ending, gave_back, store_after_get, handed_over, has_own_size, store_holding, holds_anchor, store_after_move, store_after_resize, resized_or_moved, unless_image}
use Rattle.os_heap.specs.Forgetting.{store_after_forget, holds_heap}
use Rattle.os_heap.specs.Ranges.{is_heap_region, overgrows, overlaps}
use Rattle.os_heap.specs.Store.{Store, find_heap, guest_count, has_image}
use Rattle.law_machine.proofs.HeapCallsLemmas.Likeness.{with_list}
use Rattle.law_machine.proofs.HeapCallsLemmas.Plain.{sized_to, unlive}
use Rattle.law_machine.specs.heap_calls.Forgotten.{freed_from}
use Rattle.law_machine.specs.heap_calls.Lists.{is_on_heap}
use Rattle.law_machine.specs.heap_calls.Turns.{call_on}

-- what a call leaves, if it is done
abbrev pub OnDone : (A : Type 0) → (Store → Type 0) → Result (Store × A) ErrorNumber → Type 0
OnDone A P (Ok r) = P r.0
OnDone A P (Err e) = Unit {0}

done_bound : (A B : Type 0) (P : Store → Type 0) (k : A → B) (r : Result (Store × A) ErrorNumber) → OnDone A P r → OnDone B P (bind r (λ x. Ok (x.0, k x.1)))
done_bound A B P k (Ok r) done = done
done_bound A B P k (Err e) done = tt

done_shown : (A B : Type 0) (P : Store → Type 0) (s : Store) (k : A → B) (r : Result A ErrorNumber) → P s → OnDone B P (bind r (λ x. Ok (s, k x)))
done_shown A B P s k (Ok x) same = same
done_shown A B P s k (Err e) same = tt

-- a block that is moved from `block`, with what is left of its heap then
abbrev pub moved_to : Store → HeapList → Claim → ℕ → ℕ → Store
moved_to s k c block old = store_after_copy (store_holding s k c.items) block (k.start + 16 + c.offset + 4) (old - 4)

-- bytes of a block that are given up, and a block that is moved
pub record FreesBytes (k : HeapList) (block total from : ℕ) : Type 0 where
  pub live : live_total block (k.start + 16) k.items ≡ Some total
  pub past : block ≤ from

pub record MovesBlock (s : Store) (k : HeapList) (c : Claim) (block old new : ℕ) : Type 0 where
  pub total : is_total new ≡ true
  pub less : old ≤ new
  pub more : old < new
  pub claim : claim_in_items new (k.end - 16) k.items ≡ Some c
  pub live : live_total block (k.start + 16) k.items ≡ Some old
  pub unheld : holds_heap s.heaps block (old - 4) ≡ false

-- what holds of each store that a call on a heap can leave
pub record Leave (P : Store → Type 0) (s : Store) (k : HeapList) : Type 0 where
  pub same : P s
  pub held : (items : List Item) → P (store_holding s k items)
  pub lost : (block total from : ℕ) (items : List Item) → FreesBytes k block total from → P (store_holding (store_after_forget s block total from) k items)
  pub moved : (c : Claim) (block old new total : ℕ) (items : List Item) → MovesBlock s k c block old new → FreesBytes (with_list k c.items) block total block
      → P (store_holding (store_after_forget (moved_to s k c block old) block total block) (with_list k c.items) items)
  pub ended : (end : ℕ) → overgrows s k end ≡ false → P (ending s k end)

-- The same, by the bytes that the call frees: for a reason that frees none, the store as it was, or
-- the heap with another list or end; for one that frees those of the block from an address on, what
-- is left then, or the block moved, which gets more bytes than it had.
abbrev pub FreesNone : HeapReason → ℕ → ℕ → Type 0
FreesNone why block size = (total : ℕ) → freed_from why block total size ≡ None

abbrev pub OnMoved : (Store → Type 0) → Store → HeapList → HeapReason → ℕ → ℕ → Type 0
OnMoved P s k why block size =
    (c : Claim) (old new total : ℕ) (items : List Item) → MovesBlock s k c block old new → FreesBytes (with_list k c.items) block total block
    → freed_from why block old size ≡ Some (block - 4 + new) → P (store_holding (store_after_forget (moved_to s k c block old) block total block) (with_list k c.items) items)

pub record LeaveBy (P : Store → Type 0) (s : Store) (k : HeapList) (why : HeapReason) (block size : ℕ) : Type 0 where
  pub same : FreesNone why block size → P s
  pub held : (items : List Item) → FreesNone why block size → P (store_holding s k items)
  pub lost : (total from : ℕ) (items : List Item) → FreesBytes k block total from → freed_from why block total size ≡ Some from
      → P (store_holding (store_after_forget s block total from) k items)
  pub moved : OnMoved P s k why block size
  pub ended : (end : ℕ) → FreesNone why block size → overgrows s k end ≡ false → P (ending s k end)

leave_by : (P : Store → Type 0) (s : Store) (k : HeapList) (why : HeapReason) (block size : ℕ) → Leave P s k → LeaveBy P s k why block size
leave_by P s k why block size leave = record {
  same = λ none. leave.same;
  held = λ items none. leave.held items;
  lost = λ total from items given frees. leave.lost block total from items given;
  moved = λ c old new total items is given frees. leave.moved c block old new total items is given;
  ended = λ end none clear. leave.ended end clear;
}

claim_done : (P : Store → Type 0) (s : Store) (k : HeapList) (o : Option Claim) → ((items : List Item) → P (store_holding s k items)) → OnDone ℕ P (claimed_in s k o)
claim_done P s k None held = tt
claim_done P s k (Some c) held = held c.items

pub got_done : (P : Store → Type 0) (s : Store) (k : HeapList) (size : ℕ) → find_heap k.start s.heaps ≡ Some k
    → ((items : List Item) → P (store_holding s k items)) → OnDone ℕ P (store_after_get s k.start size)
unfolding store_after_get
got_done P s k size found held = rw found (claim_done P s k (claim_in_items (total_for size) (k.end - 16) k.items) held)

-- what a release leaves
abbrev pub OnFreed : (Store → Type 0) → Store → HeapList → ℕ → Type 0
OnFreed P s k block = (total : ℕ) (items : List Item) → FreesBytes k block total block → P (store_holding (store_after_forget s block total block) k items)

release_done : (P : Store → Type 0) (s : Store) (k : HeapList) (block total : ℕ) (holds : Bool) (o : Option (List Item)) → FreesBytes k block total block
    → OnFreed P s k block
    → OnDone (Unit {0}) P (bind (ok_or o HeapNotABlock) (λ items. if holds then Err HeapHoldsAnchor else Ok (store_holding (store_after_forget s block total block) k items, tt)))
release_done P s k block total holds None given lost = tt
release_done P s k block total true (Some items) given lost = tt
release_done P s k block total false (Some items) given lost = lost total items given

unless_none : (A : Type 0) (image : Bool) (o : Option A) → o ≡ None → unless_image image o ≡ None
unless_none A true o none = refl
unless_none A false o none = none

gave_by : (P : Store → Type 0) (s : Store) (k : HeapList) (block : ℕ) (o : Option ℕ) → find_heap k.start s.heaps ≡ Some k → OnFreed P s k block
    → live_total block (k.start + 16) k.items ≡ o → OnDone (Unit {0}) P (gave_back s k.start block)
unfolding gave_back
gave_by P s k block None found lost none =
    rw (found, unless_none (List Item) (has_image block s.others) (items_after_release block (k.start + 16) k.items) (unlive block (k.start + 16) k.items none)) tt
gave_by P s k block (Some total) found lost live =
    rw (found, live) (release_done P s k block total (holds_anchor s.anchor block (Some total))
    (unless_image (has_image block s.others) (items_after_release block (k.start + 16) k.items)) (record { live = live; past = omega arith }) lost)

pub gave_done : (P : Store → Type 0) (s : Store) (k : HeapList) (block : ℕ) → find_heap k.start s.heaps ≡ Some k → OnFreed P s k block
    → OnDone (Unit {0}) P (gave_back s k.start block)
gave_done P s k block found lost = gave_by P s k block (live_total block (k.start + 16) k.items) found lost refl

module _ (P : Store → Type 0) (s : Store) (k : HeapList) (block change : ℕ) (found : find_heap k.start s.heaps ≡ Some k)
    (leave : LeaveBy P s k reason.Resize block change) where
  handed_done : (c : Claim) (old new : ℕ) → MovesBlock s k c block old new → freed_from reason.Resize block old change ≡ Some (block - 4 + new)
      → OnDone ℕ P (handed_over k.start block (old - 4) (store_holding s k c.items) (k.start + 16 + c.offset + 4))
  handed_done c old new is frees =
      done_bound (Unit {0}) ℕ P (λ _. k.start + 16 + c.offset + 4) (gave_back (moved_to s k c block old) k.start block)
      (gave_done P (moved_to s k c block old) (with_list k c.items) block (found_held k.start c.items s.heaps k found)
      (λ total items given. leave.moved c old new total items is given frees))

  move_done : (old new : ℕ) (o : Option Claim) → is_total new ≡ true → old < new → live_total block (k.start + 16) k.items ≡ Some old
      → freed_from reason.Resize block old change ≡ Some (block - 4 + new) → claim_in_items new (k.end - 16) k.items ≡ o → OnDone ℕ P (store_after_move s k block old new)
  move_done old new None total less live frees none = rw none tt
  move_done old new (Some c) total less live frees some =
      rw some (elim (cases_Bool (holds_heap s.heaps block (old - 4))) [
        | inl held ↦ rw held tt
        | inr unheld ↦ rw unheld (handed_done c old new
            (record { total = total; less = omega (arith, less); more = less; claim = some; live = live; unheld = unheld }) frees)
      ])

  refit_done : (old new : ℕ) (o : Option (List Item)) → is_total new ≡ true → live_total block (k.start + 16) k.items ≡ Some old
      → freed_from reason.Resize block old change ≡ Some (block - 4 + new) → (o ≡ None → old < new) → OnDone ℕ P (resized_or_moved s k block old new o)
  refit_done old new None total live frees less = elim (cases_Bool (holds_anchor s.anchor block (Some old))) [
    | inl held ↦ rw held tt
    | inr free ↦ rw free (move_done old new (claim_in_items new (k.end - 16) k.items) total (less refl) live frees refl)
  ]
  refit_done old new (Some items) total live frees less = elim (cases_Bool (anchor_among s.anchor (block - 4 + new) (old - new))) [
    | inl held ↦ rw held tt
    | inr free ↦ rw free (leave.lost old (block - 4 + new) items (record { live = live; past = omega (arith, (total_facts new total).0) }) frees)
  ]

  -- what is given back is the whole block
  few_done : (old : ℕ) → nat_le (changed_by old change) 4 ≡ true → live_total block (k.start + 16) k.items ≡ Some old → OnFreed P s k block
  few_done old few live total items given =
      let both : Some total ≡ Some old = sym given.live ∙ live in
      let same : total ≡ old = cc in
      leave.lost total block items given (rw (same, few) refl)

  sized_done : (old : ℕ) → live_total block (k.start + 16) k.items ≡ Some old → OnDone ℕ P (sized_to s k block change old)
  sized_done old live = elim (cases_Bool (nat_le (changed_by old change) 4)) [
    | inl few ↦ rw few (done_bound (Unit {0}) ℕ P (λ _. 0) (gave_back s k.start block) (gave_done P s k block found (few_done old few live)))
    | inr more ↦
        let sum : ℕ = changed_by old change in
        let many : 4 < sum = leb-false sum 4 more in
        let new : ℕ = round_up_8 sum in
        let frees : freed_from reason.Resize block old change ≡ Some (block - 4 + new) = rw more refl in
        rw more (refit_done old new (resized_in_place block (k.start + k.end) new (k.start + 16) k.items)
        (total_of-numbers new (omega (arith, many)) (omega arith)) live frees
        (λ none. larger_where_none block (k.start + k.end) new (k.start + 16) old k.items live none))
  ]

  asked_done : (image : Bool) (o : Option ℕ) → live_total block (k.start + 16) k.items ≡ o
      → OnDone ℕ P (bind (ok_or (unless_image image o) HeapNotABlock) (sized_to s k block change))
  asked_done true o is = tt
  asked_done false None is = tt
  asked_done false (Some old) is = sized_done old is

  pub resized_done : OnDone ℕ P (store_after_resize s k.start block change)
  unfolding store_after_resize
  resized_done = rw found (asked_done (has_image block s.others) (live_total block (k.start + 16) k.items) refl)

-- another end, which the heap may have
abbrev OnEnded : (Store → Type 0) → Store → HeapList → Type 0
OnEnded P s k = (end : ℕ) → overgrows s k end ≡ false → P (ending s k end)

end_done : (P : Store → Type 0) (s : Store) (k : HeapList) (change end : ℕ) → OnEnded P s k → OnDone (Unit {0}) P (end_changed s k change end)
end_done P s k change end ended = elim (cases_Bool (change % 4 == 0 && is_heap_region s.bytes k.start end)) [
  | inr bad ↦ rw bad tt
  | inl good ↦ elim (cases_Bool (overgrows s k end)) [
    | inl over ↦ rw (good, over) tt
    | inr clear ↦ elim (cases_Bool (nat_lt end (16 + size_of k.items))) [
      | inl short ↦ rw (good, clear, short) tt
      | inr fits ↦ rw (good, clear, fits) (ended end clear)
    ]
  ]
]

changed_done : (P : Store → Type 0) (s : Store) (k : HeapList) (change : ℕ) → find_heap k.start s.heaps ≡ Some k → OnEnded P s k
    → OnDone (Unit {0}) P (store_after_change s k.start change)
unfolding store_after_change
changed_done P s k change found ended = elim (cases_Bool (has_own_size k.kind)) [
  | inl own ↦ rw (found, own) (end_done P s k change (changed_by k.end change) ended)
  | inr area ↦ rw (found, area) tt
]

-- a call on the heap that starts there, or on none
abbrev Answers : (Store → Type 0) → Store → ℕ → HeapReason → ℕ → ℕ → Type 0
Answers P s heap why block size = OnDone (ℕ × ℕ) P (call_on s heap why block size)

none_done : (P : Store → Type 0) (s : Store) (heap : ℕ) (why : HeapReason) (block size : ℕ) → is_on_heap why ≡ true → find_heap heap s.heaps ≡ None
    → Answers P s heap why block size
unfolding heap_description store_after_get gave_back store_after_resize store_after_change block_sized
none_done P s heap reason.Initialise block size on none = absurd (false≢true on)
none_done P s heap reason.Describe block size on none = rw none tt
none_done P s heap reason.Get block size on none = rw none tt
none_done P s heap reason.Free block size on none = rw none tt
none_done P s heap reason.Resize block size on none = rw none tt
none_done P s heap reason.ChangeSize block size on none = rw none tt
none_done P s heap reason.BlockSize block size on none = rw none tt

by_reason : (P : Store → Type 0) (s : Store) (k : HeapList) (why : HeapReason) (block size : ℕ) → is_on_heap why ≡ true
    → find_heap k.start s.heaps ≡ Some k → LeaveBy P s k why block size → Answers P s k.start why block size
by_reason P s k reason.Initialise block size on found leave = absurd (false≢true on)
by_reason P s k reason.Describe block size on found leave =
    done_shown (ℕ × ℕ) (ℕ × ℕ) P s (λ r. r) (heap_description s k.start) (leave.same (λ total. refl))
by_reason P s k reason.Get block size on found leave =
    done_bound ℕ (ℕ × ℕ) P (λ n. (n, size)) (store_after_get s k.start size) (got_done P s k size found (λ items. leave.held items (λ total. refl)))
by_reason P s k reason.Free block size on found leave =
    done_bound (Unit {0}) (ℕ × ℕ) P (λ _. (block, size)) (gave_back s k.start block)
    (gave_done P s k block found (λ total items given. leave.lost total block items given refl))
by_reason P s k reason.Resize block size on found leave =
    done_bound ℕ (ℕ × ℕ) P (λ n. (n, size)) (store_after_resize s k.start block size) (resized_done P s k block size found leave)
by_reason P s k reason.ChangeSize block size on found leave =
    done_bound (Unit {0}) (ℕ × ℕ) P (λ _. (block, size)) (store_after_change s k.start size)
    (changed_done P s k size found (λ end clear. leave.ended end (λ total. refl) clear))
by_reason P s k reason.BlockSize block size on found leave =
    done_shown ℕ (ℕ × ℕ) P s (λ n. (block, n)) (block_sized s k.start block) (leave.same (λ total. refl))

pub heap_done : (P : Store → Type 0) (s : Store) (k : HeapList) (why : HeapReason) (block size : ℕ) → is_on_heap why ≡ true
    → find_heap k.start s.heaps ≡ Some k → Leave P s k → Answers P s k.start why block size
heap_done P s k why block size on found leave = by_reason P s k why block size on found (leave_by P s k why block size leave)

found_done : (P : Store → Type 0) (s : Store) (heap : ℕ) (why : HeapReason) (block size : ℕ) (o : Option HeapList) → is_on_heap why ≡ true
    → find_heap heap s.heaps ≡ o → ((k : HeapList) → k.start ≡ heap → find_heap k.start s.heaps ≡ Some k → LeaveBy P s k why block size)
    → Answers P s heap why block size
found_done P s heap why block size None on none leave = none_done P s heap why block size on none
found_done P s heap why block size (Some k) on found leave =
    let start : k.start ≡ heap = found_start heap s.heaps k found in
    let own : find_heap k.start s.heaps ≡ Some k = subst (λ (p : ℕ). find_heap p s.heaps ≡ Some k) (sym start) found in
    subst (λ (p : ℕ). Answers P s p why block size) start (by_reason P s k why block size on own (leave k start own))

-- one that makes a heap
pub begun_done : (P : Store → Type 0) (s : Store) (at block size : ℕ)
    → (is_heap_region s.bytes at size ≡ true → overlaps at size s ≡ false → P (store_with_new_heap kind.Heap s at size))
    → Answers P s at reason.Initialise block size
unfolding store_after_init
begun_done P s at block size begins = elim (cases_Bool (is_heap_region s.bytes at size)) [
  | inr bad ↦ rw bad tt
  | inl good ↦ elim (cases_Bool (overlaps at size s)) [
    | inl over ↦ rw (good, over) tt
    | inr clear ↦ elim (cases_Bool (nat_le 64 (guest_count s.heaps))) [
      | inl full ↦ rw (good, clear, full) tt
      | inr room ↦ rw (good, clear, room) (begins good clear)
    ]
  ]
]

-- any
pub call_by : (P : Store → Type 0) (s : Store) (heap : ℕ) (why : HeapReason) (block size : ℕ)
    → (is_on_heap why ≡ true → (k : HeapList) → k.start ≡ heap → find_heap k.start s.heaps ≡ Some k → LeaveBy P s k why block size)
    → (reason.Initialise ≡ why → is_heap_region s.bytes heap size ≡ true → overlaps heap size s ≡ false → P (store_with_new_heap kind.Heap s heap size))
    → Answers P s heap why block size
call_by P s heap why block size leave begins = elim (cases_Bool (is_on_heap why)) [
  | inl on ↦ found_done P s heap why block size (find_heap heap s.heaps) on refl (leave on)
  | inr made ↦
      let is : reason.Initialise ≡ why = initialise why made in
      subst (λ (x : HeapReason). Answers P s heap x block size) is (begun_done P s heap block size (begins is))
] where
  initialise : (why : HeapReason) → is_on_heap why ≡ false → reason.Initialise ≡ why
  initialise reason.Initialise made = refl
  initialise reason.Describe made = absurd (false≢true (sym made))
  initialise reason.Get made = absurd (false≢true (sym made))
  initialise reason.Free made = absurd (false≢true (sym made))
  initialise reason.Resize made = absurd (false≢true (sym made))
  initialise reason.ChangeSize made = absurd (false≢true (sym made))
  initialise reason.BlockSize made = absurd (false≢true (sym made))

pub call_done : (P : Store → Type 0) (s : Store) (heap : ℕ) (why : HeapReason) (block size : ℕ)
    → (is_on_heap why ≡ true → (k : HeapList) → k.start ≡ heap → find_heap k.start s.heaps ≡ Some k → Leave P s k)
    → (is_heap_region s.bytes heap size ≡ true → overlaps heap size s ≡ false → P (store_with_new_heap kind.Heap s heap size))
    → Answers P s heap why block size
call_done P s heap why block size leave begins =
    call_by P s heap why block size (λ on k start found. leave_by P s k why block size (leave on k start found)) (λ is. begins)
