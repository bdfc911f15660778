-- What a call of OS_Heap writes that is done: words of its heap's list, and where it moves a block,
-- what it copies.
use Rattle.std.proofs.Common.{ℕ, ◌≡◌, ◌+◌, ◌-◌, ◌%◌, ◌≤◌, ◌<◌, ◌==◌, ◌&&◌, ◌∙◌, ◌⊎◌, not, true, List, [], ◌∷◌, ◌++◌, Option, Some, None, ok_or, Result, Ok, Err, refl, sym, ap, subst, inl, inr, arith, if◌then◌else◌}
use Rattle.std.specs.Prelude.{nat_le, nat_lt}
use Rattle.std.proofs.lemmas.Bool.{cases_Bool, leb-false, not-false}
use Rattle.profile.specs.Outcome.{bind}
use Rattle.profile.specs.ErrorNumber.{ErrorNumber}
use Rattle.profile.specs.ErrorNumber.TheVariants.{BlockHoldsHeap, HeapBadDesc, HeapBadRegion, HeapBadShrink, HeapHoldsAnchor, HeapNoRoom, HeapNotABlock, HeapOverlaps, HeapTableFull}
use Rattle.profile.specs.declared.reason.HeapReason.{HeapReason}
use Rattle.profile.specs.declared.reason.HeapReason.TheVariants as reason
use Rattle.address_map.specs.Bytes.{Bytes, in_range, word_start}
use Rattle.address_map.specs.Items.{is_heap_word, is_total, size_of}
use Rattle.address_map.specs.Records.{anchor_among}
use Rattle.address_map.specs.declared.item.Item.{Item}
use Rattle.address_map.specs.declared.region.Kind.TheVariants as kind
use Rattle.os_heap_words.proofs.ListsLemmas.LiveBlocks.{LiveBytes, law_live_bytes}
use Rattle.os_heap_words.proofs.ListsLemmas.Payloads.{heap_beside, payload_unspelled}
use Rattle.os_heap_words.proofs.ListsLemmas.Reading.{total_facts}
use Rattle.os_heap_words.proofs.ListsLemmas.Spelling.{total_of-numbers}
use Rattle.os_heap_words.specs.lists.Heap.{AreTotals, HeapList, IsHeapIn}
use Rattle.os_heap_words.specs.lists.Lists.{Claim, changed_by, claim_in_items, live_total, items_after_release, resized_in_place, round_up_8, total_for}
use Rattle.os_heap.proofs.Apart.{range_parts}
use Rattle.os_heap.proofs.Calls.{claimed_in}
use Rattle.os_heap.proofs.ClaimFacts.{IsClaim, is_claim}
use Rattle.os_heap.proofs.Forgetting.{own_left}
use Rattle.os_heap.proofs.Found.{found_ended, found_heap, found_start, with_other_end}
use Rattle.os_heap.proofs.KeptPayloads.{found_begun, own_there, unheld_image}
use Rattle.os_heap.proofs.Limits.{empty}
use Rattle.os_heap.proofs.Moving.{found_held}
use Rattle.os_heap.proofs.PayloadLists.{FromSome, done_store, new_heap, own_start, past_if, some_of, with_list}
use Rattle.os_heap.proofs.RangeTests.{CanHold, can_hold, unlapped}
use Rattle.os_heap.specs.Calls.{store_after_init, store_with_new_heap, block_sized, store_after_change, store_after_copy, heap_description, end_changed, ending, gave_back, store_after_get, handed_over, has_own_size, store_holding, holds_anchor, store_after_move, own_size, store_after_resize, resized_or_moved, total_or_0, unless_image}
use Rattle.os_heap.specs.Forgetting.{store_after_forget, holds_heap}
use Rattle.os_heap.specs.Ranges.{is_heap_region, overgrows, overlaps}
use Rattle.os_heap.specs.Store.{IsSound, Store, find_heap, guest_count, has_image}
use Rattle.law_machine.proofs.HeapCallsLemmas.Plain.{sized_to}
use Rattle.law_machine.specs.heap_calls.Turns.{call_on}
use Rattle.law_machine.specs.live_bytes.HeapWrites.{IsHeadByte, IsOfMovedBlock, IsWrittenFor}

-- a byte stays, or it is of a word of the heap's list
abbrev Heads : Store → ℕ → Store → ℕ → Type 0
Heads s heap t a = (t.bytes.at a ≡ s.bytes.at a) ⊎ IsHeadByte t heap a

same_or : (x y z : ℕ) (A : Type 0) → (x ≡ y) ⊎ A → y ≡ z → (x ≡ z) ⊎ A
same_or x y z A (inl same) next = inl (same ∙ next)
same_or x y z A (inr other) next = inr other

-- another list is written
headed : (v : Store) (k : HeapList) (items : List Item) (a : ℕ) → IsSound (store_holding v k items) → find_heap k.start v.heaps ≡ Some k
    → Heads v k.start (store_holding v k items) a
headed v k items a sound found = elim (cases_Bool (is_heap_word k.start items (word_start a))) [
  | inl is ↦ inr (record { list = with_list k items; found = found_held k.start items v.heaps k found; word = is })
  | inr beside ↦
      let new : IsHeapIn (store_holding v k items).bytes k.start k.end items = new_heap v k items sound found in
      inl (heap_beside v.bytes.at k.start k.end items a new.aligned new.totals beside)
]

held_heads : (s v t : Store) (heap : ℕ) (k : HeapList) (items : List Item) (a : ℕ) → v.bytes ≡ s.bytes → k.start ≡ heap → find_heap k.start v.heaps ≡ Some k
    → store_holding v k items ≡ t → IsSound t → Heads s heap t a
held_heads s v t heap k items a same start found is sound =
    let u : Store = store_holding v k items in
    subst (λ (p : ℕ). Heads s p t a) start
    (subst (λ (w : Store). Heads s k.start w a) is
    (same_or (u.bytes.at a) (v.bytes.at a) (s.bytes.at a) (IsHeadByte u k.start a) (headed v k items a (subst IsSound (sym is) sound) found)
    (ap (λ (b : Bytes). b.at a) same)))

-- reason 2
got_heads : (s t : Store) (heap size block a : ℕ) → store_after_get s heap size ≡ Ok (t, block) → IsSound t → Heads s heap t a
unfolding store_after_get
got_heads s t heap size block a e sound =
    let one : FromSome HeapList (Store × ℕ) (find_heap heap s.heaps) (λ h. claimed_in s h (claim_in_items (total_for size) (h.end - 16) h.items)) (t, block) =
    some_of HeapList (Store × ℕ) (find_heap heap s.heaps) HeapBadDesc (λ h. claimed_in s h (claim_in_items (total_for size) (h.end - 16) h.items)) (t, block) e in
    let h : HeapList = one.value in
    let two : FromSome Claim (Store × ℕ) (claim_in_items (total_for size) (h.end - 16) h.items) (λ c. Ok (store_holding s h c.items, h.start + 16 + c.offset + 4)) (t, block) =
    some_of Claim (Store × ℕ) (claim_in_items (total_for size) (h.end - 16) h.items) HeapNoRoom (λ c. Ok (store_holding s h c.items, h.start + 16 + c.offset + 4)) (t, block) one.done in
    held_heads s s t heap h two.value.items a refl (found_start heap s.heaps h one.is) (own_start heap s h one.is)
    (done_store ℕ (store_holding s h two.value.items) t (h.start + 16 + two.value.offset + 4) block two.done) sound

-- reason 3, in a heap that is found
freed_by : (s t : Store) (heap block a : ℕ) (k : HeapList) → find_heap heap s.heaps ≡ Some k → AreTotals k.items → gave_back s heap block ≡ Ok (t, tt)
    → IsSound t → Heads s heap t a
unfolding gave_back
freed_by s t heap block a k found totals e sound =
    let total : Option ℕ = live_total block (k.start + 16) k.items in
    let v : Store = store_after_forget s block (total_or_0 total) block in
    let next : List Item → Result (Store × Unit {0}) ErrorNumber = λ items. if holds_anchor s.anchor block total then Err HeapHoldsAnchor else Ok (store_holding v k items, tt) in
    let one : FromSome (List Item) (Store × Unit {0}) (unless_image (has_image block s.others) (items_after_release block (k.start + 16) k.items)) next (t, tt) =
    some_of (List Item) (Store × Unit {0}) (unless_image (has_image block s.others) (items_after_release block (k.start + 16) k.items)) HeapNotABlock next (t, tt) (rw found at e) in
    let done = past_if (Store × Unit {0}) (holds_anchor s.anchor block total) HeapHoldsAnchor (Ok (store_holding v k one.value, tt)) (t, tt) one.done in
    held_heads s v t heap k one.value a refl (found_start heap s.heaps k found)
    (own_there s k block total totals (own_start heap s k found) refl) (done_store (Unit {0}) (store_holding v k one.value) t tt tt done.1) sound

freed_none : (s t : Store) (heap block : ℕ) → find_heap heap s.heaps ≡ None → gave_back s heap block ≡ Ok (t, tt) → ⊥
unfolding gave_back
freed_none s t heap block none e =
    let r : Store × Unit {0} = (t, tt) in
    let no : Err HeapBadDesc ≡ Ok r = rw none at e in
    cc

freed_heads : (s t : Store) (heap block a : ℕ) (o : Option HeapList) → find_heap heap s.heaps ≡ o → IsSound s → gave_back s heap block ≡ Ok (t, tt) → IsSound t
    → Heads s heap t a
freed_heads s t heap block a None found sound e sound' = absurd (freed_none s t heap block found e)
freed_heads s t heap block a (Some k) found sound e sound' =
    let there : IsHeapIn s.bytes k.start k.end k.items = found_heap s.bytes heap s.heaps k sound.heaps found in
    freed_by s t heap block a k found there.totals e sound'

-- reason 5
ended_heads : (s t : Store) (heap end a : ℕ) (k : HeapList) → find_heap heap s.heaps ≡ Some k → ending s k end ≡ t → IsSound s → Heads s heap t a
ended_heads s t heap end a k found is sound =
    let start : k.start ≡ heap = found_start heap s.heaps k found in
    let there : IsHeapIn s.bytes k.start k.end k.items = found_heap s.bytes heap s.heaps k sound.heaps found in
    subst (λ (p : ℕ). Heads s p t a) start
    (subst (λ (w : Store). Heads s k.start w a) is (elim (cases_Bool (is_heap_word k.start k.items (word_start a))) [
      | inl word ↦ inr (record { list = with_other_end k end; found = found_ended k.start end s.heaps k (own_start heap s k found); word = word })
      | inr beside ↦ inl (heap_beside s.bytes.at k.start end k.items a there.aligned there.totals beside)
    ]))

end_heads : (s t : Store) (heap change end a : ℕ) (k : HeapList) → find_heap heap s.heaps ≡ Some k → end_changed s k change end ≡ Ok (t, tt) → IsSound s
    → Heads s heap t a
end_heads s t heap change end a k found e sound =
    let r : Store × Unit {0} = (t, tt) in
    let one = past_if (Store × Unit {0}) (not (change % 4 == 0 && is_heap_region s.bytes k.start end)) HeapBadRegion _ r e in
    let two = past_if (Store × Unit {0}) (overgrows s k end) HeapOverlaps _ r one.1 in
    let three = past_if (Store × Unit {0}) (nat_lt end (16 + size_of k.items)) HeapBadShrink (Ok (ending s k end, tt)) r two.1 in
    ended_heads s t heap end a k found (done_store (Unit {0}) (ending s k end) t tt tt three.1) sound

changed_heads : (s t : Store) (heap change a : ℕ) → IsSound s → store_after_change s heap change ≡ Ok (t, tt) → Heads s heap t a
unfolding store_after_change
changed_heads s t heap change a sound e =
    let r : Store × Unit {0} = (t, tt) in
    let next : HeapList → Result (Store × Unit {0}) ErrorNumber = λ h. end_changed s h change (changed_by h.end change) in
    let one : FromSome HeapList (Store × Unit {0}) (find_heap heap s.heaps) (λ g. bind (own_size g) next) r =
    some_of HeapList (Store × Unit {0}) (find_heap heap s.heaps) HeapBadDesc (λ g. bind (own_size g) next) r e in
    let k : HeapList = one.value in
    let done = one.done in
    elim (cases_Bool (has_own_size k.kind)) [
      | inl own ↦ end_heads s t heap change (changed_by k.end change) a k one.is (rw own at done) sound
      | inr area ↦ let no : Err HeapBadDesc ≡ Ok r = rw area at done in absurd (cc)
    ]

-- reason 0
begun_heads : (s t : Store) (at size a : ℕ) → IsSound s → store_after_init s at size ≡ Ok (t, tt) → Heads s at t a
unfolding store_after_init
begun_heads s t at size a sound e =
    let r : Store × Unit {0} = (t, tt) in
    let one = past_if (Store × Unit {0}) (not (is_heap_region s.bytes at size)) HeapBadRegion _ r e in
    let two = past_if (Store × Unit {0}) (overlaps at size s) HeapOverlaps _ r one.1 in
    let three = past_if (Store × Unit {0}) (nat_le 64 (guest_count s.heaps)) HeapTableFull (Ok (store_with_new_heap kind.Heap s at size, tt)) r two.1 in
    let can : CanHold s.bytes at size = can_hold s.bytes at size (not-false (is_heap_region s.bytes at size) one.0) in
    let new : HeapList = empty kind.Heap at size in
    let there : find_heap at (s.heaps ++ new ∷ []) ≡ Some new =
    found_begun s.bytes at size s.heaps new (omega (arith, can.low)) sound.heaps (unlapped at size s two.0).0.0 refl in
    subst (λ (w : Store). Heads s at w a) (done_store (Unit {0}) (store_with_new_heap kind.Heap s at size) t tt tt three.1)
    (elim (cases_Bool (is_heap_word at [] (word_start a))) [
      | inl word ↦ inr (record { list = new; found = there; word = word })
      | inr beside ↦ inl (heap_beside s.bytes.at at size [] a can.aligned tt beside)
    ])

-- reason 4
abbrev Moves : Store → ℕ → ℕ → ℕ → Store → ℕ → ℕ → Type 0
Moves s heap block change t new a = (t.bytes.at a ≡ s.bytes.at a) ⊎ (IsHeadByte t heap a ⊎ IsOfMovedBlock s t heap block change new a)

only_heads : (s t : Store) (heap block change new a : ℕ) → Heads s heap t a → Moves s heap block change t new a
only_heads s t heap block change new a (inl same) = inl same
only_heads s t heap block change new a (inr head) = inr (inl head)

answer_in : Result (Store × ℕ) ErrorNumber → ℕ
answer_in (Ok r) = r.1
answer_in (Err e) = 0

handed_back : (r : Result (Store × Unit {0}) ErrorNumber) (t : Store) (x y : ℕ)
    → (let two : Result (Store × ℕ) ErrorNumber = Ok (t, y) in bind r (λ u. Ok (u.0, x)) ≡ two) → (r ≡ Ok (t, tt)) × (x ≡ y)
unfolding answer_in
handed_back (Ok u) t x y e =
    (ap (λ (v : Store). let q : Result (Store × Unit {0}) ErrorNumber = Ok (v, tt) in q) (done_store ℕ u.0 t x y e), ap answer_in e)
handed_back (Err f) t x y e = absurd (let no : Err f ≡ Ok (t, y) = e in cc)

-- a block that is moved to what a claim gives
module _ (s t : Store) (h : HeapList) (block old change a : ℕ) (c : Claim) (sound : IsSound s) (sound' : IsSound t) (found : find_heap h.start s.heaps ≡ Some h)
    (live : live_total block (h.start + 16) h.items ≡ Some old) (is : claim_in_items (round_up_8 (changed_by old change)) (h.end - 16) h.items ≡ Some c)
    (claim : IsClaim h (round_up_8 (changed_by old change)) c) where
  there : IsHeapIn s.bytes h.start h.end h.items
  there = found_heap s.bytes h.start s.heaps h sound.heaps found

  abbrev to : ℕ
  to = h.start + 16 + c.offset + 4

  abbrev of_moved : Type 0
  of_moved = IsOfMovedBlock s t h.start block change to a

  written : (is_heap_word h.start c.items (word_start a) ≡ true) ⊎ ((in_range to (old - 4) a ≡ true) × (t.bytes.at a ≡ s.bytes.at (block + (a - to)))) → of_moved
  written byte = record { list = h; found = found; total = old; live = live; claim = c; claims = is; place = refl; byte = byte }

  -- what is copied are bytes of the old block, which the claim left
  source : (x : ℕ) → block ≤ x → x < block + (old - 4) → (store_holding s h c.items).bytes.at x ≡ s.bytes.at x
  source x low high =
      heap_beside s.bytes.at h.start h.end c.items x there.aligned claim.totals
      (payload_unspelled h.start c.items block old x there.aligned claim.totals (claim.still block old live) low high)

  abbrev between : Store
  between = store_after_copy (store_holding s h c.items) block to (old - 4)

  between_byte : t.bytes.at a ≡ between.bytes.at a → (t.bytes.at a ≡ s.bytes.at a) ⊎ of_moved
  between_byte same = elim (cases_Bool (in_range to (old - 4) a)) [
    | inl inside ↦
        let parts : (to ≤ a) × (a < to + (old - 4)) = range_parts to (old - 4) a inside in
        let copy : between.bytes.at a ≡ (store_holding s h c.items).bytes.at (block + (a - to)) = rw inside refl in
        inr (written (inr (inside, same ∙ copy ∙ source (block + (a - to)) (omega arith) (omega (arith, parts.0, parts.1)))))
    | inr outside ↦
        let beside : between.bytes.at a ≡ (store_holding s h c.items).bytes.at a = rw outside refl in
        elim (cases_Bool (is_heap_word h.start c.items (word_start a))) [
          | inl word ↦ inr (written (inl word))
          | inr no_word ↦ inl (same ∙ beside ∙ heap_beside s.bytes.at h.start h.end c.items a there.aligned claim.totals no_word)
        ]
  ]

  moved_by : Heads between h.start t a → Moves s h.start block change t to a
  moved_by (inr head) = inr (inl head)
  moved_by (inl same) = elim (between_byte same) [ inl kept ↦ inl kept | inr byte ↦ inr (inr byte) ]

  pub handed_moves : (answer : ℕ) → handed_over h.start block (old - 4) (store_holding s h c.items) to ≡ Ok (t, answer) → Moves s h.start block change t answer a
  handed_moves answer e =
      let back = handed_back (gave_back between h.start block) t to answer e in
      let there' : find_heap h.start between.heaps ≡ Some (with_list h c.items) = found_held h.start c.items s.heaps h found in
      subst (λ (n : ℕ). Moves s h.start block change t n a) back.1
      (moved_by (freed_by between t h.start block a (with_list h c.items) there' claim.totals back.0 sound'))

moved_moves : (s t : Store) (h : HeapList) (block old change answer a : ℕ) → IsSound s → IsSound t → find_heap h.start s.heaps ≡ Some h
    → is_total (round_up_8 (changed_by old change)) ≡ true → live_total block (h.start + 16) h.items ≡ Some old
    → store_after_move s h block old (round_up_8 (changed_by old change)) ≡ Ok (t, answer) → Moves s h.start block change t answer a
moved_moves s t h block old change answer a sound sound' found total live e =
    let new : ℕ = round_up_8 (changed_by old change) in
    let handed : Claim → Result (Store × ℕ) ErrorNumber = λ c. handed_over h.start block (old - 4) (store_holding s h c.items) (h.start + 16 + c.offset + 4) in
    let next : Claim → Result (Store × ℕ) ErrorNumber = λ c. if holds_heap s.heaps block (old - 4) then Err BlockHoldsHeap else handed c in
    let one : FromSome Claim (Store × ℕ) (claim_in_items new (h.end - 16) h.items) next (t, answer) =
    some_of Claim (Store × ℕ) (claim_in_items new (h.end - 16) h.items) HeapNoRoom next (t, answer) e in
    let c : Claim = one.value in
    let done = past_if (Store × ℕ) (holds_heap s.heaps block (old - 4)) BlockHoldsHeap (handed c) (t, answer) one.done in
    let there : IsHeapIn s.bytes h.start h.end h.items = found_heap s.bytes h.start s.heaps h sound.heaps found in
    handed_moves s t h block old change a c sound sound' found live one.is (is_claim s.bytes h new c there total one.is) answer done.1

refitted_moves : (s t : Store) (h : HeapList) (block old change answer a : ℕ) (o : Option (List Item)) → IsSound s → IsSound t
    → find_heap h.start s.heaps ≡ Some h → is_total (round_up_8 (changed_by old change)) ≡ true → live_total block (h.start + 16) h.items ≡ Some old
    → resized_or_moved s h block old (round_up_8 (changed_by old change)) o ≡ Ok (t, answer) → Moves s h.start block change t answer a
refitted_moves s t h block old change answer a None sound sound' found total live e =
    let new : ℕ = round_up_8 (changed_by old change) in
    let free = past_if (Store × ℕ) (holds_anchor s.anchor block (Some old)) HeapHoldsAnchor (store_after_move s h block old new) (t, answer) e in
    moved_moves s t h block old change answer a sound sound' found total live free.1
refitted_moves s t h block old change answer a (Some items) sound sound' found total live e =
    let new : ℕ = round_up_8 (changed_by old change) in
    let v : Store = store_after_forget s block old (block - 4 + new) in
    let free = past_if (Store × ℕ) (anchor_among s.anchor (block - 4 + new) (old - new)) HeapHoldsAnchor (Ok (store_holding v h items, block)) (t, answer) e in
    let there : IsHeapIn s.bytes h.start h.end h.items = found_heap s.bytes h.start s.heaps h sound.heaps found in
    let lies : LiveBytes block old (h.start + 16) (h.start + 16 + size_of h.items) = law_live_bytes block old (h.start + 16) h.items there.totals live in
    only_heads s t h.start block change answer a
    (held_heads s v t h.start h items a refl refl
    (own_left s h block old (block - 4 + new) found (omega (arith, lies.low)) (omega (arith, lies.low, (total_facts new total).0)))
    (done_store ℕ (store_holding v h items) t block answer free.1) sound')

sized_moves : (s t : Store) (h : HeapList) (block old change answer a : ℕ) → IsSound s → IsSound t → find_heap h.start s.heaps ≡ Some h
    → live_total block (h.start + 16) h.items ≡ Some old → sized_to s h block change old ≡ Ok (t, answer) → Moves s h.start block change t answer a
sized_moves s t h block old change answer a sound sound' found live e =
    let sum : ℕ = changed_by old change in
    let there : IsHeapIn s.bytes h.start h.end h.items = found_heap s.bytes h.start s.heaps h sound.heaps found in
    elim (cases_Bool (nat_le sum 4)) [
      | inl few ↦
          let back = handed_back (gave_back s h.start block) t 0 answer (rw few at e) in
          only_heads s t h.start block change answer a (freed_by s t h.start block a h found there.totals back.0 sound')
      | inr more ↦
          let many : 4 < sum = leb-false sum 4 more in
          refitted_moves s t h block old change answer a (resized_in_place block (h.start + h.end) (round_up_8 sum) (h.start + 16) h.items) sound sound' found
          (total_of-numbers (round_up_8 sum) (omega (arith, many)) (omega arith)) live (rw more at e)
    ]

-- what is asked of a block once it is found, of the heap that starts at `start`
abbrev sized_at : Store → ℕ → HeapList → ℕ → ℕ → ℕ → Result (Store × ℕ) ErrorNumber
sized_at s start h block change old =
    let sum : ℕ = changed_by old change in
    if nat_le sum 4 then bind (gave_back s start block) (λ r. Ok (r.0, 0)) else
    resized_or_moved s h block old (round_up_8 sum) (resized_in_place block (h.start + h.end) (round_up_8 sum) (h.start + 16) h.items)

resized_moves : (s t : Store) (heap block change answer a : ℕ) → IsSound s → IsSound t → store_after_resize s heap block change ≡ Ok (t, answer)
    → Moves s heap block change t answer a
unfolding store_after_resize
resized_moves s t heap block change answer a sound sound' e =
    let r : Store × ℕ = (t, answer) in
    let asked : HeapList → Option ℕ = λ h. unless_image (has_image block s.others) (live_total block (h.start + 16) h.items) in
    let at_heap : HeapList → ℕ → Result (Store × ℕ) ErrorNumber = λ h old. sized_at s heap h block change old in
    let one : FromSome HeapList (Store × ℕ) (find_heap heap s.heaps) (λ h. bind (ok_or (asked h) HeapNotABlock) (at_heap h)) r =
    some_of HeapList (Store × ℕ) (find_heap heap s.heaps) HeapBadDesc (λ h. bind (ok_or (asked h) HeapNotABlock) (at_heap h)) r e in
    let h : HeapList = one.value in
    let two : FromSome ℕ (Store × ℕ) (asked h) (at_heap h) r = some_of ℕ (Store × ℕ) (asked h) HeapNotABlock (at_heap h) r one.done in
    let start : h.start ≡ heap = found_start heap s.heaps h one.is in
    let old : ℕ = two.value in
    let live : live_total block (h.start + 16) h.items ≡ Some old = unheld_image (has_image block s.others) (live_total block (h.start + 16) h.items) old two.is in
    let sized : sized_to s h block change old ≡ Ok r = subst (λ (p : ℕ). sized_at s p h block change old ≡ Ok r) (sym start) two.done in
    subst (λ (p : ℕ). Moves s p block change t answer a) start
    (sized_moves s t h block old change answer a sound sound' (own_start heap s h one.is) live sized)

-- all of them
abbrev pub Writes : HeapReason → Store → ℕ → ℕ → ℕ → ℕ → Result (Store × (ℕ × ℕ)) ErrorNumber → Type 0
Writes why s heap block size a (Ok r) = IsSound r.0 → (r.0.bytes.at a ≡ s.bytes.at a) ⊎ IsWrittenFor why s r.0 heap block size r.1.0 a
Writes why s heap block size a (Err e) = Unit {0}

module _ (s : Store) (heap block size a : ℕ) (sound : IsSound s) where
  begun_writes : (r : Result (Store × Unit {0}) ErrorNumber) → store_after_init s heap size ≡ r
      → Writes reason.Initialise s heap block size a (bind r (λ x. Ok (x.0, (block, size))))
  begun_writes (Ok x) is = λ sound'. begun_heads s x.0 heap size a sound is
  begun_writes (Err e) is = tt

  described_writes : (r : Result (ℕ × ℕ) ErrorNumber) → Writes reason.Describe s heap block size a (bind r (λ x. Ok (s, x)))
  described_writes (Ok x) = λ sound'. inl refl
  described_writes (Err e) = tt

  got_writes : (r : Result (Store × ℕ) ErrorNumber) → store_after_get s heap size ≡ r → Writes reason.Get s heap block size a (bind r (λ x. Ok (x.0, (x.1, size))))
  got_writes (Ok x) is = λ sound'. got_heads s x.0 heap size x.1 a is sound'
  got_writes (Err e) is = tt

  freed_writes : (r : Result (Store × Unit {0}) ErrorNumber) → gave_back s heap block ≡ r
      → Writes reason.Free s heap block size a (bind r (λ x. Ok (x.0, (block, size))))
  freed_writes (Ok x) is = λ sound'. freed_heads s x.0 heap block a (find_heap heap s.heaps) refl sound is sound'
  freed_writes (Err e) is = tt

  resized_writes : (r : Result (Store × ℕ) ErrorNumber) → store_after_resize s heap block size ≡ r
      → Writes reason.Resize s heap block size a (bind r (λ x. Ok (x.0, (x.1, size))))
  resized_writes (Ok x) is = λ sound'. resized_moves s x.0 heap block size x.1 a sound sound' is
  resized_writes (Err e) is = tt

  changed_writes : (r : Result (Store × Unit {0}) ErrorNumber) → store_after_change s heap size ≡ r
      → Writes reason.ChangeSize s heap block size a (bind r (λ x. Ok (x.0, (block, size))))
  changed_writes (Ok x) is = λ sound'. changed_heads s x.0 heap size a sound is
  changed_writes (Err e) is = tt

  sized_writes : (r : Result ℕ ErrorNumber) → Writes reason.BlockSize s heap block size a (bind r (λ n. Ok (s, (block, n))))
  sized_writes (Ok n) = λ sound'. inl refl
  sized_writes (Err e) = tt

  pub call_writes : (why : HeapReason) → Writes why s heap block size a (call_on s heap why block size)
  call_writes reason.Initialise = begun_writes (store_after_init s heap size) refl
  call_writes reason.Describe = described_writes (heap_description s heap)
  call_writes reason.Get = got_writes (store_after_get s heap size) refl
  call_writes reason.Free = freed_writes (gave_back s heap block) refl
  call_writes reason.Resize = resized_writes (store_after_resize s heap block size) refl
  call_writes reason.ChangeSize = changed_writes (store_after_change s heap size) refl
  call_writes reason.BlockSize = sized_writes (block_sized s heap block)
