-- A call on a guest's heap is a turn of that heap alone.
use Rattle.std.proofs.Common.{ℕ, ◌≡◌, ◌+◌, ◌-◌, ◌≤◌, ◌<◌, ◌∙◌, Bool, true, false, List, [], ◌∷◌, Option, Some, None, ok_or, Result, Ok, Err, refl, sym, ap, subst, inl, inr, arith}
use Rattle.std.proofs.lemmas.Bool.{cases_Bool, cases_lt, false_from_ne_true, false≢true, leb-false, le-leb, lt-ltb, or_from}
use Rattle.std.specs.Prelude.{nat_le}
use Rattle.profile.specs.ErrorNames.{error_code}
use Rattle.profile.specs.Outcome.{bind}
use Rattle.profile.specs.ErrorNumber.{ErrorNumber}
use Rattle.profile.specs.ErrorNumber.TheVariants.{HeapNotABlock}
use Rattle.profile.specs.declared.reason.HeapReason.{HeapReason}
use Rattle.profile.specs.declared.reason.HeapReason.TheVariants as reason
use Rattle.address_map.proofs.Anchors.{among_none}
use Rattle.address_map.specs.Bytes.{in_range, with_moved_at}
use Rattle.address_map.specs.Items.{is_total, size_of}
use Rattle.address_map.specs.Records.{anchor_among}
use Rattle.address_map.specs.declared.item.Item.{Item}
use Rattle.os_heap_words.proofs.ListsLemmas.LiveBlocks.{LiveBytes, law_live_bytes}
use Rattle.os_heap_words.proofs.ListsLemmas.Reading.{total_facts}
use Rattle.os_heap_words.proofs.ListsLemmas.Spelling.{total_of-numbers}
use Rattle.os_heap_words.specs.lists.Heap.{HeapList, IsHeapIn, with_heap}
use Rattle.os_heap_words.specs.lists.Lists.{Claim, changed_by, claim_in_items, live_total, items_after_release, resized_in_place, round_up_8, total_for}
use Rattle.os_heap.proofs.Apart.{range_parts}
use Rattle.os_heap.proofs.Calls.{claimed_in}
use Rattle.os_heap.proofs.Forgetting.{StartsIn, starts_so}
use Rattle.os_heap.proofs.Found.{found_heap}
use Rattle.os_heap.proofs.KeptPayloads.{IsClaim, is_claim}
use Rattle.os_heap.proofs.Moving.{found_held, held_listed}
use Rattle.os_heap.specs.Calls.{block_sized, bytes_held, store_after_change, store_after_copy, heap_description, gave_back, store_after_get, guests_total, handed_over, store_holding, store_after_move, store_after_resize, resized_or_moved}
use Rattle.os_heap.specs.Forgetting.{store_after_forget, holds_heap, starts_in}
use Rattle.os_heap.specs.Store.{Store, find_heap, has_image}
use Rattle.law_machine.proofs.HeapCallsLemmas.ChangedSize.{changed_alike, found_alone}
use Rattle.law_machine.proofs.HeapCallsLemmas.GuestImages.{guest_images}
use Rattle.law_machine.proofs.HeapCallsLemmas.Likeness.{AreAlike, AreLike, IsSameHeap, bound_alike, by_both, alone_alike, heap_like, held_alike, with_list}
use Rattle.law_machine.proofs.HeapCallsLemmas.Plain.{IsBare, IsGuests, block_bare, block_forgot, block_unheld, freed_in, gave_plain, got_plain, part_bare, sized_to}
use Rattle.law_machine.specs.heap_calls.Alone.{Alone, Growth, alone_in, bytes_in, growth_given}
use Rattle.law_machine.specs.heap_calls.Laws.{IsGuestHeap, OwnCallsAreTurns}
use Rattle.law_machine.specs.heap_calls.Lists.{is_on_heap}
use Rattle.law_machine.specs.heap_calls.Turns.{Answered, Refused, HeapTurn, alone_or, call_on, growth_or_none, no_growth, others_met, heap_turn_of_result, store_with}

-- Two stores that a call on a heap can't tell apart.
record AreTwins (s u : Store) (h : HeapList) : Type 0 where
  one : IsBare s h
  two : IsBare u h
  heap : IsHeapIn s.bytes h.start h.end h.items
  guests : (block : ℕ) → IsGuests s h block × IsGuests u h block
  like : AreLike h.start h.end s.bytes.at u.bytes.at

abbrev lone : HeapList → (ℕ → ℕ) → Alone
lone h b = record { heap = h; bytes = b }

abbrev turn_of : ℕ × ℕ → Alone → HeapTurn
turn_of answer now = record { reply = Answered answer.0 answer.1; now = now }

turn_alike : (one two : ℕ × ℕ) (now later : Alone) → one ≡ two → now ≡ later → turn_of one now ≡ turn_of two later
turn_alike one two now later same same' = ap (λ (x : ℕ × ℕ). turn_of x now) same ∙ ap (turn_of two) same'

replied_alike : (h : HeapList) (b : ℕ → ℕ) (r q : Result (Store × (ℕ × ℕ)) ErrorNumber) → AreAlike (ℕ × ℕ) h r q → heap_turn_of_result (lone h b) r ≡ heap_turn_of_result (lone h b) q
replied_alike h b (Ok r) (Ok q) alike =
    turn_alike r.1 q.1 (alone_or (lone h b) r.0 (find_heap h.start r.0.heaps)) (alone_or (lone h b) q.0 (find_heap h.start q.0.heaps)) alike.0 (alike.1 (lone h b))
replied_alike h b (Err e) (Err f) alike = ap (λ (x : ErrorNumber). let t : HeapTurn = record { reply = Refused (error_code x); now = lone h b } in t) alike
replied_alike h b (Ok r) (Err f) alike = absurd alike
replied_alike h b (Err e) (Ok q) alike = absurd alike

-- a call that shows, and leaves the store
shown_alike : (A B : Type 0) (s u : Store) (h : HeapList) (k : A → B) (r q : Result A ErrorNumber) → AreTwins s u h → r ≡ q
    → AreAlike B h (bind r (λ x. Ok (s, k x))) (bind q (λ x. Ok (u, k x)))
shown_alike A B s u h k r q t same = subst (λ (q : Result A ErrorNumber). AreAlike B h (bind r (λ x. Ok (s, k x))) (bind q (λ x. Ok (u, k x)))) same (go r) where
  go : (r : Result A ErrorNumber) → AreAlike B h (bind r (λ x. Ok (s, k x))) (bind r (λ x. Ok (u, k x)))
  go (Ok x) = (refl, λ w. alone_alike w s u h t.one.found t.two.found t.like)
  go (Err e) = refl

described_same : (s u : Store) (h : HeapList) → AreTwins s u h → heap_description s h.start ≡ heap_description u h.start
unfolding heap_description
described_same s u h t = rw (t.one.found, t.two.found) refl

-- the total of a guest's block, by the heap's own list
asked_by : (s : Store) (h : HeapList) (block : ℕ) (o : Option ℕ) → IsGuests s h block → live_total block (h.start + 16) h.items ≡ o
    → guests_total s.others h.start h.items block ≡ ok_or o HeapNotABlock
asked_by s h block None own none = elim (cases_Bool (has_image block s.others)) [
  | inl image ↦ rw (none, image) refl
  | inr other ↦ rw (none, other) refl
]
asked_by s h block (Some total) own live = rw (own total live, live) refl

asked : (s : Store) (h : HeapList) (block : ℕ) → IsGuests s h block
    → guests_total s.others h.start h.items block ≡ ok_or (live_total block (h.start + 16) h.items) HeapNotABlock
asked s h block own = asked_by s h block (live_total block (h.start + 16) h.items) own refl

sized_plain : (s : Store) (h : HeapList) (block : ℕ) → IsBare s h → IsGuests s h block
    → block_sized s h.start block ≡ bytes_held (ok_or (live_total block (h.start + 16) h.items) HeapNotABlock)
unfolding block_sized
sized_plain s h block bare own = rw bare.found (ap bytes_held (asked s h block own))

-- a heap with another list in both stores
same_held : (s u : Store) (h : HeapList) (items : List Item) → find_heap h.start s.heaps ≡ Some h → find_heap h.start u.heaps ≡ Some h
    → AreLike h.start h.end s.bytes.at u.bytes.at → IsSameHeap h (store_holding s h items) (store_holding u h items)
same_held s u h items one two like = λ w. held_alike w s u h items one two like

claimed_alike : (s u : Store) (h : HeapList) (o : Option Claim) → AreTwins s u h → AreAlike ℕ h (claimed_in s h o) (claimed_in u h o)
claimed_alike s u h None t = refl
claimed_alike s u h (Some c) t = (refl, same_held s u h c.items t.one.found t.two.found t.like)

released_alike : (s u : Store) (h : HeapList) (o : Option (List Item)) → find_heap h.start s.heaps ≡ Some h → find_heap h.start u.heaps ≡ Some h
    → AreLike h.start h.end s.bytes.at u.bytes.at → AreAlike (Unit {0}) h (freed_in s h o) (freed_in u h o)
released_alike s u h None one two like = refl
released_alike s u h (Some items) one two like = (refl, same_held s u h items one two like)

freed_alike : (s u : Store) (h : HeapList) (block : ℕ) → IsBare s h → IsBare u h → IsGuests s h block → IsGuests u h block
    → AreLike h.start h.end s.bytes.at u.bytes.at → AreAlike (Unit {0}) h (gave_back s h.start block) (gave_back u h.start block)
freed_alike s u h block one two own own' like =
    by_both (Unit {0}) h _ _ _ _ (gave_plain s h block one own) (gave_plain u h block two own')
    (released_alike s u h (items_after_release block (h.start + 16) h.items) one.found two.found like)

-- A block that is moved: what is copied lies in the heap.
copied_like : (h : HeapList) (f g : ℕ → ℕ) (from to len : ℕ) → AreLike h.start h.end f g → h.start ≤ from → from + len ≤ h.start + h.end
    → AreLike h.start h.end (with_moved_at f from to len) (with_moved_at g from to len)
copied_like h f g from to len like low high a here = elim (cases_Bool (in_range to len a)) [
  | inl there ↦
      let parts : (to ≤ a) × (a < to + len) = range_parts to len a there in
      rw there (like (from + (a - to))
      (rw (le-leb h.start (from + (a - to)) (omega arith), lt-ltb (from + (a - to)) (h.start + h.end) (omega (arith, parts.0, parts.1))) refl))
  | inr out ↦ rw out (like a here)
]

copy_bare : (s : Store) (h : HeapList) (c : Claim) (new from to len : ℕ) → IsBare s h → IsClaim h new c
    → IsBare (store_after_copy (store_holding s h c.items) from to len) (with_list h c.items)
copy_bare s h c new from to len bare claim = record {
  found = found_held h.start c.items s.heaps h bare.found;
  anchors = bare.anchors;
  alone = held_listed h.start (h.start + 16) (h.end - 16) c.items s.heaps ∙ bare.alone;
  totals = claim.totals;
  inside = claim.inside;
}

handed_alike : (s u : Store) (h : HeapList) (block old new : ℕ) (c : Claim) → AreTwins s u h → live_total block (h.start + 16) h.items ≡ Some old
    → IsClaim h new c
    → AreAlike ℕ h (handed_over h.start block (old - 4) (store_holding s h c.items) (h.start + 16 + c.offset + 4))
    (handed_over h.start block (old - 4) (store_holding u h c.items) (h.start + 16 + c.offset + 4))
handed_alike s u h block old new c t live claim =
    let to : ℕ = h.start + 16 + c.offset + 4 in
    let len : ℕ = old - 4 in
    let place : LiveBytes block old (h.start + 16) (h.start + 16 + size_of h.items) = law_live_bytes block old (h.start + 16) h.items t.heap.totals live in
    bound_alike (Unit {0}) ℕ h (λ _. to) (gave_back (store_after_copy (store_holding s h c.items) block to len) h.start block) (gave_back (store_after_copy (store_holding u h c.items) block to len) h.start block)
    (freed_alike (store_after_copy (store_holding s h c.items) block to len) (store_after_copy (store_holding u h c.items) block to len) (with_list h c.items) block
    (copy_bare s h c new block to len t.one claim) (copy_bare u h c new block to len t.two claim)
    (λ total _. (t.guests block).0 old live) (λ total _. (t.guests block).1 old live)
    (copied_like h (with_heap s.bytes.at h.start h.end c.items) (with_heap u.bytes.at h.start h.end c.items) block to len
    (λ a here. heap_like s.bytes.at u.bytes.at h.start h.end c.items a (t.like a here)) (omega (arith, place.low)) (omega (arith, place.low, place.high, place.size, t.heap.inside))))

moved_by : (s u : Store) (h : HeapList) (block old new : ℕ) (o : Option Claim) → AreTwins s u h → live_total block (h.start + 16) h.items ≡ Some old
    → is_total new ≡ true → claim_in_items new (h.end - 16) h.items ≡ o → AreAlike ℕ h (store_after_move s h block old new) (store_after_move u h block old new)
moved_by s u h block old new None t live total none = rw none refl
moved_by s u h block old new (Some c) t live total some =
    rw (some, block_unheld s h block old t.one live, block_unheld u h block old t.two live)
    (handed_alike s u h block old new c t live (is_claim s.bytes h new c t.heap total some))

same_left : (s u : Store) (h : HeapList) (block old from : ℕ) (items : List Item) → AreTwins s u h → live_total block (h.start + 16) h.items ≡ Some old
    → block ≤ from → IsSameHeap h (store_holding (store_after_forget s block old from) h items) (store_holding (store_after_forget u block old from) h items)
same_left s u h block old from items t live past =
    subst (λ (v : Store). IsSameHeap h (store_holding v h items) (store_holding (store_after_forget u block old from) h items)) (sym (block_forgot s h block old from t.one live past))
    (subst (λ (v : Store). IsSameHeap h (store_holding s h items) (store_holding v h items)) (sym (block_forgot u h block old from t.two live past))
    (same_held s u h items t.one.found t.two.found t.like))

in_place_alike : (s u : Store) (h : HeapList) (block old new : ℕ) (o : Option (List Item)) → AreTwins s u h → live_total block (h.start + 16) h.items ≡ Some old
    → is_total new ≡ true → AreAlike ℕ h (resized_or_moved s h block old new o) (resized_or_moved u h block old new o)
in_place_alike s u h block old new None t live total =
    rw (block_bare s h block old t.one live, block_bare u h block old t.two live) (moved_by s u h block old new (claim_in_items new (h.end - 16) h.items) t live total refl)
in_place_alike s u h block old new (Some items) t live total =
    let from : ℕ = block - 4 + new in
    let past : block ≤ from = omega (arith, (total_facts new total).0) in
    let same : IsSameHeap h (store_holding (store_after_forget s block old from) h items) (store_holding (store_after_forget u block old from) h items) =
    same_left s u h block old from items t live past in
    elim (cases_lt new old) [
      | inl less ↦ rw (part_bare s h block old from (old - new) t.one live (omega arith) (omega (arith, less)), part_bare u h block old from (old - new) t.two live (omega arith) (omega (arith, less)))
          (refl, same)
      | inr more ↦ rw (among_few s.anchor from (old - new) (omega (arith, more)), among_few u.anchor from (old - new) (omega (arith, more)))
          (refl, same)
    ] where
      among_few : (anchor : ℕ → Bool) (at len : ℕ) → len ≡ 0 → anchor_among anchor at len ≡ false
      among_few anchor at len none = among_none anchor at len (λ a low high. absurd (omega arith))

resized_plain : (s : Store) (h : HeapList) (block change : ℕ) → IsBare s h → IsGuests s h block
    → store_after_resize s h.start block change ≡ bind (ok_or (live_total block (h.start + 16) h.items) HeapNotABlock) (sized_to s h block change)
unfolding store_after_resize
resized_plain s h block change bare own =
    rw bare.found (ap (λ (total : Result ℕ ErrorNumber). bind total (sized_to s h block change)) (asked s h block own))

sized_alike : (s u : Store) (h : HeapList) (block change old : ℕ) → AreTwins s u h → live_total block (h.start + 16) h.items ≡ Some old
    → AreAlike ℕ h (sized_to s h block change old) (sized_to u h block change old)
sized_alike s u h block change old t live = elim (cases_Bool (nat_le (changed_by old change) 4)) [
  | inl few ↦ rw few (bound_alike (Unit {0}) ℕ h (λ _. 0) (gave_back s h.start block) (gave_back u h.start block)
      (freed_alike s u h block t.one t.two (t.guests block).0 (t.guests block).1 t.like))
  | inr more ↦
      let sum : ℕ = changed_by old change in
      let many : 4 < sum = leb-false sum 4 more in
      let new : ℕ = round_up_8 sum in
      rw more (in_place_alike s u h block old new (resized_in_place block (h.start + h.end) new (h.start + 16) h.items) t live
      (total_of-numbers new (omega (arith, many)) (omega arith)))
]

resize_by : (s u : Store) (h : HeapList) (block change : ℕ) (o : Option ℕ) → AreTwins s u h → live_total block (h.start + 16) h.items ≡ o
    → AreAlike ℕ h (bind (ok_or o HeapNotABlock) (sized_to s h block change)) (bind (ok_or o HeapNotABlock) (sized_to u h block change))
resize_by s u h block change None t none = refl
resize_by s u h block change (Some old) t live = sized_alike s u h block change old t live

resized_alike : (s u : Store) (h : HeapList) (block change : ℕ) → AreTwins s u h → AreAlike ℕ h (store_after_resize s h.start block change) (store_after_resize u h.start block change)
resized_alike s u h block change t =
    by_both ℕ h _ _ _ _ (resized_plain s h block change t.one (t.guests block).0) (resized_plain u h block change t.two (t.guests block).1)
    (resize_by s u h block change (live_total block (h.start + 16) h.items) t refl)

-- the call, of any reason but a change of the heap's size
abbrev is_change : HeapReason → Bool
is_change reason.ChangeSize = true
is_change other = false

call_alike : (s u : Store) (h : HeapList) (why : HeapReason) (block size : ℕ) → AreTwins s u h → is_on_heap why ≡ true → is_change why ≡ false
    → AreAlike (ℕ × ℕ) h (call_on s h.start why block size) (call_on u h.start why block size)
call_alike s u h reason.Initialise block size t on other = absurd (false≢true on)
call_alike s u h reason.ChangeSize block size t on other = absurd (false≢true (sym other))
call_alike s u h reason.Describe block size t on other =
    shown_alike (ℕ × ℕ) (ℕ × ℕ) s u h (λ r. r) (heap_description s h.start) (heap_description u h.start) t (described_same s u h t)
call_alike s u h reason.Get block size t on other =
    bound_alike ℕ (ℕ × ℕ) h (λ n. (n, size)) (store_after_get s h.start size) (store_after_get u h.start size)
    (by_both ℕ h _ _ _ _ (got_plain s h size t.one.found) (got_plain u h size t.two.found) (claimed_alike s u h (claim_in_items (total_for size) (h.end - 16) h.items) t))
call_alike s u h reason.Free block size t on other =
    bound_alike (Unit {0}) (ℕ × ℕ) h (λ _. (block, size)) (gave_back s h.start block) (gave_back u h.start block)
    (freed_alike s u h block t.one t.two (t.guests block).0 (t.guests block).1 t.like)
call_alike s u h reason.Resize block size t on other =
    bound_alike ℕ (ℕ × ℕ) h (λ n. (n, size)) (store_after_resize s h.start block size) (store_after_resize u h.start block size) (resized_alike s u h block size t)
call_alike s u h reason.BlockSize block size t on other =
    shown_alike ℕ (ℕ × ℕ) s u h (λ n. (block, n)) (block_sized s h.start block) (block_sized u h.start block) t
    (sized_plain s h block t.one (t.guests block).0 ∙ sym (sized_plain u h block t.two (t.guests block).1))

-- the heap in a store, and in that which has it alone
twins : (s : Store) (h : HeapList) (g : Growth) → IsGuestHeap s h → AreTwins s (store_with (alone_in s h) g) h
twins s h g guest =
    let heap : IsHeapIn s.bytes h.start h.end h.items = found_heap s.bytes h.start s.heaps h guest.sound.heaps guest.found in
    record {
      one = record { found = guest.found; anchors = guest.anchors; alone = guest.alone; totals = heap.totals; inside = heap.inside };
      two = record { found = found_alone (alone_in s h) g; anchors = λ a here. refl; alone = none_alone h; totals = heap.totals; inside = heap.inside };
      heap = heap;
      guests = λ block. (λ total live. guest_images s h block total guest live, λ total live. no_image h block g.meets);
      like = λ a here. rw here refl;
    } where
      none_alone : (h : HeapList) → holds_heap (h ∷ []) (h.start + 16) (h.end - 16) ≡ false
      none_alone h = or_from (starts_in (h.start + 16) (h.end - 16) h) false
          (false_from_ne_true (starts_in (h.start + 16) (h.end - 16) h) (λ is.
          let starts : StartsIn (h.start + 16) (h.end - 16) h = starts_so (h.start + 16) (h.end - 16) h is in
          omega (arith, starts.low))) refl

      no_image : (h : HeapList) (block : ℕ) (met : Bool) → has_image block (others_met h met) ≡ false
      no_image h block true = refl
      no_image h block false = refl

own_alike : (s : Store) (h : HeapList) (why : HeapReason) (block size : ℕ) → IsGuestHeap s h → is_on_heap why ≡ true
    → AreAlike (ℕ × ℕ) h (call_on s h.start why block size)
    (call_on (store_with (alone_in s h) (growth_or_none (growth_given s h why size))) h.start why block size)
own_alike s h reason.Initialise block size guest on = absurd (false≢true on)
own_alike s h reason.Describe block size guest on = call_alike s _ h reason.Describe block size (twins s h no_growth guest) refl refl
own_alike s h reason.Get block size guest on = call_alike s _ h reason.Get block size (twins s h no_growth guest) refl refl
own_alike s h reason.Free block size guest on = call_alike s _ h reason.Free block size (twins s h no_growth guest) refl refl
own_alike s h reason.Resize block size guest on = call_alike s _ h reason.Resize block size (twins s h no_growth guest) refl refl
own_alike s h reason.BlockSize block size guest on = call_alike s _ h reason.BlockSize block size (twins s h no_growth guest) refl refl
own_alike s h reason.ChangeSize block size guest on =
    let g : Growth = growth_or_none (growth_given s h reason.ChangeSize size) in
    bound_alike (Unit {0}) (ℕ × ℕ) h (λ _. (block, size)) (store_after_change s h.start size) (store_after_change (store_with (alone_in s h) g) h.start size)
    (changed_alike s h size g guest (λ more. rw (lt-ltb h.end (changed_by h.end size) more) refl))

pub own_turns : OwnCallsAreTurns
own_turns s h why block size guest on =
    replied_alike h (bytes_in h.start h.end s.bytes.at) (call_on s h.start why block size)
    (call_on (store_with (alone_in s h) (growth_or_none (growth_given s h why size))) h.start why block size)
    (own_alike s h why block size guest on)
