-- What a call that is done leaves of the bytes of live blocks: all of those of its own heap, and all bytes outside it.
use Rattle.std.proofs.Common.{if◌then◌else◌, Bool, List, ℕ, [], ◌∷◌, ◌++◌, ◌≡◌, ◌≢◌, ◌==◌, ◌&&◌, ◌+◌, ◌-◌, ◌%◌, ◌≤◌, ◌<◌, ◌⊎◌, Option, Some, None, ok_or, is_some, Result, Ok, Err, not, true, false, refl, sym, ap, subst, ◌∙◌, inl, inr, arith}
use Rattle.std.proofs.lemmas.Bool.{cases_Bool, eq-eqb, ne_eqb, or_parts, both_ways, not-false, false_from_ne_true, false≢true, le-leb, lt-ltb, leb-false, ltb-false}
use Rattle.std.specs.Prelude.{nat_le, nat_lt}
use Rattle.os_heap_words.specs.Outcome.{bind}
use Rattle.os_heap_words.specs.ErrorNumber.{ErrorNumber}
use Rattle.os_heap_words.specs.ErrorNumber.TheVariants.{BlockHoldsHeap, HeapHoldsAnchor, HeapBadDesc, HeapBadRegion, HeapOverlaps, HeapTableFull, HeapNotABlock, HeapNoRoom, HeapBadShrink}
use Rattle.os_heap_words.specs.Records.{anchor_among}
use Rattle.os_heap_words.specs.Bytes.{Bytes, in_range, shares_address, word_start}
use Rattle.os_heap_words.specs.Items.{is_heap_word, is_total, size_of}
use Rattle.os_heap_words.specs.Item.{Item}
use Rattle.os_heap_words.specs.Kind.TheVariants as kind
use Rattle.os_heap_words.proofs.ListsLemmas.LiveBlocks.{LiveBytes, law_live_bytes, live_apart}
use Rattle.os_heap_words.proofs.ListsLemmas.Payloads.{heap_beside, payload_unspelled, spelled_inside}
use Rattle.os_heap_words.proofs.ListsLemmas.Spelling.{total_of-numbers}
use Rattle.os_heap_words.specs.lists.Heap.{AreTotals, HeapList, IsHeapIn}
use Rattle.os_heap_words.specs.lists.Lists.{Claim, changed_by, claim_in_items, live_total, items_after_release, resized_in_place, round_up_8, total_for}
use Rattle.os_heap.proofs.RangeTests.{unlapped, CanHold, can_hold}
use Rattle.os_heap.proofs.Holding.{range_bounds}
use Rattle.os_heap.proofs.Limits.{empty}
use Rattle.os_heap.specs.Nesting.{holds_range, is_crossed}
use Rattle.std.specs.List.{list_any}
use Rattle.os_heap_words.proofs.ListsLemmas.Reading.{total_facts}
use Rattle.os_heap.proofs.Apart.{range_parts}
use Rattle.os_heap.proofs.Calls.{claimed_in, released_in}
pub use Rattle.os_heap.proofs.ClaimFacts.{IsClaim, is_claim}
use Rattle.os_heap.proofs.Forgetting.{own_left}
use Rattle.os_heap.proofs.Found.{found_ended, found_heap, found_start, uncrossed_found, with_other_end}
use Rattle.os_heap.proofs.LostHeaps.{forgot_empty}
use Rattle.os_heap.proofs.Moving.{found_held}
use Rattle.os_heap.proofs.PayloadLists.{FromSome, some_of, past_if, done_store, with_list, unspelled_then, new_heap, own_start, keeps_at, keeps_done}
use Rattle.os_heap.proofs.Resizing.{larger_where_none}
use Rattle.os_heap.specs.Calls.{holds_anchor, store_after_copy, handed_over, store_after_move, resized_or_moved, store_after_init, store_with_new_heap, store_after_get, gave_back, store_after_resize, store_after_change, own_size, has_own_size, end_changed, ending, store_holding, total_or_0, unless_image}
use Rattle.os_heap.specs.Laws.{KeepPayloads, KeepsPayloads}
use Rattle.os_heap.specs.Forgetting.{store_after_forget, holds_heap}
use Rattle.os_heap.specs.Ranges.{is_heap_region, overlaps, overgrows}
use Rattle.os_heap.specs.Store.{AreHeapsIn, Store, IsSound, find_heap, guest_count, has_image}

pub keeps_got : (s t : Store) (heap size block : ℕ) → IsSound t → store_after_get s heap size ≡ Ok (t, block) → KeepsPayloads s t heap
unfolding store_after_get
keeps_got s t heap size block sound e =
    let one : FromSome HeapList (Store × ℕ) (find_heap heap s.heaps) (λ h. claimed_in s h (claim_in_items (total_for size) (h.end - 16) h.items)) (t, block) =
    some_of HeapList (Store × ℕ) (find_heap heap s.heaps) HeapBadDesc (λ h. claimed_in s h (claim_in_items (total_for size) (h.end - 16) h.items)) (t, block) e in
    let h : HeapList = one.value in
    let two : FromSome Claim (Store × ℕ) (claim_in_items (total_for size) (h.end - 16) h.items) (λ c. Ok (store_holding s h c.items, h.start + 16 + c.offset + 4)) (t, block) =
    some_of Claim (Store × ℕ) (claim_in_items (total_for size) (h.end - 16) h.items) HeapNoRoom (λ c. Ok (store_holding s h c.items, h.start + 16 + c.offset + 4)) (t, block) one.done in
    keeps_done s s t heap h two.value.items refl sound (found_start heap s.heaps h one.is) (own_start heap s h one.is)
    (done_store ℕ (store_holding s h two.value.items) t (h.start + 16 + two.value.offset + 4) block two.done)

-- a heap stays where heaps in its block go
pub own_there : (s : Store) (k : HeapList) (block : ℕ) (o : Option ℕ) → AreTotals k.items → find_heap k.start s.heaps ≡ Some k
    → live_total block (k.start + 16) k.items ≡ o → find_heap k.start (store_after_forget s block (total_or_0 o) block).heaps ≡ Some k
own_there s k block None totals found live = ap (λ (t : Store). find_heap k.start t.heaps) (forgot_empty s block) ∙ found
own_there s k block (Some total) totals found live =
    let lies : LiveBytes block total (k.start + 16) (k.start + 16 + size_of k.items) = law_live_bytes block total (k.start + 16) k.items totals live in
    own_left s k block total block found (omega (arith, lies.low)) (omega arith)

-- what a release found
record IsGivenBack (s t : Store) (k : HeapList) (block : ℕ) : Type 0 where
  pub items : List Item
  pub same : store_holding (store_after_forget s block (total_or_0 (live_total block (k.start + 16) k.items)) block) k items ≡ t

gave_by : (s t : Store) (heap block : ℕ) (k : HeapList) → find_heap heap s.heaps ≡ Some k → gave_back s heap block ≡ Ok (t, tt) → IsGivenBack s t k block
unfolding gave_back
gave_by s t heap block k found e =
    let total : Option ℕ = live_total block (k.start + 16) k.items in
    let v : Store = store_after_forget s block (total_or_0 total) block in
    let next : List Item → Result (Store × Unit {0}) ErrorNumber = λ items. if holds_anchor s.anchor block total then Err HeapHoldsAnchor else Ok (store_holding v k items, tt) in
    let one : FromSome (List Item) (Store × Unit {0}) (unless_image (has_image block s.others) (items_after_release block (k.start + 16) k.items)) next (t, tt) =
    some_of (List Item) (Store × Unit {0}) (unless_image (has_image block s.others) (items_after_release block (k.start + 16) k.items)) HeapNotABlock next (t, tt) (rw found at e) in
    let done = past_if (Store × Unit {0}) (holds_anchor s.anchor block total) HeapHoldsAnchor (Ok (store_holding v k one.value, tt)) (t, tt) one.done in
    record { items = one.value; same = done_store (Unit {0}) (store_holding v k one.value) t tt tt done.1 }

pub keeps_freed : (s t : Store) (heap block : ℕ) → IsSound s → IsSound t → gave_back s heap block ≡ Ok (t, tt) → KeepsPayloads s t heap
unfolding gave_back
keeps_freed s t heap block sound sound' e =
    let list : HeapList → Option (List Item) = λ h. unless_image (has_image block s.others) (items_after_release block (h.start + 16) h.items) in
    let one : FromSome HeapList (Store × Unit {0}) (find_heap heap s.heaps) (λ h. released_in s h block (list h)) (t, tt) =
    some_of HeapList (Store × Unit {0}) (find_heap heap s.heaps) HeapBadDesc (λ h. released_in s h block (list h)) (t, tt) e in
    let h : HeapList = one.value in
    let there : IsHeapIn s.bytes h.start h.end h.items = found_heap s.bytes heap s.heaps h sound.heaps one.is in
    let back : IsGivenBack s t h block = gave_by s t heap block h one.is e in
    keeps_done s (store_after_forget s block (total_or_0 (live_total block (h.start + 16) h.items)) block) t heap h back.items refl sound' (found_start heap s.heaps h one.is)
    (own_there s h block (live_total block (h.start + 16) h.items) there.totals (own_start heap s h one.is) refl) back.same

keeps_ended : (s : Store) (k : HeapList) (end : ℕ) → IsSound s → find_heap k.start s.heaps ≡ Some k → 16 + size_of k.items ≤ end
    → KeepsPayloads s (ending s k end) k.start
keeps_ended s k end sound found fits h g block total new_total a found' found'' live live' here there out =
    let heap : IsHeapIn s.bytes k.start k.end k.items = found_heap s.bytes k.start s.heaps k sound.heaps found in
    heap_beside s.bytes.at k.start end k.items a heap.aligned heap.totals
    (unspelled_then (ending s k end) (with_other_end k end) h g block new_total a heap.aligned heap.totals fits (found_ended k.start end s.heaps k found)
    found'' live' there out)

own_sized : (B : Type 0) (g : HeapList) (next : HeapList → Result B ErrorNumber) (r : B) → bind (own_size g) next ≡ Ok r → next g ≡ Ok r
own_sized B g next r e = elim (cases_Bool (has_own_size g.kind)) [
  | inl own ↦ rw own at e
  | inr area ↦ let no : Err HeapBadDesc ≡ Ok r = rw area at e in absurd (cc)
]

pub keeps_changed : (s t : Store) (heap change : ℕ) → IsSound s → store_after_change s heap change ≡ Ok (t, tt) → KeepsPayloads s t heap
unfolding store_after_change
keeps_changed s t heap change sound e =
    let r : Store × Unit {0} = (t, tt) in
    let next : HeapList → Result (Store × Unit {0}) ErrorNumber = λ h. end_changed s h change (changed_by h.end change) in
    let one : FromSome HeapList (Store × Unit {0}) (find_heap heap s.heaps) (λ g. bind (own_size g) next) r =
    some_of HeapList (Store × Unit {0}) (find_heap heap s.heaps) HeapBadDesc (λ g. bind (own_size g) next) r e in
    let h : HeapList = one.value in
    let end : ℕ = changed_by h.end change in
    let two : end_changed s h change end ≡ Ok r = own_sized (Store × Unit {0}) h next r one.done in
    let three = past_if (Store × Unit {0}) (not (change % 4 == 0 && is_heap_region s.bytes h.start end)) HeapBadRegion _ r two in
    let four = past_if (Store × Unit {0}) (overgrows s h end) HeapOverlaps _ r three.1 in
    let five = past_if (Store × Unit {0}) (nat_lt end (16 + size_of h.items)) HeapBadShrink (Ok (ending s h end, tt)) r four.1 in
    subst (λ (p : ℕ). KeepsPayloads s t p) (found_start heap s.heaps h one.is)
    (subst (λ (u : Store). KeepsPayloads s u h.start) (done_store (Unit {0}) (ending s h end) t tt tt five.1)
    (keeps_ended s h end sound (own_start heap s h one.is) (ltb-false end (16 + size_of h.items) five.0)))

-- a heap was made: it is the one that starts there, and no other did
starts_elsewhere : (at size : ℕ) (h : HeapList) → 0 < size → 0 < h.end → is_crossed at size h ≡ false → h.start ≢ at
starts_elsewhere at size h some some' none same =
    let met : shares_address at size h.start h.end ≡ true =
    rw (lt-ltb 0 size some, lt-ltb 0 h.end some', lt-ltb at (h.start + h.end) (omega (arith, same, some')), lt-ltb h.start (at + size) (omega (arith, same, some))) refl in
    let none' : holds_range (h.start + 16) h.items at size ≡ false = false_from_ne_true (holds_range (h.start + 16) h.items at size) (λ is.
    absurd (omega (arith, same, (range_bounds (h.start + 16) h.items at size is).0))) in
    let crossed : is_crossed at size h ≡ true = rw (met, none') refl in
    both_ways (is_crossed at size h) none crossed

pub found_begun : (b : Bytes) (at size : ℕ) (hs : List HeapList) (k : HeapList) → 0 < size → AreHeapsIn b hs → list_any (is_crossed at size) hs ≡ false
    → k.start ≡ at → find_heap at (hs ++ k ∷ []) ≡ Some k
found_begun b at size [] k some parts none here = rw (eq-eqb k.start at here) refl
found_begun b at size (h ∷ hs) k some parts none here =
    let each = or_parts (is_crossed at size h) (list_any (is_crossed at size) hs) none in
    rw (ne_eqb h.start at (starts_elsewhere at size h some (omega (arith, parts.0.inside)) each.0))
    (found_begun b at size hs k some parts.1.1 each.1 here)

pub keeps_begun : (s t : Store) (at size : ℕ) → IsSound s → store_after_init s at size ≡ Ok (t, tt) → KeepsPayloads s t at
unfolding store_after_init
keeps_begun s t at size sound e =
    let r : Store × Unit {0} = (t, tt) in
    let one = past_if (Store × Unit {0}) (not (is_heap_region s.bytes at size)) HeapBadRegion _ r e in
    let two = past_if (Store × Unit {0}) (overlaps at size s) HeapOverlaps _ r one.1 in
    let three = past_if (Store × Unit {0}) (nat_le 64 (guest_count s.heaps)) HeapTableFull (Ok (store_with_new_heap kind.Heap s at size, tt)) r two.1 in
    let can : CanHold s.bytes at size = can_hold s.bytes at size (not-false (is_heap_region s.bytes at size) one.0) in
    let none = (unlapped at size s two.0).0 in
    let some : 0 < size = omega (arith, can.low) in
    let new : HeapList = empty kind.Heap at size in
    let there : find_heap at (s.heaps ++ new ∷ []) ≡ Some new = found_begun s.bytes at size s.heaps new some sound.heaps none.0 refl in
    subst (λ (u : Store). KeepsPayloads s u at) (done_store (Unit {0}) (store_with_new_heap kind.Heap s at size) t tt tt three.1)
    (λ h g block total new_total a found found' live live' here here' place.
    let out : in_range at size a ≡ false = elim place [
      | inr clear ↦ clear new there
      | inl same ↦
          let heap : IsHeapIn s.bytes h.start h.end h.items = found_heap s.bytes h.start s.heaps h sound.heaps found in
          absurd (starts_elsewhere at size h some (omega (arith, heap.inside)) (uncrossed_found at size h.start s.heaps h none.0 found) same)
    ] in
    heap_beside s.bytes.at at size [] a can.aligned tt
    (false_from_ne_true _ (λ is. both_ways (in_range at size a) out (spelled_inside at size [] a can.aligned tt (omega (arith, can.low)) is))))

given_back : (r : Result (Store × Unit {0}) ErrorNumber) (t : Store) (x y : ℕ)
    → (let two : Result (Store × ℕ) ErrorNumber = Ok (t, y) in bind r (λ u. Ok (u.0, x)) ≡ two) → r ≡ Ok (t, tt)
given_back (Ok u) t x y e =
    ap (λ (v : Store). let q : Result (Store × Unit {0}) ErrorNumber = Ok (v, tt) in q) (done_store ℕ u.0 t x y e)
given_back (Err f) t x y e = absurd (let no : Err f ≡ Ok (t, y) = e in cc)

-- the bytes that a move writes are those of no block of its heap that was live
copy_apart : (k : HeapList) (c : Claim) (old new block total a : ℕ) → IsClaim k new c → old ≤ new → live_total block (k.start + 16) k.items ≡ Some total
    → in_range block (total - 4) a ≡ true → in_range (k.start + 16 + c.offset + 4) (old - 4) a ≡ false
copy_apart k c old new block total a claim less live here =
    let at : ℕ = k.start + 16 + c.offset + 4 in
    let byte : (block ≤ a) × (a < block + (total - 4)) = range_parts block (total - 4) a here in
    false_from_ne_true _ (λ copied.
    let target : (at ≤ a) × (a < at + (old - 4)) = range_parts at (old - 4) a copied in
    let other : block ≢ at = λ (e : block ≡ at).
    false≢true (sym claim.unheld ∙ ap is_some (subst (λ (p : ℕ). live_total p (k.start + 16) k.items ≡ Some total) e live)) in
    elim (live_apart block total at new (k.start + 16) c.items claim.totals (claim.still block total live) claim.fresh other) [
      | inl low ↦ omega (arith, low, byte.1, target.0)
      | inr high ↦ omega (arith, high, byte.0, target.1, less)
    ])

-- the words of the list after the claim, and the bytes that are copied
claim_beside : (s t : Store) (k h : HeapList) (c : Claim) (old new block total a : ℕ) → IsSound s → find_heap k.start s.heaps ≡ Some k
    → find_heap h.start s.heaps ≡ Some h → IsClaim k new c → old ≤ new → live_total block (h.start + 16) h.items ≡ Some total
    → in_range block (total - 4) a ≡ true → (h.start ≡ k.start) ⊎ (in_range k.start k.end a ≡ false)
    → (is_heap_word k.start c.items (word_start a) ≡ false) × (in_range (k.start + 16 + c.offset + 4) (old - 4) a ≡ false)
claim_beside s t k h c old new block total a sound found found' claim less live here (inl same) =
    let heap : IsHeapIn s.bytes k.start k.end k.items = found_heap s.bytes k.start s.heaps k sound.heaps found in
    let byte : (block ≤ a) × (a < block + (total - 4)) = range_parts block (total - 4) a here in
    let there : find_heap k.start s.heaps ≡ Some h = subst (λ (p : ℕ). find_heap p s.heaps ≡ Some h) same found' in
    let both : Some k ≡ Some h = sym found ∙ there in
    let is : h ≡ k = cc in
    let live' : live_total block (k.start + 16) k.items ≡ Some total =
    subst (λ (x : HeapList). live_total block (x.start + 16) x.items ≡ Some total) is live in (
      payload_unspelled k.start c.items block total a heap.aligned claim.totals (claim.still block total live') byte.0 byte.1,
      copy_apart k c old new block total a claim less live' here,
    )
claim_beside s t k h c old new block total a sound found found' claim less live here (inr out) =
    let heap : IsHeapIn s.bytes k.start k.end k.items = found_heap s.bytes k.start s.heaps k sound.heaps found in
    let at : ℕ = k.start + 16 + c.offset + 4 in
    let place : LiveBytes at new (k.start + 16) (k.start + 16 + size_of c.items) = law_live_bytes at new (k.start + 16) c.items claim.totals claim.fresh in (
      false_from_ne_true _ (λ is. both_ways (in_range k.start k.end a) out (spelled_inside k.start k.end c.items a heap.aligned claim.totals claim.inside is)),
      false_from_ne_true _ (λ copied.
          let target : (at ≤ a) × (a < at + (old - 4)) = range_parts at (old - 4) a copied in
          both_ways (in_range k.start k.end a) out
          (rw (le-leb k.start a (omega (arith, target.0)), lt-ltb a (k.start + k.end) (omega (arith, target.1, place.high, claim.inside, less))) refl)),
    )

-- the moved list and bytes
keeps_released : (s v : Store) (k : HeapList) (c : Claim) (old new from : ℕ) (items : List Item) → IsSound s → find_heap k.start s.heaps ≡ Some k
    → IsClaim k new c → old ≤ new → v.bytes ≡ (store_after_copy (store_holding s k c.items) from (k.start + 16 + c.offset + 4) (old - 4)).bytes
    → find_heap k.start v.heaps ≡ Some (with_list k c.items) → IsSound (store_holding v (with_list k c.items) items)
    → KeepsPayloads s (store_holding v (with_list k c.items) items) k.start
keeps_released s v k c old new from items sound found claim less same there sound' h g block total new_total a found' found'' live live' here there' out =
    let t : Store = store_holding v (with_list k c.items) items in
    let heap : IsHeapIn s.bytes k.start k.end k.items = found_heap s.bytes k.start s.heaps k sound.heaps found in
    let last : IsHeapIn t.bytes k.start k.end items = new_heap v (with_list k c.items) items sound' there in
    let found_then : find_heap k.start t.heaps ≡ Some (with_list k items) = found_held k.start items v.heaps (with_list k c.items) there in
    let beside = claim_beside s t k h c old new block total a sound found found' claim less live here
    (elim out [ inl own ↦ inl own | inr away ↦ inr (away (with_list k items) found_then) ]) in
    heap_beside v.bytes.at k.start k.end items a last.aligned last.totals
    (unspelled_then t (with_list k items) h g block new_total a last.aligned last.totals last.inside found_then found'' live' there' out)
    ∙ ap (λ (b : Bytes). b.at a) same ∙ (rw beside.1 refl) ∙ heap_beside s.bytes.at k.start k.end c.items a heap.aligned claim.totals beside.0

keeps_moved : (s t : Store) (h : HeapList) (block old new answer : ℕ) → IsSound s → IsSound t → find_heap h.start s.heaps ≡ Some h → is_total new ≡ true
    → old ≤ new → live_total block (h.start + 16) h.items ≡ Some old → store_after_move s h block old new ≡ Ok (t, answer) → KeepsPayloads s t h.start
keeps_moved s t h block old new answer sound sound' found total less live e =
    let handed : Claim → Result (Store × ℕ) ErrorNumber = λ c. handed_over h.start block (old - 4) (store_holding s h c.items) (h.start + 16 + c.offset + 4) in
    let next : Claim → Result (Store × ℕ) ErrorNumber = λ c. if holds_heap s.heaps block (old - 4) then Err BlockHoldsHeap else handed c in
    let one : FromSome Claim (Store × ℕ) (claim_in_items new (h.end - 16) h.items) next (t, answer) =
    some_of Claim (Store × ℕ) (claim_in_items new (h.end - 16) h.items) HeapNoRoom next (t, answer) e in
    let c : Claim = one.value in
    let done = past_if (Store × ℕ) (holds_heap s.heaps block (old - 4)) BlockHoldsHeap (handed c) (t, answer) one.done in
    let u : Store = store_after_copy (store_holding s h c.items) block (h.start + 16 + c.offset + 4) (old - 4) in
    let back : gave_back u h.start block ≡ Ok (t, tt) = given_back (gave_back u h.start block) t (h.start + 16 + c.offset + 4) answer done.1 in
    let k : HeapList = with_list h c.items in
    let found_then : find_heap h.start u.heaps ≡ Some k = found_held h.start c.items s.heaps h found in
    let two : IsGivenBack u t k block = gave_by u t h.start block k found_then back in
    let heap : IsHeapIn s.bytes h.start h.end h.items = found_heap s.bytes h.start s.heaps h sound.heaps found in
    let claim : IsClaim h new c = is_claim s.bytes h new c heap total one.is in
    let v : Store = store_after_forget u block (total_or_0 (live_total block (h.start + 16) c.items)) block in
    let there : find_heap h.start v.heaps ≡ Some k = own_there u k block (live_total block (h.start + 16) c.items) claim.totals found_then refl in
    keeps_at s (store_holding v k two.items) t h.start two.same sound'
    (λ good. keeps_released s v h c old new block two.items sound found claim less refl there good)

keeps_in_place : (s t : Store) (h : HeapList) (block old new answer : ℕ) (o : Option (List Item)) → IsSound s → IsSound t → find_heap h.start s.heaps ≡ Some h
    → is_total new ≡ true → (o ≡ None → old ≤ new) → live_total block (h.start + 16) h.items ≡ Some old
    → resized_or_moved s h block old new o ≡ Ok (t, answer) → KeepsPayloads s t h.start
keeps_in_place s t h block old new answer None sound sound' found total less live e =
    let free = past_if (Store × ℕ) (holds_anchor s.anchor block (Some old)) HeapHoldsAnchor (store_after_move s h block old new) (t, answer) e in
    keeps_moved s t h block old new answer sound sound' found total (less refl) live free.1
keeps_in_place s t h block old new answer (Some items) sound sound' found total less live e =
    let v : Store = store_after_forget s block old (block - 4 + new) in
    let free = past_if (Store × ℕ) (anchor_among s.anchor (block - 4 + new) (old - new)) HeapHoldsAnchor (Ok (store_holding v h items, block)) (t, answer) e in
    let heap : IsHeapIn s.bytes h.start h.end h.items = found_heap s.bytes h.start s.heaps h sound.heaps found in
    let lies : LiveBytes block old (h.start + 16) (h.start + 16 + size_of h.items) = law_live_bytes block old (h.start + 16) h.items heap.totals live in
    keeps_done s v t h.start h items refl sound' refl
    (own_left s h block old (block - 4 + new) found (omega (arith, lies.low)) (omega (arith, lies.low, (total_facts new total).0)))
    (done_store ℕ (store_holding v h items) t block answer free.1)

pub unheld_image : (b : Bool) (o : Option ℕ) (t : ℕ) → unless_image b o ≡ Some t → o ≡ Some t
unheld_image true o t e = absurd (let none : None ≡ Some t = e in cc)
unheld_image false o t e = e

pub keeps_resized : (s t : Store) (heap block change answer : ℕ) → IsSound s → IsSound t → store_after_resize s heap block change ≡ Ok (t, answer) → KeepsPayloads s t heap
unfolding store_after_resize
keeps_resized s t heap block change answer sound sound' e =
    let r : Store × ℕ = (t, answer) in
    let sized : HeapList → ℕ → Result (Store × ℕ) ErrorNumber = λ h old.
    let sum : ℕ = changed_by old change in
    if nat_le sum 4 then bind (gave_back s heap block) (λ r. Ok (r.0, 0)) else
    resized_or_moved s h block old (round_up_8 sum) (resized_in_place block (h.start + h.end) (round_up_8 sum) (h.start + 16) h.items) in
    let asked : HeapList → Option ℕ = λ h. unless_image (has_image block s.others) (live_total block (h.start + 16) h.items) in
    let one : FromSome HeapList (Store × ℕ) (find_heap heap s.heaps) (λ h. bind (ok_or (asked h) HeapNotABlock) (sized h)) r =
    some_of HeapList (Store × ℕ) (find_heap heap s.heaps) HeapBadDesc (λ h. bind (ok_or (asked h) HeapNotABlock) (sized h)) r e in
    let h : HeapList = one.value in
    let two : FromSome ℕ (Store × ℕ) (asked h) (sized h) r = some_of ℕ (Store × ℕ) (asked h) HeapNotABlock (sized h) r one.done in
    let old : ℕ = two.value in
    let done = two.done in
    let live : live_total block (h.start + 16) h.items ≡ Some old = unheld_image (has_image block s.others) (live_total block (h.start + 16) h.items) old two.is in
    let sum : ℕ = changed_by old change in
    let new : ℕ = round_up_8 sum in
    elim (cases_Bool (nat_le sum 4)) [
      | inl few ↦ keeps_freed s t heap block sound sound' (given_back (gave_back s heap block) t 0 answer (rw few at done))
      | inr more ↦
          let many : 4 < sum = leb-false sum 4 more in
          subst (λ (p : ℕ). KeepsPayloads s t p) (found_start heap s.heaps h one.is)
          (keeps_in_place s t h block old new answer (resized_in_place block (h.start + h.end) new (h.start + 16) h.items) sound sound' (own_start heap s h one.is)
          (total_of-numbers new (omega (arith, many)) (omega arith))
          (λ none. omega (arith, larger_where_none block (h.start + h.end) new (h.start + 16) old h.items live none)) live (rw more at done))
    ]

-- all of them
pub calls_keep : (s t : Store) (heap : ℕ) → IsSound s → IsSound t → KeepPayloads s t heap
calls_keep s t heap sound sound' = record {
  init = λ size e. keeps_begun s t heap size sound e;
  get = λ size block e. keeps_got s t heap size block sound' e;
  free = λ block e. keeps_freed s t heap block sound sound' e;
  resize = λ block change new e. keeps_resized s t heap block change new sound sound' e;
  change_size = λ change e. keeps_changed s t heap change sound e;
}
