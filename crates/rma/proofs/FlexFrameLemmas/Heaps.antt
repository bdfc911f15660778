-- The calls on heaps keep the flex store: what they write is words that a heap's list spells, and
-- what a move copies goes to a block that is new. No byte of the flex store lies among either.
use Rattle.std.proofs.Common.{if◌then◌else◌, Bool, List, ℕ, [], ◌∷◌, ◌++◌, ◌≡◌, ◌≢◌, ◌⊎◌, ◌==◌, ◌&&◌, ◌+◌, ◌-◌, ◌%◌, ◌≤◌, ◌<◌, Option, Some, None, ok_or, is_some, Result, Ok, Err, not, true, false, refl, sym, ap, subst, ◌∙◌, inl, inr, arith}
use Rattle.std.proofs.lemmas.Bool.{cases_Bool, both_ways, not-false, false_from_ne_true, false≢true, le-leb, lt-ltb, leb-false, or_cases, or_parts}
use Rattle.std.specs.Prelude.{IfOk, nat_le, nat_lt}
use Rattle.dynamic_areas.specs.Outcome.{Gives, bind}
use Rattle.dynamic_areas.specs.ErrorNumber.{ErrorNumber}
use Rattle.dynamic_areas.specs.ErrorNumber.TheVariants.{BlockHoldsHeap, HeapHoldsAnchor, HeapBadDesc, HeapBadRegion, HeapOverlaps, HeapTableFull, HeapNotABlock, HeapNoRoom, HeapBadShrink}
use Rattle.dynamic_areas.specs.Records.{anchor_among}
use Rattle.dynamic_areas.specs.Bytes.{Bytes, in_range, word_start}
use Rattle.dynamic_areas.specs.Items.{is_heap_word, is_total, size_of}
use Rattle.dynamic_areas.specs.Item.{Item}
use Rattle.dynamic_areas.specs.Kind.{Kind}
use Rattle.dynamic_areas.specs.Kind.TheVariants as kind
use Rattle.dynamic_areas.proofs.LiveBlocks.{LiveBytes, law_live_bytes, live_apart}
use Rattle.dynamic_areas.proofs.Payloads.{heap_beside, payload_unspelled, spelled_inside}
use Rattle.dynamic_areas.proofs.Reading.{total_facts}
use Rattle.dynamic_areas.proofs.Spelling.{total_of-numbers}
use Rattle.dynamic_areas.specs.Heap.{AreTotals, HeapList, IsHeapIn, with_heap}
use Rattle.dynamic_areas.specs.OsHeapWordsLists.{Claim, changed_by, claim_in_items, live_total, items_after_release, resized_in_place, round_up_8, total_for}
use Rattle.dynamic_areas.specs.Marks.{spells_any}
use Rattle.dynamic_areas.proofs.RangeTests.{can_hold}
use Rattle.dynamic_areas.proofs.Anchored.{IsPlacedBy, header_outside, place_in}
use Rattle.dynamic_areas.proofs.Apart.{range_parts}
use Rattle.dynamic_areas.proofs.FlexSound.{flex_unspelled, place_unspelled}
use Rattle.dynamic_areas.proofs.Found.{found_heap}
use Rattle.dynamic_areas.proofs.Forgetting.{own_left}
use Rattle.dynamic_areas.proofs.KeptPayloads.{IsClaim, is_claim, own_there, unheld_image}
use Rattle.dynamic_areas.proofs.Moving.{found_held}
use Rattle.dynamic_areas.proofs.PayloadLists.{own_start}
use Rattle.dynamic_areas.proofs.Resizing.{larger_where_none}
use Rattle.dynamic_areas.specs.Calls.{store_after_init, store_with_new_heap, store_after_change, store_after_copy, end_changed, ending, gave_back, store_after_get, handed_over, has_own_size, store_holding, holds_anchor, store_after_move, own_size, store_after_resize, resized_or_moved, total_or_0, unless_image}
use Rattle.dynamic_areas.specs.Forgetting.{store_after_forget, holds_heap}
use Rattle.dynamic_areas.specs.Ranges.{is_heap_region, overgrows, overlaps}
use Rattle.dynamic_areas.specs.Store.{IsInBlock, IsSound, Store, find_heap, guest_count, has_image, is_in_flex_store}
use Rattle.rma.proofs.FlexFrameLemmas.Keeping.{keeps_equal}
use Rattle.rma.specs.flex_frame.Keeping.{AreAnchorsFree, RangeHasNoAnchor, KeepsFlex, is_flex_byte}
use Rattle.rma.specs.flex_frame.Laws.{HeapCallsKeepFlex}

-- bytes were written, and heaps changed
pub writes_keep : (s : Store) (c : Bytes) (hs : List HeapList) → ((a : ℕ) → is_flex_byte s a ≡ true → c.at a ≡ s.bytes.at a)
    → KeepsFlex s (record s { bytes = c; heaps = hs })
unfolding KeepsFlex AreAnchorsFree
writes_keep s c hs kept free = (record { bytes = kept; anchors = λ a. refl; headers = λ a. refl; beside = refl }, λ a is. free a is)

-- what a call that is done leaves has a property; a refusal leaves all as it was
abbrev pub OnDone : {A : Type 0} → (Store × A → Type 0) → Result (Store × A) ErrorNumber → Type 0
OnDone P (Ok x) = P x
OnDone P (Err e) = Unit {0}

abbrev KeepsIfSound : {A : Type 0} → Store → Store × A → Type 0
KeepsIfSound s x = IsSound x.0 → KeepsFlex s x.0

pub on_some : (A B : Type 0) (P : Store × B → Type 0) (o : Option A) (e : ErrorNumber) (next : A → Result (Store × B) ErrorNumber)
    → ((x : A) → o ≡ Some x → OnDone P (next x)) → OnDone P (bind (ok_or o e) next)
on_some A B P None e next each = tt
on_some A B P (Some x) e next each = each x refl

pub on_if : (B : Type 0) (P : Store × B → Type 0) (b : Bool) (e : ErrorNumber) (r : Result (Store × B) ErrorNumber) → (b ≡ false → OnDone P r)
    → OnDone P (if b then Err e else r)
on_if B P true e r passed = tt
on_if B P false e r passed = passed refl

on_answer : (A B : Type 0) (s : Store) (r : Result (Store × A) ErrorNumber) (answer : B) → OnDone (KeepsIfSound s) r
    → OnDone (KeepsIfSound s) (bind r (λ x. Ok (x.0, answer)))
on_answer A B s (Ok x) answer done = done
on_answer A B s (Err e) answer done = tt

given_keeps : (A : Type 0) (s t : Store) (o : Result (Store × A) ErrorNumber) (r : Result A ErrorNumber) → IsSound t → Gives s o r t
    → OnDone (KeepsIfSound s) o → KeepsFlex s t
given_keeps A s t (Ok x) (Ok y) sound gives done = subst (λ (u : Store). KeepsFlex s u) (sym gives.0) (done (subst IsSound gives.0 sound))
given_keeps A s t (Ok x) (Err e) sound gives done = absurd gives
given_keeps A s t (Err f) (Ok y) sound gives done = absurd gives
given_keeps A s t (Err f) (Err e) sound gives done = keeps_equal s t gives.1

-- where a byte of the flex store may lie: in no heap's range, or inside a live block
abbrev IsBeside : ℕ → ℕ → List Item → ℕ → Type 0
IsBeside start end items a = (in_range start end a ≡ false) ⊎ IsInBlock (start + 16) items a

flex_placed : (s : Store) (h : HeapList) (a : ℕ) → IsSound s → find_heap h.start s.heaps ≡ Some h → is_flex_byte s a ≡ true → IsPlacedBy h a
flex_placed s h a sound found is = elim (or_cases (is_in_flex_store s.others a) (s.anchor a) is) [
  | inl there ↦ inl (header_outside h.start s.heaps s.others h a sound.placed found there)
  | inr anchor ↦ place_in h.start s.heaps h a found (sound.anchors a anchor).1
]

-- the words of a heap are written: such a byte is in none of them
unwritten : (f : ℕ → ℕ) (start end last : ℕ) (items : List Item) (a : ℕ) → start % 4 ≡ 0 → AreTotals items → 16 + size_of items ≤ end
    → IsBeside start end items a → with_heap f start last items a ≡ f a
unwritten f start end last items a aligned totals fits place =
    heap_beside f start last items a aligned totals (elim place [
      | inl out ↦ false_from_ne_true _ (λ is. both_ways (in_range start end a) out (spelled_inside start end items a aligned totals fits is))
      | inr held ↦ payload_unspelled start items held.block held.total a aligned totals held.live held.low (omega (arith, held.high))
    ])

abbrev with_list : HeapList → List Item → HeapList
with_list k items = record { kind = k.kind; start = k.start; end = k.end; items = items }

new_unwritten : (s : Store) (k : HeapList) (items : List Item) (a : ℕ) → IsSound (store_holding s k items) → find_heap k.start s.heaps ≡ Some k
    → is_flex_byte s a ≡ true → with_heap s.bytes.at k.start k.end items a ≡ s.bytes.at a
new_unwritten s k items a sound found is =
    let t : Store = store_holding s k items in
    let found' : find_heap k.start t.heaps ≡ Some (with_list k items) = found_held k.start items s.heaps k found in
    let heap : IsHeapIn t.bytes k.start k.end items = found_heap t.bytes k.start t.heaps (with_list k items) sound.heaps found' in
    unwritten s.bytes.at k.start k.end k.end items a heap.aligned heap.totals heap.inside (flex_placed t (with_list k items) a sound found' is)

-- a heap got another list
held_keeps : (s : Store) (k : HeapList) (items : List Item) → find_heap k.start s.heaps ≡ Some k → IsSound (store_holding s k items)
    → KeepsFlex s (store_holding s k items)
held_keeps s k items found sound =
    writes_keep s (store_holding s k items).bytes (store_holding s k items).heaps (λ a is. new_unwritten s k items a sound found is)

-- and the heaps in its block were forgotten
forgot_keeps : (s : Store) (k : HeapList) (block total from : ℕ) (items : List Item) → find_heap k.start (store_after_forget s block total from).heaps ≡ Some k
    → IsSound (store_holding (store_after_forget s block total from) k items) → KeepsFlex s (store_holding (store_after_forget s block total from) k items)
forgot_keeps s k block total from items found sound =
    let v : Store = store_after_forget s block total from in
    writes_keep s (store_holding v k items).bytes (store_holding v k items).heaps (λ a is. new_unwritten v k items a sound found is)

-- a heap got another end
pub ended_keeps : (s : Store) (k : HeapList) (end : ℕ) → IsSound s → find_heap k.start s.heaps ≡ Some k → KeepsFlex s (ending s k end)
ended_keeps s k end sound found =
    let heap : IsHeapIn s.bytes k.start k.end k.items = found_heap s.bytes k.start s.heaps k sound.heaps found in
    writes_keep s (ending s k end).bytes (ending s k end).heaps
    (λ a is. unwritten s.bytes.at k.start k.end end k.items a heap.aligned heap.totals heap.inside (flex_placed s k a sound found is))

-- a heap was made
unspelled : (s : Store) (a : ℕ) → IsSound s → is_flex_byte s a ≡ true → spells_any s.heaps (word_start a) ≡ false
unspelled s a sound is = elim (or_cases (is_in_flex_store s.others a) (s.anchor a) is) [
  | inl there ↦ flex_unspelled s.bytes s.heaps s.others a sound.heaps sound.placed there
  | inr anchor ↦ place_unspelled s.bytes s.heaps a sound.heaps (sound.anchors a anchor).1
]

last_unspelled : (hs : List HeapList) (h : HeapList) (p : ℕ) → spells_any (hs ++ h ∷ []) p ≡ false → is_heap_word h.start h.items p ≡ false
last_unspelled [] h p none = (or_parts (is_heap_word h.start h.items p) false none).0
last_unspelled (g ∷ hs) h p none = last_unspelled hs h p (or_parts (is_heap_word g.start g.items p) (spells_any (hs ++ h ∷ []) p) none).1

made_keeps : (k : Kind) (s : Store) (at size : ℕ) → at % 4 ≡ 0 → IsSound (store_with_new_heap k s at size) → KeepsFlex s (store_with_new_heap k s at size)
made_keeps k s at size aligned sound =
    let t : Store = store_with_new_heap k s at size in
    writes_keep s t.bytes t.heaps (λ a is. heap_beside s.bytes.at at size [] a aligned tt
    (last_unspelled s.heaps (record { kind = k; start = at; end = size; items = [] }) (word_start a) (unspelled t a sound is)))

pub begun_keeps : (s t : Store) (heap size : ℕ) (r : Result (Unit {0}) ErrorNumber) → IsSound s → IsSound t → Gives s (store_after_init s heap size) r t → KeepsFlex s t
unfolding store_after_init
begun_keeps s t heap size r sound sound' gives =
    let P : Store × Unit {0} → Type 0 = KeepsIfSound s in
    given_keeps (Unit {0}) s t (store_after_init s heap size) r sound' gives
    (on_if (Unit {0}) P (not (is_heap_region s.bytes heap size)) HeapBadRegion _ (λ region.
    on_if (Unit {0}) P (overlaps heap size s) HeapOverlaps _ (λ clear.
    on_if (Unit {0}) P (nat_le 64 (guest_count s.heaps)) HeapTableFull (Ok (store_with_new_heap kind.Heap s heap size, tt)) (λ room.
    made_keeps kind.Heap s heap size (can_hold s.bytes heap size (not-false (is_heap_region s.bytes heap size) region)).aligned))))

pub got_keeps : (s t : Store) (heap size : ℕ) (r : Result ℕ ErrorNumber) → IsSound s → IsSound t → Gives s (store_after_get s heap size) r t → KeepsFlex s t
unfolding store_after_get
got_keeps s t heap size r sound sound' gives =
    given_keeps ℕ s t (store_after_get s heap size) r sound' gives
    (on_some HeapList ℕ (KeepsIfSound s) (find_heap heap s.heaps) HeapBadDesc _ (λ h found.
    on_some Claim ℕ (KeepsIfSound s) (claim_in_items (total_for size) (h.end - 16) h.items) HeapNoRoom
    (λ c. Ok (store_holding s h c.items, h.start + 16 + c.offset + 4)) (λ c claim.
    held_keeps s h c.items (own_start heap s h found))))

-- a block was given back
on_given : (P : Store × Unit {0} → Type 0) (s : Store) (heap block : ℕ)
    → ((h : HeapList) (items : List Item) → find_heap heap s.heaps ≡ Some h
    → P (store_holding (store_after_forget s block (total_or_0 (live_total block (h.start + 16) h.items)) block) h items, tt)) → OnDone P (gave_back s heap block)
unfolding gave_back
on_given P s heap block each =
    on_some HeapList (Unit {0}) P (find_heap heap s.heaps) HeapBadDesc _ (λ h found.
    on_some (List Item) (Unit {0}) P (unless_image (has_image block s.others) (items_after_release block (h.start + 16) h.items)) HeapNotABlock _ (λ items is.
    let total : Option ℕ = live_total block (h.start + 16) h.items in
    on_if (Unit {0}) P (holds_anchor s.anchor block total) HeapHoldsAnchor (Ok (store_holding (store_after_forget s block (total_or_0 total) block) h items, tt)) (λ none.
    each h items found)))

given_back_keeps : (s : Store) (heap block : ℕ) → IsSound s → OnDone (KeepsIfSound s) (gave_back s heap block)
given_back_keeps s heap block sound = on_given (KeepsIfSound s) s heap block (λ h items found.
    let spelled : IsHeapIn s.bytes h.start h.end h.items = found_heap s.bytes heap s.heaps h sound.heaps found in
    let total : Option ℕ = live_total block (h.start + 16) h.items in
    forgot_keeps s h block (total_or_0 total) block items (own_there s h block total spelled.totals (own_start heap s h found) refl))

pub freed_keeps : (s t : Store) (heap block : ℕ) (r : Result (Unit {0}) ErrorNumber) → IsSound s → IsSound t → Gives s (gave_back s heap block) r t
    → KeepsFlex s t
freed_keeps s t heap block r sound sound' gives = given_keeps (Unit {0}) s t (gave_back s heap block) r sound' gives (given_back_keeps s heap block sound)

-- the bytes of a block that a claim makes are none of the flex store's
claim_beside : (k : HeapList) (c : Claim) (new len a : ℕ) → IsClaim k new c → len ≤ new - 4 → IsPlacedBy k a
    → in_range (k.start + 16 + c.offset + 4) len a ≡ false
claim_beside k c new len a claim fits place =
    let at : ℕ = k.start + 16 + c.offset + 4 in
    let bytes : LiveBytes at new (k.start + 16) (k.start + 16 + size_of c.items) = law_live_bytes at new (k.start + 16) c.items claim.totals claim.fresh in
    false_from_ne_true _ (λ inside.
    let target : (at ≤ a) × (a < at + len) = range_parts at len a inside in
    let below : a < k.start + k.end = omega (arith, target.1, bytes.high, bytes.size, claim.inside, fits) in
    elim place [
      | inl out ↦ both_ways (in_range k.start k.end a) out (rw (le-leb k.start a (omega (arith, target.0)), lt-ltb a (k.start + k.end) below) refl)
      | inr held ↦
          let other : held.block ≢ at = λ (e : held.block ≡ at).
          false≢true (sym claim.unheld ∙ ap is_some (subst (λ (p : ℕ). live_total p (k.start + 16) k.items ≡ Some held.total) e held.live)) in
          elim (live_apart held.block held.total at new (k.start + 16) c.items claim.totals (claim.still held.block held.total held.live) claim.fresh other) [
            | inl low ↦ omega (arith, low, held.high, target.0)
            | inr high ↦ omega (arith, high, held.low, target.1, fits, bytes.size)
          ]
    ])

-- and what was beside the heap's words is beside those of its list after the claim
claim_place : (k : HeapList) (c : Claim) (new a : ℕ) → IsClaim k new c → IsPlacedBy k a → IsBeside k.start k.end c.items a
claim_place k c new a claim place = elim place [
  | inl out ↦ inl out
  | inr held ↦ inr (record {
    block = held.block;
    total = held.total;
    live = claim.still held.block held.total held.live;
    low = held.low;
    high = held.high;
  })
]

-- no anchor lies in a block that is new
claim_unanchored : (s : Store) (h : HeapList) (c : Claim) (new : ℕ) → IsSound s → find_heap h.start s.heaps ≡ Some h → IsClaim h new c
    → RangeHasNoAnchor (store_holding s h c.items) (h.start + 16 + c.offset + 4) (new - 4)
unfolding RangeHasNoAnchor
claim_unanchored s h c new sound found claim a inside =
    false_from_ne_true (s.anchor a) (λ is.
    both_ways (in_range (h.start + 16 + c.offset + 4) (new - 4) a)
    (claim_beside h c new (new - 4) a claim (omega arith) (place_in h.start s.heaps h a found (sound.anchors a is).1)) inside)

abbrev IsNewFree : ℕ → Store × ℕ → Type 0
IsNewFree len x = RangeHasNoAnchor x.0 x.1 len

given_unanchored : (s t : Store) (len : ℕ) (o : Result (Store × ℕ) ErrorNumber) (r : Result ℕ ErrorNumber) → Gives s o r t → OnDone (IsNewFree len) o
    → IfOk r (λ block. RangeHasNoAnchor t block len)
given_unanchored s t len (Ok x) (Ok y) gives done = rw (gives.0, gives.1) done
given_unanchored s t len (Ok x) (Err e) gives done = absurd gives
given_unanchored s t len (Err f) (Ok y) gives done = absurd gives
given_unanchored s t len (Err f) (Err e) gives done = tt

pub got_unanchored : (s t : Store) (heap size : ℕ) (r : Result ℕ ErrorNumber) → IsSound s → Gives s (store_after_get s heap size) r t
    → IfOk r (λ block. RangeHasNoAnchor t block (total_for size - 4))
unfolding store_after_get
got_unanchored s t heap size r sound gives =
    let total : is_total (total_for size) ≡ true = total_of-numbers (total_for size) (omega arith) (omega arith) in
    given_unanchored s t (total_for size - 4) (store_after_get s heap size) r gives
    (on_some HeapList ℕ (IsNewFree (total_for size - 4)) (find_heap heap s.heaps) HeapBadDesc _ (λ h found.
    on_some Claim ℕ (IsNewFree (total_for size - 4)) (claim_in_items (total_for size) (h.end - 16) h.items) HeapNoRoom
    (λ c. Ok (store_holding s h c.items, h.start + 16 + c.offset + 4)) (λ c claim.
    claim_unanchored s h c (total_for size) sound (own_start heap s h found)
    (is_claim s.bytes h (total_for size) c (found_heap s.bytes heap s.heaps h sound.heaps found) total claim))))

-- a block was moved
moved_written : (s : Store) (k : HeapList) (c : Claim) (old new from total : ℕ) (items : List Item) → IsSound s → find_heap k.start s.heaps ≡ Some k
    → IsClaim k new c → old ≤ new
    → (let v : Store = store_after_forget (store_after_copy (store_holding s k c.items) from (k.start + 16 + c.offset + 4) (old - 4)) from total from in
    find_heap k.start v.heaps ≡ Some (with_list k c.items) → IsSound (store_holding v (with_list k c.items) items) → KeepsFlex s (store_holding v (with_list k c.items) items))
moved_written s k c old new from total items sound found claim less found' sound' =
    let at : ℕ = k.start + 16 + c.offset + 4 in
    let v : Store = store_after_forget (store_after_copy (store_holding s k c.items) from at (old - 4)) from total from in
    let t : Store = store_holding v (with_list k c.items) items in
    let heap : IsHeapIn s.bytes k.start k.end k.items = found_heap s.bytes k.start s.heaps k sound.heaps found in
    writes_keep s t.bytes t.heaps (λ a is.
    let place : IsPlacedBy k a = flex_placed s k a sound found is in
    let one : with_heap s.bytes.at k.start k.end c.items a ≡ s.bytes.at a =
    unwritten s.bytes.at k.start k.end k.end c.items a heap.aligned claim.totals claim.inside (claim_place k c new a claim place) in
    let two : v.bytes.at a ≡ with_heap s.bytes.at k.start k.end c.items a =
    rw (claim_beside k c new (old - 4) a claim (omega (arith, less)) place) refl in
    new_unwritten v (with_list k c.items) items a sound' found' is ∙ two ∙ one)

moved_keeps : (s : Store) (h : HeapList) (block old new : ℕ) → IsSound s → find_heap h.start s.heaps ≡ Some h → is_total new ≡ true → old ≤ new
    → OnDone (KeepsIfSound s) (store_after_move s h block old new)
moved_keeps s h block old new sound found total less =
    let heap : IsHeapIn s.bytes h.start h.end h.items = found_heap s.bytes h.start s.heaps h sound.heaps found in
    on_some Claim ℕ (KeepsIfSound s) (claim_in_items new (h.end - 16) h.items) HeapNoRoom _ (λ c is.
    let at : ℕ = h.start + 16 + c.offset + 4 in
    let u : Store = store_after_copy (store_holding s h c.items) block at (old - 4) in
    let claim : IsClaim h new c = is_claim s.bytes h new c heap total is in
    let found' : find_heap h.start u.heaps ≡ Some (with_list h c.items) = found_held h.start c.items s.heaps h found in
    on_if ℕ (KeepsIfSound s) (holds_heap s.heaps block (old - 4)) BlockHoldsHeap (handed_over h.start block (old - 4) (store_holding s h c.items) at) (λ none.
    on_answer (Unit {0}) ℕ s (gave_back u h.start block) at
    (on_given (KeepsIfSound s) u h.start block (λ k items found''.
    let both : Some (with_list h c.items) ≡ Some k = sym found' ∙ found'' in
    let same : with_list h c.items ≡ k = cc in
    let live : Option ℕ = live_total block (h.start + 16) c.items in
    subst (λ (x : HeapList).
    let v : Store = store_after_forget u block (total_or_0 (live_total block (x.start + 16) x.items)) block in
    IsSound (store_holding v x items) → KeepsFlex s (store_holding v x items)) same
    (moved_written s h c old new block (total_or_0 live) items sound found claim less
    (own_there u (with_list h c.items) block live claim.totals found' refl))))))

in_place_keeps : (s : Store) (h : HeapList) (block old new : ℕ) (o : Option (List Item)) → IsSound s → find_heap h.start s.heaps ≡ Some h
    → is_total new ≡ true → (o ≡ None → old ≤ new) → live_total block (h.start + 16) h.items ≡ Some old → OnDone (KeepsIfSound s) (resized_or_moved s h block old new o)
in_place_keeps s h block old new None sound found total less live =
    on_if ℕ (KeepsIfSound s) (holds_anchor s.anchor block (Some old)) HeapHoldsAnchor (store_after_move s h block old new)
    (λ none. moved_keeps s h block old new sound found total (less refl))
in_place_keeps s h block old new (Some items) sound found total less live =
    let heap : IsHeapIn s.bytes h.start h.end h.items = found_heap s.bytes h.start s.heaps h sound.heaps found in
    let lies : LiveBytes block old (h.start + 16) (h.start + 16 + size_of h.items) = law_live_bytes block old (h.start + 16) h.items heap.totals live in
    let from : ℕ = block - 4 + new in
    on_if ℕ (KeepsIfSound s) (anchor_among s.anchor from (old - new)) HeapHoldsAnchor (Ok (store_holding (store_after_forget s block old from) h items, block))
    (λ none. forgot_keeps s h block old from items
    (own_left s h block old from found (omega (arith, lies.low)) (omega (arith, lies.low, (total_facts new total).0))))

sized_keeps : (s : Store) (h : HeapList) (heap block change old : ℕ) → IsSound s → find_heap h.start s.heaps ≡ Some h
    → live_total block (h.start + 16) h.items ≡ Some old
    → (let sum : ℕ = changed_by old change in
    OnDone (KeepsIfSound s) (if nat_le sum 4 then bind (gave_back s heap block) (λ r. Ok (r.0, 0)) else
    resized_or_moved s h block old (round_up_8 sum) (resized_in_place block (h.start + h.end) (round_up_8 sum) (h.start + 16) h.items)))
sized_keeps s h heap block change old sound found live =
    let sum : ℕ = changed_by old change in
    let new : ℕ = round_up_8 sum in
    elim (cases_Bool (nat_le sum 4)) [
      | inl few ↦ rw few (on_answer (Unit {0}) ℕ s (gave_back s heap block) 0 (given_back_keeps s heap block sound))
      | inr more ↦
          let many : 4 < sum = leb-false sum 4 more in
          rw more (in_place_keeps s h block old new (resized_in_place block (h.start + h.end) new (h.start + 16) h.items) sound found
          (total_of-numbers new (omega (arith, many)) (omega arith))
          (λ none. omega (arith, larger_where_none block (h.start + h.end) new (h.start + 16) old h.items live none)) live)
    ]

pub resized_keeps : (s t : Store) (heap block change : ℕ) (r : Result ℕ ErrorNumber) → IsSound s → IsSound t → Gives s (store_after_resize s heap block change) r t
    → KeepsFlex s t
unfolding store_after_resize
resized_keeps s t heap block change r sound sound' gives =
    given_keeps ℕ s t (store_after_resize s heap block change) r sound' gives
    (on_some HeapList ℕ (KeepsIfSound s) (find_heap heap s.heaps) HeapBadDesc _ (λ h found.
    on_some ℕ ℕ (KeepsIfSound s) (unless_image (has_image block s.others) (live_total block (h.start + 16) h.items)) HeapNotABlock _ (λ old is.
    sized_keeps s h heap block change old sound (own_start heap s h found)
    (unheld_image (has_image block s.others) (live_total block (h.start + 16) h.items) old is))))

own_sized : (B : Type 0) (P : Store × B → Type 0) (g : HeapList) (next : HeapList → Result (Store × B) ErrorNumber) → OnDone P (next g)
    → OnDone P (bind (own_size g) next)
own_sized B P g next done = elim (cases_Bool (has_own_size g.kind)) [ inl own ↦ rw own done | inr area ↦ rw area tt ]

pub changed_keeps : (s t : Store) (heap change : ℕ) (r : Result (Unit {0}) ErrorNumber) → IsSound s → IsSound t → Gives s (store_after_change s heap change) r t
    → KeepsFlex s t
unfolding store_after_change
changed_keeps s t heap change r sound sound' gives =
    let P : Store × Unit {0} → Type 0 = KeepsIfSound s in
    given_keeps (Unit {0}) s t (store_after_change s heap change) r sound' gives
    (on_some HeapList (Unit {0}) P (find_heap heap s.heaps) HeapBadDesc _ (λ h found.
    own_sized (Unit {0}) P h (λ h. end_changed s h change (changed_by h.end change))
    (let end : ℕ = changed_by h.end change in
    on_if (Unit {0}) P (not (change % 4 == 0 && is_heap_region s.bytes h.start end)) HeapBadRegion _ (λ region.
    on_if (Unit {0}) P (overgrows s h end) HeapOverlaps _ (λ clear.
    on_if (Unit {0}) P (nat_lt end (16 + size_of h.items)) HeapBadShrink (Ok (ending s h end, tt)) (λ fits.
    λ sound''. ended_keeps s h end sound (own_start heap s h found)))))))

pub heap_calls_keep : HeapCallsKeepFlex
heap_calls_keep s t heap sound sound' = record {
  init = λ size r gives. begun_keeps s t heap size r sound sound' gives;
  get = λ size r gives. got_keeps s t heap size r sound sound' gives;
  free = λ block r gives. freed_keeps s t heap block r sound sound' gives;
  resize = λ block change r gives. resized_keeps s t heap block change r sound sound' gives;
  change_size = λ change r gives. changed_keeps s t heap change r sound sound' gives;
}
