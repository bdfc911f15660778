-- A guest's heap after calls on others: its list, bytes and anchors are kept, where it is not
-- forgotten.
use Rattle.std.proofs.Common.{ℕ, ◌≡◌, ◌≢◌, ◌+◌, ◌-◌, ◌%◌, ◌≤◌, ◌<◌, ◌==◌, ◌&&◌, ◌⊎◌, ◌∙◌, Bool, true, false, List, [], ◌∷◌, ◌++◌, None, Some, is_some, Ok, refl, sym, ap, subst, inl, inr, arith}
use Rattle.std.proofs.lemmas.Bool.{both_ways, cases_Bool, eq-eqb, eqb-true, false_from_ne_true, false≢true, le-leb, lt-ltb, ne_eqb}
use Rattle.profile.specs.declared.reason.HeapReason.{HeapReason}
use Rattle.address_map.specs.Bytes.{Bytes, in_range, word_start}
use Rattle.address_map.specs.Items.{is_heap_word, size_of}
use Rattle.address_map.specs.declared.item.Item.{Item}
use Rattle.address_map.specs.declared.region.Kind.TheVariants as kind
use Rattle.os_heap_words.proofs.ListsLemmas.LiveBlocks.{LiveBytes, live_apart, law_live_bytes}
use Rattle.os_heap_words.proofs.ListsLemmas.Payloads.{heap_beside, payload_unspelled, spelled_inside}
use Rattle.os_heap_words.specs.lists.Heap.{AreTotals, HeapList, IsHeapIn, with_heap}
use Rattle.os_heap_words.specs.lists.Lists.{Claim, live_total}
use Rattle.os_heap.proofs.RangeTests.{CanHold, can_hold, uncrossed, unlapped}
use Rattle.os_heap.proofs.Apart.{found_other, range_parts}
use Rattle.os_heap.proofs.Forgetting.{find_gone, find_left, own_left as heap_left}
use Rattle.os_heap.proofs.Found.{found_heap, uncrossed_found}
use Rattle.os_heap.proofs.KeptPayloads.{IsClaim, is_claim}
use Rattle.os_heap.proofs.Moving.{found_held, held_listed}
use Rattle.os_heap.proofs.Nesting.{within_low}
use Rattle.os_heap.proofs.Stores.{are_others}
use Rattle.os_heap.specs.Calls.{store_with_new_heap, ending, store_holding, with_end, heaps_with_items}
use Rattle.os_heap.specs.Forgetting.{store_after_forget, holds_heap, lowest_lost, starts_in}
use Rattle.os_heap.specs.Nesting.{IsWithin, StandsApart, is_crossed}
use Rattle.os_heap.specs.Ranges.{is_heap_region, overlaps}
use Rattle.os_heap.specs.Store.{AreClear, AreHeapsIn, IsSound, Store, find_heap}
use Rattle.law_machine.proofs.HeapCallsLemmas.DoneCalls.{FreesBytes, MovesBlock, Leave, OnDone, call_done, moved_to}
use Rattle.law_machine.proofs.HeapCallsLemmas.Likeness.{with_list}
use Rattle.law_machine.proofs.HeapCallsLemmas.NoHeapInside.{forgot_unheld}
use Rattle.law_machine.specs.heap_calls.Laws.{IsNotForgotten, KeepsHeap, starts_inside}
use Rattle.law_machine.specs.heap_calls.Lists.{is_call_to, is_on_heap}
use Rattle.law_machine.specs.heap_calls.Turns.{call_on}

-- A byte beside a heap, out of its range or in what a block of it holds, is none of the words that
-- it spells.
pub record IsHeld (start : ℕ) (items : List Item) (a : ℕ) : Type 0 where
  pub block : ℕ
  pub total : ℕ
  pub live : live_total block (start + 16) items ≡ Some total
  pub low : block ≤ a
  pub high : a < block + (total - 4)

abbrev pub IsBeside : HeapList → List Item → ℕ → Type 0
IsBeside k items a = (in_range k.start k.end a ≡ false) ⊎ IsHeld k.start items a

pub placed_beside : (k : HeapList) (f : ℕ → ℕ) (end : ℕ) (items : List Item) (a : ℕ) → k.start % 4 ≡ 0 → AreTotals items → 16 + size_of items ≤ k.end
    → IsBeside k items a → with_heap f k.start end items a ≡ f a
placed_beside k f end items a aligned totals fits beside = heap_beside f k.start end items a aligned totals (elim beside [
  | inl out ↦ false_from_ne_true (is_heap_word k.start items (word_start a)) (λ is.
      both_ways (in_range k.start k.end a) out (spelled_inside k.start k.end items a aligned totals fits is))
  | inr held ↦ payload_unspelled k.start items held.block held.total a aligned totals held.live held.low held.high
])

-- nor one of those that a block is moved to
copied_beside : (k : HeapList) (c : Claim) (old new a : ℕ) → IsClaim k new c → old ≤ new → IsBeside k k.items a
    → in_range (k.start + 16 + c.offset + 4) (old - 4) a ≡ false
copied_beside k c old new a claim less beside =
    let at : ℕ = k.start + 16 + c.offset + 4 in
    let place : LiveBytes at new (k.start + 16) (k.start + 16 + size_of c.items) = law_live_bytes at new (k.start + 16) c.items claim.totals claim.fresh in
    false_from_ne_true (in_range at (old - 4) a) (λ there.
    let parts : (at ≤ a) × (a < at + (old - 4)) = range_parts at (old - 4) a there in
    elim beside [
      | inl out ↦ both_ways (in_range k.start k.end a) out
          (rw (le-leb k.start a (omega (arith, parts.0)), lt-ltb a (k.start + k.end) (omega (arith, parts.1, place.high, claim.inside, less))) refl)
      | inr held ↦
          let other : held.block ≢ at = λ (e : held.block ≡ at).
          false≢true (sym claim.unheld ∙ ap is_some (subst (λ (p : ℕ). live_total p (k.start + 16) k.items ≡ Some held.total) e held.live)) in
          elim (live_apart held.block held.total at new (k.start + 16) c.items claim.totals (claim.still held.block held.total held.live) claim.fresh other) [
            | inl low ↦ omega (arith, low, held.high, parts.0)
            | inr high ↦ omega (arith, high, held.low, parts.1, less)
          ]
    ])

claimed_held : (k : HeapList) (c : Claim) (new a : ℕ) → IsClaim k new c → IsBeside k k.items a → IsBeside k c.items a
claimed_held k c new a claim (inl out) = inl out
claimed_held k c new a claim (inr held) = inr (record {
  block = held.block;
  total = held.total;
  live = claim.still held.block held.total held.live;
  low = held.low;
  high = held.high;
})

-- and it is found still
pub found_beside : (p start : ℕ) (items : List Item) (hs : List HeapList) → p ≢ start → find_heap p (heaps_with_items start items hs) ≡ find_heap p hs
found_beside p start items [] other = refl
found_beside p start items (g ∷ hs) other = elim (cases_Bool (g.start == start)) [
  | inl here ↦
      let miss : (g.start == p) ≡ false = ne_eqb g.start p (λ (e : g.start ≡ p). other (sym e ∙ eqb-true g.start start here)) in
      rw (here, miss) (found_beside p start items hs other)
  | inr away ↦ rw away (elim (cases_Bool (g.start == p)) [
    | inl hit ↦ rw hit refl
    | inr miss ↦ rw miss (found_beside p start items hs other)
  ])
]

pub found_past : (p start end : ℕ) (hs : List HeapList) → p ≢ start → find_heap p (with_end start end hs) ≡ find_heap p hs
found_past p start end [] other = refl
found_past p start end (g ∷ hs) other = elim (cases_Bool (g.start == start)) [
  | inl here ↦
      let miss : (g.start == p) ≡ false = ne_eqb g.start p (λ (e : g.start ≡ p). other (sym e ∙ eqb-true g.start start here)) in
      rw (here, miss) (found_past p start end hs other)
  | inr away ↦ rw away (elim (cases_Bool (g.start == p)) [
    | inl hit ↦ rw hit refl
    | inr miss ↦ rw miss (found_past p start end hs other)
  ])
]

pub found_more : (p : ℕ) (hs : List HeapList) (h g : HeapList) → find_heap p hs ≡ Some h → find_heap p (hs ++ g ∷ []) ≡ Some h
found_more p [] h g found = absurd (let none : None ≡ Some h = found in cc)
found_more p (k ∷ hs) h g found = elim (cases_Bool (k.start == p)) [
  | inl here ↦ rw here (rw here at found)
  | inr away ↦ rw away (found_more p hs h g (rw away at found))
]

-- A heap, and another that does not lie in it: no byte of the first is in a word that the other
-- spells.
record AreTwo (s : Store) (h k : HeapList) : Type 0 where
  heap : IsHeapIn s.bytes k.start k.end k.items
  beside : (a : ℕ) → in_range h.start h.end a ≡ true → IsBeside k k.items a

beside_by : (h k : HeapList) (a : ℕ) → StandsApart k h → (IsWithin h k → ⊥) → in_range h.start h.end a ≡ true → IsBeside k k.items a
beside_by h k a (inl clear) outside here =
    inl (false_from_ne_true (in_range k.start k.end a) (λ there. both_ways (in_range h.start h.end a) (clear a there) here))
beside_by h k a (inr (inl within)) outside here =
    let parts : (h.start ≤ a) × (a < h.start + h.end) = range_parts h.start h.end a here in
    inr (record {
      block = within.block;
      total = within.total;
      live = within.live;
      low = omega (arith, within.low, parts.0);
      high = omega (arith, within.high, parts.1);
    })
beside_by h k a (inr (inr within)) outside here = absurd (outside within)

-- where the other does not start in it, it does not lie in it
not_within : (b : Bytes) (h k : HeapList) → IsHeapIn b h.start h.end h.items → IsHeapIn b k.start k.end k.items → starts_inside h k.start ≡ false
    → IsWithin h k → ⊥
not_within b h k heap inner outside within =
    let low : (h.start + 20 ≤ k.start) × (k.start + k.end ≤ h.start + h.end) = within_low b h k heap within in
    both_ways (starts_inside h k.start) outside
    (rw (le-leb (h.start + 16) k.start (omega (arith, low.0)), lt-ltb k.start (h.start + 16 + (h.end - 16)) (omega (arith, low.0, low.1, inner.inside))) refl)

-- two heaps of a store
record AreCalled (s : Store) (h k : HeapList) : Type 0 where
  sound : IsSound s
  one : find_heap h.start s.heaps ≡ Some h
  two : find_heap k.start s.heaps ≡ Some k
  apart : h.start ≢ k.start
  outside : starts_inside h k.start ≡ false

are_two : (s : Store) (h k : HeapList) → AreCalled s h k → AreTwo s h k
are_two s h k called =
    let heap : IsHeapIn s.bytes h.start h.end h.items = found_heap s.bytes h.start s.heaps h called.sound.heaps called.one in
    let other : IsHeapIn s.bytes k.start k.end k.items = found_heap s.bytes k.start s.heaps k called.sound.heaps called.two in
    record {
      heap = other;
      beside = λ a here. elim (found_other k h.start s.heaps h (are_others s.bytes k.start s.heaps k called.sound.heaps called.two) called.one) [
        | inl same ↦ absurd (called.apart (ap (λ (x : HeapList). x.start) same))
        | inr apart ↦ beside_by h k a apart.1 (not_within s.bytes h k heap other called.outside) here
      ];
    }

-- Other heaps may be forgotten before: where the heap is found then, it is the same, and no byte
-- was changed.
held_kept : (s v : Store) (h k : HeapList) (items : List Item) → find_heap h.start v.heaps ≡ Some h → find_heap k.start v.heaps ≡ Some k → h.start ≢ k.start
    → starts_inside h k.start ≡ false → v.bytes ≡ s.bytes → v.anchor ≡ s.anchor → IsSound (store_holding v k items) → KeepsHeap h s (store_holding v k items)
held_kept s v h k items one two apart outside same same' sound =
    let t : Store = store_holding v k items in
    let found : find_heap h.start t.heaps ≡ Some h = found_beside h.start k.start items v.heaps apart ∙ one in
    let after : AreTwo t h (with_list k items) =
    are_two t h (with_list k items)
    (record { sound = sound; one = found; two = found_held k.start items v.heaps k two; apart = apart; outside = outside }) in
    record {
      found = found;
      bytes = λ a here. placed_beside k v.bytes.at k.end items a after.heap.aligned after.heap.totals after.heap.inside
          (after.beside a here)
          ∙ ap (λ (b : Bytes). b.at a) same;
      anchors = λ a here. ap (λ (f : ℕ → Bool). f a) same';
    }

-- a heap that is found after others were forgotten
pub found_left : (s t : Store) (h k : HeapList) (block total from : ℕ) (items : List Item) → AreHeapsIn s.bytes s.heaps → find_heap h.start s.heaps ≡ Some h
    → h.start ≢ k.start → t.heaps ≡ heaps_with_items k.start items (store_after_forget s block total from).heaps → IsNotForgotten t h.start
    → find_heap h.start (store_after_forget s block total from).heaps ≡ Some h
found_left s t h k block total from items parts one apart is still =
    let low : ℕ = lowest_lost block (total - 4) from s.heaps in
    let len : ℕ = block - 4 + total - low in
    let beside : find_heap h.start t.heaps ≡ find_heap h.start (store_after_forget s block total from).heaps =
    ap (find_heap h.start) is ∙ found_beside h.start k.start items (store_after_forget s block total from).heaps apart in
    elim (cases_Bool (starts_in low len h)) [
      | inl gone ↦
          let none : find_heap h.start t.heaps ≡ None = beside ∙ find_gone s.bytes low len h.start s.heaps h parts one gone in
          absurd (false≢true (sym (ap is_some none) ∙ still))
      | inr kept ↦ find_left low len h.start s.heaps h one kept
    ]

lost_kept : (s : Store) (h k : HeapList) (block total from : ℕ) (items : List Item) → AreCalled s h k → FreesBytes k block total from
    → (let t : Store = store_holding (store_after_forget s block total from) k items in IsSound t → IsNotForgotten t h.start → KeepsHeap h s t)
lost_kept s h k block total from items called given sound still =
    let v : Store = store_after_forget s block total from in
    let heap : IsHeapIn s.bytes k.start k.end k.items = found_heap s.bytes k.start s.heaps k called.sound.heaps called.two in
    let lies : LiveBytes block total (k.start + 16) (k.start + 16 + size_of k.items) = law_live_bytes block total (k.start + 16) k.items heap.totals given.live in
    held_kept s v h k items
    (found_left s (store_holding v k items) h k block total from items called.sound.heaps called.one called.apart refl still)
    (heap_left s k block total from called.two (omega (arith, lies.low)) given.past) called.apart called.outside refl refl sound

-- a block was moved, and no heap lay in it
moved_kept : (s : Store) (h k : HeapList) (c : Claim) (block old new : ℕ) (items : List Item) → AreCalled s h k → IsClaim k new c → old ≤ new
    → (let t : Store = store_holding (moved_to s k c block old) (with_list k c.items) items in IsSound t → KeepsHeap h s t)
moved_kept s h k c block old new items called claim less sound =
    let u : Store = moved_to s k c block old in
    let t : Store = store_holding u (with_list k c.items) items in
    let there : find_heap k.start u.heaps ≡ Some (with_list k c.items) = found_held k.start c.items s.heaps k called.two in
    let here' : find_heap h.start u.heaps ≡ Some h = found_beside h.start k.start c.items s.heaps called.apart ∙ called.one in
    let before : AreTwo s h k = are_two s h k called in
    let kept : KeepsHeap h u t = held_kept u u h (with_list k c.items) items here' there called.apart called.outside refl refl sound in
    record {
      found = kept.found;
      bytes = λ a here.
          let copy : u.bytes.at a ≡ with_heap s.bytes.at k.start k.end c.items a = rw (copied_beside k c old new a claim less (before.beside a here)) refl in
          kept.bytes a here
          ∙ copy
          ∙ placed_beside k s.bytes.at k.end c.items a before.heap.aligned claim.totals claim.inside (claimed_held k c new a claim (before.beside a here));
      anchors = λ a here. refl;
    }

pub moved_same : (s : Store) (k : HeapList) (c : Claim) (block old new total : ℕ) → IsHeapIn s.bytes k.start k.end k.items → MovesBlock s k c block old new
    → FreesBytes (with_list k c.items) block total block → store_after_forget (moved_to s k c block old) block total block ≡ moved_to s k c block old
moved_same s k c block old new total heap is given =
    let claim : IsClaim k new c = is_claim s.bytes k new c heap is.total is.claim in
    let both : Some total ≡ Some old = sym given.live ∙ claim.still block old is.live in
    let size : total ≡ old = cc in
    let lies : LiveBytes block old (k.start + 16) (k.start + 16 + size_of k.items) = law_live_bytes block old (k.start + 16) k.items heap.totals is.live in
    let u : Store = moved_to s k c block old in
    let none : holds_heap u.heaps block (total - 4) ≡ false =
    held_listed k.start block (total - 4) c.items s.heaps ∙ ap (λ (n : ℕ). holds_heap s.heaps block (n - 4)) size ∙ is.unheld in
    forgot_unheld u block total block (omega (arith, lies.low)) (omega (arith, lies.size, size)) (omega arith) none

moved_left : (s : Store) (h k : HeapList) (c : Claim) (block old new total : ℕ) (items : List Item) → AreCalled s h k → MovesBlock s k c block old new
    → FreesBytes (with_list k c.items) block total block
    → (let t : Store = store_holding (store_after_forget (moved_to s k c block old) block total block) (with_list k c.items) items in
    IsSound t → KeepsHeap h s t)
moved_left s h k c block old new total items called is given =
    let heap : IsHeapIn s.bytes k.start k.end k.items = found_heap s.bytes k.start s.heaps k called.sound.heaps called.two in
    subst (λ (v : Store). let t : Store = store_holding v (with_list k c.items) items in IsSound t → KeepsHeap h s t)
    (sym (moved_same s k c block old new total heap is given))
    (moved_kept s h k c block old new items called (is_claim s.bytes k new c heap is.total is.claim) is.less)

ended_kept : (s : Store) (h k : HeapList) (end : ℕ) → AreCalled s h k → KeepsHeap h s (ending s k end)
ended_kept s h k end called =
    let before : AreTwo s h k = are_two s h k called in
    record {
      found = found_past h.start k.start end s.heaps called.apart ∙ called.one;
      bytes = λ a here. placed_beside k s.bytes.at end k.items a before.heap.aligned before.heap.totals before.heap.inside (before.beside a here);
      anchors = λ a here. refl;
    }

-- a heap in which no heap is made is clear of the one that is
clear_of_made : (b : Bytes) (h : HeapList) (at size : ℕ) → 0 < size → IsHeapIn b h.start h.end h.items → is_crossed at size h ≡ false → starts_inside h at ≡ false
    → AreClear at size h.start h.end
clear_of_made b h at size some heap none outside = elim (uncrossed b at size h heap none) [
  | inl clear ↦ clear
  | inr held ↦
      let lies : LiveBytes held.block held.total (h.start + 16) (h.start + 16 + size_of h.items) =
      law_live_bytes held.block held.total (h.start + 16) h.items heap.totals held.live in
      absurd (both_ways (starts_inside h at) outside
      (rw (le-leb (h.start + 16) at (omega (arith, held.low, lies.low)), lt-ltb at (h.start + 16 + (h.end - 16)) (omega (arith, held.low, lies.low, held.high, lies.high, heap.inside, some))) refl))
]

begun_kept : (s : Store) (h : HeapList) (at size : ℕ) → IsSound s → find_heap h.start s.heaps ≡ Some h → starts_inside h at ≡ false
    → is_heap_region s.bytes at size ≡ true → overlaps at size s ≡ false → KeepsHeap h s (store_with_new_heap kind.Heap s at size)
begun_kept s h at size sound found outside region none =
    let can : CanHold s.bytes at size = can_hold s.bytes at size region in
    let clear : AreClear at size h.start h.end =
    clear_of_made s.bytes h at size (omega (arith, can.low)) (found_heap s.bytes h.start s.heaps h sound.heaps found)
    (uncrossed_found at size h.start s.heaps h (unlapped at size s none).0.0 found) outside in
    record {
      found = found_more h.start s.heaps h (record { kind = kind.Heap; start = at; end = size; items = [] }) found;
      bytes = λ a here. heap_beside s.bytes.at at size [] a can.aligned tt
          (false_from_ne_true (is_heap_word at [] (word_start a)) (λ is. both_ways (in_range h.start h.end a)
          (clear a (spelled_inside at size [] a can.aligned tt (omega (arith, can.low)) is)) here));
      anchors = λ a here. refl;
    }

other_left : (s : Store) (h k : HeapList) → AreCalled s h k → Leave (λ t. IsSound t → IsNotForgotten t h.start → KeepsHeap h s t) s k
other_left s h k called = record {
  same = λ _ _. record { found = called.one; bytes = λ a here. refl; anchors = λ a here. refl };
  held = λ items sound _. held_kept s s h k items called.one called.two called.apart called.outside refl refl sound;
  lost = λ block total from items given. lost_kept s h k block total from items called given;
  moved = λ c block old new total items is given sound _. moved_left s h k c block old new total items called is given sound;
  ended = λ end clear _ _. ended_kept s h k end called;
}

pub another : (h : HeapList) (heap : ℕ) (why : HeapReason) → is_call_to h.start heap why ≡ false → is_on_heap why ≡ true → h.start ≢ heap
another h heap why other on same = both_ways (is_on_heap why && heap == h.start) other (rw (on, eq-eqb heap h.start (sym same)) refl)

-- where it is recorded still
pub others_recorded : (s t : Store) (h : HeapList) (heap : ℕ) (why : HeapReason) (block size : ℕ) (answer : ℕ × ℕ) → IsSound s → IsSound t
    → find_heap h.start s.heaps ≡ Some h → is_call_to h.start heap why ≡ false → starts_inside h heap ≡ false
    → call_on s heap why block size ≡ Ok (t, answer) → IsNotForgotten t h.start → KeepsHeap h s t
others_recorded s t h heap why block size answer sound sound' found other outside is still =
    let P : Store → Type 0 = λ u. IsSound u → IsNotForgotten u h.start → KeepsHeap h s u in
    subst (OnDone (ℕ × ℕ) P) is
    (call_done P s heap why block size
    (λ on k start found'. other_left s h k (record {
      sound = sound;
      one = found;
      two = found';
      apart = λ same. another h heap why other on (same ∙ start);
      outside = ap (starts_inside h) start ∙ outside;
    }))
    (λ region none _ _. begun_kept s h heap size sound found outside region none)) sound' still
