-- A block that is moved: the claim of a new one, the copy of the bytes, and the release of the old one.
use Rattle.std.proofs.Common.{Bool, ◌≡◌, ◌≢◌, ◌||◌, List, ℕ, Some, ◌-◌, subst, sym, None, Option, true, is_some, refl, ◌+◌, Ok, Err, ◌≤◌, ◌^◌, Result, ◌∙◌, ap, ◌%◌, arith, ◌<◌, false, inl, [], inr, ◌∷◌, ◌==◌}
use Rattle.std.proofs.lemmas.Bool.{false≢true, both_ways, or_from, false_from_ne_true, cases_Bool, eq-eqb, ne_eqb, le-leb, lt-ltb}
use Rattle.std.specs.List.{filter}
use Rattle.os_heap_words.specs.Outcome.{bind, Gives}
use Rattle.os_heap_words.specs.ErrorNumber.{ErrorNumber}
use Rattle.os_heap_words.specs.ErrorNumber.TheVariants.{HeapNoRoom}
use Rattle.os_heap_words.proofs.Equations.{stored_moved}
use Rattle.os_heap_words.proofs.Stores.{in_range-cases, layout-mapping}
use Rattle.os_heap_words.specs.Bytes.{AreMapped, Bytes, word_start, in_range, with_moved_at}
use Rattle.os_heap_words.specs.Items.{size_of, is_heap_word}
use Rattle.os_heap_words.specs.Memory.{anchor_of, bytes_of, layout, is_mapped, byte_at, regions, class_of}
use Rattle.os_heap_words.specs.Item.{Item}
use Rattle.os_heap_words.specs.AddressMap.{AddressMap}
use Rattle.os_heap_words.specs.Kind.{Kind}
use Rattle.os_heap_words.proofs.ListsLemmas.HeadWords.{byte_inside, are_owned}
use Rattle.os_heap_words.proofs.ListsLemmas.LinkWalk.{below_few}
use Rattle.os_heap_words.proofs.ListsLemmas.ClaimedLists.{IsUnheld, claim_unheld}
use Rattle.os_heap_words.proofs.ListsLemmas.LiveBlocks.{claim_fresh, claim_still, IsFresh, IsStill, LiveBytes, live_apart, law_live_bytes}
use Rattle.os_heap_words.proofs.ListsLemmas.Payloads.{payload_unspelled}
use Rattle.os_heap_words.proofs.ListsLemmas.Reading.{items_in-heap}
use Rattle.os_heap_words.specs.lists.Counts.{looked_at, free_below}
use Rattle.os_heap_words.specs.lists.Heap.{AreTotals, HeapList, IsHeapIn}
use Rattle.os_heap_words.specs.lists.Lists.{Claim, claim_in_items, live_total, items_after_release}
use Rattle.os_heap.proofs.Apart.{range_parts}
use Rattle.os_heap.proofs.Calls.{part_at, heap_there, free_given, IsHeld, is_held, store_anchor}
use Rattle.os_heap.proofs.ForgetLemmas.{forgets_unheld}
use Rattle.os_heap.proofs.Found.{found_heap, found_start}
use Rattle.os_heap.proofs.Frame.{store_bytes, heads_kept, IsKept, classes_same, layout-others, layout-regions}
use Rattle.os_heap_words.proofs.Replace.{heap_below}
use Rattle.os_heap_words.proofs.Searching.{looked-below}
use Rattle.os_heap.proofs.Nesting.{keeps_by_blocks, within_unspelled}
use Rattle.os_heap.proofs.Stores.{AreOthers, are_others}
use Rattle.os_heap.specs.Calls.{holds_anchor, store_after_copy, store_after_move, handed_over, store_holding, heaps_with_items, gave_back}
use Rattle.os_heap.specs.Probes.{move_probes}
use Rattle.os_heap.specs.Forgetting.{holds_heap, starts_in}
use Rattle.os_heap.specs.Nesting.{IsWithin, StandsApart}
use Rattle.os_heap.specs.Order.{stays}
use Rattle.os_heap_words.specs.Outcomes.{items_at, end_at, Becomes, Claims, HasHeapAt, Releases}
use Rattle.os_heap.specs.GuestBlocks.{has_anchor_in}
use Rattle.os_heap.specs.Sound.{HasBlock, IsSoundMap, KeepsRest}
use Rattle.os_heap.specs.Store.{has_image, IsSound, AreClasses, find_heap, store_of, AreHeapsIn, Store}

-- the part of a heap, by what memory spells of it
part_same : (h : HeapList) (start end : ℕ) (items : List Item) → h.start ≡ start → h.end ≡ end → h.items ≡ items
    → (let p : HeapList = record { kind = h.kind; start = start; end = end; items = items } in h ≡ p)
part_same h start end items s e l = λ i. record { kind = h.kind; start = s i; end = e i; items = l i }

found_in : (m : AddressMap) (heap : ℕ) (h : HeapList) → IsSound (store_of m) → find_heap heap (store_of m).heaps ≡ Some h → IsHeapIn (bytes_of m) h.start h.end h.items
unfolding store_of
found_in m heap h sound found = found_heap (bytes_of m) heap (store_of m).heaps h sound.heaps found

pub part_known : (m : AddressMap) (heap : ℕ) (h : HeapList) → IsSound (store_of m) → find_heap heap (store_of m).heaps ≡ Some h
    → h ≡ part_at h.kind m heap (end_at m heap)
part_known m heap h sound found =
    let start : h.start ≡ heap = found_start heap (store_of m).heaps h found in
    let there : IsHeapIn (bytes_of m) h.start h.end h.items = found_in m heap h sound found in
    let there' : IsHeapIn (bytes_of m) heap h.end h.items = subst (λ (s : ℕ). IsHeapIn (bytes_of m) s h.end h.items) start there in
    part_same h heap (end_at m heap) (items_at m heap) start (sym there'.limit) (sym (items_in-heap (bytes_of m) heap h.end h.items there'))

-- the heap that is there
pub record HasPart (start : ℕ) (hs : List HeapList) : Type 0 where
  pub part : HeapList
  pub found : find_heap start hs ≡ Some part

part_of : (start : ℕ) (hs : List HeapList) (o : Option HeapList) → find_heap start hs ≡ o → is_some o ≡ true → HasPart start hs
part_of start hs None e some = absurd (false≢true some)
part_of start hs (Some h) e some = record { part = h; found = e }

pub part_there : (start : ℕ) (hs : List HeapList) → is_some (find_heap start hs) ≡ true → HasPart start hs
part_there start hs some = part_of start hs (find_heap start hs) refl some

-- a claim that made a block
record Made (m n : AddressMap) (start end new : ℕ) (o : Option Claim) : Type 0 where
  claim : Claim
  is : o ≡ Some claim
  place : new ≡ start + 16 + claim.offset + 4
  becomes : Becomes m n start end claim.items

made : (m n : AddressMap) (start end new : ℕ) (o : Option Claim) → Claims m n start end (Ok new) o → Made m n start end new o
made m n start end new None claims = absurd (let e : Ok new ≡ Err HeapNoRoom = claims.0 in cc)
made m n start end new (Some c) claims =
    let e : Ok new ≡ Ok (start + 16 + c.offset + 4) = claims.0 in
    record { claim = c; is = refl; place = cc; becomes = claims.1 }

-- what is so when the new block is claimed
pub record IsClaimed (m n : AddressMap) (kind : Kind) (heap block total needed new : ℕ) : Type 0 where
  pub claim : Claim
  pub found : find_heap heap (store_of m).heaps ≡ Some (part_at kind m heap (end_at m heap))
  pub claims : claim_in_items needed (end_at m heap - 16) (items_at m heap) ≡ Some claim
  pub place : new ≡ heap + 16 + claim.offset + 4
  pub heap_then : IsHeapIn (bytes_of n) heap (end_at m heap) claim.items
  pub below : heap + end_at m heap ≤ 2 ^ 26
  pub same : layout n ≡ layout m
  pub fresh : live_total new (heap + 16) claim.items ≡ Some needed
  pub still : live_total block (heap + 16) claim.items ≡ Some total
  pub keeps : (a t : ℕ) → live_total a (heap + 16) (items_at m heap) ≡ Some t → live_total a (heap + 16) claim.items ≡ Some t
  pub unheld : is_some (live_total new (heap + 16) (items_at m heap)) ≡ false
  pub old : IsSound (store_of m)
  pub store : store_of n ≡ store_holding (store_of m) (part_at kind m heap (end_at m heap)) claim.items
  pub sound : IsSound (store_of n)
  pub classes : AreClasses n

pub is_claimed : (m n : AddressMap) (heap block total needed new : ℕ) (answer : Result ℕ ErrorNumber) (p : HasPart heap (store_of m).heaps)
    → IsSound (store_of m) → AreClasses m → live_total block (heap + 16) (items_at m heap) ≡ Some total
    → Claims m n heap (end_at m heap) answer (claim_in_items needed (end_at m heap - 16) (items_at m heap)) → answer ≡ Ok new
    → IsClaimed m n p.part.kind heap block total needed new
is_claimed m n heap block total needed new answer p sound classes live claims ok =
    let end : ℕ = end_at m heap in
    let items : List Item = items_at m heap in
    let kind : Kind = p.part.kind in
    let found : find_heap heap (store_of m).heaps ≡ Some (part_at kind m heap end) = p.found ∙ ap Some (part_known m heap p.part sound p.found) in
    let there : HasHeapAt m heap = heap_there kind m heap end sound found in
    let b : Made m n heap end new (claim_in_items needed (end - 16) items) = made m n heap end new (claim_in_items needed (end - 16) items)
    (subst (λ (a : Result ℕ ErrorNumber). Claims m n heap end a (claim_in_items needed (end - 16) items)) ok claims) in
    let fresh : IsFresh needed (heap + 16) (Some b.claim) = subst (IsFresh needed (heap + 16)) b.is (claim_fresh needed (end - 16) (heap + 16) items there.totals) in
    let still : IsStill block total (heap + 16) (Some b.claim) =
    subst (IsStill block total (heap + 16)) b.is (claim_still needed (end - 16) block total (heap + 16) items live there.totals) in
    let keeps : (a t : ℕ) → live_total a (heap + 16) items ≡ Some t → live_total a (heap + 16) b.claim.items ≡ Some t =
    λ a t there'. subst (IsStill a t (heap + 16)) b.is (claim_still needed (end - 16) a t (heap + 16) items there' there.totals) in
    let held : IsHeld m n (part_at kind m heap end) b.claim.items = is_held m n (part_at kind m heap end) b.claim.items sound classes found refl
    (λ a t is. keeps a t)
    (λ a _ in'. record { block = in'.block; total = in'.total; live = keeps in'.block in'.total in'.live; low = in'.low; high = in'.high })
    (keeps_by_blocks (part_at kind m heap end) b.claim.items (store_of m).heaps keeps) b.becomes in
    record {
      claim = b.claim;
      found = found;
      claims = b.is;
      place = b.place;
      heap_then = b.becomes.heap;
      below = heap_below m heap end items there;
      same = b.becomes.same;
      fresh = subst (λ (a : ℕ). live_total a (heap + 16) b.claim.items ≡ Some needed) (sym b.place) fresh;
      still = still;
      keeps = keeps;
      unheld = subst (λ (a : ℕ). is_some (live_total a (heap + 16) items) ≡ false) (sym b.place)
          (subst (IsUnheld (heap + 16) items) b.is (claim_unheld needed (end - 16) (heap + 16) items there.totals));
      old = sound;
      store = held.store;
      sound = held.sound;
      classes = held.classes;
    }

-- where the bytes of the two blocks lie
pub record AreInside (m n : AddressMap) (heap block total needed new : ℕ) : Type 0 where
  pub least : 4 ≤ total
  pub source : AreMapped (is_mapped n) block (total - 4)
  pub target : AreMapped (is_mapped n) new (total - 4)
  pub low : heap + 20 ≤ new
  pub high : new + (needed - 4) ≤ heap + end_at m heap
  pub whole : new % 4 ≡ 0

pub are_inside : (m n : AddressMap) (kind : Kind) (heap block total needed new : ℕ) → total < needed → IsClaimed m n kind heap block total needed new
    → AreInside m n heap block total needed new
are_inside m n kind heap block total needed new larger c =
    let from : LiveBytes block total (heap + 16) (heap + 16 + size_of c.claim.items) =
    law_live_bytes block total (heap + 16) c.claim.items c.heap_then.totals c.still in
    let to : LiveBytes new needed (heap + 16) (heap + 16 + size_of c.claim.items) =
    law_live_bytes new needed (heap + 16) c.claim.items c.heap_then.totals c.fresh in
    let inside : 16 + size_of c.claim.items ≤ end_at m heap = c.heap_then.inside in
    record {
      least = omega (arith, from.size);
      source = λ a low high. c.heap_then.mapped a (omega (arith, from.low)) (omega (arith, from.high, from.size));
      target = λ a low high. c.heap_then.mapped a (omega (arith, to.low)) (omega (arith, to.high, from.size));
      low = omega (arith, to.low);
      high = omega (arith, to.high, to.size);
      whole = to.whole (omega (arith, c.heap_then.aligned));
    }

-- the bytes of a new block are spelled by no heap: a heap round it has them in a live block, and one in its heap lies in a block that was live before
new_unowned : (b : Bytes) (h : HeapList) (items : List Item) (new needed a : ℕ) (hs : List HeapList) → IsHeapIn b h.start h.end h.items → AreTotals items
    → ((other t : ℕ) → live_total other (h.start + 16) h.items ≡ Some t → live_total other (h.start + 16) items ≡ Some t)
    → live_total new (h.start + 16) items ≡ Some needed → is_some (live_total new (h.start + 16) h.items) ≡ false
    → new ≤ a → a < new + (needed - 4) → in_range h.start h.end a ≡ true → AreHeapsIn b hs → AreOthers h hs
    → are_owned (heaps_with_items h.start items hs) a ≡ false
new_unowned b h items new needed a [] heap totals still fresh unheld low high inside parts others = refl
new_unowned b h items new needed a (g ∷ hs) heap totals still fresh unheld low high inside parts others =
    let rest : are_owned (heaps_with_items h.start items hs) a ≡ false =
    new_unowned b h items new needed a hs heap totals still fresh unheld low high inside parts.1.1 others.1 in
    elim others.0 [
      | inl same ↦
          let start : g.start ≡ h.start = ap (λ (x : HeapList). x.start) same in
          rw (eq-eqb g.start h.start start) (or_from (is_heap_word g.start items (word_start a)) (are_owned (heaps_with_items h.start items hs) a)
          (rw start (payload_unspelled h.start items new needed a heap.aligned totals fresh low high)) rest)
      | inr apart ↦
          rw (ne_eqb g.start h.start apart.0) (or_from (is_heap_word g.start g.items (word_start a)) (are_owned (heaps_with_items h.start items hs) a)
          (beside_new apart.1) rest)
    ] where
      in_new : IsWithin h g → in_range g.start g.end a ≡ true → ⊥
      in_new within there =
          let byte : (g.start ≤ a) × (a < g.start + g.end) = range_parts g.start g.end a there in
          let other : within.block ≢ new = λ (e : within.block ≡ new).
          false≢true (sym unheld ∙ ap is_some (subst (λ (x : ℕ). live_total x (h.start + 16) h.items ≡ Some within.total) e within.live)) in
          let place : LiveBytes within.block within.total (h.start + 16) (h.start + 16 + size_of items) =
          law_live_bytes within.block within.total (h.start + 16) items totals (still within.block within.total within.live) in
          elim (live_apart within.block within.total new needed (h.start + 16) items totals (still within.block within.total within.live) fresh other) [
            | inl before ↦ omega (arith, before, byte.1, within.high, low)
            | inr behind ↦ omega (arith, behind, byte.0, within.low, high)
          ]

      beside_new : StandsApart h g → is_heap_word g.start g.items (word_start a) ≡ false
      beside_new (inl clear) =
          false_from_ne_true _ (λ is. both_ways (in_range g.start g.end a) (clear a inside) (byte_inside b g.start g.end g.items a parts.0 is))
      beside_new (inr (inl within)) = false_from_ne_true _ (λ is. in_new within (byte_inside b g.start g.end g.items a parts.0 is))
      beside_new (inr (inr within)) = within_unspelled b g h a parts.0 within inside

-- the same heap is found after it got another list
pub found_held : (start : ℕ) (items : List Item) (hs : List HeapList) (h : HeapList) → find_heap start hs ≡ Some h
    → (let p : HeapList = record { kind = h.kind; start = h.start; end = h.end; items = items } in find_heap start (heaps_with_items start items hs) ≡ Some p)
found_held start items [] h e = absurd (let none : None ≡ Some h = e in cc)
found_held start items (g ∷ hs) h e = elim (cases_Bool (g.start == start)) [
  | inl here ↦
      let e' = rw here at e in
      let same : g ≡ h = cc in
      rw (here, here) (ap (λ (x : HeapList). let p : HeapList = record { kind = x.kind; start = x.start; end = x.end; items = items } in Some p) same)
  | inr other ↦ rw (other, other) (found_held start items hs h (rw other at e))
]

pub claim_part : (m n : AddressMap) (kind : Kind) (heap block total needed new : ℕ) → (c : IsClaimed m n kind heap block total needed new)
    → (let p : HeapList = record { kind = kind; start = heap; end = end_at m heap; items = c.claim.items } in find_heap heap (store_of n).heaps ≡ Some p)
claim_part m n kind heap block total needed new c =
    ap (λ (s : Store). find_heap heap s.heaps) c.store ∙ found_held heap c.claim.items (store_of m).heaps (part_at kind m heap (end_at m heap)) c.found

-- no byte that the move writes is one that a heap spells
payload_free : (m n : AddressMap) (kind : Kind) (heap block total needed new a : ℕ) → total < needed → (c : IsClaimed m n kind heap block total needed new)
    → new ≤ a → a < new + (total - 4) → are_owned (store_of n).heaps a ≡ false
payload_free m n kind heap block total needed new a larger c low high =
    let i : AreInside m n heap block total needed new = are_inside m n kind heap block total needed new larger c in
    let h : HeapList = part_at kind m heap (end_at m heap) in
    let s : Store = store_of m in
    let there : IsHeapIn s.bytes heap (end_at m heap) (items_at m heap) = found_heap s.bytes heap s.heaps h c.old.heaps c.found in
    let inside : in_range heap (end_at m heap) a ≡ true =
    rw (le-leb heap a (omega (arith, i.low, low)), lt-ltb a (heap + end_at m heap) (omega (arith, i.high, i.least, high, larger))) refl in
    subst (λ (t : Store). are_owned t.heaps a ≡ false) (sym c.store)
    (new_unowned s.bytes h c.claim.items new needed a s.heaps there c.heap_then.totals c.keeps c.fresh c.unheld low (omega (arith, high, larger)) inside
    c.old.heaps (are_others s.bytes heap s.heaps h c.old.heaps c.found))

-- what is so when the bytes are copied
pub record IsCopied (m n p : AddressMap) (kind : Kind) (heap block total needed new : ℕ) (claim : Claim) : Type 0 where
  pub store : store_of p ≡ store_after_copy (store_holding (store_of m) (part_at kind m heap (end_at m heap)) claim.items) block new (total - 4)
  pub sound : IsSound (store_of p)
  pub classes : AreClasses p
  pub there : HasHeapAt p heap
  pub items : items_at p heap ≡ claim.items
  pub found : find_heap heap (store_of p).heaps ≡ Some (part_at kind p heap (end_at p heap))
  pub live : is_some (live_total block (heap + 16) (items_at p heap)) ≡ true

store_bytes-same : (b c : Bytes) (s : Store) → b ≡ c
    → (let x : Store = record s { bytes = b } in let y : Store = record s { bytes = c } in x ≡ y)
store_bytes-same b c s e = λ i. record s { bytes = e i }

pub is_copied : (m n p : AddressMap) (kind : Kind) (heap block total needed new : ℕ) → total < needed → (c : IsClaimed m n kind heap block total needed new)
    → layout p ≡ layout n → ((a : ℕ) → byte_at p a ≡ with_moved_at (byte_at n) block new (total - 4) a) → class_of p ≡ class_of n
    → IsCopied m n p kind heap block total needed new c.claim
is_copied m n p kind heap block total needed new larger c same bytes marks =
    let kept : IsKept n p = heads_kept n p same marks c.sound (λ a owned. bytes a ∙ elim (in_range-cases new (total - 4) a) [
      | inl r ↦ absurd (both_ways (are_owned (store_of n).heaps a) (payload_free m n kind heap block total needed new a larger c r.1 r.2) owned)
      | inr r ↦ rw r.0 refl
    ]) in
    let moved_bytes : bytes_of p ≡ (store_after_copy (store_of n) block new (total - 4)).bytes =
    stored_moved n p block new (total - 4) same bytes ∙ ap (λ (b : Bytes). let c : Bytes = record { mapped = b.mapped; at = with_moved_at b.at block new (total - 4) } in c) (sym (store_bytes n)) in
    let store : store_of p ≡ store_after_copy (store_of n) block new (total - 4) = kept.store ∙ store_bytes-same _ _ (store_of n) moved_bytes in
    let part : HeapList = record { kind = kind; start = heap; end = end_at m heap; items = c.claim.items } in
    let found : find_heap heap (store_of p).heaps ≡ Some part =
    ap (λ (s : Store). find_heap heap s.heaps) kept.store ∙ claim_part m n kind heap block total needed new c in
    let known : part ≡ part_at kind p heap (end_at p heap) = part_known p heap part kept.sound found in
    let items : items_at p heap ≡ c.claim.items = sym (ap (λ (x : HeapList). x.items) known) in
    let found' : find_heap heap (store_of p).heaps ≡ Some (part_at kind p heap (end_at p heap)) = found ∙ ap Some known in
    record {
      store = store ∙ ap (λ (s : Store). store_after_copy s block new (total - 4)) c.store;
      sound = kept.sound;
      classes = classes_same n p (ap (λ (s : Store). s.heaps) kept.store) (λ a i. marks i a) c.classes;
      there = heap_there kind p heap (end_at p heap) kept.sound found';
      items = items;
      found = found';
      live = ap (λ (xs : List Item). is_some (live_total block (heap + 16) xs)) items ∙ ap is_some c.still;
    }

-- the whole move
then_given : (s t : Store) (r : Result (Store × Unit {0}) ErrorNumber) (n : ℕ) → Gives s r (let done : Result (Unit {0}) ErrorNumber = Ok tt in done) t → (u : Store) → Gives u (bind r (λ x. Ok (x.0, n))) (Ok n) t
then_given s t (Ok x) n left u = (left.0, refl)
then_given s t (Err e) n left u = absurd left

pub record IsMoved (m q : AddressMap) (heap block total needed new : ℕ) : Type 0 where
  pub store : (h : HeapList) → find_heap heap (store_of m).heaps ≡ Some h → Gives (store_of m) (store_after_move (store_of m) h block total needed) (Ok new) (store_of q)
  pub kept : KeepsRest m q

-- a claim leaves the starts of all heaps
pub held_listed : (start at len : ℕ) (items : List Item) (hs : List HeapList) → holds_heap (heaps_with_items start items hs) at len ≡ holds_heap hs at len
held_listed start at len items [] = refl
held_listed start at len items (g ∷ hs) =
    let rest : holds_heap (heaps_with_items start items hs) at len ≡ holds_heap hs at len = held_listed start at len items hs in
    elim (cases_Bool (g.start == start)) [
      | inl here ↦ rw here (ap (λ (t : Bool). starts_in at len g || t) rest)
      | inr other ↦ rw other (ap (λ (t : Bool). starts_in at len g || t) rest)
    ]

pub is_moved : (m n p q : AddressMap) (kind : Kind) (heap block total needed new : ℕ) (c : IsClaimed m n kind heap block total needed new)
    → IsCopied m n p kind heap block total needed new c.claim → layout p ≡ layout n
    → has_image block (regions p) ≡ false → holds_anchor (store_of m).anchor block (Some total) ≡ false
    → holds_heap (store_of m).heaps block (total - 4) ≡ false → Releases p q heap (end_at p heap) (Ok tt) (items_after_release block (heap + 16) (items_at p heap))
    → IsMoved m q heap block total needed new
is_moved m n p q kind heap block total needed new c d same own free empty releases =
    let live : live_total block (heap + 16) (items_at p heap) ≡ Some total =
    ap (λ (xs : List Item). live_total block (heap + 16) xs) d.items ∙ c.still in
    let anchors : anchor_of p ≡ (store_of m).anchor = store_anchor p ∙ ap (λ (s : Store). s.anchor) d.store in
    let free' : has_anchor_in p heap block ≡ false = rw (anchors, live) free in
    let s : Store = store_of m in
    let part : HeapList = part_at kind m heap (end_at m heap) in
    let state : IsSoundMap p = record { sound = d.sound; classes = d.classes } in
    let here : HasBlock p block total = record { heap = part_at kind p heap (end_at p heap); found = d.found; live = live } in
    let empty' : holds_heap (store_of p).heaps block (total - 4) ≡ false =
    ap (λ (t : Store). holds_heap t.heaps block (total - 4)) d.store ∙ held_listed heap block (total - 4) c.claim.items s.heaps ∙ empty in
    let left = free_given kind p p q heap block (end_at p heap) total state d.found own live free' (forgets_unheld p block total state here empty') releases in
    let back : Gives (store_of p) (gave_back (store_after_copy (store_holding s part c.claim.items) block new (total - 4)) heap block) (Ok tt) (store_of q) =
    subst (λ (t : Store). Gives (store_of p) (gave_back t heap block) (Ok tt) (store_of q)) d.store left.0 in
    let over : Gives s (handed_over heap block (total - 4) (store_holding s part c.claim.items) new) (Ok new) (store_of q) =
    then_given (store_of p) (store_of q) _ new back s in
    let given : Gives s (store_after_move s part block total needed) (Ok new) (store_of q) =
    rw (c.claims, empty) (subst (λ (a : ℕ). Gives s (handed_over heap block (total - 4) (store_holding s part c.claim.items) a) (Ok new) (store_of q)) c.place over) in
    let layout_same : layout p ≡ layout m = same ∙ c.same in
    record {
      store = λ h found. let e : Some part ≡ Some h = sym c.found ∙ found in let same : part ≡ h = cc in
          subst (λ (x : HeapList). Gives s (store_after_move s x block total needed) (Ok new) (store_of q)) same given;
      kept = record {
        sound = left.1.sound;
        classes = left.1.classes;
        others = left.1.others ∙ layout-others m p layout_same;
        mapping = left.1.mapping ∙ layout-mapping m p layout_same;
        records = left.1.records ∙ ap (filter (stays (store_of q).heaps)) (layout-regions m p layout_same);
      };
    }

pub moved_probes : (m n p : AddressMap) (kind : Kind) (heap block total needed new : ℕ) (h : HeapList) (c : IsClaimed m n kind heap block total needed new)
    → IsCopied m n p kind heap block total needed new c.claim → holds_heap (store_of m).heaps block (total - 4) ≡ false
    → find_heap heap (store_of m).heaps ≡ Some h
    → looked_at needed (items_at m heap) + free_below block (heap + 16) (items_at p heap)
    ≡ move_probes (store_of m) h block total needed (claim_in_items needed (h.end - 16) h.items)
moved_probes m n p kind heap block total needed new h c d empty found =
    let part : HeapList = part_at kind m heap (end_at m heap) in
    let e : Some part ≡ Some h = sym c.found ∙ found in
    let same : part ≡ h = cc in
    let probes : looked_at needed (items_at m heap) + free_below block (heap + 16) (items_at p heap)
    ≡ move_probes (store_of m) part block total needed (claim_in_items needed (end_at m heap - 16) (items_at m heap)) =
    rw (c.claims, d.items, empty) refl in
    subst (λ (x : HeapList). looked_at needed (items_at m heap) + free_below block (heap + 16) (items_at p heap)
    ≡ move_probes (store_of m) x block total needed (claim_in_items needed (x.end - 16) x.items)) same probes

pub probes_fit : (m n p : AddressMap) (kind : Kind) (heap block total needed new : ℕ) (c : IsClaimed m n kind heap block total needed new)
    → IsCopied m n p kind heap block total needed new c.claim → HasHeapAt m heap
    → looked_at needed (items_at m heap) + free_below block (heap + 16) (items_at p heap) < 2 ^ 32
probes_fit m n p kind heap block total needed new c d there =
    let top : heap + end_at p heap ≤ 2 ^ 26 = heap_below p heap (end_at p heap) (items_at p heap) d.there in
    omega (
      arith,
      looked-below m heap (end_at m heap) needed (items_at m heap) there,
      below_few block (heap + 16) (items_at p heap) d.there.totals,
      d.there.inside,
    )
