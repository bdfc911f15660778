-- A block that is not moved: where no room is for a new one, or a heap lies in it.
use Rattle.std.proofs.Common.{◌≡◌, List, ℕ, Some, ◌-◌, subst, sym, None, Option, true, refl, ◌+◌, Ok, Err, Result, ap, arith}
use Rattle.std.specs.Result.{result_and}
use Rattle.os_heap_words.specs.Outcome.{Gives}
use Rattle.os_heap_words.specs.ErrorNumber.{ErrorNumber}
use Rattle.os_heap_words.specs.ErrorNumber.TheVariants.{BlockHoldsHeap, HeapNoRoom}
use Rattle.os_heap_words.specs.Item.{Item}
use Rattle.os_heap_words.specs.AddressMap.{AddressMap}
use Rattle.os_heap_words.specs.lists.Counts.{looked_at}
use Rattle.os_heap_words.specs.lists.Heap.{HeapList}
use Rattle.os_heap_words.specs.lists.Lists.{Claim, claim_in_items}
use Rattle.os_heap.proofs.Calls.{part_at}
use Rattle.os_heap.proofs.LostRecords.{rest_kept}
use Rattle.os_heap.specs.Calls.{store_after_move}
use Rattle.os_heap.specs.Probes.{move_probes}
use Rattle.os_heap.specs.Forgetting.{holds_heap}
use Rattle.os_heap_words.specs.Outcomes.{items_at, end_at, Claims, room_of}
use Rattle.os_heap.specs.Sound.{IsSoundMap, KeepsRest}
use Rattle.os_heap.specs.Store.{IsSound, find_heap, store_of, Store}
use Rattle.os_heap.proofs.Moving.{part_known}

-- where there is no room for a new block
record IsNone (m n : AddressMap) (e : ErrorNumber) (o : Option Claim) : Type 0 where
  none : o ≡ None
  error : e ≡ HeapNoRoom
  same : n ≡ m

is_none : (m n : AddressMap) (start end : ℕ) (e : ErrorNumber) (o : Option Claim) → Claims m n start end (Err e) o → IsNone m n e o
is_none m n start end e None claims = let no : Err e ≡ Err HeapNoRoom = claims.0 in record { none = refl; error = cc; same = claims.1 }
is_none m n start end e (Some c) claims = absurd (let ok : Err e ≡ Ok (start + 16 + c.offset + 4) = claims.0 in cc)

pub is_refused : (m n : AddressMap) (heap block total needed : ℕ) (h : HeapList) (answer : Result ℕ ErrorNumber) (e : ErrorNumber) → IsSound (store_of m)
    → find_heap heap (store_of m).heaps ≡ Some h
    → Claims m n heap (end_at m heap) answer (claim_in_items needed (end_at m heap - 16) (items_at m heap)) → answer ≡ Err e
    → Gives (store_of m) (store_after_move (store_of m) h block total needed) answer (store_of n)
    × (looked_at needed (items_at m heap) ≡ move_probes (store_of m) h block total needed (claim_in_items needed (h.end - 16) h.items))
is_refused m n heap block total needed h answer e sound found claims err =
    let end : ℕ = end_at m heap in
    let items : List Item = items_at m heap in
    let part : HeapList = part_at h.kind m heap end in
    let same : part ≡ h = sym (part_known m heap h sound found) in
    let r : IsNone m n e (claim_in_items needed (end - 16) items) = is_none m n heap end e (claim_in_items needed (end - 16) items)
    (subst (λ (a : Result ℕ ErrorNumber). Claims m n heap end a (claim_in_items needed (end - 16) items)) err claims) in
    let given : Gives (store_of m) (store_after_move (store_of m) part block total needed) answer (store_of n) = rw (err, r.none) (r.error, ap store_of r.same) in
    let probes : looked_at needed items ≡ move_probes (store_of m) part block total needed (claim_in_items needed (end - 16) items) = rw r.none refl in (
      subst (λ (x : HeapList). Gives (store_of m) (store_after_move (store_of m) x block total needed) answer (store_of n)) same given,
      subst (λ (x : HeapList). looked_at needed items ≡ move_probes (store_of m) x block total needed (claim_in_items needed (x.end - 16) x.items)) same probes,
    )

-- a claim that was refused changed nothing
pub refused_kept : (m n : AddressMap) (heap needed : ℕ) (answer : Result ℕ ErrorNumber) (e : ErrorNumber) → IsSoundMap m
    → Claims m n heap (end_at m heap) answer (claim_in_items needed (end_at m heap - 16) (items_at m heap)) → answer ≡ Err e → KeepsRest m n
refused_kept m n heap needed answer e state claims err =
    let end : ℕ = end_at m heap in
    let items : List Item = items_at m heap in
    let r : IsNone m n e (claim_in_items needed (end - 16) items) = is_none m n heap end e (claim_in_items needed (end - 16) items)
    (subst (λ (a : Result ℕ ErrorNumber). Claims m n heap end a (claim_in_items needed (end - 16) items)) err claims) in
    rw r.same (rest_kept m state)

-- a heap lies in the block, which cannot stay where it is
held_back : (s : Store) (h : HeapList) (block total needed : ℕ) (o : Option Claim) → claim_in_items needed (h.end - 16) h.items ≡ o
    → holds_heap s.heaps block (total - 4) ≡ true
    → (let other : Result ℕ ErrorNumber = Err BlockHoldsHeap in Gives s (store_after_move s h block total needed) (result_and (room_of o) other) s) × (looked_at needed h.items ≡ move_probes s h block total needed o)
held_back s h block total needed None is held = (rw is (refl, refl), refl)
held_back s h block total needed (Some c) is held = (rw (is, held) (refl, refl), rw held (omega arith))

pub is_held_back : (m : AddressMap) (heap block total needed : ℕ) (h : HeapList) → IsSound (store_of m) → find_heap heap (store_of m).heaps ≡ Some h
    → holds_heap (store_of m).heaps block (total - 4) ≡ true
    → (let other : Result ℕ ErrorNumber = Err BlockHoldsHeap in
    Gives (store_of m) (store_after_move (store_of m) h block total needed) (result_and (room_of (claim_in_items needed (end_at m heap - 16) (items_at m heap))) other) (store_of m))
    × (looked_at needed (items_at m heap) ≡ move_probes (store_of m) h block total needed (claim_in_items needed (h.end - 16) h.items))
is_held_back m heap block total needed h sound found held =
    let end : ℕ = end_at m heap in
    let items : List Item = items_at m heap in
    let part : HeapList = part_at h.kind m heap end in
    let same : part ≡ h = sym (part_known m heap h sound found) in
    let both = held_back (store_of m) part block total needed (claim_in_items needed (end - 16) items) refl held in
    let other : Result ℕ ErrorNumber = Err BlockHoldsHeap in
    let answer : Result ℕ ErrorNumber = result_and (room_of (claim_in_items needed (end - 16) items)) other in (
      subst (λ (x : HeapList). Gives (store_of m) (store_after_move (store_of m) x block total needed) answer (store_of m)) same both.0,
      subst (λ (x : HeapList). looked_at needed items ≡ move_probes (store_of m) x block total needed (claim_in_items needed (x.end - 16) x.items)) same both.1,
    )
