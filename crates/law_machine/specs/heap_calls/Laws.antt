-- Calls on a guest's heap are turns of that heap alone, and no other call of OS_Heap changes it.
use Rattle.std.specs.Prelude.{ℕ, ◌≡◌, ◌<◌, ◌+◌, ◌-◌, Bool, true, false, Some, is_some, Ok, List, [], ◌∷◌}
use Rattle.profile.specs.declared.reason.HeapReason.{HeapReason}
use Rattle.address_map.specs.Bytes.{in_range}
use Rattle.address_map.specs.declared.region.Region.{Region}
use Rattle.os_heap_words.specs.lists.Heap.{HeapList}
use Rattle.os_heap.specs.Calls.{OfHeap, has_own_size}
use Rattle.os_heap.specs.Forgetting.{holds_heap}
use Rattle.os_heap.specs.Nesting.{IsWithin}
use Rattle.os_heap.specs.Store.{Store, IsSound, find_heap, is_image}
use Rattle.law_machine.specs.heap_calls.Alone.{Alone, alone_in, call_given}
use Rattle.law_machine.specs.heap_calls.Lists.{AreSound, StoreCall, after, after_all, calls_on, is_call_to, is_on_heap, replies_on}
use Rattle.law_machine.specs.heap_calls.Turns.{call_on, heap_after_calls, heap_turn_of_result, replies, turn_of_call}

-- no anchor lies in a heap's range
abbrev pub HeapHasNoAnchor : Store → HeapList → Type 0
HeapHasNoAnchor s h = (a : ℕ) → in_range h.start h.end a ≡ true → s.anchor a ≡ false

-- Does an address lie in a heap's range, after its descriptor? Where a heap starts there, it lies
-- in a block of this one.
abbrev pub starts_inside : HeapList → ℕ → Bool
starts_inside h at = in_range (h.start + 16) (h.end - 16) at

-- no heap that a guest made lies in a heap
abbrev pub HoldsNoHeap : Store → HeapList → Type 0
HoldsNoHeap s h = holds_heap s.heaps (h.start + 16) (h.end - 16) ≡ false

-- no module image is recorded that has no bytes
abbrev pub AreImagesFull : List Region → Type 0
AreImagesFull [] = Unit {0}
AreImagesFull (r ∷ rs) = (is_image r.kind ≡ true → 0 < r.len) × AreImagesFull rs

-- a heap that a guest made, with no anchor in its range and no heap in it, in a store as machines
-- have it
pub record IsGuestHeap (s : Store) (h : HeapList) : Type 0 where
  pub sound : IsSound s
  pub found : find_heap h.start s.heaps ≡ Some h
  pub own : has_own_size h.kind ≡ true
  pub anchors : HeapHasNoAnchor s h
  pub alone : HoldsNoHeap s h
  pub images : AreImagesFull s.others

-- A call on the heap: the reply is that of one turn of the heap alone, and the heap is what that
-- turn leaves.
abbrev pub OwnCallsAreTurns : Type 0
OwnCallsAreTurns =
    (s : Store) (h : HeapList) (why : HeapReason) (block size : ℕ) → IsGuestHeap s h → is_on_heap why ≡ true
    → heap_turn_of_result (alone_in s h) (call_on s h.start why block size)
    ≡ turn_of_call (alone_in s h) (call_given s h why block size)

-- The heap that starts where it did is a guest's, and no anchor and no heap lies in it.
pub record HasHeapStill (t : Store) (start : ℕ) : Type 0 where
  pub heap : HeapList
  pub starts : heap.start ≡ start
  pub found : find_heap start t.heaps ≡ Some heap
  pub own : has_own_size heap.kind ≡ true
  pub anchors : HeapHasNoAnchor t heap
  pub alone : HoldsNoHeap t heap

-- So it is after each call on it that is done.
abbrev pub OwnCallsKeepHeap : Type 0
OwnCallsKeepHeap =
    (s t : Store) (h : HeapList) (why : HeapReason) (block size : ℕ) (answer : ℕ × ℕ) → IsGuestHeap s h →
    is_on_heap why ≡ true
    → call_on s h.start why block size ≡ Ok (t, answer) → HasHeapStill t h.start

-- The heap that starts at an address is recorded still. It was not forgotten.
abbrev pub IsNotForgotten : Store → ℕ → Type 0
IsNotForgotten t start = is_some (find_heap start t.heaps) ≡ true

-- A heap lies in a live block of another heap.
pub record LiesInBlock (s : Store) (h : HeapList) : Type 0 where
  pub outer : HeapList
  pub found : find_heap outer.start s.heaps ≡ Some outer
  pub within : IsWithin outer h

-- A heap is as it was: its list, its bytes, and which of them are anchors.
pub record KeepsHeap (h : HeapList) (s t : Store) : Type 0 where
  pub found : find_heap h.start t.heaps ≡ Some h
  pub bytes : (a : ℕ) → in_range h.start h.end a ≡ true → t.bytes.at a ≡ s.bytes.at a
  pub anchors : (a : ℕ) → in_range h.start h.end a ≡ true → t.anchor a ≡ s.anchor a

-- So it is after each other call that is done, on another heap or one that makes a heap, where that
-- one does not lie in this one. Only where this one lies in a block can it be forgotten instead. A
-- call on a heap round it changes none of its bytes.
abbrev pub OtherCallsKeepHeap : Type 0
OtherCallsKeepHeap =
    (s t : Store) (h : HeapList) (heap : ℕ) (why : HeapReason) (block size : ℕ) (answer : ℕ × ℕ) → IsSound s →
    IsSound t
    → find_heap h.start s.heaps ≡ Some h → is_call_to h.start heap why ≡ false → starts_inside h heap ≡ false
    → call_on s heap why block size ≡ Ok (t, answer) → (LiesInBlock s h → IsNotForgotten t h.start) →
    KeepsHeap h s t

-- The heap that starts at an address is left whole: it is recorded still, and no heap lies in it.
abbrev pub IsLeftWhole : Store → ℕ → Type 0
IsLeftWhole t start = OfHeap (HoldsNoHeap t) (find_heap start t.heaps)

-- So each call of a list leaves it that is on another heap, or makes a heap: none forgets it, and
-- none makes a heap in it.
abbrev pub AreLeftWhole : Store → ℕ → List StoreCall → Type 0
AreLeftWhole s start [] = Unit {0}
AreLeftWhole s start (c ∷ cs) = (is_call_to start c.heap c.why ≡ false → IsLeftWhole (after s c) start) ×
    AreLeftWhole (after s c) start cs

-- A list of calls on a heap and on others: the replies of those on it are those of a list of turns
-- of the heap alone, which is then what these leave.
pub record StandsAlone (s : Store) (start : ℕ) (w : Alone) (cs : List StoreCall) : Type 0 where
  pub replies : replies_on s start cs ≡ replies w (calls_on s start cs)
  pub still : HasHeapStill (after_all s cs) start
  pub now : alone_in (after_all s cs) still.heap ≡ heap_after_calls w (calls_on s start cs)

-- It is so where each store between is sound, and each call that is not on the heap leaves it
-- whole.
abbrev pub HeapsStandAlone : Type 0
HeapsStandAlone =
    (s : Store) (h : HeapList) (cs : List StoreCall) → IsGuestHeap s h → AreSound s cs →
    AreLeftWhole s h.start cs
    → StandsAlone s h.start (alone_in s h) cs

-- So in two stores where the heap alone is the same, two lists of calls that give it the same have
-- the same replies, and leave the same heap.
pub record AnswerAlike (s t : Store) (start : ℕ) (cs ds : List StoreCall) : Type 0 where
  pub replies : replies_on s start cs ≡ replies_on t start ds
  pub one : HasHeapStill (after_all s cs) start
  pub two : HasHeapStill (after_all t ds) start
  pub now : alone_in (after_all s cs) one.heap ≡ alone_in (after_all t ds) two.heap

abbrev pub StoresAnswerAlike : Type 0
StoresAnswerAlike =
    (s t : Store) (h : HeapList) (cs ds : List StoreCall) → IsGuestHeap s h → IsGuestHeap t h →
    AreSound s cs → AreSound t ds
    → AreLeftWhole s h.start cs → AreLeftWhole t h.start ds → alone_in s h ≡ alone_in t h →
    calls_on s h.start cs ≡ calls_on t h.start ds
    → AnswerAlike s t h.start cs ds
