-- The flex calls keep each heap in which no anchor lies, where an alloc names none there: they
-- write the store's own range and the words of anchors (Acorn C manual, "flex").
use Rattle.std.specs.Prelude.{ℕ, ◌≡◌, Bool, true, false, Some, Ok}
use Rattle.address_map.specs.Bytes.{in_range}
use Rattle.os_heap_words.specs.lists.Heap.{HeapList}
use Rattle.os_heap.specs.Store.{IsSound, Store, find_heap}
use Rattle.flex_store.specs.Calls.{FlexState, flex_after_init}
use Rattle.flex_store.specs.Runs.{Alloc, FlexCall, IsFlexCallDone}
use Rattle.flex_store.specs.declared.flex.Flex.{Flex}
use Rattle.law_machine.specs.sliding_stores.Ground.{flex_state, store_flexed, with_flex_record}
use Rattle.law_machine.specs.sliding_stores.FlexStore.{IsSpelledAt}
use Rattle.law_machine.specs.heap_calls.Laws.{KeepsHeap}

-- a heap that is there, and in whose range no anchor lies
pub record IsFreeOfAnchors (h : HeapList) (s : Store) : Type 0 where
  pub sound : IsSound s
  pub found : find_heap h.start s.heaps ≡ Some h
  pub anchors : (a : ℕ) → in_range h.start h.end a ≡ true → s.anchor a ≡ false

-- An alloc's anchor stands out of it.
abbrev pub NamesOutside : HeapList → FlexCall → Type 0
NamesOutside h (Alloc anchor size) = in_range h.start h.end anchor ≡ false
NamesOutside h other = Unit {0}

-- A call was done, and memory spells the flex store before it and after it.
pub record IsFlexDone (s t : Store) (f g : Flex) (call : FlexCall) (answer : Bool) : Type 0 where
  pub old : IsSpelledAt s f.extent
  pub new : IsSpelledAt t g.extent
  pub done : IsFlexCallDone (flex_state s f) call answer (flex_state t g)
  pub heaps : t.heaps ≡ s.heaps
  pub others : t.others ≡ s.others

abbrev pub FlexCallsKeepHeap : Type 0
FlexCallsKeepHeap =
    (s t : Store) (f g : Flex) (call : FlexCall) (answer : Bool) (h : HeapList) →
    IsFlexDone s t f g call answer
    → IsFreeOfAnchors h s → NamesOutside h call → KeepsHeap h s t

-- Init changes no byte.
abbrev pub FlexInitKeepsHeap : Type 0
FlexInitKeepsHeap =
    (s : Store) (f : Flex) (start end : ℕ) (v : FlexState) (h : HeapList) → IsFreeOfAnchors h s
    → flex_after_init s (flex_state s f) start end ≡ Ok (v, tt)
    → KeepsHeap h s (store_flexed (with_flex_record s start end) v)
