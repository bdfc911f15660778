-- Each turn of a machine's stores, a flex call or a slide of the module area, keeps a heap that a
-- guest made and in which no anchor lies.
use Rattle.std.specs.Prelude.{◌≡◌, true}
use Rattle.os_heap_words.specs.lists.Heap.{HeapList}
use Rattle.os_heap.specs.Calls.{has_own_size}
use Rattle.law_machine.specs.sliding_stores.Meaning.{AreStores, Stores, store_in}
use Rattle.law_machine.specs.sliding_stores.Turning.{Call, Init, Slide, FlexOrSlide, stores_after_step}
use Rattle.law_machine.specs.heap_frame.FlexLaws.{IsFreeOfAnchors, NamesOutside}
use Rattle.law_machine.specs.heap_calls.Laws.{KeepsHeap}

abbrev pub TurnsOutside : HeapList → FlexOrSlide → Type 0
TurnsOutside h (Init start end) = Unit {0}
TurnsOutside h (Call call) = NamesOutside h call
TurnsOutside h (Slide return_address) = Unit {0}

abbrev pub TurnsKeepHeap : Type 0
TurnsKeepHeap =
    (x : Stores) (turn : FlexOrSlide) (h : HeapList) → AreStores x → IsFreeOfAnchors h (store_in x)
    → has_own_size h.kind ≡ true → TurnsOutside h turn →
    KeepsHeap h (store_in x) (store_in (stores_after_step turn x))
