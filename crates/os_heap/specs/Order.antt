-- The order in which ranges are recorded. A store has heaps and other ranges as two lists; this says how they stand among each other.
use Rattle.std.specs.Prelude.{ℕ, ◌≡◌, Bool, not, ◌||◌, is_some, List, [], ◌∷◌, ◌++◌, map}
use Rattle.std.specs.List.{filter}
use Rattle.os_heap_words.specs.AddressMap.{AddressMap}
use Rattle.os_heap_words.specs.Kind.{Kind}
use Rattle.os_heap_words.specs.Region.{Region}
use Rattle.os_heap_words.specs.Memory.{regions}
use Rattle.os_heap_words.specs.Records.{is_heap_kind}
use Rattle.os_heap_words.specs.lists.Heap.{HeapList}
use Rattle.os_heap.specs.Store.{find_heap, store_of}

-- what a record says beside its length: what the range is for, and where it starts
abbrev pub kind_and_start : Region → Kind × ℕ
kind_and_start r = (r.kind, r.at)

-- the same of all records, the first recorded first
abbrev pub order_of : AddressMap → List (Kind × ℕ)
order_of m = map kind_and_start (regions m)

-- no record comes or goes, and each stands where it stood
abbrev pub KeepsOrder : AddressMap → AddressMap → Type 0
KeepsOrder m n = order_of n ≡ order_of m

-- one comes, behind all others
abbrev pub AddsRecord : AddressMap → AddressMap → Kind → ℕ → Type 0
AddsRecord m n kind at = order_of n ≡ order_of m ++ (kind, at) ∷ []

-- Where heaps are forgotten their records are gone, and each other one stands where it stood.
abbrev pub stays : List HeapList → Region → Bool
stays heaps r = not (is_heap_kind r.kind) || is_some (find_heap r.at heaps)

abbrev pub LosesHeaps : AddressMap → AddressMap → Type 0
LosesHeaps m n = regions n ≡ filter (stays (store_of n).heaps) (regions m)

-- The same of kinds and places alone, where a heap that is left may have another end.
abbrev pub stays_at : List HeapList → Kind × ℕ → Bool
stays_at heaps r = not (is_heap_kind r.0) || is_some (find_heap r.1 heaps)

abbrev pub LosesInOrder : AddressMap → AddressMap → Type 0
LosesInOrder m n = order_of n ≡ filter (stays_at (store_of n).heaps) (order_of m)
