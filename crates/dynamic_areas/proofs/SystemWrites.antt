-- What writes to the system pages leave of the store: every heap keeps its list.
use Rattle.profile.specs.MemoryMap.{system_start}
use Rattle.std.proofs.Common.{inl, inr, ◌≡◌, ℕ, false, List, [], ◌∷◌, sym, ap}
use Rattle.std.proofs.lemmas.Bool.{true≢false}
use Rattle.os_heap.specs.AddressMap.{AddressMap}
use Rattle.os_heap.specs.Region.{Region}
use Rattle.os_heap.specs.Bytes.{in_range}
use Rattle.os_heap.specs.Memory.{byte_at, class_of, layout}
use Rattle.os_heap.specs.lists.Heap.{HeapList}
use Rattle.os_heap.specs.Store.{Store, AreClasses, ArePlaced, IsClearOfHeaps, IsSound, store_of}
use Rattle.os_heap.proofs.Frame.{IsKept, classes_same, clear_kept}
use Rattle.os_heap.proofs.Stores.{image_kind, placed_either}
use Rattle.dynamic_areas.specs.Ground.{IsRecorded, system_pages_range}

pub system_clear : (hs : List HeapList) (rs : List Region) → ArePlaced hs rs → IsRecorded system_pages_range rs → IsClearOfHeaps system_start 0x3000 hs
system_clear hs [] placed there = absurd there
system_clear hs (r ∷ rs) placed there = elim there [
  | inr later ↦ system_clear hs rs placed.1 later
  | inl here ↦ elim (placed_either hs system_pages_range (rw here at placed.0)) [
    | inl clear ↦ clear
    | inr image ↦ absurd (true≢false (sym (image_kind hs system_pages_range image)))
  ]
]

pub system_kept : (m n : AddressMap) → layout n ≡ layout m → class_of n ≡ class_of m → IsSound (store_of m) → IsRecorded system_pages_range (store_of m).others
    → ((a : ℕ) → in_range system_start 0x3000 a ≡ false → byte_at n a ≡ byte_at m a) → IsKept m n
system_kept m n same marks sound there kept =
    clear_kept m n system_start 0x3000 same marks sound (system_clear (store_of m).heaps (store_of m).others sound.placed there) kept

-- where every heap keeps its list, the marks stay those of the lists
pub kept_classes : (m n : AddressMap) → IsKept m n → class_of n ≡ class_of m → AreClasses m → AreClasses n
kept_classes m n kept marks same = classes_same m n (ap (λ (s : Store). s.heaps) kept.store) (λ a i. marks i a) same
