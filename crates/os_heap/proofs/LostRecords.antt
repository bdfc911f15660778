-- The records when heaps are forgotten: just those of the heaps that are left, and all others.
use Rattle.std.proofs.Common.{Bool, List, ℕ, [], ◌∷◌, ◌≡◌, ◌==◌, ◌||◌, ◌∙◌, Some, None, is_some, not, refl, sym, ap, inl, inr}
use Rattle.std.proofs.lemmas.Bool.{cases_Bool}
use Rattle.std.proofs.lemmas.List.Elements.{filter_agree}
use Rattle.std.specs.List.{filter}
use Rattle.os_heap_words.specs.Bytes.{Bytes}
use Rattle.os_heap_words.specs.Memory.{bytes_of, layout, regions}
use Rattle.os_heap_words.specs.Records as record_of
use Rattle.os_heap_words.specs.Records.{is_guest_heap, is_heap_kind}
use Rattle.os_heap_words.specs.Item.{Item}
use Rattle.os_heap_words.specs.AddressMap.{AddressMap}
use Rattle.os_heap_words.specs.Region.{Region}
use Rattle.os_heap_words.specs.lists.Heap.{HeapList}
use Rattle.os_heap.proofs.Forgetting.{AreFound, are_found, find_gone, find_left}
use Rattle.os_heap.proofs.Frame.{layout-regions}
use Rattle.os_heap.proofs.GuestKinds.{guest_kind, plain_kind}
use Rattle.os_heap.specs.Calls.{heaps_with_items}
use Rattle.os_heap.specs.Forgetting.{starts_in, without_heaps_in}
use Rattle.os_heap.specs.Order.{LosesHeaps, stays}
use Rattle.os_heap.specs.Sound.{IsSoundMap, KeepsRest}
use Rattle.os_heap.specs.Store.{AreHeapsIn, IsSound, find_heap, heap_in, heaps_in, store_of}

-- the records without those of a range are those of the heaps that are left
records_left : (b : Bytes) (at len : ℕ) (all : List HeapList) (rs : List Region) → AreHeapsIn b all → AreFound all (heaps_in b rs)
    → record_of.without_heaps at len rs ≡ filter (stays (without_heaps_in at len all)) rs
records_left b at len all [] parts found = refl
records_left b at len all (r ∷ rs) parts found = elim (cases_Bool (is_heap_kind r.kind)) [
  | inr plain ↦
      let found' = rw plain at found in
      rw (plain_kind r.kind plain, plain) (ap (λ (qs : List Region). r ∷ qs) (records_left b at len all rs parts found'))
  | inl heap ↦
      let found' = rw heap at found in
      elim (cases_Bool (starts_in at len (heap_in b r))) [
        | inl gone ↦
            let none : find_heap r.at (without_heaps_in at len all) ≡ None = find_gone b at len r.at all (heap_in b r) parts found'.0 gone in
            rw (heap, guest_kind r.kind heap, gone, none) (records_left b at len all rs parts found'.1)
        | inr kept ↦
            let some : find_heap r.at (without_heaps_in at len all) ≡ Some (heap_in b r) = find_left at len r.at all (heap_in b r) found'.0 kept in
            rw (heap, guest_kind r.kind heap, kept, some) (ap (λ (qs : List Region). r ∷ qs) (records_left b at len all rs parts found'.1))
      ]
]

-- where no heap goes, no record does
records_same : (b : Bytes) (all : List HeapList) (rs : List Region) → AreFound all (heaps_in b rs) → filter (stays all) rs ≡ rs
records_same b all [] found = refl
records_same b all (r ∷ rs) found = elim (cases_Bool (is_heap_kind r.kind)) [
  | inr plain ↦ rw plain (ap (λ (qs : List Region). r ∷ qs) (records_same b all rs (rw plain at found)))
  | inl heap ↦
      let found' = rw heap at found in
      rw (heap, found'.0) (ap (λ (qs : List Region). r ∷ qs) (records_same b all rs found'.1))
]

pub loses_none : (m : AddressMap) → IsSound (store_of m) → LosesHeaps m m
unfolding store_of
loses_none m sound =
    sym (records_same (bytes_of m) (heaps_in (bytes_of m) (regions m)) (regions m) (are_found (bytes_of m) (heaps_in (bytes_of m) (regions m)) sound.heaps))

pub loses_range : (m n : AddressMap) (at len : ℕ) → IsSound (store_of m) → regions n ≡ record_of.without_heaps at len (regions m)
    → (store_of n).heaps ≡ without_heaps_in at len (store_of m).heaps → LosesHeaps m n
unfolding store_of
loses_range m n at len sound records heaps =
    let hs : List HeapList = heaps_in (bytes_of m) (regions m) in
    records ∙ records_left (bytes_of m) at len hs (regions m) sound.heaps (are_found (bytes_of m) hs sound.heaps)
    ∙ ap (λ (gs : List HeapList). filter (stays gs) (regions m)) (sym heaps)

-- another list of a heap changes no record, and takes none away
pub found_listed : (start at : ℕ) (items : List Item) (hs : List HeapList) → is_some (find_heap at (heaps_with_items start items hs)) ≡ is_some (find_heap at hs)
found_listed start at items [] = refl
found_listed start at items (g ∷ hs) =
    let rest : is_some (find_heap at (heaps_with_items start items hs)) ≡ is_some (find_heap at hs) = found_listed start at items hs in
    elim (cases_Bool (g.start == start)) [
      | inl here ↦ rw here (elim (cases_Bool (g.start == at)) [ inl there ↦ rw there refl | inr away ↦ rw away rest ])
      | inr other ↦ rw other (elim (cases_Bool (g.start == at)) [ inl there ↦ rw there refl | inr away ↦ rw away rest ])
    ]

listed_stays : (start : ℕ) (items : List Item) (hs : List HeapList) (r : Region) → stays (heaps_with_items start items hs) r ≡ stays hs r
listed_stays start items hs r = ap (λ (t : Bool). not (is_heap_kind r.kind) || t) (found_listed start r.at items hs)

pub loses_listed : (m k n : AddressMap) (start : ℕ) (items : List Item) → LosesHeaps m k → layout n ≡ layout k
    → (store_of n).heaps ≡ heaps_with_items start items (store_of k).heaps → LosesHeaps m n
loses_listed m k n start items lost same heaps =
    layout-regions k n same ∙ lost
    ∙ filter_agree (stays (store_of k).heaps) (stays (store_of n).heaps)
    (λ r. sym (listed_stays start items (store_of k).heaps r) ∙ ap (λ (hs : List HeapList). stays hs r) (sym heaps)) (regions m)

-- where the heaps are those that there were, whatever list one of them got, so are the records
pub loses_none_listed : (m n : AddressMap) (start : ℕ) (items : List Item) → IsSound (store_of m)
    → (store_of n).heaps ≡ heaps_with_items start items (store_of m).heaps → LosesHeaps m n → regions n ≡ regions m
loses_none_listed m n start items sound heaps lost =
    lost ∙ ap (λ (hs : List HeapList). filter (stays hs) (regions m)) heaps
    ∙ filter_agree (stays (heaps_with_items start items (store_of m).heaps)) (stays (store_of m).heaps) (listed_stays start items (store_of m).heaps) (regions m)
    ∙ sym (loses_none m sound)

pub loses_same : (m n : AddressMap) → IsSound (store_of m) → (store_of n).heaps ≡ (store_of m).heaps → LosesHeaps m n → regions n ≡ regions m
loses_same m n sound heaps lost = lost ∙ ap (λ (hs : List HeapList). filter (stays hs) (regions m)) heaps ∙ sym (loses_none m sound)

-- where nothing is changed
pub rest_kept : (m : AddressMap) → IsSoundMap m → KeepsRest m m
rest_kept m state = record { sound = state.sound; classes = state.classes; others = refl; mapping = refl; records = loses_none m state.sound }
