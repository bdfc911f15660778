-- The heap that starts at an address is one of those that memory spells.
use Rattle.std.proofs.Common.{true, false, ap, sym, ◌∙◌, ℕ, ◌==◌, ◌-◌, inl, ◌≡◌, [], List, subst, Some, inr, ◌∷◌, None, refl, Err, ◌+◌, Ok}
use Rattle.std.proofs.lemmas.Bool.{eqb-true, cases_Bool, or_parts}
use Rattle.std.specs.List.{list_any}
use Rattle.os_heap_words.specs.ErrorNumber.TheVariants.{HeapBadDesc}
use Rattle.os_heap_words.specs.Bytes.{Bytes}
use Rattle.os_heap_words.specs.Items.{size_of}
use Rattle.os_heap_words.specs.Records.{is_heap_kind}
use Rattle.os_heap_words.specs.Memory.{regions, bytes_of}
use Rattle.os_heap_words.specs.AddressMap.{AddressMap}
use Rattle.os_heap_words.specs.Region.{Region}
use Rattle.os_heap_words.specs.lists.Counts.{larger, largest_free, free_total, round_down_8, free_count}
use Rattle.os_heap_words.specs.lists.Heap.{HeapList, IsHeapIn}
use Rattle.os_heap_words.specs.Outcomes.{IsHeapAt, items_at}
use Rattle.os_heap.specs.Store.{heaps_in, find_heap, AreHeapsIn, IsSound, heap_in, store_of, Store}
use Rattle.os_heap.specs.Calls.{heap_description, items_of, with_end}
use Rattle.os_heap.specs.Nesting.{is_crossed}
use Rattle.os_heap.specs.Probes.{describe_probes}

pub found_start : (start : ℕ) (hs : List HeapList) (h : HeapList) → find_heap start hs ≡ Some h → h.start ≡ start
found_start start [] h e = cc
found_start start (g ∷ hs) h e =
    elim (cases_Bool (g.start == start)) [
      | inl here ↦
          let e' = rw here at e in
          let same : g ≡ h = cc in
          subst (λ (x : HeapList). x.start ≡ start) same (eqb-true g.start start here)
      | inr other ↦ found_start start hs h (rw other at e)
    ]

pub found_heap : (b : Bytes) (start : ℕ) (hs : List HeapList) (h : HeapList) → AreHeapsIn b hs → find_heap start hs ≡ Some h
    → IsHeapIn b h.start h.end h.items
found_heap b start [] h parts e = absurd (let none : None ≡ Some h = e in cc)
found_heap b start (g ∷ hs) h parts e =
    elim (cases_Bool (g.start == start)) [
      | inl here ↦
          let e' = rw here at e in
          let same : g ≡ h = cc in
          subst (λ (x : HeapList). IsHeapIn b x.start x.end x.items) same parts.0
      | inr other ↦ found_heap b start hs h parts.1.1 (rw other at e)
    ]

-- the same of the recorded range that was found
pub found_at : (m : AddressMap) (heap : ℕ) (r : Region) → IsSound (store_of m) → r.at ≡ heap
    → find_heap heap (store_of m).heaps ≡ Some (heap_in (bytes_of m) r) → IsHeapAt m heap r.len
unfolding store_of
found_at m heap r sound at e =
    let is : IsHeapAt m r.at r.len = found_heap (bytes_of m) heap (store_of m).heaps (heap_in (bytes_of m) r) sound.heaps e in
    rw at at is

-- what the calls that read answer of it
pub described_none : (s : Store) (heap : ℕ) → find_heap heap s.heaps ≡ None → heap_description s heap ≡ Err HeapBadDesc
unfolding heap_description
described_none s heap e = rw e refl

pub probes_none : (s : Store) (heap : ℕ) → find_heap heap s.heaps ≡ None → describe_probes s heap ≡ 0
unfolding describe_probes
probes_none s heap e = rw e refl

pub items_none : (s : Store) (heap : ℕ) → find_heap heap s.heaps ≡ None → items_of s heap ≡ None
unfolding items_of
items_none s heap e = rw e refl

pub described_found : (m : AddressMap) (heap : ℕ) (r : Region) → r.at ≡ heap → find_heap heap (store_of m).heaps ≡ Some (heap_in (bytes_of m) r)
    → heap_description (store_of m) heap ≡ Ok (
      larger (largest_free (items_at m heap)) (round_down_8 (r.len - (16 + size_of (items_at m heap)))) - 4,
      free_total (items_at m heap) + (r.len - (16 + size_of (items_at m heap))),
    )
unfolding heap_description
described_found m heap r at e = rw (e, ← at) refl

pub probes_found : (m : AddressMap) (heap : ℕ) (r : Region) → r.at ≡ heap → find_heap heap (store_of m).heaps ≡ Some (heap_in (bytes_of m) r)
    → describe_probes (store_of m) heap ≡ free_count (items_at m heap)
unfolding describe_probes
probes_found m heap r at e = rw (e, ← at) refl

pub items_found : (m : AddressMap) (heap : ℕ) (r : Region) → r.at ≡ heap → find_heap heap (store_of m).heaps ≡ Some (heap_in (bytes_of m) r)
    → items_of (store_of m) heap ≡ Some (items_at m heap)
unfolding items_of
items_found m heap r at e = rw (e, ← at) refl

-- and it is recorded as a heap
pub found_kind : (b : Bytes) (start : ℕ) (rs : List Region) (h : HeapList) → find_heap start (heaps_in b rs) ≡ Some h → is_heap_kind h.kind ≡ true
found_kind b start [] h e = absurd (let none : None ≡ Some h = e in cc)
found_kind b start (r ∷ rs) h e = elim (cases_Bool (is_heap_kind r.kind)) [
  | inr other ↦ found_kind b start rs h (rw other at e)
  | inl heap ↦
      let e' = rw heap at e in
      elim (cases_Bool (r.at == start)) [
        | inr later ↦ found_kind b start rs h (rw later at e')
        | inl here ↦
            let e'' = rw here at e' in
            let same : heap_in b r ≡ h = cc in
            subst (λ (x : HeapList). is_heap_kind x.kind ≡ true) same heap
      ]
]

pub found_heap_kind : (m : AddressMap) (start : ℕ) (h : HeapList) → find_heap start (store_of m).heaps ≡ Some h → is_heap_kind h.kind ≡ true
unfolding store_of
found_heap_kind m start h e = found_kind (bytes_of m) start (regions m) h e

-- a heap got another end
abbrev pub with_other_end : HeapList → ℕ → HeapList
with_other_end k end = record { kind = k.kind; start = k.start; end = end; items = k.items }

pub found_ended : (start end : ℕ) (hs : List HeapList) (h : HeapList) → find_heap start hs ≡ Some h
    → find_heap start (with_end start end hs) ≡ Some (with_other_end h end)
found_ended start end [] h e = absurd (let none : None ≡ Some h = e in cc)
found_ended start end (g ∷ hs) h e = elim (cases_Bool (g.start == start)) [
  | inl here ↦
      let e' = rw here at e in
      let same : g ≡ h = cc in
      rw (here, here) (ap (λ (x : HeapList). Some (with_other_end x end)) same)
  | inr other ↦ rw (other, other) (found_ended start end hs h (rw other at e))
]

-- a heap that is found is one of those that a range does not cross
pub uncrossed_found : (at size start : ℕ) (hs : List HeapList) (h : HeapList) → list_any (is_crossed at size) hs ≡ false → find_heap start hs ≡ Some h
    → is_crossed at size h ≡ false
uncrossed_found at size start [] h none found = absurd (let no : None ≡ Some h = found in cc)
uncrossed_found at size start (g ∷ hs) h none found =
    let each = or_parts (is_crossed at size g) (list_any (is_crossed at size) hs) none in
    elim (cases_Bool (g.start == start)) [
      | inl here ↦
          let found' = rw here at found in
          let same : g ≡ h = cc in
          ap (is_crossed at size) (sym same) ∙ each.0
      | inr other ↦ uncrossed_found at size start hs h each.1 (rw other at found)
    ]
