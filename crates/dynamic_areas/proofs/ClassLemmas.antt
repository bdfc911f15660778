-- Which words are marked while pages come and go: those that the heaps spell, as before.
use Rattle.std.proofs.Common.{◌≡◌, ℕ, List, false, ◌∙◌, sym, ap, inl, inr}
use Rattle.std.proofs.lemmas.Bool.{cases_Bool}
use Rattle.os_heap.specs.Bytes.{in_range, word_start}
use Rattle.os_heap.specs.Classes.{is_heap_class}
use Rattle.os_heap.specs.Memory.{bytes_of, class_of}
use Rattle.os_heap.proofs.Anchors.{unanchored}
use Rattle.os_heap.specs.Records.{anchor_among, HasNoAnchor, with_plain_at}
use Rattle.os_heap.specs.AddressMap.{AddressMap}
use Rattle.os_heap.specs.lists.Heap.{HeapList}
use Rattle.os_heap.specs.lists.Marks.{spells_any}
use Rattle.os_heap.specs.Store.{store_of, AreClasses, IsSound, IsClearOfHeaps}
use Rattle.os_heap.proofs.Frame.{clear_unowned}

pub no_anchor : (m : AddressMap) (at len : ℕ) → anchor_among (store_of m).anchor at len ≡ false → HasNoAnchor (class_of m) at len
unfolding store_of
no_anchor m at len none = unanchored m at len none

-- pages that no heap meets have no word of a heap, so nothing is lost with them
pub classes_unmapped : (m n : AddressMap) (at len : ℕ) → IsSound (store_of m) → IsClearOfHeaps at len (store_of m).heaps
    → (store_of n).heaps ≡ (store_of m).heaps → ((a : ℕ) → class_of n a ≡ with_plain_at (class_of m) at len a) → AreClasses m → AreClasses n
unfolding store_of
classes_unmapped m n at len sound clear heaps marks classes a =
    let kept : spells_any (store_of m).heaps (word_start a) ≡ spells_any (store_of n).heaps (word_start a) =
    ap (λ (hs : List HeapList). spells_any hs (word_start a)) (sym heaps) in
    elim (cases_Bool (in_range at len a)) [
      | inl inside ↦
          let plain = rw inside at (marks a) in
          ap is_heap_class plain ∙ sym (clear_unowned (bytes_of m) (store_of m).heaps at len a sound.heaps clear inside) ∙ kept
      | inr outside ↦
          let same = rw outside at (marks a) in
          ap is_heap_class same ∙ classes a ∙ kept
    ]
