-- What a write leaves of the heaps: where no byte of the words that they spell changes, memory spells the same lists.
use Rattle.std.proofs.Common.{Bool, ◌∙◌, ◌≡◌, [], List, ℕ, true, ◌∷◌, inl, refl, inr, ap, subst, sym, false, arith, ◌+◌, ◌%◌, ◌<◌, ◌||◌}
use Rattle.std.proofs.lemmas.Bool.{or_left, or_right, cases_Bool, both_ways, or_from, false_from_ne_true}
use Rattle.std.specs.List.{list_any}
use Rattle.os_heap_words.proofs.Bytes.{is_mapped-layout}
use Rattle.os_heap_words.specs.Bytes.{Bytes, word_start, word_at, in_range}
use Rattle.os_heap_words.specs.Classes.{is_heap_class}
use Rattle.os_heap_words.specs.Items.{is_heap_word, items_in}
use Rattle.os_heap_words.specs.Memory.{bytes_of, regions, layout, byte_at, class_of}
use Rattle.os_heap_words.specs.Records.{is_heap_kind}
use Rattle.os_heap_words.specs.Class.TheVariants as class
use Rattle.os_heap_words.specs.AddressMap.{AddressMap}
use Rattle.os_heap_words.specs.Region.{Region}
use Rattle.os_heap.proofs.FlexWords.{AreSameFlex, same_flex}
use Rattle.os_heap_words.proofs.ListsLemmas.HeadWords.{law_heap_frame, are_owned, byte_inside}
use Rattle.os_heap_words.proofs.ListsLemmas.Reading.{items_in-heap}
use Rattle.os_heap_words.specs.lists.Heap.{HeapList}
use Rattle.os_heap_words.specs.lists.Marks.{spells_any}
use Rattle.os_heap.specs.Store.{AreClasses, AreHeapsIn, heaps_in, store_of, others_in, IsSound, Store, owned_in, is_flex_word, IsClearOfHeaps}

-- all heaps are kept where no byte of their words changes
pub parts_kept : (b c : Bytes) (hs : List HeapList) → c.mapped ≡ b.mapped → ((a : ℕ) → are_owned hs a ≡ true → c.at a ≡ b.at a)
    → AreHeapsIn b hs → AreHeapsIn c hs
parts_kept b c [] mapping kept parts = tt
parts_kept b c (h ∷ hs) mapping kept parts = (
  law_heap_frame b c h.start h.end h.items mapping (λ a is. kept a (or_left _ (are_owned hs a) is)) parts.0,
  (parts.1.0, parts_kept b c hs mapping (λ a is. kept a (or_right (is_heap_word h.start h.items (word_start a)) _ is)) parts.1.1),
)

-- The recorded heaps have the lists that memory spells, whatever memory they were read from.
pub heaps_in-spelled : (b c : Bytes) (rs : List Region) → AreHeapsIn c (heaps_in b rs) → heaps_in c rs ≡ heaps_in b rs
heaps_in-spelled b c [] parts = refl
heaps_in-spelled b c (r ∷ rs) parts =
    elim (cases_Bool (is_heap_kind r.kind)) [
      | inl heap ↦
          let here = rw heap at parts in
          let items : items_in (word_at c.at) r.at ≡ items_in (word_at b.at) r.at = items_in-heap c r.at r.len (items_in (word_at b.at) r.at) here.0 in
          let rest : heaps_in c rs ≡ heaps_in b rs = heaps_in-spelled b c rs here.1.1 in
          rw (heap, items, rest) refl
      | inr other ↦
          let here = rw other at parts in
          let rest : heaps_in c rs ≡ heaps_in b rs = heaps_in-spelled b c rs here in
          rw (other, rest) refl
    ]

-- a store whose heaps memory spells anew, and whose records are the same
pub store_spelled : (m n : AddressMap) → regions n ≡ regions m → AreHeapsIn (bytes_of n) (store_of m).heaps
    → AreSameFlex (class_of m) (class_of n) → store_of n ≡ record (store_of m) { bytes = bytes_of n }
unfolding store_of
store_spelled m n same parts flex =
    let heaps : heaps_in (bytes_of n) (regions n) ≡ heaps_in (bytes_of m) (regions m) =
    rw same (heaps_in-spelled (bytes_of m) (bytes_of n) (regions m) parts) in
    let others : others_in (regions n) ≡ others_in (regions m) = ap others_in same in
    λ i. record { bytes = bytes_of n; heaps = heaps i; others = others i; anchor = λ a. flex.anchors a i; header = λ a. flex.headers a i }

pub store_bytes : (m : AddressMap) → (store_of m).bytes ≡ bytes_of m
unfolding store_of
store_bytes m = refl

pub layout-regions : (m n : AddressMap) → layout n ≡ layout m → regions n ≡ regions m
layout-regions m n same = ap (λ l. l.regions) same

pub layout-others : (m n : AddressMap) → layout n ≡ layout m → (store_of n).others ≡ (store_of m).others
unfolding store_of
layout-others m n same = ap (λ l. others_in l.regions) same

-- A sound store stays sound, with the same lists, where the bytes of memory change but memory spells its heaps still.
pub sound_spelled : (s : Store) (c : Bytes) → c.mapped ≡ s.bytes.mapped → IsSound s → AreHeapsIn c s.heaps → IsSound (record s { bytes = c })
sound_spelled s c mapping sound parts = record {
  heaps = parts;
  limits = sound.limits;
  placed = sound.placed;
  apart = sound.apart;
  few = sound.few;
  anchors = λ a is. (ap (λ (f : ℕ → Bool). f a) mapping ∙ (sound.anchors a is).0, (sound.anchors a is).1);
  headers = sound.headers;
}

-- what is so of a map after a write that left the bytes of all heap words alone
pub record IsKept (m n : AddressMap) : Type 0 where
  pub store : store_of n ≡ record (store_of m) { bytes = bytes_of n }
  pub sound : IsSound (store_of n)

store_mapped : (m n : AddressMap) → layout n ≡ layout m → (bytes_of n).mapped ≡ (store_of m).bytes.mapped
unfolding store_of
store_mapped m n same = is_mapped-layout m n same

kept_by_parts : (m n : AddressMap) → layout n ≡ layout m → class_of n ≡ class_of m → IsSound (store_of m) → AreHeapsIn (bytes_of n) (store_of m).heaps → IsKept m n
kept_by_parts m n same marks sound parts =
    let store : store_of n ≡ record (store_of m) { bytes = bytes_of n } =
    store_spelled m n (layout-regions m n same) parts (same_flex (class_of m) (class_of n) marks) in
    record {
      store = store;
      sound = subst IsSound (sym store) (sound_spelled (store_of m) (bytes_of n) (store_mapped m n same) sound parts);
    }

-- stores to bytes that no heap spells keep every list
pub heads_kept : (m n : AddressMap) → layout n ≡ layout m → class_of n ≡ class_of m → IsSound (store_of m)
    → ((a : ℕ) → are_owned (store_of m).heaps a ≡ true → byte_at n a ≡ byte_at m a) → IsKept m n
unfolding store_of
heads_kept m n same marks sound kept =
    kept_by_parts m n same marks sound (parts_kept (bytes_of m) (bytes_of n) (store_of m).heaps (is_mapped-layout m n same) kept sound.heaps)

pub spelled_owned : (s : Store) (a : ℕ) → are_owned s.heaps a ≡ true → owned_in s a ≡ true
unfolding owned_in
spelled_owned s a is = or_left (are_owned s.heaps a) (is_flex_word s (word_start a)) is

-- the same of a pure store
pub store_kept : (s : Store) (c : Bytes) → c.mapped ≡ s.bytes.mapped → IsSound s
    → ((a : ℕ) → owned_in s a ≡ true → c.at a ≡ s.bytes.at a) → IsSound (record s { bytes = c })
store_kept s c mapping sound kept = sound_spelled s c mapping sound (parts_kept s.bytes c s.heaps mapping (λ a is. kept a (spelled_owned s a is)) sound.heaps)

-- the classes of a map without records, and of one that has the same lists and marks as another
pub classes_empty : (m : AddressMap) → regions m ≡ [] → ((a : ℕ) → class_of m a ≡ class.Plain) → AreClasses m
unfolding store_of
classes_empty m none plain a = ap is_heap_class (plain a) ∙ (rw none refl)

pub classes_same : (m n : AddressMap) → (store_of n).heaps ≡ (store_of m).heaps → ((a : ℕ) → class_of n a ≡ class_of m a) → AreClasses m → AreClasses n
classes_same m n heaps marks same a = ap is_heap_class (marks a) ∙ same a ∙ ap (λ (hs : List HeapList). spells_any hs (word_start a)) (sym heaps)

-- a range that meets no heap has no byte of a heap's words
pub clear_unowned : (b : Bytes) (hs : List HeapList) (at len a : ℕ) → AreHeapsIn b hs → IsClearOfHeaps at len hs → in_range at len a ≡ true
    → are_owned hs a ≡ false
clear_unowned b [] at len a parts clear inside = refl
clear_unowned b (h ∷ hs) at len a parts clear inside =
    or_from (is_heap_word h.start h.items (word_start a)) (are_owned hs a)
    (false_from_ne_true _ (λ is. both_ways (in_range h.start h.end a) (clear.0 a inside) (byte_inside b h.start h.end h.items a parts.0 is)))
    (clear_unowned b hs at len a parts.1.1 clear.1 inside)

-- writes in a range that meets no heap keep every list
pub clear_parts : (b c : Bytes) (hs : List HeapList) (at len : ℕ) → c.mapped ≡ b.mapped → AreHeapsIn b hs → IsClearOfHeaps at len hs
    → ((a : ℕ) → in_range at len a ≡ false → c.at a ≡ b.at a) → AreHeapsIn c hs
clear_parts b c hs at len mapping parts clear kept =
    parts_kept b c hs mapping (λ a is. kept a (false_from_ne_true _ (λ inside. both_ways (are_owned hs a) (clear_unowned b hs at len a parts clear inside) is))) parts

pub clear_kept : (m n : AddressMap) (at len : ℕ) → layout n ≡ layout m → class_of n ≡ class_of m → IsSound (store_of m) → IsClearOfHeaps at len (store_of m).heaps
    → ((a : ℕ) → in_range at len a ≡ false → byte_at n a ≡ byte_at m a) → IsKept m n
unfolding store_of
clear_kept m n at len same marks sound clear kept =
    kept_by_parts m n same marks sound (clear_parts (bytes_of m) (bytes_of n) (store_of m).heaps at len (is_mapped-layout m n same) sound.heaps clear kept)

-- the same of a pure store
pub store_clear : (s : Store) (c : Bytes) (at len : ℕ) → c.mapped ≡ s.bytes.mapped → IsSound s → IsClearOfHeaps at len s.heaps
    → ((a : ℕ) → in_range at len a ≡ false → c.at a ≡ s.bytes.at a) → IsSound (record s { bytes = c })
store_clear s c at len mapping sound clear kept = sound_spelled s c mapping sound (clear_parts s.bytes c s.heaps at len mapping sound.heaps clear kept)

-- a byte is owned as its whole word is
pub owned_word : (s : Store) (a k : ℕ) → a % 4 ≡ 0 → k < 4 → owned_in s (a + k) ≡ owned_in s a
unfolding owned_in
owned_word s a k aligned below =
    let same : word_start (a + k) ≡ word_start a = omega arith in
    ap (λ p. list_any (λ h. is_heap_word h.start h.items p) s.heaps || is_flex_word s p) same
