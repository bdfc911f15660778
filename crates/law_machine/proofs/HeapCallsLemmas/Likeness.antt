-- Where the bytes of a heap's range are the same in two memories, they are the same after its words
-- are written in both.
use Rattle.profile.specs.MemoryMap.{heap_name}
use Rattle.std.proofs.Common.{ℕ, ◌≡◌, ◌+◌, ◌-◌, ◌∙◌, true, List, [], ◌∷◌, Some, Result, Ok, Err, refl, sym, ap, subst, inl, inr}
use Rattle.std.proofs.lemmas.Bool.{cases_Bool}
use Rattle.profile.specs.Outcome.{bind}
use Rattle.profile.specs.ErrorNumber.{ErrorNumber}
use Rattle.address_map.specs.Bytes.{in_range, with_word_at}
use Rattle.address_map.specs.Items.{size_of}
use Rattle.address_map.specs.declared.item.Item.{Item}
use Rattle.address_map.specs.declared.item.Item.TheVariants.{Free, Live}
use Rattle.os_heap_words.specs.lists.Heap.{HeapList, next_free, with_heads, with_heap}
use Rattle.os_heap.proofs.Moving.{found_held}
use Rattle.os_heap.specs.Calls.{store_holding}
use Rattle.os_heap.specs.Store.{Store, find_heap}
use Rattle.law_machine.specs.heap_calls.Alone.{Alone, bytes_in}
use Rattle.law_machine.specs.heap_calls.Turns.{alone_or}

-- the bytes of a range are the same
abbrev pub AreLike : ℕ → ℕ → (ℕ → ℕ) → (ℕ → ℕ) → Type 0
AreLike at len f g = (a : ℕ) → in_range at len a ≡ true → f a ≡ g a

word_like : (f g : ℕ → ℕ) (at word a : ℕ) → f a ≡ g a → with_word_at f at word a ≡ with_word_at g at word a
word_like f g at word a same = rw same refl

heads_like : (f g : ℕ → ℕ) (at : ℕ) (xs : List Item) (other a : ℕ) → f a ≡ g a → with_heads f at xs other a ≡ with_heads g at xs other a
heads_like f g at [] other a same = same
heads_like f g at (Live t ∷ xs) other a same =
    word_like (with_heads f (at + t) xs other) (with_heads g (at + t) xs other) at t a (heads_like f g (at + t) xs other a same)
heads_like f g at (Free t ∷ xs) other a same =
    let f' : ℕ → ℕ = with_heads f (at + t) xs other in
    let g' : ℕ → ℕ = with_heads g (at + t) xs other in
    word_like (with_word_at f' (at + 4) t) (with_word_at g' (at + 4) t) at (next_free (at + t) xs other - at) a
    (word_like f' g' (at + 4) t a (heads_like f g (at + t) xs other a same))

pub heap_like : (f g : ℕ → ℕ) (start end : ℕ) (items : List Item) (a : ℕ) → f a ≡ g a → with_heap f start end items a ≡ with_heap g start end items a
heap_like f g start end items a same =
    let first : ℕ = next_free (start + 16) items 0 - start in
    let base : ℕ = 16 + size_of items in
    let f0 : ℕ → ℕ = with_heads f (start + 16) items 0 in
    let g0 : ℕ → ℕ = with_heads g (start + 16) items 0 in
    let f1 : ℕ → ℕ = with_word_at f0 start heap_name in
    let g1 : ℕ → ℕ = with_word_at g0 start heap_name in
    let f2 : ℕ → ℕ = with_word_at f1 (start + 4) first in
    let g2 : ℕ → ℕ = with_word_at g1 (start + 4) first in
    let f3 : ℕ → ℕ = with_word_at f2 (start + 8) base in
    let g3 : ℕ → ℕ = with_word_at g2 (start + 8) base in
    word_like f3 g3 (start + 12) end a
    (word_like f2 g2 (start + 8) base a
    (word_like f1 g1 (start + 4) first a
    (word_like f0 g0 start heap_name a
    (heads_like f g (start + 16) items 0 a same))))

byte_like : (at len : ℕ) (f g : ℕ → ℕ) → AreLike at len f g → (a : ℕ) → bytes_in at len f a ≡ bytes_in at len g a
byte_like at len f g like a = elim (cases_Bool (in_range at len a)) [
  | inl here ↦ rw here (like a here)
  | inr out ↦ rw out refl
]

pub bytes_like : (at len : ℕ) (f g : ℕ → ℕ) → AreLike at len f g → bytes_in at len f ≡ bytes_in at len g
bytes_like at len f g like = λ i a. byte_like at len f g like a i

-- a heap with another list, and with another end
abbrev pub with_list : HeapList → List Item → HeapList
with_list h items = record { kind = h.kind; start = h.start; end = h.end; items = items }

abbrev pub with_last : HeapList → ℕ → HeapList
with_last h end = record { kind = h.kind; start = h.start; end = end; items = h.items }

-- the heap alone, found in two stores
pub alone_alike : (w : Alone) (s u : Store) (h : HeapList) → find_heap h.start s.heaps ≡ Some h → find_heap h.start u.heaps ≡ Some h
    → AreLike h.start h.end s.bytes.at u.bytes.at → alone_or w s (find_heap h.start s.heaps) ≡ alone_or w u (find_heap h.start u.heaps)
alone_alike w s u h one two like =
    ap (alone_or w s) one
    ∙ ap (λ (bytes : ℕ → ℕ). let x : Alone = record { heap = h; bytes = bytes } in x) (bytes_like h.start h.end s.bytes.at u.bytes.at like)
    ∙ sym (ap (alone_or w u) two)

-- and after it got another list in both
pub held_alike : (w : Alone) (s u : Store) (h : HeapList) (items : List Item) → find_heap h.start s.heaps ≡ Some h → find_heap h.start u.heaps ≡ Some h
    → AreLike h.start h.end s.bytes.at u.bytes.at
    → alone_or w (store_holding s h items) (find_heap h.start (store_holding s h items).heaps) ≡ alone_or w (store_holding u h items) (find_heap h.start (store_holding u h items).heaps)
held_alike w s u h items one two like =
    alone_alike w (store_holding s h items) (store_holding u h items) (with_list h items)
    (found_held h.start items s.heaps h one) (found_held h.start items u.heaps h two)
    (λ a here. heap_like s.bytes.at u.bytes.at h.start h.end items a (like a here))

-- the heap alone is the same in two stores, and calls that answer and leave it alike
abbrev pub IsSameHeap : HeapList → Store → Store → Type 0
IsSameHeap h s u = (w : Alone) → alone_or w s (find_heap h.start s.heaps) ≡ alone_or w u (find_heap h.start u.heaps)

abbrev pub AreAlike : (A : Type 0) → HeapList → Result (Store × A) ErrorNumber → Result (Store × A) ErrorNumber → Type 0
AreAlike A h (Ok r) (Ok q) = (r.1 ≡ q.1) × IsSameHeap h r.0 q.0
AreAlike A h (Err e) (Err f) = e ≡ f
AreAlike A h (Ok r) (Err f) = ⊥
AreAlike A h (Err e) (Ok q) = ⊥

pub bound_alike : (A B : Type 0) (h : HeapList) (k : A → B) (r q : Result (Store × A) ErrorNumber) → AreAlike A h r q
    → AreAlike B h (bind r (λ x. Ok (x.0, k x.1))) (bind q (λ x. Ok (x.0, k x.1)))
bound_alike A B h k (Ok r) (Ok q) alike = (ap k alike.0, alike.1)
bound_alike A B h k (Err e) (Err f) alike = alike
bound_alike A B h k (Ok r) (Err f) alike = absurd alike
bound_alike A B h k (Err e) (Ok q) alike = absurd alike

-- one call and another, by what they come to
pub by_both : (A : Type 0) (h : HeapList) (r q r' q' : Result (Store × A) ErrorNumber) → r ≡ r' → q ≡ q' → AreAlike A h r' q' → AreAlike A h r q
by_both A h r q r' q' one two alike =
    subst (λ (x : Result (Store × A) ErrorNumber). AreAlike A h x q) (sym one) (subst (λ (x : Result (Store × A) ErrorNumber). AreAlike A h r' x) (sym two) alike)
