-- A call that is done writes another list into a heap: no word of it is a byte of a block that is live then.
use Rattle.std.proofs.Common.{if◌then◌else◌, Bool, List, ℕ, ◌≡◌, ◌+◌, ◌-◌, ◌%◌, ◌≤◌, ◌<◌, ◌⊎◌, Option, Some, None, ok_or, Result, Ok, Err, true, false, refl, sym, ap, subst, ◌∙◌, inl, inr}
use Rattle.std.proofs.lemmas.Bool.{both_ways, false_from_ne_true}
use Rattle.os_heap_words.specs.Outcome.{bind}
use Rattle.os_heap_words.specs.ErrorNumber.{ErrorNumber}
use Rattle.os_heap_words.specs.Bytes.{Bytes, in_range, word_start}
use Rattle.os_heap_words.specs.Items.{is_heap_word, size_of}
use Rattle.os_heap_words.specs.Item.{Item}
use Rattle.os_heap_words.proofs.ListsLemmas.Payloads.{heap_beside, payload_unspelled, spelled_inside}
use Rattle.os_heap_words.specs.lists.Heap.{AreTotals, HeapList, IsHeapIn}
use Rattle.os_heap_words.specs.lists.Lists.{live_total}
use Rattle.os_heap.proofs.Apart.{range_parts}
use Rattle.os_heap.proofs.Found.{found_heap, found_start}
use Rattle.os_heap.proofs.Moving.{found_held}
use Rattle.os_heap.specs.Calls.{store_holding}
use Rattle.os_heap.specs.Laws.{KeepsPayloads}
use Rattle.os_heap.specs.Store.{Store, IsSound, find_heap}

-- what is done was not refused
pub record FromSome (A B : Type 0) (o : Option A) (next : A → Result B ErrorNumber) (r : B) : Type 0 where
  pub value : A
  pub is : o ≡ Some value
  pub done : next value ≡ Ok r

pub some_of : (A B : Type 0) (o : Option A) (e : ErrorNumber) (next : A → Result B ErrorNumber) (r : B) → bind (ok_or o e) next ≡ Ok r
    → FromSome A B o next r
some_of A B None e next r h = absurd (let no : Err e ≡ Ok r = h in cc)
some_of A B (Some x) e next r h = record { value = x; is = refl; done = h }

pub past_if : (B : Type 0) (b : Bool) (e : ErrorNumber) (x : Result B ErrorNumber) (r : B) → (if b then Err e else x) ≡ Ok r
    → (b ≡ false) × (x ≡ Ok r)
past_if B true e x r h = absurd (let no : Err e ≡ Ok r = h in cc)
past_if B false e x r h = (refl, h)

store_in : (A : Type 0) → Store → Result (Store × A) ErrorNumber → Store
store_in A s (Ok r) = r.0
store_in A s (Err e) = s

pub done_store : (A : Type 0) (s t : Store) (x y : A)
    → (let one : Result (Store × A) ErrorNumber = Ok (s, x) in let two : Result (Store × A) ErrorNumber = Ok (t, y) in one ≡ two) → s ≡ t
unfolding store_in
done_store A s t x y e = ap (store_in A s) e

-- a heap got another list
abbrev pub with_list : HeapList → List Item → HeapList
with_list k items = record { kind = k.kind; start = k.start; end = k.end; items = items }

-- the byte is of a block of the heap called, or in none of its range
abbrev pub IsOwnOrOut : ℕ → Store → HeapList → ℕ → Type 0
IsOwnOrOut heap t h a = (h.start ≡ heap) ⊎ ((k : HeapList) → find_heap heap t.heaps ≡ Some k → in_range k.start k.end a ≡ false)

-- what that heap spells then is no byte of a block that is live then
pub unspelled_then : (t : Store) (k h g : HeapList) (block total a : ℕ) → k.start % 4 ≡ 0 → AreTotals k.items → 16 + size_of k.items ≤ k.end
    → find_heap k.start t.heaps ≡ Some k → find_heap h.start t.heaps ≡ Some g → live_total block (h.start + 16) g.items ≡ Some total
    → in_range block (total - 4) a ≡ true → IsOwnOrOut k.start t h a → is_heap_word k.start k.items (word_start a) ≡ false
unspelled_then t k h g block total a aligned totals fits found found' live here (inr out) =
    false_from_ne_true _ (λ is. both_ways (in_range k.start k.end a) (out k found) (spelled_inside k.start k.end k.items a aligned totals fits is))
unspelled_then t k h g block total a aligned totals fits found found' live here (inl same) =
    let parts : (block ≤ a) × (a < block + (total - 4)) = range_parts block (total - 4) a here in
    let there : find_heap k.start t.heaps ≡ Some g = subst (λ (p : ℕ). find_heap p t.heaps ≡ Some g) same found' in
    let both : Some k ≡ Some g = sym found ∙ there in
    let is : g ≡ k = cc in
    let live' : live_total block (k.start + 16) g.items ≡ Some total = subst (λ (p : ℕ). live_total block (p + 16) g.items ≡ Some total) same live in
    payload_unspelled k.start k.items block total a aligned totals
    (subst (λ (x : HeapList). live_total block (k.start + 16) x.items ≡ Some total) is live') parts.0 parts.1

pub new_heap : (s : Store) (k : HeapList) (items : List Item) → IsSound (store_holding s k items) → find_heap k.start s.heaps ≡ Some k
    → IsHeapIn (store_holding s k items).bytes k.start k.end items
new_heap s k items sound found =
    found_heap (store_holding s k items).bytes k.start (store_holding s k items).heaps (with_list k items) sound.heaps (found_held k.start items s.heaps k found)

keeps_held : (s v : Store) (k : HeapList) (items : List Item) → v.bytes ≡ s.bytes → IsSound (store_holding v k items) → find_heap k.start v.heaps ≡ Some k
    → KeepsPayloads s (store_holding v k items) k.start
keeps_held s v k items same sound found h g block total new_total a found' found'' live live' here there out =
    let new : IsHeapIn (store_holding v k items).bytes k.start k.end items = new_heap v k items sound found in
    heap_beside v.bytes.at k.start k.end items a new.aligned new.totals
    (unspelled_then (store_holding v k items) (with_list k items) h g block new_total a new.aligned new.totals new.inside (found_held k.start items v.heaps k found)
    found'' live' there out)
    ∙ ap (λ (b : Bytes). b.at a) same

-- the heap that a call finds, by its own start
pub own_start : (heap : ℕ) (s : Store) (h : HeapList) → find_heap heap s.heaps ≡ Some h → find_heap h.start s.heaps ≡ Some h
own_start heap s h found = subst (λ (p : ℕ). find_heap p s.heaps ≡ Some h) (sym (found_start heap s.heaps h found)) found

pub keeps_at : (s u t : Store) (heap : ℕ) → u ≡ t → IsSound t → (IsSound u → KeepsPayloads s u heap) → KeepsPayloads s t heap
keeps_at s u t heap same sound keeps = subst (λ (w : Store). KeepsPayloads s w heap) same (keeps (subst IsSound (sym same) sound))

pub keeps_done : (s v t : Store) (heap : ℕ) (k : HeapList) (items : List Item) → v.bytes ≡ s.bytes → IsSound t → k.start ≡ heap
    → find_heap k.start v.heaps ≡ Some k
    → store_holding v k items ≡ t → KeepsPayloads s t heap
keeps_done s v t heap k items same sound start found is =
    subst (λ (p : ℕ). KeepsPayloads s t p) start (keeps_at s (store_holding v k items) t k.start is sound (λ good. keeps_held s v k items same good found))
