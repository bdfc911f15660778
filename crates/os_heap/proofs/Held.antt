-- The class of each word by the lists of all heaps: after one of them got another list or another end, and after a heap more was made.
use Rattle.std.proofs.Common.{Bool, List, ℕ, [], ◌∷◌, ◌++◌, ◌≡◌, ◌==◌, ◌||◌, ◌+◌, ◌≤◌, true, false, refl, sym, ap, subst, ◌∙◌, inl, inr, Some, None, cond}
use Rattle.std.proofs.lemmas.Bool.{cases_Bool, or_left, or_right, or_from, and_right, eqb-true, eq-eqb, ne_eqb, le-ltb, false≢true}
use Rattle.os_heap_words.specs.Bytes.{Bytes, in_range, word_start}
use Rattle.os_heap_words.specs.Classes.{is_heap_class}
use Rattle.os_heap_words.specs.Items.{is_head, is_heap_word, size_of}
use Rattle.os_heap_words.specs.Class.{Class}
use Rattle.os_heap_words.specs.Class.TheVariants as class
use Rattle.os_heap_words.specs.Item.{Item}
use Rattle.os_heap_words.proofs.ListsLemmas.HeadWords.{head_inside}
use Rattle.os_heap_words.specs.lists.Heap.{HeapList, IsHeapIn}
use Rattle.os_heap_words.specs.lists.Marks.{class_after_marking, Remarks, AreMarked, spells_any}
use Rattle.os_heap_words.proofs.Marking.{heap_class}
use Rattle.os_heap.proofs.Found.{found_heap}
use Rattle.os_heap.proofs.Nesting.{words_apart}
use Rattle.os_heap.proofs.RangeTests.{or_none}
use Rattle.os_heap.proofs.Stores.{AreOthers, are_others}
use Rattle.os_heap.specs.Calls.{heaps_with_items, with_end}
use Rattle.os_heap.specs.Store.{AreHeapsIn, find_heap}

-- the bytes that are classed as a heap's are those that the lists spell
abbrev pub AreBy : (ℕ → Class) → List HeapList → Type 0
AreBy classes hs = (a : ℕ) → is_heap_class (classes a) ≡ spells_any hs (word_start a)

-- a heap's words are marked
found_spelled : (hs : List HeapList) (start : ℕ) (h : HeapList) (p : ℕ) → find_heap start hs ≡ Some h → is_heap_word h.start h.items p ≡ true
    → spells_any hs p ≡ true
found_spelled [] start h p e is = absurd (let none : None ≡ Some h = e in cc)
found_spelled (g ∷ hs) start h p e is =
    elim (cases_Bool (g.start == start)) [
      | inl here ↦
          let e' = rw here at e in
          let same : g ≡ h = cc in
          or_left _ (spells_any hs p) (subst (λ (x : HeapList). is_heap_word x.start x.items p ≡ true) (sym same) is)
      | inr other ↦ or_right (is_heap_word g.start g.items p) (spells_any hs p) (found_spelled hs start h p (rw other at e) is)
    ]

pub heads_marked : (c : ℕ → Class) (hs : List HeapList) (h : HeapList) → AreBy c hs → find_heap h.start hs ≡ Some h → AreMarked c (h.start + 16) h.items
heads_marked c hs h same found a is =
    let p : ℕ = word_start a in
    heap_class (c a) (same a ∙ found_spelled hs h.start h p found (or_right (in_range h.start 16 p) (is_head (h.start + 16) h.items p) is))

-- one heap got another list: a word that it spells now, one that it gives up, and one of which nothing changed
made_spelled : (h : HeapList) (items : List Item) (hs : List HeapList) (p : ℕ) → find_heap h.start hs ≡ Some h → is_heap_word h.start items p ≡ true
    → spells_any (heaps_with_items h.start items hs) p ≡ true
made_spelled h items [] p found is = absurd (let none : None ≡ Some h = found in cc)
made_spelled h items (g ∷ hs) p found is =
    elim (cases_Bool (g.start == h.start)) [
      | inl here ↦
          let start : g.start ≡ h.start = eqb-true g.start h.start here in
          rw here (or_left (is_heap_word g.start items p) (spells_any (heaps_with_items h.start items hs) p) (rw start is))
      | inr other ↦
          rw other (or_right (is_heap_word g.start g.items p) (spells_any (heaps_with_items h.start items hs) p) (made_spelled h items hs p (rw other at found) is))
    ]

given_unspelled : (b : Bytes) (h : HeapList) (items : List Item) (hs : List HeapList) (a : ℕ) → IsHeapIn b h.start h.end h.items → AreHeapsIn b hs
    → AreOthers h hs → is_heap_word h.start items (word_start a) ≡ false → is_heap_word h.start h.items (word_start a) ≡ true
    → spells_any (heaps_with_items h.start items hs) (word_start a) ≡ false
given_unspelled b h items [] a heap heaps others none was = refl
given_unspelled b h items (g ∷ hs) a heap heaps others none was =
    let p : ℕ = word_start a in
    let rest : spells_any (heaps_with_items h.start items hs) p ≡ false = given_unspelled b h items hs a heap heaps.1.1 others.1 none was in
    elim others.0 [
      | inl own ↦
          let start : g.start ≡ h.start = ap (λ (x : HeapList). x.start) own in
          rw (eq-eqb g.start h.start start) (or_from (is_heap_word g.start items p) (spells_any (heaps_with_items h.start items hs) p) (rw start none) rest)
      | inr apart ↦
          rw (ne_eqb g.start h.start apart.0)
          (or_from (is_heap_word g.start g.items p) (spells_any (heaps_with_items h.start items hs) p) (words_apart b b h g a heap heaps.0 apart.1 was) rest)
    ]

same_spelled : (h : HeapList) (items : List Item) (hs : List HeapList) (p : ℕ) → AreOthers h hs
    → is_heap_word h.start items p ≡ is_heap_word h.start h.items p → spells_any (heaps_with_items h.start items hs) p ≡ spells_any hs p
same_spelled h items [] p others same = refl
same_spelled h items (g ∷ hs) p others same =
    let rest : spells_any (heaps_with_items h.start items hs) p ≡ spells_any hs p = same_spelled h items hs p others.1 same in
    elim others.0 [
      | inl own ↦
          let start : g.start ≡ h.start = ap (λ (x : HeapList). x.start) own in
          let here : is_heap_word g.start items p ≡ is_heap_word g.start g.items p =
          subst (λ (x : HeapList). is_heap_word x.start items p ≡ is_heap_word x.start x.items p) (sym own) same in
          rw (eq-eqb g.start h.start start) (ap (λ (t : Bool). t || spells_any (heaps_with_items h.start items hs) p) here
          ∙ ap (λ (t : Bool). is_heap_word g.start g.items p || t) rest)
      | inr apart ↦ rw (ne_eqb g.start h.start apart.0) (ap (λ (t : Bool). is_heap_word g.start g.items p || t) rest)
    ]

held_class : (hs gs : List HeapList) (made given : Bool) (a : ℕ) (old new : Class) → is_heap_class old ≡ spells_any hs (word_start a) → new ≡ class_after_marking made given old
    → (made ≡ true → spells_any gs (word_start a) ≡ true)
    → (made ≡ false → given ≡ true → spells_any gs (word_start a) ≡ false)
    → (made ≡ false → given ≡ false → spells_any gs (word_start a) ≡ spells_any hs (word_start a)) → is_heap_class new ≡ spells_any gs (word_start a)
held_class hs gs true given a old new was change now gone kept = ap is_heap_class change ∙ sym (now refl)
held_class hs gs false true a old new was change now gone kept = ap is_heap_class change ∙ sym (gone refl refl)
held_class hs gs false false a old new was change now gone kept = ap is_heap_class change ∙ was ∙ sym (kept refl refl)

-- just the words of its old list were given up, and those of its new one made
pub marks_held : (b : Bytes) (c d : ℕ → Class) (h : HeapList) (items : List Item) (hs : List HeapList) → AreHeapsIn b hs → find_heap h.start hs ≡ Some h
    → AreBy c hs → Remarks c d (h.start + 16) h.items items → AreBy d (heaps_with_items h.start items hs)
marks_held b c d h items hs heaps found same change a =
    let p : ℕ = word_start a in
    let heap : IsHeapIn b h.start h.end h.items = found_heap b h.start hs h heaps found in
    let others : AreOthers h hs = are_others b h.start hs h heaps found in
    let now : Bool = is_head (h.start + 16) items p in
    let was : Bool = is_head (h.start + 16) h.items p in
    let descriptor : Bool = in_range h.start 16 p in
    held_class hs (heaps_with_items h.start items hs) now was a (c a) (d a) (same a) (change a)
    (λ is. made_spelled h items hs p found (or_right descriptor now is))
    (λ not is.
    let inside : (h.start + 16 ≤ p) × (p + 4 ≤ h.start + 16 + size_of h.items) = head_inside (h.start + 16) h.items p heap.totals is in
    let past : descriptor ≡ false = and_right _ _ (le-ltb p (h.start + 16) inside.0) in
    given_unspelled b h items hs a heap heaps others (or_from descriptor now past not) (or_right descriptor was is))
    (λ not nor. same_spelled h items hs p others (ap (λ (t : Bool). descriptor || t) (not ∙ sym nor)))

-- a heap got another end
ended_spelled : (start end : ℕ) (hs : List HeapList) (p : ℕ) → spells_any (with_end start end hs) p ≡ spells_any hs p
ended_spelled start end [] p = refl
ended_spelled start end (h ∷ hs) p =
    elim (cases_Bool (h.start == start)) [
      | inl here ↦ rw here (ap (λ (t : Bool). is_heap_word h.start h.items p || t) (ended_spelled start end hs p))
      | inr other ↦ rw other (ap (λ (t : Bool). is_heap_word h.start h.items p || t) (ended_spelled start end hs p))
    ]

pub marks_ended : (c d : ℕ → Class) (start end : ℕ) (hs : List HeapList) → AreBy c hs → ((a : ℕ) → d a ≡ c a) → AreBy d (with_end start end hs)
marks_ended c d start end hs same kept a = ap is_heap_class (kept a) ∙ same a ∙ sym (ended_spelled start end hs (word_start a))

-- a heap more without items, whose descriptor was marked
or_next : (t u v : Bool) → (t || (u || v)) ≡ ((t || u) || v)
or_next true u v = refl
or_next false u v = refl

begun_spelled : (hs : List HeapList) (h : HeapList) (p : ℕ) → spells_any (hs ++ h ∷ []) p ≡ (spells_any hs p || is_heap_word h.start h.items p)
begun_spelled [] h p = or_none (is_heap_word h.start h.items p)
begun_spelled (g ∷ hs) h p =
    ap (λ (t : Bool). is_heap_word g.start g.items p || t) (begun_spelled hs h p)
    ∙ or_next (is_heap_word g.start g.items p) (spells_any hs p) (is_heap_word h.start h.items p)

begun_class : (spelled here : Bool) (old new : Class) → is_heap_class old ≡ spelled → new ≡ cond here class.Heap old
    → is_heap_class new ≡ (spelled || (here || false))
begun_class true true old new was change = ap is_heap_class change
begun_class true false old new was change = ap is_heap_class change ∙ was
begun_class false true old new was change = ap is_heap_class change
begun_class false false old new was change = ap is_heap_class change ∙ was

pub marks_begun : (c d : ℕ → Class) (hs : List HeapList) (h : HeapList) → h.items ≡ [] → AreBy c hs
    → ((a : ℕ) → d a ≡ cond (in_range h.start 16 (word_start a)) class.Heap (c a)) → AreBy d (hs ++ h ∷ [])
marks_begun c d hs h none same change a =
    let p : ℕ = word_start a in
    rw (begun_spelled hs h p, none) (begun_class (spells_any hs p) (in_range h.start 16 p) (c a) (d a) (same a) (change a))
