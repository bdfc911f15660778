-- Words that are marked as heads, one by one, and item by item.
use Rattle.std.proofs.Common.{suc, take, drop, length, slice_index_or, drop-cons, List, ℕ, [], ◌∷◌, ◌++◌, ◌≡◌, ◌≢◌, ◌==◌, ◌+◌, ◌-◌, ◌%◌, ◌≤◌, ◌<◌, ◌^◌, true, false, refl, sym, ap, subst, ◌∙◌, inl, inr, arith}
use Rattle.std.proofs.lemmas.List.{take-append-drop}
use Rattle.std.proofs.lemmas.Bool.{and_right, eq-eqb, false≢true, le-leb, le-ltb, lt-leb, lt-ltb, ne_eqb}
use Rattle.address_map.proofs.Spans.{mapped_below}
use Rattle.address_map.proofs.Stores.{in_range-cases}
use Rattle.address_map.proofs.Words.{class_of-word}
use Rattle.address_map.specs.Bytes.{in_range, word_start}
use Rattle.address_map.specs.Classes.{is_heap_class}
use Rattle.address_map.specs.Items.{size_of, total_of}
use Rattle.address_map.specs.Memory.{bytes_of, class_of, is_mapped, layout, mapping, regions}
use Rattle.address_map.specs.Records.{is_heap_kind, with_class, with_mark, without_region}
use Rattle.address_map.specs.declared.class.Class.{Class}
use Rattle.address_map.specs.declared.class.Class.TheVariants as class
use Rattle.address_map.specs.declared.item.Item.{Item}
use Rattle.address_map.specs.declared.item.Item.TheVariants.{Free, Live}
use Rattle.address_map.specs.declared.map.AddressMap.{AddressMap}
use Rattle.address_map.specs.declared.region.Kind.{Kind}
use Rattle.address_map.specs.declared.region.Kind.TheVariants as kind
use Rattle.address_map.specs.declared.region.Region.{Region}
use Rattle.os_heap_words.proofs.ListsLemmas.Reading.{total_facts}
use Rattle.os_heap_words.proofs.ListsLemmas.Spelling.{size_of-append, size_of-multiple, totals-back, totals-front}
use Rattle.os_heap_words.specs.lists.Heap.{AreTotals, IsHeapIn}
use Rattle.os_heap_words.specs.lists.Marks.{Remarks}
use Rattle.os_heap_words.specs.lists.Words.{IsDivided, IsFreed, IsWordWritten}
use Rattle.os_heap_words.proofs.Writing.{still_mapped}
use Rattle.os_heap_words.specs.Marks.{class_without_head, with_no_heads}
use Rattle.os_heap_words.specs.Outcomes.{CanStand}

-- a mark is no record, and moves nothing
pub without_word : (rs : List Region) (at : ℕ) → without_region rs kind.HeadWord at ≡ rs
without_word [] at = refl
without_word (r ∷ rs) at = ap (λ (qs : List Region). r ∷ qs) (without_word rs at)

pub same_parts : (m n : AddressMap) → mapping n ≡ mapping m → regions n ≡ regions m → layout n ≡ layout m
same_parts m n moved records = λ i. record { place = (moved i).place; regions = records i; free_pages = (moved i).free_pages }

pub heap_unmarked : (k : Kind) (at : ℕ) (classes : ℕ → Class) (a : ℕ) → is_heap_kind k ≡ true → with_mark k at classes a ≡ classes a
heap_unmarked kind.Heap at classes a heap = refl
heap_unmarked kind.Rma at classes a heap = refl
heap_unmarked kind.FlexStore at classes a heap = refl
heap_unmarked kind.FlexHeader at classes a heap = absurd (false≢true heap)
heap_unmarked kind.Anchor at classes a heap = absurd (false≢true heap)
heap_unmarked kind.HeadWord at classes a heap = absurd (false≢true heap)
heap_unmarked kind.Image at classes a heap = refl
heap_unmarked kind.SystemPage at classes a heap = refl

-- the class of a heap's words
pub heap_class : (own : Class) → is_heap_class own ≡ true → own ≡ class.Heap
heap_class class.Heap is = refl
heap_class class.Plain is = absurd (false≢true is)
heap_class class.FlexHeader is = absurd (false≢true is)
heap_class class.Anchor is = absurd (false≢true is)

-- a word's end is in the address space
pub word_below : (m : AddressMap) (at : ℕ) → at % 4 ≡ 0 → is_mapped m at ≡ true → at + 4 ≤ 2 ^ 26
word_below m at aligned mapped = omega (arith, mapped_below m at mapped)

-- the words of an item that can stand
pub record AreWords (m : AddressMap) (at : ℕ) : Type 0 where
  pub here : is_mapped m at ≡ true
  pub second : is_mapped m (at + 4) ≡ true
  pub below : at + 8 ≤ 2 ^ 26

pub item_words : (m : AddressMap) (at : ℕ) (item : Item) → CanStand m at (item ∷ []) → AreWords m at
item_words m at (Live t) s =
    let least : 8 ≤ t = (total_facts t s.totals.0).0 in
    let whole = s.aligned in
    let second : is_mapped m (at + 4) ≡ true = s.mapped (at + 4) (omega arith) (omega arith) in
    record { here = s.mapped at (omega arith) (omega arith); second = second; below = omega (arith, word_below m (at + 4) (omega arith) second) }
item_words m at (Free t) s =
    let least : 8 ≤ t = (total_facts t s.totals.0).0 in
    let whole = s.aligned in
    let second : is_mapped m (at + 4) ≡ true = s.mapped (at + 4) (omega arith) (omega arith) in
    record { here = s.mapped at (omega arith) (omega arith); second = second; below = omega (arith, word_below m (at + 4) (omega arith) second) }

size_least : (item : Item) → AreTotals (item ∷ []) → 8 ≤ size_of (item ∷ [])
size_least (Live t) totals = omega (arith, total_facts t totals.0)
size_least (Free t) totals = omega (arith, total_facts t totals.0)

-- where items can stand: each of them, and all of them after other words were written
pub still_stand : (m n : AddressMap) (at : ℕ) (items : List Item) → layout n ≡ layout m → CanStand m at items → CanStand n at items
still_stand m n at items same s = record {
  aligned = s.aligned;
  totals = s.totals;
  mapped = λ a low high. still_mapped m n a same (s.mapped a low high);
}

pub can_stand : (m n : AddressMap) (start end at : ℕ) (ys items : List Item) → IsHeapIn (bytes_of m) start end ys → layout n ≡ layout m → AreTotals items
    → at % 4 ≡ 0 → start ≤ at → at + size_of items ≤ start + end → CanStand n at items
can_stand m n start end at ys items heap same totals aligned low high =
    still_stand m n at items same (record {
      aligned = aligned;
      totals = totals;
      mapped = λ a above below. heap.mapped a (omega (arith, above)) (omega (arith, below));
    })

-- an item among those that can stand, which others are before
pub record IsItem (m : AddressMap) (at : ℕ) (items before : List Item) (item : Item) : Type 0 where
  pub stands : CanStand m (at + size_of before) (item ∷ [])
  pub below : at + size_of before + total_of item ≤ 2 ^ 26

pub item_stands : (m : AddressMap) (at : ℕ) (items before rest : List Item) (item : Item) → items ≡ before ++ item ∷ rest → CanStand m at items
    → IsItem m at items before item
item_stands m at items before rest item split s =
    let totals : AreTotals (before ++ item ∷ rest) = subst AreTotals split s.totals in
    let own : AreTotals ((item ∷ []) ++ rest) = totals-back before (item ∷ rest) totals in
    let size : size_of items ≡ size_of before + (total_of item + size_of rest) = ap size_of split ∙ size_of-append before (item ∷ rest) in
    let front : AreTotals (item ∷ []) = totals-front (item ∷ []) rest own in
    let stands : CanStand m (at + size_of before) (item ∷ []) = record {
      aligned = omega (arith, s.aligned, size_of-multiple before (totals-front before (item ∷ rest) totals));
      totals = front;
      mapped = λ a low high. s.mapped a (omega (arith, low)) (omega (arith, high, size));
    } in
    let least : 8 ≤ size_of (item ∷ []) = size_least item front in
    let last : is_mapped m (at + size_of before + total_of item - 1) ≡ true = s.mapped (at + size_of before + total_of item - 1) (omega arith) (omega (arith, size)) in
    record { stands = stands; below = omega (arith, mapped_below m (at + size_of before + total_of item - 1) last) }

-- the next item of a loop over items
pub next_item : (m n : AddressMap) (at place i : ℕ) (items : List Item) → CanStand m at items → layout n ≡ layout m → i < length items
    → place ≡ at + size_of (take i items) → CanStand n place (slice_index_or items i (Live 0) ∷ []) × (place + total_of (slice_index_or items i (Live 0)) ≤ 2 ^ 26)
next_item m n at place i items s same below here =
    let item : Item = slice_index_or items i (Live 0) in
    let split : items ≡ take i items ++ item ∷ drop (suc i) items =
    sym (take-append-drop i items) ∙ ap (λ (ys : List Item). take i items ++ ys) (drop-cons items i (Live 0) below) in
    let found : IsItem m at items (take i items) item = item_stands m at items (take i items) (drop (suc i) items) item split s in
    rw here (still_stand m n (at + size_of (take i items)) (item ∷ []) same found.stands, found.below)

-- what was written and marked before the marks of other items
pub still_written : (f g h : ℕ → ℕ) (at word : ℕ) → h ≡ g → IsWordWritten f g at word → IsWordWritten f h at word
still_written f g h at word same written = subst (λ (k : ℕ → ℕ). IsWordWritten f k at word) (sym same) written

pub still_freed : (f g h : ℕ → ℕ) (start from at total next : ℕ) → h ≡ g → IsFreed f g start from at total next → IsFreed f h start from at total next
still_freed f g h start from at total next same freed = subst (λ (k : ℕ → ℕ). IsFreed f k start from at total next) (sym same) freed

pub still_divided : (f g h : ℕ → ℕ) (start from at total left next : ℕ) → h ≡ g → IsDivided f g start from at total left next
    → IsDivided f h start from at total left next
still_divided f g h start from at total left next same divided = subst (λ (k : ℕ → ℕ). IsDivided f k start from at total left next) (sym same) divided

pub remarks_after : (c d e : ℕ → Class) (at : ℕ) (olds news : List Item) → d ≡ c → Remarks d e at olds news → Remarks c e at olds news
remarks_after c d e at olds news same change = subst (λ (f : ℕ → Class). Remarks f e at olds news) same change

-- the marks of heaps are taken off a word, and off one word more
pub heap_unheaded : (m : AddressMap) (at a : ℕ) → at % 4 ≡ 0 → class_of m at ≡ class.Heap
    → with_class (class_of m) at class.Plain a ≡ with_no_heads at 4 (class_of m) a
heap_unheaded m at a aligned is = elim (in_range-cases at 4 a) [
  | inr r ↦
      let other : (word_start a == at) ≡ false = ne_eqb (word_start a) at (λ (e : word_start a ≡ at). elim r.1 [ inl low ↦ omega arith | inr past ↦ omega arith ]) in
      rw (other, r.0) refl
  | inl r ↦
      let here : (word_start a == at) ≡ true = eq-eqb (word_start a) at (omega (arith, r.1, r.2)) in
      let same : class_of m a ≡ class.Heap = class_of-word m a at (omega (arith, r.1, r.2)) ∙ is in
      rw (here, r.0, same) refl
]

unheaded_other : (own : Class) → own ≢ class.Heap → class_without_head own ≡ own
unheaded_other class.Plain other = refl
unheaded_other class.FlexHeader other = refl
unheaded_other class.Anchor other = refl
unheaded_other class.Heap other = absurd (other refl)

pub other_unheaded : (m : AddressMap) (at a : ℕ) → at % 4 ≡ 0 → class_of m at ≢ class.Heap → class_of m a ≡ with_no_heads at 4 (class_of m) a
other_unheaded m at a aligned other = elim (in_range-cases at 4 a) [
  | inr r ↦ rw r.0 refl
  | inl r ↦
      let same : class_of m a ≡ class_of m at = class_of-word m a at (omega (arith, r.1, r.2)) in
      rw r.0 (sym (unheaded_other (class_of m a) (λ (e : class_of m a ≡ class.Heap). other (sym same ∙ e))))
]

pub unheaded_more : (classes : ℕ → Class) (at next a : ℕ) → at ≤ next
    → with_no_heads next 4 (λ p. with_no_heads at (next - at) classes p) a ≡ with_no_heads at (next + 4 - at) classes a
unheaded_more classes at next a low = elim (in_range-cases at (next - at) a) [
  | inl r ↦
      let here : in_range at (next + 4 - at) a ≡ true = rw (le-leb at a (omega (arith, r.1)), lt-ltb a (at + (next + 4 - at)) (omega (arith, r.2))) refl in
      let other : in_range next 4 a ≡ false = rw (lt-leb next a (omega (arith, r.2))) refl in
      rw (r.0, here, other) refl
  | inr r ↦ elim (in_range-cases next 4 a) [
    | inl q ↦
        let here : in_range at (next + 4 - at) a ≡ true = rw (le-leb at a (omega (arith, q.1)), lt-ltb a (at + (next + 4 - at)) (omega (arith, q.2))) refl in
        rw (r.0, here, q.0) refl
    | inr q ↦
        let other : in_range at (next + 4 - at) a ≡ false = elim r.1 [
          | inl less ↦ rw (lt-leb at a less) refl
          | inr past ↦ elim q.1 [
            | inl less ↦ absurd (omega (arith, less, past))
            | inr after ↦ and_right _ _ (le-ltb a (at + (next + 4 - at)) (omega (arith, after)))
          ]
        ] in
        rw (r.0, other, q.0) refl
  ]
]
