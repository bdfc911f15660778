-- A heap that gets another end: the word that shows it is written, and the length of its record changed.
use Rattle.std.proofs.Common.{◌≡◌, arith, ◌≤◌, ℕ, Bool, List, ◌∙◌, inr, ◌-◌, inl, ◌+◌, ap, refl, sym, ◌<◌, [], ◌∷◌, true, subst, ◌==◌, ◌||◌, false, Some}
use Rattle.std.proofs.lemmas.Bool.{le-leb, false≢true, lt-ltb, cases_Bool, cases_lt, ne_eqb, both_ways, eq-eqb, or_left, or_parts, ltb-false, false_from_ne_true}
use Rattle.std.specs.List.{list_any}
use Rattle.os_heap_words.proofs.Bytes.{is_mapped-layout}
use Rattle.os_heap_words.proofs.Lengths.{record_parts}
use Rattle.os_heap_words.proofs.Anchors.{none_among}
use Rattle.os_heap_words.proofs.Stores.{in_range-cases}
use Rattle.os_heap_words.specs.Bytes.{word_at, word_start, Bytes, in_range, shares_address}
use Rattle.os_heap_words.specs.Items.{size_of, items_in, is_head, is_heap_word}
use Rattle.os_heap_words.specs.Memory.{layout, byte_at, bytes_of, regions, is_mapped, class_of}
use Rattle.os_heap_words.specs.Records.{anchor_among, is_heap_kind, with_len, is_record, are_same}
use Rattle.os_heap_words.specs.Class.{Class}
use Rattle.os_heap_words.specs.Item.{Item}
use Rattle.os_heap_words.specs.AddressMap.{AddressMap}
use Rattle.os_heap_words.specs.Kind.{Kind}
use Rattle.os_heap_words.specs.Region.{Region}
use Rattle.os_heap_words.proofs.ListsLemmas.HeadWords.{law_heap_frame}
use Rattle.os_heap_words.proofs.ListsLemmas.HeapWords.{cons_part}
use Rattle.os_heap_words.proofs.ListsLemmas.Marks.{unmarked}
use Rattle.os_heap_words.proofs.ListsLemmas.Reading.{items_in-heap}
use Rattle.os_heap_words.proofs.ListsLemmas.Spelling.{spells-kept}
use Rattle.os_heap_words.specs.lists.Heap.{IsHeapIn, HeapList, with_heap}
use Rattle.os_heap_words.specs.lists.Words.{IsWordWritten, AreApart}
use Rattle.os_heap.proofs.RangeTests.{CanHold, clear_unless, can_hold}
use Rattle.os_heap.proofs.Found.{found_heap}
use Rattle.os_heap.proofs.Held.{AreBy, marks_ended}
use Rattle.os_heap.proofs.Anchored.{place_ended}
use Rattle.os_heap.proofs.FlexWords.{AreSameFlex, same_flex}
use Rattle.os_heap.proofs.Stores.{SamePlaces, same_limits, AreOthers, clear_both_ways, are_others, bytes_held}
use Rattle.os_heap.specs.Calls.{with_end, has_own_size, ending}
use Rattle.os_heap.specs.Ranges.{MayEnd, is_in_way, is_obstructed, overgrows}
use Rattle.os_heap_words.specs.Outcomes.{Becomes, items_at}
use Rattle.os_heap.specs.Nesting.{StandApart, StandsApart}
use Rattle.os_heap.specs.Store.{AreClear, AreHeapsIn, ArePlaced, IsPlacedIn, find_heap, Store, others_in, heap_in, heaps_in, IsSound, AreClasses, store_of}
use Rattle.os_heap_words.specs.Kind.TheVariants as kind
use Rattle.os_heap.proofs.Beside.{AreBeside, AreElsewhere, IsBeside, MayGrow, are_beside, clear_grown, elsewhere, ended, own_ended, stand_ended}
use Rattle.os_heap.proofs.Nesting.{words_apart}

-- the heap with the other end, spelled by the bytes after the word was written
pub end_written : (b c : Bytes) (start end other : ℕ) (items : List Item) → IsHeapIn b start end items → CanHold b start other → 16 + size_of items ≤ other
    → c.mapped ≡ b.mapped → IsWordWritten b.at c.at (start + 12) other → IsHeapIn c start other items
end_written b c start end other items heap can inside mapped written =
    let kept : (a : ℕ) → AreApart a 4 (start + 12) 4 → word_at c.at a ≡ word_at b.at a = λ a apart. written.apart a apart in
    record {
      aligned = heap.aligned;
      whole = can.whole;
      mapped = λ a low high. ap (λ (f : ℕ → Bool). f a) mapped ∙ can.mapped a low high;
      name = kept start (inl (omega arith)) ∙ heap.name;
      first = kept (start + 4) (inl (omega arith)) ∙ heap.first;
      base = kept (start + 8) (inl (omega arith)) ∙ heap.base;
      limit = written.here;
      spelled = spells-kept (word_at b.at) (word_at c.at) (start + 16) items 0 heap.totals heap.spelled (λ a low high. kept a (inr (omega arith)));
      totals = heap.totals;
      spaced = heap.spaced;
      inside = inside;
    }

-- a heap that stands apart from it spells no byte of that word
other_ended : (b c : Bytes) (h g : HeapList) → IsHeapIn b h.start h.end h.items → c.mapped ≡ b.mapped
    → ((a : ℕ) → AreApart a 1 (h.start + 12) 4 → c.at a ≡ b.at a)
    → StandsApart h g → IsHeapIn b g.start g.end g.items → IsHeapIn c g.start g.end g.items
other_ended b c h g own mapped kept apart heap =
    let aligned = own.aligned in
    law_heap_frame b c g.start g.end g.items mapped (λ a is. kept a (elim (cases_lt a (h.start + 12)) [
      | inl low ↦ inl (omega (arith, low))
      | inr high ↦ elim (cases_lt a (h.start + 16)) [
        | inr past ↦ inr (omega (arith, past))
        | inl within ↦
            let word : word_start a ≡ h.start + 12 = omega (arith, aligned, high, within) in
            let spelled : is_heap_word h.start h.items (word_start a) ≡ true =
            or_left (in_range h.start 16 (word_start a)) (is_head (h.start + 16) h.items (word_start a))
            (rw (word, le-leb h.start (h.start + 12) (omega arith), lt-ltb (h.start + 12) (h.start + 16) (omega arith)) refl) in
            absurd (both_ways (is_heap_word g.start g.items (word_start a)) (words_apart b b h g a own heap apart spelled) is)
      ]
    ])) heap

parts_ended : (b c : Bytes) (h : HeapList) (end : ℕ) (hs : List HeapList) → IsHeapIn b h.start h.end h.items → c.mapped ≡ b.mapped
    → ((a : ℕ) → AreApart a 1 (h.start + 12) 4 → c.at a ≡ b.at a) → IsHeapIn c h.start end h.items
    → AreBeside h end hs → AreHeapsIn b hs → AreHeapsIn c (with_end h.start end hs)
parts_ended b c h end [] old mapped kept heap beside parts = tt
parts_ended b c h end (g ∷ hs) old mapped kept heap beside parts =
    let rest : AreHeapsIn c (with_end h.start end hs) = parts_ended b c h end hs old mapped kept heap beside.1 parts.1.1 in
    elim beside.0 [
      | inl same ↦
          let start : g.start ≡ h.start = ap (λ (x : HeapList). x.start) same in
          let items : g.items ≡ h.items = ap (λ (x : HeapList). x.items) same in
          let own : StandApart (ended h end) (with_end h.start end hs) =
          own_ended b h end hs old beside.1 (subst (λ (x : HeapList). StandApart x hs) same parts.1.0) in
          let stand : StandApart (ended g end) (with_end h.start end hs) =
          subst (λ (x : HeapList). StandApart (ended x end) (with_end h.start end hs)) (sym same) own in
          rw (eq-eqb g.start h.start start) (rw (start, items) heap, (stand, rest))
      | inr apart ↦
          rw (ne_eqb g.start h.start apart.0) (
            other_ended b c h g old mapped kept apart.1.0 parts.0,
            (stand_ended g h end hs apart.1.1 beside.1 parts.1.0, rest),
          )
    ]

-- the recorded ranges that are no heaps
placed_ended : (r : Region) (h : HeapList) (end : ℕ) (hs : List HeapList) → AreOthers h hs
    → (h.end < end → AreClear (h.start + h.end) (end - h.end) r.at r.len) → IsPlacedIn hs r → IsPlacedIn (with_end h.start end hs) r
placed_ended r h end [] others grown placed = tt
placed_ended r h end (g ∷ hs) others grown placed =
    let rest : IsPlacedIn (with_end h.start end hs) r = placed_ended r h end hs others.1 grown placed.1 in
    elim others.0 [
      | inr apart ↦ rw (ne_eqb g.start h.start apart.0) (placed.0, rest)
      | inl same ↦
          let start : g.start ≡ h.start = ap (λ (x : HeapList). x.start) same in
          let grown' : g.end < end → AreClear (g.start + g.end) (end - g.end) r.at r.len =
          subst (λ (x : HeapList). x.end < end → AreClear (x.start + x.end) (end - x.end) r.at r.len) (sym same) grown in
          rw (eq-eqb g.start h.start start) (
            elim placed.0 [
              | inr image ↦ inr (record { image = image.image; area = image.area; live = image.live })
              | inl clear ↦ inl (clear_both_ways g.start end r.at r.len
                  (clear_grown g.start g.end end r.at r.len (clear_both_ways r.at r.len g.start g.end clear) grown'))
            ],
            rest,
          )
    ]

others_ended : (h : HeapList) (end : ℕ) (hs : List HeapList) (rs : List Region) → AreOthers h hs
    → (h.end < end → list_any (λ r. shares_address (h.start + h.end) (end - h.end) r.at r.len) rs ≡ false)
    → ArePlaced hs rs → ArePlaced (with_end h.start end hs) rs
others_ended h end hs [] others grown placed = tt
others_ended h end hs (r ∷ rs) others grown placed =
    let parts = λ (more : h.end < end). or_parts (shares_address (h.start + h.end) (end - h.end) r.at r.len) (list_any (λ r. shares_address (h.start + h.end) (end - h.end) r.at r.len) rs) (grown more) in (
      placed_ended r h end hs others (λ more. clear_unless (h.start + h.end) (end - h.end) r.at r.len (parts more).0) placed.0,
      others_ended h end hs rs others (λ more. (parts more).1) placed.1,
    )

places-ended : (start end : ℕ) (hs : List HeapList) → SamePlaces hs (with_end start end hs)
places-ended start end [] = tt
places-ended start end (h ∷ hs) = elim (cases_Bool (h.start == start)) [
  | inl here ↦ rw here ((refl, refl), places-ended start end hs)
  | inr other ↦ rw other ((refl, refl), places-ended start end hs)
]

-- what MayEnd says of the ranges
pub unobstructed : (at len new more : ℕ) (s : Store) → is_obstructed at len new more s ≡ false
    → ((list_any (is_in_way at len new more) s.heaps ≡ false) × (list_any (λ r. shares_address new more r.at r.len) s.others ≡ false))
    × (anchor_among s.anchor new more ≡ false)
unobstructed at len new more s free =
    let heaps : Bool = list_any (is_in_way at len new more) s.heaps in
    let others : Bool = list_any (λ r. shares_address new more r.at r.len) s.others in
    let both = or_parts (heaps || others) (anchor_among s.anchor new more) free in
    (or_parts heaps others both.0, both.1)

pub may_grow : (s : Store) (h : HeapList) (end : ℕ) → overgrows s h end ≡ false → h.end < end
    → is_obstructed h.start end (h.start + h.end) (end - h.end) s ≡ false
may_grow s h end clear more = rw (lt-ltb h.end end more) at clear

heaps_clear : (s : Store) (h : HeapList) (end : ℕ) → MayEnd s h end → MayGrow h end s.heaps
heaps_clear s h end may = record {
  free = λ more. (unobstructed h.start end (h.start + h.end) (end - h.end) s (may_grow s h end may.clear more)).0.0;
}

ranges_clear : (s : Store) (h : HeapList) (end : ℕ) → MayEnd s h end → h.end < end
    → list_any (λ r. shares_address (h.start + h.end) (end - h.end) r.at r.len) s.others ≡ false
ranges_clear s h end may more =
    let none = (unobstructed h.start end (h.start + h.end) (end - h.end) s (may_grow s h end may.clear more)).0 in
    none.1

-- an anchor outside the heap isn't in what it grows by either
anchor_outside : (s : Store) (h : HeapList) (end a : ℕ) → MayEnd s h end → s.anchor a ≡ true → in_range h.start h.end a ≡ false
    → in_range h.start end a ≡ false
anchor_outside s h end a may is out = false_from_ne_true (in_range h.start end a) (λ inside.
    elim (in_range-cases h.start end a) [
      | inr other ↦ both_ways (in_range h.start end a) other.0 inside
      | inl here ↦ elim (in_range-cases h.start h.end a) [
        | inl there ↦ both_ways (in_range h.start h.end a) out there.0
        | inr beyond ↦ elim beyond.1 [
          | inl low ↦ absurd (omega (arith, here.1, low))
          | inr past ↦
              let more : h.end < end = omega (arith, here.2, past) in
              let none = (unobstructed h.start end (h.start + h.end) (end - h.end) s (may_grow s h end may.clear more)).1 in
              both_ways (s.anchor a) (none_among s.anchor (h.start + h.end) (end - h.end) a none (omega (arith, past)) (omega (arith, here.2))) is
        ]
      ]
    ])

-- the records after the length of one changed
same_kind : (k : Kind) → is_heap_kind k ≡ true → are_same k k ≡ true
same_kind kind.Heap heap = refl
same_kind kind.Rma heap = refl
same_kind kind.FlexStore heap = absurd (false≢true heap)
same_kind kind.FlexHeader heap = absurd (false≢true heap)
same_kind kind.Anchor heap = absurd (false≢true heap)
same_kind kind.HeadWord heap = absurd (false≢true heap)
same_kind kind.Image heap = absurd (false≢true heap)
same_kind kind.SystemPage heap = absurd (false≢true heap)

pub own_heap : (k : Kind) → has_own_size k ≡ true → is_heap_kind k ≡ true
own_heap kind.Heap own = refl
own_heap kind.Rma own = refl
own_heap kind.FlexStore own = absurd (false≢true own)
own_heap kind.FlexHeader own = absurd (false≢true own)
own_heap kind.Anchor own = absurd (false≢true own)
own_heap kind.HeadWord own = absurd (false≢true own)
own_heap kind.Image own = absurd (false≢true own)
own_heap kind.SystemPage own = absurd (false≢true own)

others_in-ended : (k : Kind) (at len : ℕ) (rs : List Region) → is_heap_kind k ≡ true → others_in (with_len rs k at len) ≡ others_in rs
others_in-ended k at len [] own = refl
others_in-ended k at len (r ∷ rs) own =
    elim (cases_Bool (is_record k at r)) [
      | inl here ↦
          let heap : is_heap_kind r.kind ≡ true = ap is_heap_kind (record_parts k at r here).0 ∙ own in
          rw (here, heap) refl
      | inr other ↦ rw other (elim (cases_Bool (is_heap_kind r.kind)) [
        | inl heap ↦ rw heap (others_in-ended k at len rs own)
        | inr plain ↦ rw plain (ap (λ (xs : List Region). r ∷ xs) (others_in-ended k at len rs own))
      ])
    ]

same_part : (k : Kind) (start end : ℕ) (xs ys : List Item) → xs ≡ ys
    → (let p : HeapList = record { kind = k; start = start; end = end; items = xs } in let q : HeapList = record { kind = k; start = start; end = end; items = ys } in p ≡ q)
same_part k start end xs ys same = λ i. record { kind = k; start = start; end = end; items = same i }

-- the bytes after the word of the end was written, and what is known of the heap in them
record IsEnded (b c : Bytes) (h : HeapList) (end : ℕ) : Type 0 where
  pub old : IsHeapIn b h.start h.end h.items
  pub mapped : c.mapped ≡ b.mapped
  pub kept : (a : ℕ) → AreApart a 1 (h.start + 12) 4 → c.at a ≡ b.at a
  pub heap : IsHeapIn c h.start end h.items

read_beside : (b c : Bytes) (h : HeapList) (end : ℕ) (r : Region) → IsEnded b c h end → StandsApart h (heap_in b r)
    → IsHeapIn b r.at r.len (items_in (word_at b.at) r.at) → heap_in c r ≡ heap_in b r
read_beside b c h end r is_ended apart heap =
    same_part r.kind r.at r.len _ _
    (items_in-heap c r.at r.len (items_in (word_at b.at) r.at) (other_ended b c h (heap_in b r) is_ended.old is_ended.mapped is_ended.kept apart heap))

-- the heaps behind that whose end changed
read_elsewhere : (b c : Bytes) (h : HeapList) (end : ℕ) (rs : List Region) → IsEnded b c h end → AreElsewhere h (heaps_in b rs) → AreHeapsIn b (heaps_in b rs)
    → heaps_in c rs ≡ with_end h.start end (heaps_in b rs)
read_elsewhere b c h end [] is_ended others parts = refl
read_elsewhere b c h end (r ∷ rs) is_ended others parts =
    elim (cases_Bool (is_heap_kind r.kind)) [
      | inl heap ↦
          let others' = rw heap at others in
          let parts' = rw heap at parts in
          rw (heap, ne_eqb r.at h.start others'.0.0) (
          cons_part _ _ _ _ (read_beside b c h end r is_ended others'.0.1 parts'.0) (read_elsewhere b c h end rs is_ended others'.1 parts'.1.1)
          )
      | inr plain ↦ rw plain (read_elsewhere b c h end rs is_ended (rw plain at others) (rw plain at parts))
    ]

read_ended : (b c : Bytes) (h : HeapList) (end : ℕ) (rs : List Region) → is_heap_kind h.kind ≡ true → IsEnded b c h end
    → AreBeside h end (heaps_in b rs) → AreHeapsIn b (heaps_in b rs)
    → heaps_in c (with_len rs h.kind h.start end) ≡ with_end h.start end (heaps_in b rs)
read_ended b c h end [] own is_ended beside parts = refl
read_ended b c h end (r ∷ rs) own is_ended beside parts =
    elim (cases_Bool (is_heap_kind r.kind)) [
      | inl heap ↦
          let beside' = rw heap at beside in
          let parts' = rw heap at parts in
          rw heap (elim (cases_Bool (is_record h.kind h.start r)) [
            | inl here ↦ read_here here heap beside'.0 beside'.1 parts'.1.0 parts'.1.1
            | inr other ↦ read_other other heap beside'.0 parts'.0 (read_ended b c h end rs own is_ended beside'.1 parts'.1.1)
          ])
      | inr plain ↦
          let other : is_record h.kind h.start r ≡ false = not_record plain in
          rw (other, plain) (read_ended b c h end rs own is_ended (rw plain at beside) (rw plain at parts))
    ] where
      not_record : is_heap_kind r.kind ≡ false → is_record h.kind h.start r ≡ false
      not_record plain = elim (cases_Bool (is_record h.kind h.start r)) [
        | inl here ↦
            let heap : is_heap_kind r.kind ≡ true = ap is_heap_kind (record_parts h.kind h.start r here).0 ∙ own in
            absurd (both_ways (is_heap_kind r.kind) plain heap)
        | inr other ↦ other
      ]

      read_here : is_record h.kind h.start r ≡ true → is_heap_kind r.kind ≡ true → IsBeside h end (heap_in b r) → AreBeside h end (heaps_in b rs)
          → StandApart (heap_in b r) (heaps_in b rs) → AreHeapsIn b (heaps_in b rs)
          → heaps_in c (with_len (r ∷ rs) h.kind h.start end) ≡ with_end h.start end (heap_in b r ∷ heaps_in b rs)
      read_here here heap (inl same) beside stand parts =
          let start : r.at ≡ h.start = ap (λ (x : HeapList). x.start) same in
          let stand' : StandApart h (heaps_in b rs) = subst (λ (x : HeapList). StandApart x (heaps_in b rs)) same stand in
          let items : items_in (word_at b.at) r.at ≡ h.items = ap (λ (x : HeapList). x.items) same in
          let list : items_in (word_at c.at) r.at ≡ items_in (word_at b.at) r.at =
          rw start (items_in-heap c h.start end h.items is_ended.heap) ∙ sym items in
          rw (here, heap, eq-eqb r.at h.start start) (
          cons_part _ _ _ _ (same_part r.kind r.at end _ _ list)
          (read_elsewhere b c h end rs is_ended (elsewhere b h end (heaps_in b rs) is_ended.old stand' beside) parts)
          )
      read_here here heap (inr apart) beside stand parts = absurd (apart.0 (record_parts h.kind h.start r here).1)

      read_other : is_record h.kind h.start r ≡ false → is_heap_kind r.kind ≡ true → IsBeside h end (heap_in b r)
          → IsHeapIn b r.at r.len (items_in (word_at b.at) r.at)
          → heaps_in c (with_len rs h.kind h.start end) ≡ with_end h.start end (heaps_in b rs)
          → heaps_in c (with_len (r ∷ rs) h.kind h.start end) ≡ with_end h.start end (heap_in b r ∷ heaps_in b rs)
      read_other other heap (inl same) here rest =
          let start : r.at ≡ h.start = ap (λ (x : HeapList). x.start) same in
          let k : r.kind ≡ h.kind = ap (λ (x : HeapList). x.kind) same in
          let is : is_record h.kind h.start r ≡ true = rw (k, same_kind h.kind own, eq-eqb r.at h.start start) refl in
          absurd (both_ways (is_record h.kind h.start r) other is)
      read_other other heap (inr apart) here rest =
          rw (other, heap, ne_eqb r.at h.start apart.0) (cons_part _ _ _ _ (read_beside b c h end r is_ended apart.1.0 here) rest)

-- what a call that changes the end leaves of memory and the records
pub record EndsAt (m n : AddressMap) (h : HeapList) (end : ℕ) : Type 0 where
  pub sound : IsSound (store_of m)
  pub found : find_heap h.start (store_of m).heaps ≡ Some h
  pub own : is_heap_kind h.kind ≡ true
  pub may : MayEnd (store_of m) h end
  pub same : layout n ≡ layout m
  pub marks : class_of n ≡ class_of m
  pub word : IsWordWritten (byte_at m) (byte_at n) (h.start + 12) end

old_heap : (m n : AddressMap) (h : HeapList) (end : ℕ) → EndsAt m n h end → IsHeapIn (bytes_of m) h.start h.end h.items
unfolding store_of
old_heap m n h end e = found_heap (bytes_of m) h.start (heaps_in (bytes_of m) (regions m)) h e.sound.heaps e.found

new_heap : (m n : AddressMap) (h : HeapList) (end : ℕ) → EndsAt m n h end → IsHeapIn (bytes_of n) h.start end h.items
unfolding store_of
new_heap m n h end e =
    end_written (bytes_of m) (bytes_of n) h.start h.end end h.items (old_heap m n h end e) (can_hold (bytes_of m) h.start end e.may.region)
    (ltb-false end (16 + size_of h.items) e.may.inside) (is_mapped-layout m n e.same) e.word

ended_bytes : (m n : AddressMap) (h : HeapList) (end : ℕ) → EndsAt m n h end → IsEnded (bytes_of m) (bytes_of n) h end
ended_bytes m n h end e = record {
  old = old_heap m n h end e;
  mapped = is_mapped-layout m n e.same;
  kept = e.word.other;
  heap = new_heap m n h end e;
}

becomes_ended : (m n : AddressMap) (h : HeapList) (end : ℕ) → EndsAt m n h end → Becomes m n h.start end h.items
becomes_ended m n h end e = record {
  heap = new_heap m n h end e;
  same = e.same;
  others = λ a apart out. e.word.other a (elim apart [ inl low ↦ inl (omega arith) | inr high ↦ inr (omega arith) ]);
  marks = unmarked (class_of m) (class_of n) (h.start + 16) (items_at m h.start) h.items (λ a i. e.marks i a)
      (λ p. ap (λ (xs : List Item). is_head (h.start + 16) xs p) (sym (items_in-heap (bytes_of m) h.start h.end h.items (old_heap m n h end e))));
}

all_beside : (m n : AddressMap) (h : HeapList) (end : ℕ) → EndsAt m n h end → AreBeside h end (heaps_in (bytes_of m) (regions m))
unfolding store_of
all_beside m n h end e =
    let hs : List HeapList = heaps_in (bytes_of m) (regions m) in
    are_beside (bytes_of m) h end hs (old_heap m n h end e) e.sound.heaps (are_others (bytes_of m) h.start hs h e.sound.heaps e.found)
    (heaps_clear (store_of m) h end e.may)

pub store_ended : (m n o : AddressMap) (h : HeapList) (end : ℕ) → EndsAt m n h end → bytes_of o ≡ bytes_of n
    → regions o ≡ with_len (regions m) h.kind h.start end → class_of o ≡ class_of n → store_of o ≡ ending (store_of m) h end
unfolding store_of
store_ended m n o h end e bytes records marks =
    let c : Bytes = bytes_of n in
    let rs : List Region = with_len (regions m) h.kind h.start end in
    let heaps : heaps_in c rs ≡ with_end h.start end (heaps_in (bytes_of m) (regions m)) =
    read_ended (bytes_of m) c h end (regions m) e.own (ended_bytes m n h end e) (all_beside m n h end e) e.sound.heaps in
    let others : others_in rs ≡ others_in (regions m) = others_in-ended h.kind h.start end (regions m) e.own in
    let written : c ≡ record { mapped = is_mapped m; at = with_heap (byte_at m) h.start end h.items } = bytes_held m n h.start end h.items (becomes_ended m n h end e) in
    let flex : AreSameFlex (class_of m) (class_of o) = same_flex (class_of m) (class_of o) (marks ∙ e.marks) in
    rw (bytes, records) (λ i. record {
      bytes = written i;
      heaps = heaps i;
      others = others i;
      anchor = λ a. flex.anchors a i;
      header = λ a. flex.headers a i;
    })

pub sound_ended : (m n o : AddressMap) (h : HeapList) (end : ℕ) → EndsAt m n h end → bytes_of o ≡ bytes_of n
    → regions o ≡ with_len (regions m) h.kind h.start end → class_of o ≡ class_of n → IsSound (store_of o)
unfolding store_of
sound_ended m n o h end e bytes records marks =
    let c : Bytes = bytes_of n in
    let hs : List HeapList = heaps_in (bytes_of m) (regions m) in
    let heaps : heaps_in c (with_len (regions m) h.kind h.start end) ≡ with_end h.start end hs =
    read_ended (bytes_of m) c h end (regions m) e.own (ended_bytes m n h end e) (all_beside m n h end e) e.sound.heaps in
    let others : others_in (with_len (regions m) h.kind h.start end) ≡ others_in (regions m) = others_in-ended h.kind h.start end (regions m) e.own in
    let is_ended : IsEnded (bytes_of m) c h end = ended_bytes m n h end e in
    let others_beside : AreOthers h hs = are_others (bytes_of m) h.start hs h e.sound.heaps e.found in
    let flex : AreSameFlex (class_of m) (class_of o) = same_flex (class_of m) (class_of o) (marks ∙ e.marks) in
    rw (bytes, records, heaps, others) (record {
      heaps = parts_ended (bytes_of m) c h end hs is_ended.old is_ended.mapped is_ended.kept is_ended.heap (all_beside m n h end e) e.sound.heaps;
      limits = same_limits hs _ (places-ended h.start end hs) e.sound.limits;
      placed = others_ended h end hs (others_in (regions m)) others_beside (ranges_clear (store_of m) h end e.may) e.sound.placed;
      apart = e.sound.apart;
      few = e.sound.few;
      anchors = λ a is.
          let was = sym (flex.anchors a) ∙ is in (
            ap (λ (f : ℕ → Bool). f a) (is_mapped-layout m n e.same) ∙ (e.sound.anchors a was).0,
            place_ended h end hs a others_beside (anchor_outside (store_of m) h end a e.may was) (e.sound.anchors a was).1,
          );
      headers = λ a is. e.sound.headers a (sym (flex.headers a) ∙ is);
    })

pub classes_ended : (m n o : AddressMap) (h : HeapList) (end : ℕ) → EndsAt m n h end → bytes_of o ≡ bytes_of n
    → regions o ≡ with_len (regions m) h.kind h.start end → class_of o ≡ class_of n → AreClasses m → AreClasses o
classes_ended m n o h end e bytes records marks same =
    subst (λ (s : Store). AreBy (class_of o) s.heaps) (sym (store_ended m n o h end e bytes records marks))
    (marks_ended (class_of m) (class_of o) h.start end (store_of m).heaps same (λ a. ap (λ (f : ℕ → Class). f a) (marks ∙ e.marks)))
