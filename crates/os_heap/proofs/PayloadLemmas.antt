-- Where a byte lies among the heaps, heap by heap; and that an aligned word which lies in no heap, or in what live blocks hold, may be an anchor.
use Rattle.std.proofs.Common.{◌≡◌, ℕ, ◌+◌, ◌-◌, ◌≤◌, ◌<◌, ◌%◌, ◌&&◌, true, false, List, [], ◌∷◌, ◌≢◌, is_some, refl, sym, ap, ◌∙◌, arith, inl, inr}
use Rattle.std.proofs.lemmas.Bool.{cases_Bool, true≢false, and_parts, le-leb, lt-ltb, leb-true, ltb-true, eq-eqb}
use Rattle.os_heap_words.specs.Bytes.{Bytes, in_range, word_start}
use Rattle.os_heap_words.specs.Items.{total_of}
use Rattle.os_heap_words.specs.Records.{is_heap_kind}
use Rattle.os_heap_words.specs.Item.{Item}
use Rattle.os_heap_words.specs.Item.TheVariants.{Live, Free}
use Rattle.os_heap_words.specs.Region.{Region}
use Rattle.os_heap_words.specs.lists.Heap.{AreTotals, HeapList, IsHeapIn}
use Rattle.os_heap_words.proofs.ListsLemmas.LinkWalk.{live_low, live_next}
use Rattle.os_heap_words.proofs.ListsLemmas.Reading.{total_facts}
use Rattle.os_heap.specs.Payloads.{is_other, payload_from, payload_in, payload_of, payload_or}
use Rattle.os_heap.specs.Store.{AreHeapsIn, heap_in, heaps_in, IsAnchorPlace, IsInBlock}
use Rattle.os_heap.specs.declared.payload.Payload.{Payload}
use Rattle.os_heap.specs.declared.payload.Payload.TheVariants.{Outside, Inside, Other}

-- heaps round each other, one by one
pub payload_then : (p q r : Payload) → payload_or (payload_or p q) r ≡ payload_or p (payload_or q r)
payload_then Other q r = refl
payload_then Outside q r = refl
payload_then (Inside a n) Other r = refl
payload_then (Inside a n) Outside r = refl
payload_then (Inside a n) (Inside b m) Other = refl
payload_then (Inside a n) (Inside b m) Outside = refl
payload_then (Inside a n) (Inside b m) (Inside c l) = refl

pub payload_last : (p : Payload) → payload_or p Outside ≡ p
payload_last Other = refl
payload_last Outside = refl
payload_last (Inside a n) = refl

other_parts : (p q : Payload) → is_other (payload_or p q) ≡ false → (is_other p ≡ false) × (is_other q ≡ false)
other_parts Other q is = absurd (true≢false is)
other_parts Outside q is = (refl, is)
other_parts (Inside a n) Other is = absurd (true≢false is)
other_parts (Inside a n) Outside is = (refl, refl)
other_parts (Inside a n) (Inside b m) is = (refl, refl)

-- one recorded range more
pub round_next : (b : Bytes) (r : Region) (rs : List Region) (found : Payload) (a : ℕ) → (is_heap_kind r.kind && in_range r.at r.len a) ≡ true
    → payload_or (payload_or found (payload_in (heap_in b r) a)) (payload_of (heaps_in b rs) a) ≡ payload_or found (payload_of (heaps_in b (r ∷ rs)) a)
round_next b r rs found a round =
    let parts = and_parts (is_heap_kind r.kind) (in_range r.at r.len a) round in
    rw (parts.0, parts.1) (payload_then found (payload_in (heap_in b r) a) (payload_of (heaps_in b rs) a))

pub passed_next : (b : Bytes) (r : Region) (rs : List Region) (a : ℕ) → (is_heap_kind r.kind && in_range r.at r.len a) ≡ false
    → payload_of (heaps_in b rs) a ≡ payload_of (heaps_in b (r ∷ rs)) a
passed_next b r rs a passed = elim (cases_Bool (is_heap_kind r.kind)) [
  | inl heap ↦ let out = rw heap at passed in rw (heap, out) refl
  | inr other ↦ rw other refl
]

pub heap_round : (b : Bytes) (r : Region) (rs : List Region) (a : ℕ) → (is_heap_kind r.kind && in_range r.at r.len a) ≡ true
    → AreHeapsIn b (heaps_in b (r ∷ rs)) → IsHeapIn b r.at r.len (heap_in b r).items
heap_round b r rs a round heaps =
    let parts = and_parts (is_heap_kind r.kind) (in_range r.at r.len a) round in
    let heaps' = rw parts.0 at heaps in
    heaps'.0

pub heaps_behind : (b : Bytes) (r : Region) (rs : List Region) → AreHeapsIn b (heaps_in b (r ∷ rs)) → AreHeapsIn b (heaps_in b rs)
heaps_behind b r rs heaps = elim (cases_Bool (is_heap_kind r.kind)) [
  | inl heap ↦ let heaps' = rw heap at heaps in heaps'.1.1
  | inr other ↦ let heaps' = rw other at heaps in heaps'
]

-- a byte of an aligned word lies where the word does
pub word_outside : (start end a p : ℕ) → start % 4 ≡ 0 → end % 4 ≡ 0 → a % 4 ≡ 0 → word_start p ≡ a → in_range start end a ≡ false
    → in_range start end p ≡ false
word_outside start end a p aligned whole word here out = elim (cases_Bool (in_range start end p)) [
  | inr clear ↦ clear
  | inl inside ↦
      let parts = and_parts _ _ inside in
      let low : start ≤ p = leb-true start p parts.0 in
      let high : p < start + end = ltb-true p (start + end) parts.1 in
      let there : in_range start end a ≡ true = rw (le-leb start a (omega arith), lt-ltb a (start + end) (omega arith)) refl in
      absurd (true≢false (sym there ∙ out))
]

later_block : (at : ℕ) (item : Item) (items : List Item) (p : ℕ) → 8 ≤ total_of item → IsInBlock (at + total_of item) items p → IsInBlock at (item ∷ items) p
later_block at (Free t) items p least b = record { block = b.block; total = b.total; live = b.live; low = b.low; high = b.high }
later_block at (Live t) items p least b =
    let low : at + t + 4 ≤ b.block = live_low b.block (at + t) items (ap is_some b.live) in
    let other : at + 4 ≢ b.block = λ (same : at + 4 ≡ b.block). omega arith in
    record { block = b.block; total = b.total; live = live_next b.block at t items other ∙ b.live; low = b.low; high = b.high }

in_block : (at : ℕ) (items : List Item) (a p : ℕ) → AreTotals items → at % 4 ≡ 0 → a % 4 ≡ 0 → word_start p ≡ a
    → is_other (payload_from at items a) ≡ false → IsInBlock at items p
in_block at [] a p totals aligned word here place = absurd (true≢false place)
in_block at (Free t ∷ xs) a p totals aligned word here place =
    let facts = total_facts t totals.0 in
    later_block at (Free t) xs p facts.0 (in_block (at + t) xs a p totals.1 (omega (arith, facts.1)) word here place)
in_block at (Live t ∷ xs) a p totals aligned word here place =
    let facts = total_facts t totals.0 in
    elim (cases_Bool (in_range (at + 4) (t - 4) a)) [
      | inl held ↦
          let parts = and_parts _ _ held in
          let low : at + 4 ≤ a = leb-true (at + 4) a parts.0 in
          let high : a < at + 4 + (t - 4) = ltb-true a (at + 4 + (t - 4)) parts.1 in
          record {
            block = at + 4;
            total = t;
            live = rw (eq-eqb (at + 4) (at + 4) refl) refl;
            low = omega arith;
            high = omega (arith, facts.0, facts.1);
          }
      | inr not_held ↦
          let place' : is_other (payload_from (at + t) xs a) ≡ false = rw not_held at place in
          later_block at (Live t) xs p facts.0 (in_block (at + t) xs a p totals.1 (omega (arith, facts.1)) word here place')
    ]

-- An aligned word may be an anchor where it is in no heap, or in what live blocks hold: so each of its bytes is.
pub anchor_placed : (b : Bytes) (hs : List HeapList) (a p : ℕ) → AreHeapsIn b hs → a % 4 ≡ 0 → word_start p ≡ a → is_other (payload_of hs a) ≡ false
    → IsAnchorPlace hs p
anchor_placed b [] a p heaps word here place = tt
anchor_placed b (h ∷ hs) a p heaps word here place = elim (cases_Bool (in_range h.start h.end a)) [
  | inl inside ↦
      let place' : is_other (payload_or (payload_in h a) (payload_of hs a)) ≡ false = rw inside at place in
      let parts = other_parts (payload_in h a) (payload_of hs a) place' in (
        inr (in_block (h.start + 16) h.items a p heaps.0.totals (omega (arith, heaps.0.aligned)) word here parts.0),
        anchor_placed b hs a p heaps.1.1 word here parts.1,
      )
  | inr outside ↦
      let place' : is_other (payload_of hs a) ≡ false = rw outside at place in (
        inl (word_outside h.start h.end a p heaps.0.aligned heaps.0.whole word here outside),
        anchor_placed b hs a p heaps.1.1 word here place',
      )
]

pub ruleset rounds = (payload_last, round_next, passed_next, heaps_behind)
