-- A live block that holds all of a range, and the walk that finds it.
use Rattle.std.proofs.Common.{List, ℕ, [], ◌∷◌, ◌≡◌, ◌≢◌, ◌+◌, ◌-◌, ◌≤◌, ◌<◌, ◌==◌, ◌&&◌, ◌||◌, ◌∙◌, Bool, Some, None, true, false, cond, is_some, leb, ltb, refl, ap, inl, inr, arith}
use Rattle.std.proofs.lemmas.Bool.{false≢true, both_ways, cases_Bool, and_parts, or_right, false_from_ne_true, le-leb, lt-ltb, leb-true, ltb-true, eqb-true, eq-eqb}
use Rattle.os_heap_words.specs.Bytes.{in_range}
use Rattle.os_heap_words.specs.Items.{size_of, total_of}
use Rattle.os_heap_words.specs.Item.{Item}
use Rattle.os_heap_words.specs.Item.TheVariants.{Live, Free}
use Rattle.os_heap_words.proofs.ListsLemmas.LinkWalk.{live_low, live_next}
use Rattle.os_heap_words.proofs.ListsLemmas.Reading.{total_facts}
use Rattle.os_heap_words.specs.lists.Heap.{AreTotals}
use Rattle.os_heap_words.specs.lists.Lists.{live_total}
use Rattle.os_heap.specs.Nesting.{holds_range}
use Rattle.os_heap.specs.Payloads.{holds_byte}
use Rattle.os_heap.specs.Probes.{walked_to}

pub record HoldsRange (at : ℕ) (items : List Item) (from len : ℕ) : Type 0 where
  pub block : ℕ
  pub total : ℕ
  pub live : live_total block at items ≡ Some total
  pub low : block ≤ from
  pub high : from + len + 4 ≤ block + total

later_range : (at : ℕ) (item : Item) (items : List Item) (from len : ℕ) → 8 ≤ total_of item → HoldsRange (at + total_of item) items from len
    → HoldsRange at (item ∷ items) from len
later_range at (Free t) items from len least h = record { block = h.block; total = h.total; live = h.live; low = h.low; high = h.high }
later_range at (Live t) items from len least h =
    let low : at + t + 4 ≤ h.block = live_low h.block (at + t) items (ap is_some h.live) in
    let other : at + 4 ≢ h.block = λ (same : at + 4 ≡ h.block). omega arith in
    record { block = h.block; total = h.total; live = live_next h.block at t items other ∙ h.live; low = h.low; high = h.high }

pub range_held : (at : ℕ) (items : List Item) (from len : ℕ) → AreTotals items → holds_range at items from len ≡ true → HoldsRange at items from len
range_held at [] from len totals is = absurd (false≢true is)
range_held at (Free t ∷ xs) from len totals is =
    later_range at (Free t) xs from len (total_facts t totals.0).0 (range_held (at + t) xs from len totals.1 is)
range_held at (Live t ∷ xs) from len totals is = elim (cases_Bool (leb (at + 4) from && leb (from + len) (at + t))) [
  | inl here ↦
      let both = and_parts (leb (at + 4) from) (leb (from + len) (at + t)) here in
      let high : from + len ≤ at + t = leb-true (from + len) (at + t) both.1 in
      record {
        block = at + 4;
        total = t;
        live = rw (eq-eqb (at + 4) (at + 4) refl) refl;
        low = leb-true (at + 4) from both.0;
        high = omega (arith, high);
      }
  | inr later ↦ later_range at (Live t) xs from len (total_facts t totals.0).0 (range_held (at + t) xs from len totals.1 (rw later at is))
]

pub held_range : (block total at : ℕ) (items : List Item) (from len : ℕ) → live_total block at items ≡ Some total → block ≤ from
    → from + len + 4 ≤ block + total → holds_range at items from len ≡ true
held_range block total at [] from len live low high = absurd (let none : None ≡ Some total = live in cc)
held_range block total at (Free t ∷ xs) from len live low high = held_range block total (at + t) xs from len live low high
held_range block total at (Live t ∷ xs) from len live low high = elim (cases_Bool (at + 4 == block)) [
  | inl here ↦
      let same : at + 4 ≡ block = eqb-true (at + 4) block here in
      let live' = rw here at live in
      let size : t ≡ total = cc in
      rw (le-leb (at + 4) from (omega (arith, same, low)), le-leb (from + len) (at + t) (omega (arith, same, size, high))) refl
  | inr other ↦ or_right (leb (at + 4) from && leb (from + len) (at + t)) (holds_range (at + t) xs from len)
      (held_range block total (at + t) xs from len (rw other at live) low high)
]

-- such a range lies among the bytes of the items
pub range_bounds : (at : ℕ) (items : List Item) (from len : ℕ) → holds_range at items from len ≡ true
    → (at + 4 ≤ from) × (from + len ≤ at + size_of items)
range_bounds at [] from len is = absurd (false≢true is)
range_bounds at (Free t ∷ xs) from len is =
    let rest : (at + t + 4 ≤ from) × (from + len ≤ at + t + size_of xs) = range_bounds (at + t) xs from len is in
    (omega (arith, rest.0), omega (arith, rest.1))
range_bounds at (Live t ∷ xs) from len is = elim (cases_Bool (leb (at + 4) from && leb (from + len) (at + t))) [
  | inl here ↦
      let both = and_parts (leb (at + 4) from) (leb (from + len) (at + t)) here in
      (leb-true (at + 4) from both.0, omega (arith, leb-true (from + len) (at + t) both.1))
  | inr later ↦
      let rest : (at + t + 4 ≤ from) × (from + len ≤ at + t + size_of xs) = range_bounds (at + t) xs from len (rw later at is) in
      (omega (arith, rest.0), omega (arith, rest.1))
]

not_held : (at : ℕ) (items : List Item) (from len : ℕ) → from < at + 4 → holds_range at items from len ≡ false
not_held at items from len before = false_from_ne_true (holds_range at items from len) (λ is. absurd (omega (arith, before, (range_bounds at items from len is).0)))

-- an item that does not have the range's first byte does not hold it
pub range_passed : (at : ℕ) (item : Item) (items : List Item) (from len : ℕ) → 0 < len → holds_byte at item from ≡ false
    → holds_range (at + total_of item) items from len ≡ holds_range at (item ∷ items) from len
range_passed at (Free t) items from len some passed = refl
range_passed at (Live t) items from len some passed =
    let none : (leb (at + 4) from && leb (from + len) (at + t)) ≡ false = false_from_ne_true (leb (at + 4) from && leb (from + len) (at + t)) (λ is.
    let both = and_parts (leb (at + 4) from) (leb (from + len) (at + t)) is in
    let low : at + 4 ≤ from = leb-true (at + 4) from both.0 in
    let high : from + len ≤ at + t = leb-true (from + len) (at + t) both.1 in
    both_ways (in_range (at + 4) (t - 4) from) passed (rw (le-leb (at + 4) from low, lt-ltb from (at + 4 + (t - 4)) (omega (arith, low, high, some))) refl)) in
    rw none refl

or_false : (t : Bool) → t ≡ (t || false)
or_false true = refl
or_false false = refl

-- and one that has it decides
pub range_decided : (at : ℕ) (item : Item) (items : List Item) (from len : ℕ) (fits : Bool) → holds_byte at item from ≡ true
    → leb len (at + total_of item - from) ≡ fits → fits ≡ holds_range at (item ∷ items) from len
range_decided at (Free t) items from len fits held is = absurd (false≢true held)
range_decided at (Live t) items from len fits held is =
    let both = and_parts (leb (at + 4) from) (ltb from (at + 4 + (t - 4))) held in
    let low : at + 4 ≤ from = leb-true (at + 4) from both.0 in
    let high : from < at + 4 + (t - 4) = ltb-true from (at + 4 + (t - 4)) both.1 in
    let rest : holds_range (at + t) items from len ≡ false = not_held (at + t) items from len (omega (arith, low, high)) in
    let same : leb (from + len) (at + t) ≡ leb len (at + t - from) = elim (cases_Bool (leb len (at + t - from))) [
      | inl short ↦ rw short (le-leb (from + len) (at + t) (omega (arith, low, high, leb-true len (at + t - from) short)))
      | inr long ↦ rw long (false_from_ne_true (leb (from + len) (at + t)) (λ is'.
          both_ways (leb len (at + t - from)) long (le-leb len (at + t - from) (omega (arith, low, high, leb-true (from + len) (at + t) is')))))
    ] in
    rw (rest, le-leb (at + 4) from low, same, is) (or_false fits)

-- the item that holds the byte is the last that a walk to it passes
pub walk_ends : (at here : ℕ) (item : Item) (items : List Item) → holds_byte here item at ≡ true → walked_to at here (item ∷ items) ≡ 1
walk_ends at here item items held = ap (λ (t : Bool). cond t 1 (1 + walked_to at (here + total_of item) items)) held

pub walk_goes : (at here : ℕ) (item : Item) (items : List Item) → holds_byte here item at ≡ false
    → walked_to at here (item ∷ items) ≡ 1 + walked_to at (here + total_of item) items
walk_goes at here item items passed = ap (λ (t : Bool). cond t 1 (1 + walked_to at (here + total_of item) items)) passed
