-- The live items of a list that slides: each holds what it held, at the same place among the live
-- ones.
use Rattle.std.proofs.Common.{ℕ, Bool, true, false, zero, suc, ◌+◌, ◌-◌, ◌==◌, ◌≡◌, ◌≢◌, ◌≤◌, ◌<◌, ◌∙◌, List, [], ◌∷◌, ◌++◌, map, Option, Some, None, is_some, option_map, refl, sym, ap, inl, inr, arith}
use Rattle.std.specs.Prelude.{if◌then◌else◌}
use Rattle.std.specs.List.{range_with_len}
use Rattle.std.proofs.lemmas.Bool.{both_ways, cases_Bool, cases_lt, eq-eqb, eqb-true, false_from_ne_true, false≢true, ne_eqb}
use Rattle.address_map.specs.Bytes.{in_range}
use Rattle.address_map.specs.Items.{size_of}
use Rattle.address_map.specs.Moves.{moved_to}
use Rattle.address_map.specs.declared.follow.BlockMove.{BlockMove}
use Rattle.address_map.specs.declared.item.Item.{Item}
use Rattle.address_map.specs.declared.item.Item.TheVariants.{Free, Live}
use Rattle.os_heap_words.proofs.ListsLemmas.Reading.{total_facts}
use Rattle.os_heap_words.specs.lists.Heap.{AreTotals}
use Rattle.os_heap_words.specs.lists.Lists.{left_free, live_total}
use Rattle.os_heap.proofs.Apart.{range_parts}
use Rattle.os_heap.specs.Store.{IsInBlock}
use Rattle.rma.proofs.HeapSlideLemmas.Places.{between, first_moved, low_still, one_moved, some_low}
use Rattle.rma.specs.heap_slide.Slide.{move_of, moves_of, item_place_after, slid}
use Rattle.law_machine.specs.sliding_stores.Meaning.{PayloadPlace, block_number, one_further, payloads, place_among, seen_byte_at}

-- two functions that are the same over two ranges
pub map_same : {X : Type 0} (f g : ℕ → X) (from to n : ℕ) → ((k : ℕ) → k < n → g (to + k) ≡ f (from + k))
    → map g (range_with_len to n) ≡ map f (range_with_len from n)
map_same f g from to zero same = refl
map_same f g from to (suc n) same =
    let here : to ≡ to + 0 = omega arith in
    let there : from + 0 ≡ from = omega arith in
    let first : g to ≡ f from = ap g here ∙ same 0 (omega arith) ∙ ap f there in
    let rest = map_same f g (from + 1) (to + 1) n (λ k less.
    let new : to + 1 + k ≡ to + (k + 1) = omega arith in
    let old : from + (k + 1) ≡ from + 1 + k = omega arith in
    ap g new ∙ same (k + 1) (omega (arith, less)) ∙ ap f old) in
    rw (first, rest) refl

-- what is laid: a gap, if there is one, and a live item after it
payloads_laid : (byte : ℕ → Option ℕ) (top place t : ℕ) (zs : List Item) → top ≤ place
    → payloads byte top (left_free (place - top) ++ Live t ∷ zs) ≡ map byte (range_with_len (place + 4) (t - 4)) ∷ payloads byte (place + t) zs
payloads_laid byte top place t zs low = elim (cases_Bool (place - top == 0)) [
  | inl none ↦
      let e : place - top ≡ 0 = eqb-true (place - top) 0 none in
      let k : top ≡ place = omega arith in
      rw (none, k) refl
  | inr some ↦
      let k : top + (place - top) ≡ place = omega arith in
      rw (some, k) refl
]

-- A list can slide with what its items hold: those that hold anchors stay, what lies between the
-- items before and these holds none, and each block's bytes stand where it went.
pub record CanSlide (mv anchor : ℕ → Bool) (old new : ℕ → ℕ) (top at : ℕ) (xs : List Item) : Type 0 where
  pub low : top ≤ at
  pub totals : AreTotals xs
  pub clear : (a : ℕ) → top ≤ a → a < at → anchor a ≡ false
  pub held : (a : ℕ) → anchor a ≡ true → at ≤ a → a < at + size_of xs → IsInBlock at xs a
  pub free : (b t a : ℕ) → mv b ≡ true → live_total b at xs ≡ Some t → b ≤ a → a + 4 < b + t → anchor a ≡ false
  pub kept : (b t k : ℕ) → live_total b at xs ≡ Some t → k + 4 < t → new (moved_to (moves_of mv top at xs) b + k) ≡ old (b + k)

module _ (mv anchor : ℕ → Bool) (old new : ℕ → ℕ) where
  -- past a free item
  free_clear : (top at t : ℕ) (xs : List Item) → CanSlide mv anchor old new top at (Free t ∷ xs) → (a : ℕ) → at ≤ a → a < at + t → anchor a ≡ false
  free_clear top at t xs c a low high = false_from_ne_true (anchor a) (λ is.
      let h : IsInBlock at (Free t ∷ xs) a = c.held a is low (omega (arith, high)) in
      let past : at + t + 4 ≤ h.block = some_low h.block (at + t) h.total xs h.live in
      absurd (omega (arith, past, h.low, high)))

  past_free : (top at t : ℕ) (xs : List Item) → CanSlide mv anchor old new top at (Free t ∷ xs) → CanSlide mv anchor old new top (at + t) xs
  past_free top at t xs c = record {
    low = omega (arith, c.low);
    totals = c.totals.1;
    clear = λ a low high. elim (cases_lt a at) [
      | inl before ↦ c.clear a low before
      | inr behind ↦ free_clear top at t xs c a behind high
    ];
    held = λ a is low high.
        let h : IsInBlock at (Free t ∷ xs) a = c.held a is (omega (arith, low)) (omega (arith, high)) in
        record { block = h.block; total = h.total; live = h.live; low = h.low; high = h.high };
    free = λ b u a moves live low high. c.free b u a moves live low high;
    kept = λ b u k live less. c.kept b u k live less;
  }

  -- a live item is the first of a list, or one of the others
  live_here : (at t : ℕ) (xs : List Item) → live_total (at + 4) at (Live t ∷ xs) ≡ Some t
  live_here at t xs = rw (eq-eqb (at + 4) (at + 4) refl) refl

  live_later : (b u at t : ℕ) (xs : List Item) → 8 ≤ t → live_total b (at + t) xs ≡ Some u → live_total b at (Live t ∷ xs) ≡ Some u
  live_later b u at t xs least live =
      let past : at + t + 4 ≤ b = some_low b (at + t) u xs live in
      rw (ne_eqb (at + 4) b (λ (e : at + 4 ≡ b). omega (arith, past, least))) live

  -- an anchor that lies after the first item lies in a block after it
  held_later : (at t : ℕ) (xs : List Item) (a : ℕ) → at + t ≤ a → IsInBlock at (Live t ∷ xs) a → IsInBlock (at + t) xs a
  held_later at t xs a low h = elim (cases_Bool (at + 4 == h.block)) [
    | inl here ↦
        let e : at + 4 ≡ h.block = eqb-true (at + 4) h.block here in
        let live = rw here at h.live in
        let same : t ≡ h.total = cc in
        absurd (omega (arith, e, same, low, h.high))
    | inr other ↦ record { block = h.block; total = h.total; live = rw other at h.live; low = h.low; high = h.high }
  ]

  -- no anchor lies where a movable item stands, nor where it goes
  item_clear : (top at t : ℕ) (xs : List Item) → CanSlide mv anchor old new top at (Live t ∷ xs) → mv (at + 4) ≡ true
      → (a : ℕ) → top ≤ a → a < at + t → anchor a ≡ false
  item_clear top at t xs c moves a low high = elim (cases_lt a at) [
    | inl before ↦ c.clear a low before
    | inr behind ↦ elim (cases_lt a (at + 4)) [
      | inr inside ↦ c.free (at + 4) t a moves (live_here at t xs) inside (omega (arith, high))
      | inl head ↦ false_from_ne_true (anchor a) (λ is.
          let h : IsInBlock at (Live t ∷ xs) a = c.held a is behind (omega (arith, high)) in
          let past : at + 4 ≤ h.block = some_low h.block at h.total (Live t ∷ xs) h.live in
          absurd (omega (arith, past, h.low, head)))
    ]
  ]

  past_live : (top at t : ℕ) (xs : List Item) → CanSlide mv anchor old new top at (Live t ∷ xs)
      → CanSlide mv anchor old new (item_place_after (mv (at + 4)) top at + t) (at + t) xs
  past_live top at t xs c =
      let place : ℕ = item_place_after (mv (at + 4)) top at in
      let bounds : (top ≤ place) × (place ≤ at) = between (mv (at + 4)) top at c.low in
      let least = total_facts t c.totals.0 in
      record {
        low = omega (arith, bounds.1);
        totals = c.totals.1;
        clear = λ a low high. elim (cases_Bool (mv (at + 4))) [
          | inl moves ↦ item_clear top at t xs c moves a (omega (arith, bounds.0, low)) high
          | inr fixed ↦ let still : place ≡ at = rw fixed refl in absurd (omega (arith, still, low, high))
        ];
        held = λ a is low high. held_later at t xs a low (c.held a is (omega (arith, low)) (omega (arith, high)));
        free = λ b u a moves live low high. c.free b u a moves (live_later b u at t xs least.0 live) low high;
        kept = λ b u k live less.
            let past : at + t + 4 ≤ b = some_low b (at + t) u xs live in
            let to : moved_to (move_of at place ++ moves_of mv (place + t) (at + t) xs) b ≡ moved_to (moves_of mv (place + t) (at + t) xs) b =
            one_moved at place (moves_of mv (place + t) (at + t) xs) b (λ (e : at + 4 ≡ b). omega (arith, past, least.0)) in
            ap (λ (q : ℕ). new (q + k)) (sym to) ∙ c.kept b u k (live_later b u at t xs least.0 live) less;
      }

  -- what the first item holds
  byte_seen : (top at t : ℕ) (xs : List Item) → CanSlide mv anchor old new top at (Live t ∷ xs) → (k : ℕ) → k < t - 4
      → seen_byte_at anchor new (item_place_after (mv (at + 4)) top at + 4 + k) ≡ seen_byte_at anchor old (at + 4 + k)
  byte_seen top at t xs c k less =
      let place : ℕ = item_place_after (mv (at + 4)) top at in
      let bounds : (top ≤ place) × (place ≤ at) = between (mv (at + 4)) top at c.low in
      let least = total_facts t c.totals.0 in
      let ms : List BlockMove = moves_of mv (place + t) (at + t) xs in
      let to : moved_to (move_of at place ++ ms) (at + 4) ≡ place + 4 =
      first_moved at place ms (low_still mv (place + t) (at + t) xs (at + 4) (omega (arith, least.0))) in
      let byte : new (place + 4 + k) ≡ old (at + 4 + k) =
      ap (λ (q : ℕ). new (q + k)) (sym to) ∙ c.kept (at + 4) t k (live_here at t xs) (omega (arith, less)) in
      elim (cases_Bool (mv (at + 4))) [
        | inl moves ↦
            let there : anchor (place + 4 + k) ≡ false = item_clear top at t xs c moves (place + 4 + k) (omega (arith, bounds.0)) (omega (arith, bounds.1, less)) in
            let here : anchor (at + 4 + k) ≡ false = item_clear top at t xs c moves (at + 4 + k) (omega (arith, c.low)) (omega (arith, less)) in
            rw (there, here, byte) refl
        | inr fixed ↦
            let still : place ≡ at = rw fixed refl in
            let same : anchor (place + 4 + k) ≡ anchor (at + 4 + k) = ap (λ (q : ℕ). anchor (q + 4 + k)) still in
            rw (same, byte) refl
      ]

  pub payloads_slid : (top at : ℕ) (xs : List Item) → CanSlide mv anchor old new top at xs
      → payloads (seen_byte_at anchor new) top (slid mv top at xs) ≡ payloads (seen_byte_at anchor old) at xs
  payloads_slid top at [] c = refl
  payloads_slid top at (Free t ∷ xs) c = payloads_slid top (at + t) xs (past_free top at t xs c)
  payloads_slid top at (Live t ∷ xs) c =
      let place : ℕ = item_place_after (mv (at + 4)) top at in
      let bounds : (top ≤ place) × (place ≤ at) = between (mv (at + 4)) top at c.low in
      let here = map_same (seen_byte_at anchor old) (seen_byte_at anchor new) (at + 4) (place + 4) (t - 4) (byte_seen top at t xs c) in
      let rest = payloads_slid (place + t) (at + t) xs (past_live top at t xs c) in
      payloads_laid (seen_byte_at anchor new) top place t (slid mv (place + t) (at + t) xs) bounds.0 ∙ rw (here, rest) refl

  -- where an anchor is among the blocks
  place_laid : (w top place t : ℕ) (zs : List Item) → top ≤ place
      → place_among w top (left_free (place - top) ++ Live t ∷ zs) ≡ place_among w place (Live t ∷ zs)
  place_laid w top place t zs low = elim (cases_Bool (place - top == 0)) [
    | inl none ↦
        let e : place - top ≡ 0 = eqb-true (place - top) 0 none in
        let k : top ≡ place = omega arith in
        rw (none, k) refl
    | inr some ↦
        let k : top + (place - top) ≡ place = omega arith in
        rw (some, k) refl
  ]

  pub place_slid : (top at : ℕ) (xs : List Item) (w : ℕ) → CanSlide mv anchor old new top at xs → anchor w ≡ true
      → place_among w top (slid mv top at xs) ≡ place_among w at xs
  place_slid top at [] w c is = refl
  place_slid top at (Free t ∷ xs) w c is = place_slid top (at + t) xs w (past_free top at t xs c) is
  place_slid top at (Live t ∷ xs) w c is =
      let place : ℕ = item_place_after (mv (at + 4)) top at in
      let bounds : (top ≤ place) × (place ≤ at) = between (mv (at + 4)) top at c.low in
      let zs : List Item = slid mv (place + t) (at + t) xs in
      let rest : place_among w (place + t) zs ≡ place_among w (at + t) xs = place_slid (place + t) (at + t) xs w (past_live top at t xs c) is in
      place_laid w top place t zs bounds.0 ∙ elim (cases_Bool (mv (at + 4))) [
        | inl moves ↦
            let none : (b : ℕ) → top ≤ b → b ≤ at → in_range (b + 4) (t - 4) w ≡ false = λ b low high.
            false_from_ne_true (in_range (b + 4) (t - 4) w) (λ inside.
            let p = range_parts (b + 4) (t - 4) w inside in
            both_ways (anchor w) (item_clear top at t xs c moves w (omega (arith, low, p.0)) (omega (arith, high, p.1))) is) in
            rw (none place bounds.0 bounds.1, none at c.low (omega arith), rest) refl
        | inr fixed ↦
            let still : place ≡ at = rw fixed refl in
            let here : ℕ → Option PayloadPlace = λ b. if in_range (b + 4) (t - 4) w
            then Some (record { block = 0; offset = w - (b + 4) })
            else option_map one_further (place_among w (at + t) xs) in
            rw rest (ap here still)
      ]

-- the numbers of live items
some_mapped : (o : Option ℕ) → is_some (option_map suc o) ≡ is_some o
some_mapped None = refl
some_mapped (Some n) = refl

number_low : (b at : ℕ) (xs : List Item) → is_some (block_number b at xs) ≡ true → at + 4 ≤ b
number_low b at [] some = absurd (false≢true some)
number_low b at (Free t ∷ xs) some = omega (arith, number_low b (at + t) xs some)
number_low b at (Live t ∷ xs) some = elim (cases_Bool (at + 4 == b)) [
  | inl here ↦ let e : at + 4 ≡ b = eqb-true (at + 4) b here in omega arith
  | inr other ↦ omega (arith, number_low b (at + t) xs (sym (some_mapped (block_number b (at + t) xs)) ∙ rw other at some))
]

number_here : (top place t : ℕ) (zs : List Item) → top ≤ place → block_number (place + 4) top (left_free (place - top) ++ Live t ∷ zs) ≡ Some 0
number_here top place t zs low = elim (cases_Bool (place - top == 0)) [
  | inl none ↦
      let e : place - top ≡ 0 = eqb-true (place - top) 0 none in
      let k : top + 4 ≡ place + 4 = omega arith in
      rw (none, eq-eqb (top + 4) (place + 4) k) refl
  | inr some ↦
      let k : top + (place - top) + 4 ≡ place + 4 = omega arith in
      rw (some, eq-eqb (top + (place - top) + 4) (place + 4) k) refl
]

number_later : (top place t : ℕ) (zs : List Item) (b : ℕ) → top ≤ place → place + 4 ≢ b
    → block_number b top (left_free (place - top) ++ Live t ∷ zs) ≡ option_map suc (block_number b (place + t) zs)
number_later top place t zs b low other = elim (cases_Bool (place - top == 0)) [
  | inl none ↦
      let e : place - top ≡ 0 = eqb-true (place - top) 0 none in
      let k : top ≡ place = omega arith in
      let ne : top + 4 ≢ b = λ (z : top + 4 ≡ b). other (omega arith) in
      rw (none, ne_eqb (top + 4) b ne, k) refl
  | inr some ↦
      let k : top + (place - top) ≡ place = omega arith in
      rw (some, k, ne_eqb (place + 4) b other) refl
]

-- what is no block of the list doesn't move
unmapped : (o : Option ℕ) → option_map suc o ≡ None → o ≡ None
unmapped None none = refl
unmapped (Some n) none = absurd (let no : Some (suc n) ≡ None = none in cc)

pub unnamed_still : (mv : ℕ → Bool) (top at : ℕ) (xs : List Item) (b : ℕ) → block_number b at xs ≡ None → moved_to (moves_of mv top at xs) b ≡ b
unnamed_still mv top at [] b none = refl
unnamed_still mv top at (Free t ∷ xs) b none = unnamed_still mv top (at + t) xs b none
unnamed_still mv top at (Live t ∷ xs) b none =
    let place : ℕ = item_place_after (mv (at + 4)) top at in
    elim (cases_Bool (at + 4 == b)) [
      | inl here ↦ absurd (let no : Some 0 ≡ None = rw here at none in cc)
      | inr other ↦
          let ne : at + 4 ≢ b = λ (e : at + 4 ≡ b). false≢true (sym other ∙ eq-eqb (at + 4) b e) in
          one_moved at place (moves_of mv (place + t) (at + t) xs) b ne
          ∙ unnamed_still mv (place + t) (at + t) xs b (unmapped (block_number b (at + t) xs) (rw other at none))
    ]

pub number_slid : (mv : ℕ → Bool) (top at : ℕ) (xs : List Item) (b : ℕ) → top ≤ at → AreTotals xs → is_some (block_number b at xs) ≡ true
    → block_number (moved_to (moves_of mv top at xs) b) top (slid mv top at xs) ≡ block_number b at xs
number_slid mv top at [] b low totals some = absurd (false≢true some)
number_slid mv top at (Free t ∷ xs) b low totals some = number_slid mv top (at + t) xs b (omega arith) totals.1 some
number_slid mv top at (Live t ∷ xs) b low totals some =
    let place : ℕ = item_place_after (mv (at + 4)) top at in
    let bounds : (top ≤ place) × (place ≤ at) = between (mv (at + 4)) top at low in
    let least = total_facts t totals.0 in
    let ms : List BlockMove = moves_of mv (place + t) (at + t) xs in
    let zs : List Item = slid mv (place + t) (at + t) xs in
    elim (cases_Bool (at + 4 == b)) [
      | inl here ↦
          let e : at + 4 ≡ b = eqb-true (at + 4) b here in
          let to : moved_to (move_of at place ++ ms) b ≡ place + 4 =
          ap (λ (q : ℕ). moved_to (move_of at place ++ ms) q) (sym e)
          ∙ first_moved at place ms (low_still mv (place + t) (at + t) xs (at + 4) (omega (arith, least.0))) in
          rw (to, here) (number_here top place t zs bounds.0)
      | inr other ↦
          let some' : is_some (block_number b (at + t) xs) ≡ true = sym (some_mapped (block_number b (at + t) xs)) ∙ rw other at some in
          let ne : at + 4 ≢ b = λ (e : at + 4 ≡ b). false≢true (sym other ∙ eq-eqb (at + 4) b e) in
          let to : moved_to (move_of at place ++ ms) b ≡ moved_to ms b = one_moved at place ms b ne in
          let rest : block_number (moved_to ms b) (place + t) zs ≡ block_number b (at + t) xs =
          number_slid mv (place + t) (at + t) xs b (omega (arith, bounds.1)) totals.1 some' in
          let past : place + t + 4 ≤ moved_to ms b = number_low (moved_to ms b) (place + t) zs (ap is_some rest ∙ some') in
          rw (to, other)
          (number_later top place t zs (moved_to ms b) bounds.0 (λ (e : place + 4 ≡ moved_to ms b). omega (arith, past, least.0)) ∙ ap (option_map suc) rest)
    ]
