-- Where blocks are after a slide: each at its new place, in the same order, and none out of the
-- items' range.
use Rattle.std.proofs.Common.{List, ℕ, Bool, [], ◌∷◌, ◌++◌, ◌≡◌, ◌≢◌, ◌≤◌, ◌<◌, ◌+◌, ◌-◌, ◌%◌, ◌==◌, ◌∙◌, true, false, refl, sym, ap, inl, inr, Some, None, arith}
use Rattle.std.proofs.lemmas.Bool.{cases_Bool, cases_eq, cases_lt, eqb-true, eq-eqb, ne_eqb}
use Rattle.dynamic_areas.specs.Bytes.{with_moved_at}
use Rattle.dynamic_areas.specs.Items.{size_of}
use Rattle.dynamic_areas.specs.Moves.{AreDown, moved_to}
use Rattle.dynamic_areas.specs.BlockMove.{BlockMove}
use Rattle.dynamic_areas.specs.Item.{Item}
use Rattle.dynamic_areas.specs.Item.TheVariants.{Free, Live}
use Rattle.dynamic_areas.proofs.LinkWalk.{live_low}
use Rattle.dynamic_areas.proofs.Reading.{total_facts}
use Rattle.dynamic_areas.specs.Heap.{AreTotals}
use Rattle.dynamic_areas.specs.OsHeapWordsLists.{left_free, live_total}
use Rattle.rma.proofs.HeapSlideLemmas.Laying.{moved_below, moved_past}
use Rattle.rma.specs.heap_slide.Slide.{move_of, moves_of, item_place_after, slid, slid_bytes}

-- a place lies between the end of the items before it and the old one
pub between : (moves : Bool) (top at : ℕ) → top ≤ at → (top ≤ item_place_after moves top at) × (item_place_after moves top at ≤ at)
between true top at low = (omega arith, omega arith)
between false top at low = (omega arith, omega arith)

eighths : (moves : Bool) (top at : ℕ) → top % 4 ≡ 0 → at % 4 ≡ 0 → item_place_after moves top at % 4 ≡ 0
eighths true top at one two = one
eighths false top at one two = two

-- the first of some moves
pub one_moved : (at place : ℕ) (ms : List BlockMove) (b : ℕ) → at + 4 ≢ b → moved_to (move_of at place ++ ms) b ≡ moved_to ms b
one_moved at place ms b other = elim (cases_Bool (place == at)) [
  | inl here ↦ rw here refl
  | inr moves ↦ rw (moves, ne_eqb (at + 4) b other) refl
]

pub first_moved : (at place : ℕ) (ms : List BlockMove) → moved_to ms (at + 4) ≡ at + 4 → moved_to (move_of at place ++ ms) (at + 4) ≡ place + 4
first_moved at place ms rest = elim (cases_Bool (place == at)) [
  | inl here ↦ let e : place ≡ at = eqb-true place at here in rw (here, e) rest
  | inr moves ↦ rw (moves, eq-eqb (at + 4) (at + 4) refl) refl
]

-- what lies below the items, or past them, is no block that moves
pub low_still : (mv : ℕ → Bool) (top at : ℕ) (xs : List Item) (b : ℕ) → b < at + 4 → moved_to (moves_of mv top at xs) b ≡ b
low_still mv top at [] b low = refl
low_still mv top at (Free t ∷ xs) b low = low_still mv top (at + t) xs b (omega arith)
low_still mv top at (Live t ∷ xs) b low =
    let place : ℕ = item_place_after (mv (at + 4)) top at in
    one_moved at place (moves_of mv (place + t) (at + t) xs) b (λ (e : at + 4 ≡ b). omega arith) ∙ low_still mv (place + t) (at + t) xs b (omega arith)

pub past_still : (mv : ℕ → Bool) (top at : ℕ) (xs : List Item) (b : ℕ) → AreTotals xs → at + size_of xs ≤ b → moved_to (moves_of mv top at xs) b ≡ b
past_still mv top at [] b totals past = refl
past_still mv top at (Free t ∷ xs) b totals past = past_still mv top (at + t) xs b totals.1 (omega arith)
past_still mv top at (Live t ∷ xs) b totals past =
    let place : ℕ = item_place_after (mv (at + 4)) top at in
    let least = total_facts t totals.0 in
    one_moved at place (moves_of mv (place + t) (at + t) xs) b (λ (e : at + 4 ≡ b). omega (arith, least.0)) ∙ past_still mv (place + t) (at + t) xs b totals.1 (omega arith)

-- the first block that is laid, and those after it
laid_here : (top place t : ℕ) (zs : List Item) → top ≤ place → live_total (place + 4) top (left_free (place - top) ++ Live t ∷ zs) ≡ Some t
laid_here top place t zs low = elim (cases_Bool (place - top == 0)) [
  | inl none ↦
      let e : place - top ≡ 0 = eqb-true (place - top) 0 none in
      let k : top + 4 ≡ place + 4 = omega arith in
      rw (none, eq-eqb (top + 4) (place + 4) k) refl
  | inr some ↦
      let k : top + (place - top) + 4 ≡ place + 4 = omega arith in
      rw (some, eq-eqb (top + (place - top) + 4) (place + 4) k) refl
]

laid_later : (top place t : ℕ) (zs : List Item) (b : ℕ) → top ≤ place → b ≢ place + 4
    → live_total b top (left_free (place - top) ++ Live t ∷ zs) ≡ live_total b (place + t) zs
laid_later top place t zs b low other = elim (cases_Bool (place - top == 0)) [
  | inl none ↦
      let e : place - top ≡ 0 = eqb-true (place - top) 0 none in
      let k : top ≡ place = omega arith in
      let ne : top + 4 ≢ b = λ (z : top + 4 ≡ b). other (omega arith) in
      rw (none, ne_eqb (top + 4) b ne, k) refl
  | inr some ↦
      let k : top + (place - top) ≡ place = omega arith in
      let ne : place + 4 ≢ b = λ (z : place + 4 ≡ b). other (sym z) in
      rw (some, k, ne_eqb (place + 4) b ne) refl
]

pub some_low : (b at t : ℕ) (xs : List Item) → live_total b at xs ≡ Some t → at + 4 ≤ b
some_low b at t xs live = live_low b at xs (rw live refl)

-- a live block is live at its new address
pub moved_live : (mv : ℕ → Bool) (top at : ℕ) (xs : List Item) (b t : ℕ) → top ≤ at → AreTotals xs → live_total b at xs ≡ Some t
    → live_total (moved_to (moves_of mv top at xs) b) top (slid mv top at xs) ≡ Some t
moved_live mv top at [] b t low totals live = absurd (let none : None ≡ Some t = live in cc)
moved_live mv top at (Free u ∷ xs) b t low totals live = moved_live mv top (at + u) xs b t (omega arith) totals.1 live
moved_live mv top at (Live u ∷ xs) b t low totals live =
    let place : ℕ = item_place_after (mv (at + 4)) top at in
    let bounds : (top ≤ place) × (place ≤ at) = between (mv (at + 4)) top at low in
    let least = total_facts u totals.0 in
    elim (cases_Bool (at + 4 == b)) [
      | inl here ↦
          let e : at + 4 ≡ b = eqb-true (at + 4) b here in
          let live' = rw here at live in
          let to : moved_to (move_of at place ++ moves_of mv (place + u) (at + u) xs) b ≡ place + 4 =
          ap (λ (q : ℕ). moved_to (move_of at place ++ moves_of mv (place + u) (at + u) xs) q) (sym e)
          ∙ first_moved at place (moves_of mv (place + u) (at + u) xs) (low_still mv (place + u) (at + u) xs (at + 4) (omega (arith, least.0))) in
          rw to (laid_here top place u (slid mv (place + u) (at + u) xs) bounds.0 ∙ live')
      | inr other ↦
          let live' = rw other at live in
          let ne : at + 4 ≢ b = λ (e : at + 4 ≡ b). absurd (let no : (at + 4 == b) ≡ true = eq-eqb (at + 4) b e in let is = other in cc) in
          let to : moved_to (move_of at place ++ moves_of mv (place + u) (at + u) xs) b ≡ moved_to (moves_of mv (place + u) (at + u) xs) b =
          one_moved at place (moves_of mv (place + u) (at + u) xs) b ne in
          let rest : live_total (moved_to (moves_of mv (place + u) (at + u) xs) b) (place + u) (slid mv (place + u) (at + u) xs) ≡ Some t =
          moved_live mv (place + u) (at + u) xs b t (omega (arith, bounds.1)) totals.1 live' in
          let above = some_low _ (place + u) t (slid mv (place + u) (at + u) xs) rest in
          rw to (laid_later top place u (slid mv (place + u) (at + u) xs) _ bounds.0
          (λ (e : moved_to (moves_of mv (place + u) (at + u) xs) b ≡ place + 4). omega (arith, above, least.0)) ∙ rest)
    ]

-- a block that can't be moved stays where it is
pub moved_stays : (mv : ℕ → Bool) (top at : ℕ) (xs : List Item) (b : ℕ) → mv b ≡ false → moved_to (moves_of mv top at xs) b ≡ b
moved_stays mv top at [] b fixed = refl
moved_stays mv top at (Free u ∷ xs) b fixed = moved_stays mv top (at + u) xs b fixed
moved_stays mv top at (Live u ∷ xs) b fixed =
    let place : ℕ = item_place_after (mv (at + 4)) top at in
    let rest : moved_to (moves_of mv (place + u) (at + u) xs) b ≡ b = moved_stays mv (place + u) (at + u) xs b fixed in
    elim (cases_eq (at + 4) b) [
      | inr other ↦ one_moved at place (moves_of mv (place + u) (at + u) xs) b other ∙ rest
      | inl here ↦
          let own : mv (at + 4) ≡ false = ap mv here ∙ fixed in
          let stays : place ≡ at = rw own refl in
          let none : move_of at place ≡ [] = rw (eq-eqb place at stays) refl in
          ap (λ (ms : List BlockMove). moved_to (ms ++ moves_of mv (place + u) (at + u) xs) b) none ∙ rest
    ]

-- blocks keep their order
pub in_order : (mv : ℕ → Bool) (top at : ℕ) (xs : List Item) (b t c u : ℕ) → top ≤ at → AreTotals xs → live_total b at xs ≡ Some t → live_total c at xs ≡ Some u
    → b < c → moved_to (moves_of mv top at xs) b < moved_to (moves_of mv top at xs) c
in_order mv top at [] b t c u low totals first second less = absurd (let none : None ≡ Some t = first in cc)
in_order mv top at (Free v ∷ xs) b t c u low totals first second less = in_order mv top (at + v) xs b t c u (omega arith) totals.1 first second less
in_order mv top at (Live v ∷ xs) b t c u low totals first second less =
    let place : ℕ = item_place_after (mv (at + 4)) top at in
    let bounds : (top ≤ place) × (place ≤ at) = between (mv (at + 4)) top at low in
    let least = total_facts v totals.0 in
    let ms : List BlockMove = moves_of mv (place + v) (at + v) xs in
    let above : at + 4 ≤ b = some_low b at t (Live v ∷ xs) first in
    let ne : at + 4 ≢ c = λ (e : at + 4 ≡ c). omega (arith, above) in
    let second' : live_total c (at + v) xs ≡ Some u = rw (ne_eqb (at + 4) c ne) at second in
    let to_c : moved_to (move_of at place ++ ms) c ≡ moved_to ms c = one_moved at place ms c ne in
    elim (cases_eq (at + 4) b) [
      | inl here ↦
          let to_b : moved_to (move_of at place ++ ms) b ≡ place + 4 =
          ap (λ (q : ℕ). moved_to (move_of at place ++ ms) q) (sym here)
          ∙ first_moved at place ms (low_still mv (place + v) (at + v) xs (at + 4) (omega (arith, least.0))) in
          let high = some_low (moved_to ms c) (place + v) u (slid mv (place + v) (at + v) xs)
          (moved_live mv (place + v) (at + v) xs c u (omega (arith, bounds.1)) totals.1 second') in
          omega (arith, to_b, to_c, high, least.0)
      | inr other ↦
          let first' : live_total b (at + v) xs ≡ Some t = rw (ne_eqb (at + 4) b other) at first in
          let to_b : moved_to (move_of at place ++ ms) b ≡ moved_to ms b = one_moved at place ms b other in
          omega (arith, to_b, to_c, in_order mv (place + v) (at + v) xs b t c u (omega (arith, bounds.1)) totals.1 first' second' less)
    ]

pub stay_distinct : (mv : ℕ → Bool) (top at : ℕ) (xs : List Item) (b t c u : ℕ) → top ≤ at → AreTotals xs → live_total b at xs ≡ Some t
    → live_total c at xs ≡ Some u → b ≢ c → moved_to (moves_of mv top at xs) b ≢ moved_to (moves_of mv top at xs) c
stay_distinct mv top at xs b t c u low totals first second other same = elim (cases_lt b c) [
  | inl less ↦ omega (arith, in_order mv top at xs b t c u low totals first second less)
  | inr more ↦
      let above : c < b = elim (cases_eq b c) [ inl e ↦ absurd (other e) | inr ne ↦ omega (arith, ne) ] in
      omega (arith, in_order mv top at xs c u b t low totals second first above)
]

-- the moves go to lower addresses of whole words
down_join : (at place : ℕ) (ms : List BlockMove) → place ≤ at → place % 4 ≡ 0 → AreDown ms → AreDown (move_of at place ++ ms)
down_join at place ms low whole down = elim (cases_Bool (place == at)) [
  | inl here ↦ rw here down
  | inr moves ↦ rw moves ((omega arith, omega arith), down)
]

pub moves_down : (mv : ℕ → Bool) (top at : ℕ) (xs : List Item) → top ≤ at → top % 4 ≡ 0 → at % 4 ≡ 0 → AreTotals xs → AreDown (moves_of mv top at xs)
moves_down mv top at [] low one two totals = tt
moves_down mv top at (Free t ∷ xs) low one two totals = moves_down mv top (at + t) xs (omega arith) one (omega (arith, total_facts t totals.0)) totals.1
moves_down mv top at (Live t ∷ xs) low one two totals =
    let place : ℕ = item_place_after (mv (at + 4)) top at in
    let bounds : (top ≤ place) × (place ≤ at) = between (mv (at + 4)) top at low in
    let whole : place % 4 ≡ 0 = eighths (mv (at + 4)) top at one two in
    let least = total_facts t totals.0 in
    down_join at place (moves_of mv (place + t) (at + t) xs) bounds.1 whole
    (moves_down mv (place + t) (at + t) xs (omega (arith, bounds.1)) (omega (arith, least.1)) (omega (arith, least.1)) totals.1)

-- no byte out of the items' range is changed by the copies
pub bytes_low : (mv : ℕ → Bool) (top at : ℕ) (xs : List Item) (f : ℕ → ℕ) (a : ℕ) → top ≤ at → a < top → slid_bytes mv top at xs f a ≡ f a
bytes_low mv top at [] f a low below = refl
bytes_low mv top at (Free t ∷ xs) f a low below = bytes_low mv top (at + t) xs f a (omega arith) below
bytes_low mv top at (Live t ∷ xs) f a low below =
    let place : ℕ = item_place_after (mv (at + 4)) top at in
    let bounds : (top ≤ place) × (place ≤ at) = between (mv (at + 4)) top at low in
    bytes_low mv (place + t) (at + t) xs (with_moved_at f at place t) a (omega (arith, bounds.1)) (omega (arith, bounds.0))
    ∙ moved_below f at place t a (omega (arith, bounds.0))

pub bytes_past : (mv : ℕ → Bool) (top at : ℕ) (xs : List Item) (f : ℕ → ℕ) (a : ℕ) → top ≤ at → at + size_of xs ≤ a → slid_bytes mv top at xs f a ≡ f a
bytes_past mv top at [] f a low past = refl
bytes_past mv top at (Free t ∷ xs) f a low past = bytes_past mv top (at + t) xs f a (omega arith) (omega arith)
bytes_past mv top at (Live t ∷ xs) f a low past =
    let place : ℕ = item_place_after (mv (at + 4)) top at in
    let bounds : (top ≤ place) × (place ≤ at) = between (mv (at + 4)) top at low in
    bytes_past mv (place + t) (at + t) xs (with_moved_at f at place t) a (omega (arith, bounds.1)) (omega arith)
    ∙ moved_past f at place t a (omega (arith, bounds.1))
