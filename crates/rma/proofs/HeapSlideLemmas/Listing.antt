-- The addresses of blocks that can be moved, shown in order.
use Rattle.std.proofs.Common.{List, ℕ, [], ◌∷◌, ◌++◌, ◌≡◌, ◌≢◌, ◌≤◌, ◌<◌, ◌+◌, ◌==◌, ◌∙◌, false, refl, sym, inl, inr, arith, length}
use Rattle.std.proofs.lemmas.List.{length-append}
use Rattle.std.proofs.lemmas.Bool.{cases_Bool, eqb-true, eq-eqb, ne_eqb}
use Rattle.dynamic_areas.specs.BlockMove.{BlockMove}
use Rattle.dynamic_areas.specs.Item.{Item}
use Rattle.dynamic_areas.specs.Item.TheVariants.{Free, Live}
use Rattle.dynamic_areas.proofs.Reading.{total_facts}
use Rattle.dynamic_areas.specs.Heap.{AreTotals}
use Rattle.rma.specs.heap_slide.Slide.{AreBlocks, begins, is_listed, move_of, item_place_after, without_first_block}

-- an address that is not the first is listed after it
pub listed_rest : (c b : ℕ) (ms : List ℕ) → b ≢ c → is_listed ms b ≡ is_listed (without_first_block c ms) b
listed_rest c b [] other = refl
listed_rest c b (m ∷ ms) other = elim (cases_Bool (m == c)) [
  | inl here ↦
      let e : m ≡ c = eqb-true m c here in
      rw (here, ne_eqb m b (λ (k : m ≡ b). other (sym k ∙ e))) refl
  | inr later ↦ rw later refl
]

-- an address below all blocks is not listed
pub listed_above : (at : ℕ) (xs : List Item) (ms : List ℕ) (b : ℕ) → AreTotals xs → AreBlocks at xs ms → b < at + 4 → is_listed ms b ≡ false
listed_above at [] ms b totals blocks low = rw blocks refl
listed_above at (Free t ∷ xs) ms b totals blocks low = listed_above (at + t) xs ms b totals.1 blocks (omega arith)
listed_above at (Live t ∷ xs) ms b totals blocks low =
    listed_rest (at + 4) b ms (λ (e : b ≡ at + 4). omega arith) ∙ listed_above (at + t) xs (without_first_block (at + 4) ms) b totals.1 blocks (omega arith)

-- the next block is listed just where it is the first
pub listed_first : (at t : ℕ) (xs : List Item) (ms : List ℕ) → AreTotals (Live t ∷ xs) → AreBlocks at (Live t ∷ xs) ms
    → is_listed ms (at + 4) ≡ begins (at + 4) ms
listed_first at t xs [] totals blocks = refl
listed_first at t xs (m ∷ ms) totals blocks = elim (cases_Bool (m == at + 4)) [
  | inl here ↦ rw here refl
  | inr later ↦
      let least = total_facts t totals.0 in
      let blocks' = rw later at blocks in
      let none : is_listed (m ∷ ms) (at + 4) ≡ false = listed_above (at + t) xs (m ∷ ms) (at + 4) totals.1 blocks' (omega (arith, least.0)) in
      none ∙ sym later
]

-- there is room for one move more
one_move : (at to : ℕ) → length (move_of at to) ≤ 1
one_move at to = elim (cases_Bool (to == at)) [
  | inl here ↦ rw here (omega arith)
  | inr other ↦ rw other (omega arith)
]

no_move : (at to : ℕ) → to ≡ at → length (move_of at to) ≡ 0
no_move at to e = rw (eq-eqb to at e) refl

pub more_moves : (at top block : ℕ) (left : List ℕ) (moves : List BlockMove) (to : ℕ) → to ≡ item_place_after (begins block left) top at
    → length moves + length left ≤ 128 → length (moves ++ move_of at to) + length (without_first_block block left) ≤ 128
more_moves at top block [] moves to e few = omega (arith, length-append moves (move_of at to), no_move at to e)
more_moves at top block (m ∷ left) moves to e few = elim (cases_Bool (m == block)) [
  | inl here ↦ rw here (omega (arith, length-append moves (move_of at to), one_move at to))
  | inr later ↦
      let e' = rw later at e in
      rw later (omega (arith, length-append moves (move_of at to), no_move at to e'))
]

-- and before it, where the block moves
pub room_for_move : (at top block : ℕ) (left : List ℕ) (moves : List BlockMove) (to : ℕ) → to ≡ item_place_after (begins block left) top at
    → length moves + length left ≤ 128 → to ≢ at → length moves < 128
room_for_move at top block [] moves to e few other = absurd (other e)
room_for_move at top block (m ∷ left) moves to e few other = omega (arith, few)
