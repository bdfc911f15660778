-- Each live block is live after a slide too, where it went, with the bytes that it held.
use Rattle.std.proofs.Common.{List, ℕ, Bool, [], ◌∷◌, ◌++◌, ◌≡◌, ◌≢◌, ◌≤◌, ◌<◌, ◌+◌, ◌-◌, ◌%◌, ◌==◌, ◌∙◌, true, false, refl, sym, ap, inl, inr, Some, None, arith}
use Rattle.std.proofs.lemmas.Bool.{cases_Bool, eqb-true, eq-eqb}
use Rattle.dynamic_areas.specs.Moves.{moved_to}
use Rattle.dynamic_areas.specs.BlockMove.{BlockMove}
use Rattle.dynamic_areas.specs.Item.{Item}
use Rattle.dynamic_areas.specs.Item.TheVariants.{Free, Live}
use Rattle.dynamic_areas.proofs.Payloads.{heap_beside, payload_unspelled}
use Rattle.dynamic_areas.proofs.Reading.{total_facts}
use Rattle.dynamic_areas.specs.Heap.{AreTotals, HeapList}
use Rattle.dynamic_areas.specs.OsHeapWordsLists.{live_total}
use Rattle.dynamic_areas.specs.Store.{Store}
use Rattle.rma.proofs.HeapSlideLemmas.LawLemmas.{slid_totals, slide_keeps}
use Rattle.rma.proofs.HeapSlideLemmas.Places.{between, first_moved, low_still, moved_live, moved_stays, one_moved, some_low}
use Rattle.rma.specs.heap_slide.Laws.{KeepsContents, SlideKeepsBlocks}
use Rattle.rma.specs.heap_slide.Slide.{is_listed, move_of, moves_of, item_place_after, slid, slid_bytes, with_slid}

-- the contents of all items, read of one block
kept_block : (mv : ℕ → Bool) (top at : ℕ) (xs : List Item) (old new : ℕ → ℕ) (b t k : ℕ) → top ≤ at → AreTotals xs
    → KeepsContents mv top at xs old new → live_total b at xs ≡ Some t → k < t → new (moved_to (moves_of mv top at xs) b - 4 + k) ≡ old (b - 4 + k)
kept_block mv top at [] old new b t k low totals kept live less = absurd (let none : None ≡ Some t = live in cc)
kept_block mv top at (Free u ∷ xs) old new b t k low totals kept live less =
    kept_block mv top (at + u) xs old new b t k (omega arith) totals.1 kept live less
kept_block mv top at (Live u ∷ xs) old new b t k low totals kept live less =
    let place : ℕ = item_place_after (mv (at + 4)) top at in
    let bounds : (top ≤ place) × (place ≤ at) = between (mv (at + 4)) top at low in
    let least = total_facts u totals.0 in
    let ms : List BlockMove = moves_of mv (place + u) (at + u) xs in
    elim (cases_Bool (at + 4 == b)) [
      | inl here ↦
          let e : at + 4 ≡ b = eqb-true (at + 4) b here in
          let size : Some u ≡ Some t = rw here at live in
          let same : u ≡ t = cc in
          let to : moved_to (move_of at place ++ ms) b ≡ place + 4 =
          ap (λ (q : ℕ). moved_to (move_of at place ++ ms) q) (sym e)
          ∙ first_moved at place ms (low_still mv (place + u) (at + u) xs (at + 4) (omega (arith, least.0))) in
          let new_place : moved_to (move_of at place ++ ms) b - 4 + k ≡ place + k = omega (arith, to) in
          let old_place : b - 4 + k ≡ at + k = omega (arith, e) in
          ap new new_place ∙ kept.0 k (omega (arith, same)) ∙ sym (ap old old_place)
      | inr other ↦
          let ne : at + 4 ≢ b = λ (e : at + 4 ≡ b). absurd (let is : (at + 4 == b) ≡ true = eq-eqb (at + 4) b e in let no = other in cc) in
          let to : moved_to (move_of at place ++ ms) b ≡ moved_to ms b = one_moved at place ms b ne in
          ap (λ (q : ℕ). new (q - 4 + k)) to
          ∙ kept_block mv (place + u) (at + u) xs old new b t k (omega (arith, bounds.1)) totals.1 kept.1 (rw other at live) less
    ]

pub slide_keeps_blocks : SlideKeepsBlocks
slide_keeps_blocks s h movable aligned totals block total live =
    let mv : ℕ → Bool = is_listed movable in
    let first : ℕ = h.start + 16 in
    let to : ℕ = moved_to (moves_of mv first first h.items) block in
    let items : List Item = slid mv first first h.items in
    let there : live_total to first items ≡ Some total = moved_live mv first first h.items block total (omega arith) totals live in
    let zero : (first - first) % 8 ≡ 0 = (let none : first - first ≡ 0 = omega arith in rw none refl) in
    let totals' : AreTotals items = slid_totals mv first first h.items (omega arith) zero totals in
    let low = some_low block first total h.items live in
    let low' = some_low to first total items there in (
      there,
      λ k less.
          let bytes : ℕ → ℕ = slid_bytes mv first first h.items s.bytes.at in
          let new_place : to + k ≡ to - 4 + (k + 4) = omega (arith, low') in
          let old_place : block + k ≡ block - 4 + (k + 4) = omega (arith, low) in
          heap_beside bytes h.start h.end items (to + k) aligned totals'
          (payload_unspelled h.start items to total (to + k) aligned totals' there (omega arith) (omega (arith, less)))
          ∙ ap bytes new_place
          ∙ kept_block mv first first h.items s.bytes.at bytes block total (k + 4) (omega arith) totals (slide_keeps mv first first h.items s.bytes.at (omega arith)) live less
          ∙ sym (ap s.bytes.at old_place),
    )

-- what a block holds that stays
pub bytes_fixed : (s : Store) (h : HeapList) (movable : List ℕ) → h.start % 4 ≡ 0 → AreTotals h.items → (block total a : ℕ) → is_listed movable block ≡ false
    → live_total block (h.start + 16) h.items ≡ Some total → block ≤ a → a + 4 < block + total → (with_slid s h movable).bytes.at a ≡ s.bytes.at a
bytes_fixed s h movable aligned totals block total a fixed live low high =
    let mv : ℕ → Bool = is_listed movable in
    let first : ℕ = h.start + 16 in
    let to : ℕ = moved_to (moves_of mv first first h.items) block in
    let stays : to ≡ block = moved_stays mv first first h.items block fixed in
    let kept : (with_slid s h movable).bytes.at (to + (a - block)) ≡ s.bytes.at (block + (a - block)) =
    (slide_keeps_blocks s h movable aligned totals block total live).1 (a - block) (omega arith) in
    let new_place : a ≡ to + (a - block) = omega (arith, stays) in
    let old_place : block + (a - block) ≡ a = omega arith in
    ap (with_slid s h movable).bytes.at new_place ∙ kept ∙ ap s.bytes.at old_place
