-- A block that moves goes to the end of the live block before it.
use Rattle.std.proofs.Common.{List, ℕ, Bool, [], ◌∷◌, ◌++◌, ◌≡◌, ◌≢◌, ◌≤◌, ◌+◌, ◌-◌, ◌==◌, ◌∙◌, true, refl, sym, ap, inl, inr, Some, None, arith}
use Rattle.std.proofs.lemmas.Bool.{cases_Bool, cases_eq, eq-eqb, eqb-true, ne_eqb}
use Rattle.address_map.specs.Moves.{moved_to}
use Rattle.address_map.specs.declared.follow.BlockMove.{BlockMove}
use Rattle.address_map.specs.declared.item.Item.{Item}
use Rattle.address_map.specs.declared.item.Item.TheVariants.{Free, Live}
use Rattle.os_heap_words.proofs.ListsLemmas.Reading.{total_facts}
use Rattle.os_heap_words.specs.lists.Heap.{AreTotals}
use Rattle.os_heap_words.specs.lists.Lists.{left_free, live_total}
use Rattle.rma.proofs.HeapSlideLemmas.Places.{between, first_moved, low_still, one_moved, some_low}
use Rattle.rma.specs.heap_slide.Slide.{is_listed, item_place_after, move_of, moves_of, slid}
use Rattle.instances.proofs.TidyingLemmas.Choosing.{IsChosen, chosen}
use Rattle.instances.specs.tidying.Movable.{blocks_that}
use Rattle.law_machine.specs.modules.Tidied.{StandsBehind}

-- what lies behind a gap
past_gap : (b top gap : ℕ) (ys : List Item) → live_total b top (left_free gap ++ ys) ≡ live_total b (top + gap) ys
past_gap b top gap ys = elim (cases_Bool (gap == 0)) [
  | inl none ↦
      let e : gap ≡ 0 = eqb-true gap 0 none in
      let k : top + gap ≡ top = omega arith in
      rw (none, k) refl
  | inr some ↦ rw some refl
]

at_place : (b top place : ℕ) (ys : List Item) → top ≤ place → live_total b top (left_free (place - top) ++ ys) ≡ live_total b place ys
at_place b top place ys low =
    let k : top + (place - top) ≡ place = omega arith in
    past_gap b top (place - top) ys ∙ ap (λ (p : ℕ). live_total b p ys) k

pub packed : (mv : ℕ → Bool) (top at : ℕ) (xs : List Item) (b t : ℕ) → top ≤ at → AreTotals xs → live_total b at xs ≡ Some t → mv b ≡ true
    → StandsBehind top (slid mv top at xs) (moved_to (moves_of mv top at xs) b)
packed mv top at [] b t low totals live moves = absurd (let none : None ≡ Some t = live in cc)
packed mv top at (Free u ∷ xs) b t low totals live moves = packed mv top (at + u) xs b t (omega arith) totals.1 live moves
packed mv top at (Live u ∷ xs) b t low totals live moves =
    let place : ℕ = item_place_after (mv (at + 4)) top at in
    let bounds : (top ≤ place) × (place ≤ at) = between (mv (at + 4)) top at low in
    let least = total_facts u totals.0 in
    let ms : List BlockMove = moves_of mv (place + u) (at + u) xs in
    let zs : List Item = slid mv (place + u) (at + u) xs in
    elim (cases_eq (at + 4) b) [
      | inl here ↦
          let own : mv (at + 4) ≡ true = ap mv here ∙ moves in
          let first : place ≡ top = rw own refl in
          let to : moved_to (move_of at place ++ ms) b ≡ place + 4 =
          ap (λ (q : ℕ). moved_to (move_of at place ++ ms) q) (sym here)
          ∙ first_moved at place ms (low_still mv (place + u) (at + u) xs (at + 4) (omega (arith, least.0))) in
          inl (omega (arith, to, first))
      | inr other ↦
          let live' : live_total b (at + u) xs ≡ Some t = rw (ne_eqb (at + 4) b other) at live in
          let to : moved_to (move_of at place ++ ms) b ≡ moved_to ms b = one_moved at place ms b other in
          let rest : StandsBehind (place + u) zs (moved_to ms b) = packed mv (place + u) (at + u) xs b t (omega (arith, bounds.1)) totals.1 live' moves in
          elim rest [
            | inl first ↦ inr (record {
              before = place + 4;
              total = u;
              live = at_place (place + 4) top place (Live u ∷ zs) bounds.0 ∙ rw (eq-eqb (place + 4) (place + 4) refl) refl;
              ends = omega (arith, first, to);
            })
            | inr behind ↦
                let high = some_low behind.before (place + u) behind.total zs behind.live in
                let ne : place + 4 ≢ behind.before = λ (e : place + 4 ≡ behind.before). omega (arith, e, high, least.0) in
                inr (record {
                  before = behind.before;
                  total = behind.total;
                  live = at_place behind.before top place (Live u ∷ zs) bounds.0 ∙ rw (ne_eqb (place + 4) behind.before ne) behind.live;
                  ends = omega (arith, behind.ends, to);
                })
          ]
    ]

-- a live block is listed just where it passes the test
pub listed_if : (test : ℕ → ℕ → Bool) (at : ℕ) (xs : List Item) (b t : ℕ) → live_total b at xs ≡ Some t → test (b - 4) t ≡ true
    → is_listed (blocks_that test at xs) b ≡ true
listed_if test at [] b t live can = absurd (let none : None ≡ Some t = live in cc)
listed_if test at (Free u ∷ xs) b t live can = listed_if test (at + u) xs b t live can
listed_if test at (Live u ∷ xs) b t live can = elim (cases_eq (at + 4) b) [
  | inl here ↦
      let size : Some u ≡ Some t = rw (eq-eqb (at + 4) b here) at live in
      let same : t ≡ u = cc in
      let place : b - 4 ≡ at = omega (arith, here) in
      let can' : test at u ≡ true = rw (place, same) at can in
      rw (can', eq-eqb (at + 4) b here) refl
  | inr other ↦
      let live' : live_total b (at + u) xs ≡ Some t = rw (ne_eqb (at + 4) b other) at live in
      let rest : is_listed (blocks_that test (at + u) xs) b ≡ true = listed_if test (at + u) xs b t live' can in
      elim (cases_Bool (test at u)) [
        | inl one ↦ rw (one, ne_eqb (at + 4) b other) rest
        | inr none ↦ rw none rest
      ]
]

pub passes_if : (test : ℕ → ℕ → Bool) (at : ℕ) (xs : List Item) (b t : ℕ) → AreTotals xs → live_total b at xs ≡ Some t
    → is_listed (blocks_that test at xs) b ≡ true → test (b - 4) t ≡ true
passes_if test at xs b t totals live is =
    let c : IsChosen test at xs b = chosen test at xs b totals is in
    let both : Some t ≡ Some c.total = sym live ∙ c.live in
    let same : t ≡ c.total = cc in
    ap (test (b - 4)) same ∙ c.passes
