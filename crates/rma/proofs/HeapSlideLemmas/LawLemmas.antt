-- The laws of slides.
use Rattle.std.proofs.Common.{List, ℕ, Bool, [], ◌∷◌, ◌++◌, ◌≡◌, ◌≤◌, ◌+◌, ◌-◌, ◌*◌, ◌/◌, ◌%◌, ◌==◌, ◌∙◌, true, false, refl, inl, inr, zero-add, arith}
use Rattle.std.proofs.lemmas.Bool.{cases_Bool, eq-eqb, le-leb}
use Rattle.std.proofs.lemmas.Bool.Decides.{nat_tests}
use Rattle.dynamic_areas.proofs.AddressMapMoving.{moved_in}
use Rattle.dynamic_areas.specs.Bytes.{with_moved_at}
use Rattle.dynamic_areas.specs.Items.{is_total, size_of}
use Rattle.dynamic_areas.specs.Item.{Item}
use Rattle.dynamic_areas.specs.Item.TheVariants.{Free, Live}
use Rattle.dynamic_areas.proofs.ItemWalk.{size_of-old}
use Rattle.dynamic_areas.proofs.Reading.{total_facts}
use Rattle.dynamic_areas.proofs.Spelling.{size_of-multiple, total_of-numbers}
use Rattle.dynamic_areas.specs.Counts.{all_free, free_count, free_total, largest_block, largest_free}
use Rattle.dynamic_areas.specs.Heap.{AreSpaced, AreTotals}
use Rattle.dynamic_areas.specs.OsHeapWordsLists.{left_free}
use Rattle.dynamic_areas.proofs.Moving.{found_held}
use Rattle.dynamic_areas.specs.Calls.{heap_description}
use Rattle.rma.proofs.HeapSlideLemmas.Laying.{moved_past}
use Rattle.rma.proofs.HeapSlideLemmas.Places.{between, bytes_low}
use Rattle.rma.specs.heap_slide.Laws.{KeepsContents, SlideClears, SlideDescribes, SlideFits, SlideKeeps}
use Rattle.rma.specs.heap_slide.Slide.{is_listed, item_place_after, slid, slid_bytes}

-- contents that were kept of other bytes, where these are the same from the first item on
kept_of : (mv : ℕ → Bool) (top at : ℕ) (xs : List Item) (f g new : ℕ → ℕ) → ((a : ℕ) → at ≤ a → g a ≡ f a) → KeepsContents mv top at xs g new
    → KeepsContents mv top at xs f new
kept_of mv top at [] f g new same kept = tt
kept_of mv top at (Free t ∷ xs) f g new same kept = kept_of mv top (at + t) xs f g new (λ a low. same a (omega arith)) kept
kept_of mv top at (Live t ∷ xs) f g new same kept = (
  λ k low. kept.0 k low ∙ same (at + k) (omega arith),
  kept_of mv (item_place_after (mv (at + 4)) top at + t) (at + t) xs f g new (λ a low. same a (omega arith)) kept.1,
)

pub slide_keeps : SlideKeeps
slide_keeps mv top at [] bytes low = tt
slide_keeps mv top at (Free t ∷ xs) bytes low = slide_keeps mv top (at + t) xs bytes (omega arith)
slide_keeps mv top at (Live t ∷ xs) bytes low =
    let place : ℕ = item_place_after (mv (at + 4)) top at in
    let bounds : (top ≤ place) × (place ≤ at) = between (mv (at + 4)) top at low in
    let next : ℕ → ℕ = with_moved_at bytes at place t in (
      λ k less. bytes_low mv (place + t) (at + t) xs next (place + k) (omega (arith, bounds.1)) (omega arith) ∙ moved_in bytes at place t k less,
      kept_of mv (place + t) (at + t) xs bytes next (slid_bytes mv (place + t) (at + t) xs next)
          (λ a high. moved_past bytes at place t a (omega (arith, bounds.1))) (slide_keeps mv (place + t) (at + t) xs next (omega (arith, bounds.1))),
    )

-- what is laid is spaced
laid_spaced : (gap t : ℕ) (ys : List Item) → AreSpaced ys → AreSpaced (left_free gap ++ Live t ∷ ys)
laid_spaced gap t ys spaced = elim (cases_Bool (gap == 0)) [
  | inl none ↦ rw none spaced
  | inr some ↦ rw some (refl, spaced)
]

pub slide_fits : SlideFits
slide_fits mv top at [] low = (tt, omega arith)
slide_fits mv top at (Free t ∷ xs) low =
    let rest = slide_fits mv top (at + t) xs (omega arith) in
    (rest.0, omega (arith, rest.1))
slide_fits mv top at (Live t ∷ xs) low =
    let place : ℕ = item_place_after (mv (at + 4)) top at in
    let bounds : (top ≤ place) × (place ≤ at) = between (mv (at + 4)) top at low in
    let rest = slide_fits mv (place + t) (at + t) xs (omega (arith, bounds.1)) in (
      laid_spaced (place - top) t (slid mv (place + t) (at + t) xs) rest.0,
      omega (arith, size_of-old (place - top) t (slid mv (place + t) (at + t) xs), rest.1, bounds.0),
    )

no_gap : (n : ℕ) → n ≡ 0 → left_free n ≡ []
no_gap n none = rw (eq-eqb n 0 none) refl

pub slide_clears : SlideClears
slide_clears mv top at [] low movable = refl
slide_clears mv top at (Free t ∷ xs) low movable = slide_clears mv top (at + t) xs (omega arith) movable
slide_clears mv top at (Live t ∷ xs) low movable =
    let none : top - top ≡ 0 = omega arith in
    rw (movable.0, no_gap (top - top) none) (slide_clears mv (top + t) (at + t) xs (omega arith) movable.1)

-- the totals are those of items
laid_totals : (gap t : ℕ) (ys : List Item) → gap % 8 ≡ 0 → is_total t ≡ true → AreTotals ys → AreTotals (left_free gap ++ Live t ∷ ys)
laid_totals gap t ys whole total totals = elim (cases_Bool (gap == 0)) [
  | inl none ↦ rw none (total, totals)
  | inr some ↦
      let least : 8 ≤ gap = grind (arith, nat_tests) in
      rw some (total_of-numbers gap least whole, (total, totals))
]

place_whole : (moves : Bool) (top at : ℕ) → (at - top) % 8 ≡ 0 → ((item_place_after moves top at - top) % 8 ≡ 0) × ((at - item_place_after moves top at) % 8 ≡ 0)
place_whole true top at whole = (let none : top - top ≡ 0 = omega arith in rw none refl, whole)
place_whole false top at whole = (whole, let none : at - at ≡ 0 = omega arith in rw none refl)

pub slid_totals : (mv : ℕ → Bool) (top at : ℕ) (xs : List Item) → top ≤ at → (at - top) % 8 ≡ 0 → AreTotals xs → AreTotals (slid mv top at xs)
slid_totals mv top at [] low whole totals = tt
slid_totals mv top at (Free t ∷ xs) low whole totals =
    slid_totals mv top (at + t) xs (omega arith) (omega (arith, whole, total_facts t totals.0)) totals.1
slid_totals mv top at (Live t ∷ xs) low whole totals =
    let place : ℕ = item_place_after (mv (at + 4)) top at in
    let bounds : (top ≤ place) × (place ≤ at) = between (mv (at + 4)) top at low in
    let both : ((place - top) % 8 ≡ 0) × ((at - place) % 8 ≡ 0) = place_whole (mv (at + 4)) top at whole in
    laid_totals (place - top) t (slid mv (place + t) (at + t) xs) both.0 totals.0
    (slid_totals mv (place + t) (at + t) xs (omega (arith, bounds.1)) (let e : at + t - (place + t) ≡ at - place = omega (arith, bounds.1) in rw e both.1) totals.1)

-- a list without free items has no free bytes
none_free : (xs : List Item) → free_count xs ≡ 0 → (free_total xs ≡ 0) × (largest_free xs ≡ 0)
none_free [] none = (refl, refl)
none_free (Live t ∷ xs) none = none_free xs none
none_free (Free t ∷ xs) none = absurd (omega (arith, none))

room_only : (room : ℕ) (xs : List Item) → free_count xs ≡ 0 → room % 8 ≡ 0 → (largest_block room xs ≡ room - 4) × (all_free room xs ≡ room)
room_only room xs none whole =
    let free = none_free xs none in
    let e : 8 * (room / 8) ≡ room = omega arith in
    rw (free.0, free.1, e) (rw (le-leb 0 room (omega arith)) refl, zero-add room)

pub slide_describes : SlideDescribes
unfolding heap_description
slide_describes s h movable found totals eighths all room e =
    let first : ℕ = h.start + 16 in
    let items : List Item = slid (is_listed movable) first first h.items in
    let none : free_count items ≡ 0 = slide_clears (is_listed movable) first first h.items (omega arith) all in
    let sizes : size_of items % 8 ≡ 0 = size_of-multiple items (slid_totals (is_listed movable) first first h.items (omega arith)
    (let zero : first - first ≡ 0 = omega arith in rw zero refl) totals) in
    let is = room_only room items none (omega (arith, e, eighths, sizes)) in
    rw (found_held h.start items s.heaps h found) (rw (← e, is.0, is.1) refl)
