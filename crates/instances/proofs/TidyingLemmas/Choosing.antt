-- The blocks that can be moved: they are live ones, in order, that pass the test, and no more than
-- there are images and words.
use Rattle.std.proofs.Common.{◌≡◌, ◌≤◌, ◌<◌, ◌+◌, ◌-◌, ◌==◌, ◌&&◌, ◌||◌, ◌∙◌, ℕ, Bool, true, false, not, List, [], ◌∷◌, length, Some, nat_le, inl, inr, refl, sym, arith}
use Rattle.std.specs.List.{count_by, list_any}
use Rattle.std.proofs.lemmas.Bool.{and_parts, cases_Bool, eq-eqb, eqb-true, false≢true, leb-true, le-leb, ne_eqb}
use Rattle.std.proofs.lemmas.List.Recursion.{is_count_by}
use Rattle.rma.specs.Bytes.{in_range}
use Rattle.rma.specs.Records.{anchor_among}
use Rattle.rma.specs.Item.{Item}
use Rattle.rma.specs.Item.TheVariants.{Free, Live}
use Rattle.rma.proofs.Reading.{total_facts}
use Rattle.rma.specs.lists.Heap.{AreTotals}
use Rattle.rma.specs.lists.Lists.{live_total}
use Rattle.rma.specs.heap_slide.Slide.{AreBlocks, is_listed, without_first_block}
use Rattle.instances_table.specs.Lookup.{has_image_at}
use Rattle.instances_table.specs.ModuleArea.{is_in_module_area}
use Rattle.instances_table.specs.Modules.{Module, number_passing}
use Rattle.instances.specs.tidying.Movable.{blocks_that, can_move, is_named_once}

-- none of them is below the first item
low_unlisted : (test : ℕ → ℕ → Bool) (at : ℕ) (xs : List Item) (b : ℕ) → AreTotals xs → b < at + 4 → is_listed (blocks_that test at xs) b ≡ false
low_unlisted test at [] b totals low = refl
low_unlisted test at (Free t ∷ xs) b totals low = low_unlisted test (at + t) xs b totals.1 (omega arith)
low_unlisted test at (Live t ∷ xs) b totals low =
    let rest : is_listed (blocks_that test (at + t) xs) b ≡ false = low_unlisted test (at + t) xs b totals.1 (omega arith) in
    elim (cases_Bool (test at t)) [
      | inl can ↦ rw (can, ne_eqb (at + 4) b (λ (e : at + 4 ≡ b). omega arith)) rest
      | inr cannot ↦ rw cannot rest
    ]

without_unlisted : (c : ℕ) (ms : List ℕ) → is_listed ms c ≡ false → without_first_block c ms ≡ ms
without_unlisted c [] none = refl
without_unlisted c (m ∷ ms) none = elim (cases_Bool (m == c)) [
  | inl here ↦ absurd (false≢true (let e = rw here at none in sym e))
  | inr other ↦ rw other refl
]

pub are_blocks : (test : ℕ → ℕ → Bool) (at : ℕ) (xs : List Item) → AreTotals xs → AreBlocks at xs (blocks_that test at xs)
are_blocks test at [] totals = refl
are_blocks test at (Free t ∷ xs) totals = are_blocks test (at + t) xs totals.1
are_blocks test at (Live t ∷ xs) totals =
    let rest : AreBlocks (at + t) xs (blocks_that test (at + t) xs) = are_blocks test (at + t) xs totals.1 in
    elim (cases_Bool (test at t)) [
      | inl can ↦ rw (can, eq-eqb (at + 4) (at + 4) refl) rest
      | inr cannot ↦
          let least = total_facts t totals.0 in
          let none : is_listed (blocks_that test (at + t) xs) (at + 4) ≡ false = low_unlisted test (at + t) xs (at + 4) totals.1 (omega (arith, least.0)) in
          let same : without_first_block (at + 4) (blocks_that test (at + t) xs) ≡ blocks_that test (at + t) xs = without_unlisted (at + 4) _ none in
          rw (cannot, same) rest
    ]

-- each is live, and passes the test
pub record IsChosen (test : ℕ → ℕ → Bool) (at : ℕ) (xs : List Item) (b : ℕ) : Type 0 where
  pub total : ℕ
  pub live : live_total b at xs ≡ Some total
  pub passes : test (b - 4) total ≡ true
  pub low : at + 4 ≤ b

pub chosen : (test : ℕ → ℕ → Bool) (at : ℕ) (xs : List Item) (b : ℕ) → AreTotals xs → is_listed (blocks_that test at xs) b ≡ true → IsChosen test at xs b
chosen test at [] b totals is = absurd (false≢true is)
chosen test at (Free t ∷ xs) b totals is =
    let c : IsChosen test (at + t) xs b = chosen test (at + t) xs b totals.1 is in
    record { total = c.total; live = c.live; passes = c.passes; low = omega (arith, c.low) }
chosen test at (Live t ∷ xs) b totals is = elim (cases_Bool (at + 4 == b)) [
  | inl here ↦
      let e : at + 4 ≡ b = eqb-true (at + 4) b here in
      elim (cases_Bool (test at t)) [
        | inl can ↦
            let place : b - 4 ≡ at = omega arith in
            record { total = t; live = rw here refl; passes = rw place can; low = omega arith }
        | inr cannot ↦
            let least = total_facts t totals.0 in
            let none : is_listed (blocks_that test (at + t) xs) b ≡ false = low_unlisted test (at + t) xs b totals.1 (omega (arith, least.0)) in
            absurd (false≢true (sym none ∙ (rw cannot at is)))
      ]
  | inr other ↦
      let later : is_listed (blocks_that test (at + t) xs) b ≡ true = elim (cases_Bool (test at t)) [
        | inl can ↦ rw (can, other) at is
        | inr cannot ↦ rw cannot at is
      ] in
      let c : IsChosen test (at + t) xs b = chosen test (at + t) xs b totals.1 later in
      record { total = c.total; live = rw other c.live; passes = c.passes; low = omega (arith, c.low) }
]

-- How many of a list are not below a number: one less where the number passes one of them.
abbrev above : {X : Type 0} → (X → ℕ) → ℕ → List X → ℕ
above f a xs = number_passing (λ x. nat_le a (f x)) xs

above_less : {X : Type 0} (f : X → ℕ) (a b : ℕ) (xs : List X) → a ≤ b → above f b xs ≤ above f a xs
above_less f a b [] low = omega arith
above_less f a b (x ∷ xs) low =
    let rest : above f b xs ≤ above f a xs = above_less f a b xs low in
    elim (cases_Bool (nat_le b (f x))) [
      | inl in_both ↦ let at_least : b ≤ f x = leb-true b (f x) in_both in rw (in_both, le-leb a (f x) (omega arith)) (omega (arith, rest))
      | inr out ↦ elim (cases_Bool (nat_le a (f x))) [
        | inl one ↦ rw (out, one) (omega (arith, rest))
        | inr none ↦ rw (out, none) (omega (arith, rest))
      ]
    ]

above_one : {X : Type 0} (f : X → ℕ) (a b : ℕ) (xs : List X) → a < b → list_any (λ x. f x == a) xs ≡ true → above f b xs + 1 ≤ above f a xs
above_one f a b [] low some = absurd (false≢true some)
above_one f a b (x ∷ xs) low some = elim (cases_Bool (f x == a)) [
  | inl here ↦
      let e : f x ≡ a = eqb-true (f x) a here in
      let out : nat_le b (f x) ≡ false = elim (cases_Bool (nat_le b (f x))) [
        | inl high ↦ let h : b ≤ f x = leb-true b (f x) high in absurd (omega arith)
        | inr below ↦ below
      ] in
      let rest : above f b xs ≤ above f a xs = above_less f a b xs (omega arith) in
      rw (out, le-leb a (f x) (omega arith)) (omega (arith, rest))
  | inr other ↦
      let rest : above f b xs + 1 ≤ above f a xs = above_one f a b xs low (rw other at some) in
      elim (cases_Bool (nat_le b (f x))) [
        | inl in_both ↦ let at_least : b ≤ f x = leb-true b (f x) in_both in rw (in_both, le-leb a (f x) (omega arith)) (omega (arith, rest))
        | inr out ↦ elim (cases_Bool (nat_le a (f x))) [
          | inl one ↦ rw (out, one) (omega (arith, rest))
          | inr none ↦ rw (out, none) (omega (arith, rest))
        ]
      ]
]

most_above : {X : Type 0} (f : X → ℕ) (a : ℕ) (xs : List X) → above f a xs ≤ length xs
most_above f a [] = omega arith
most_above f a (x ∷ xs) = elim (cases_Bool (nat_le a (f x))) [
  | inl one ↦ rw one (omega (arith, most_above f a xs))
  | inr none ↦ rw none (omega (arith, most_above f a xs))
]

counted : {X : Type 0} (p : X → Bool) (xs : List X) → number_passing p xs ≡ count_by p xs
counted p xs = is_count_by (number_passing p) p refl (λ x ys. elim (cases_Bool (p x)) [
  | inl one ↦ rw one refl
  | inr none ↦ rw none (omega arith)
]) xs

-- a block that can be moved is named
named_some : (words : List ℕ) (b : ℕ) → 1 ≤ number_passing (λ (w : ℕ). w == b) words → list_any (λ (w : ℕ). w == b) words ≡ true
named_some [] b some = absurd (omega arith)
named_some (w ∷ ws) b some = elim (cases_Bool (w == b)) [
  | inl here ↦ rw here refl
  | inr other ↦
      let later = rw other at some in
      rw other (named_some ws b (omega (arith, later)))
]

image_some : (modules : List Module) (b : ℕ) → has_image_at b modules ≡ true → list_any (λ (m : Module). m.image.at == b) modules ≡ true
image_some [] b some = some
image_some (m ∷ ms) b some = elim (cases_Bool (m.image.at == b)) [
  | inl here ↦ rw here refl
  | inr other ↦ elim (cases_Bool (is_in_module_area m.image.at)) [
    | inl inside ↦ rw other (image_some ms b (rw (inside, other) at some))
    | inr outside ↦ rw other (image_some ms b (rw outside at some))
  ]
]

abbrev left_above : List Module → List ℕ → ℕ → ℕ
left_above modules words a = above (λ (m : Module). m.image.at) a modules + above (λ (w : ℕ). w) a words

one_less : (modules : List Module) (words : List ℕ) (a b : ℕ) → a < b → (has_image_at a modules || is_named_once words a) ≡ true
    → left_above modules words b + 1 ≤ left_above modules words a
one_less modules words a b low is = elim (cases_Bool (has_image_at a modules)) [
  | inl image ↦
      let one = above_one (λ (m : Module). m.image.at) a b modules low (image_some modules a image) in
      let less = above_less (λ (w : ℕ). w) a b words (omega arith) in
      omega (arith, one, less)
  | inr none ↦
      let once : (count_by (λ (w : ℕ). w == a) words == 1) ≡ true = rw none at is in
      let n : count_by (λ (w : ℕ). w == a) words ≡ 1 = eqb-true _ 1 once in
      let one = above_one (λ (w : ℕ). w) a b words low (named_some words a (omega (arith, counted (λ (w : ℕ). w == a) words))) in
      let less = above_less (λ (m : Module). m.image.at) a b modules (omega arith) in
      omega (arith, one, less)
]

few_left : (anchor : ℕ → Bool) (holds : ℕ → ℕ → Bool) (modules : List Module) (words : List ℕ) (return_address at : ℕ) (xs : List Item) → AreTotals xs
    → length (blocks_that (can_move anchor holds modules words return_address) at xs) ≤ left_above modules words (at + 4)
few_left anchor holds modules words return_address at [] totals = omega arith
few_left anchor holds modules words return_address at (Free t ∷ xs) totals =
    let rest = few_left anchor holds modules words return_address (at + t) xs totals.1 in
    let images = above_less (λ (m : Module). m.image.at) (at + 4) (at + t + 4) modules (omega arith) in
    let named = above_less (λ (w : ℕ). w) (at + 4) (at + t + 4) words (omega arith) in
    omega (arith, rest, images, named)
few_left anchor holds modules words return_address at (Live t ∷ xs) totals =
    let rest = few_left anchor holds modules words return_address (at + t) xs totals.1 in
    let least = total_facts t totals.0 in
    elim (cases_Bool (can_move anchor holds modules words return_address at t)) [
      | inl can ↦
          let tied : (has_image_at (at + 4) modules || is_named_once words (at + 4)) ≡ true =
          (and_parts _ ((not (anchor_among anchor at t) && not (holds at t)) && not (in_range at t return_address)) can).0 in
          let one = one_less modules words (at + 4) (at + t + 4) (omega (arith, least.0)) tied in
          rw can (omega (arith, rest, one))
      | inr cannot ↦
          let images = above_less (λ (m : Module). m.image.at) (at + 4) (at + t + 4) modules (omega arith) in
          let named = above_less (λ (w : ℕ). w) (at + 4) (at + t + 4) words (omega arith) in
          rw cannot (omega (arith, rest, images, named))
    ]

pub few_blocks : (anchor : ℕ → Bool) (holds : ℕ → ℕ → Bool) (modules : List Module) (words : List ℕ) (return_address at : ℕ) (xs : List Item) → AreTotals xs
    → length modules ≤ 64 → length words ≤ 64 → length (blocks_that (can_move anchor holds modules words return_address) at xs) ≤ 128
few_blocks anchor holds modules words return_address at xs totals images named =
    let left = few_left anchor holds modules words return_address at xs totals in
    let one = most_above (λ (m : Module). m.image.at) (at + 4) modules in
    let two = most_above (λ (w : ℕ). w) (at + 4) words in
    omega (arith, left, one, two)
