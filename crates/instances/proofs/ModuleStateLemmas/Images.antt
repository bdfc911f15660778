-- The records of images: how many there are, that all start at different addresses, and those after
-- a record more or less.
use Rattle.std.proofs.Common.{◌≡◌, ℕ, Bool, true, false, inl, inr, suc, ◌+◌, ◌%◌, ◌<◌, ◌==◌, List, [], ◌∷◌, ◌++◌, length, refl, ap, arith}
use Rattle.std.specs.List.{list_any}
use Rattle.std.proofs.lemmas.Bool.{cases_Bool, eqb-true, false_from_ne_true, both_ways}
use Rattle.rma.proofs.InRange.{range_inside}
use Rattle.rma.specs.Bytes.{in_range}
use Rattle.rma.specs.Records.{is_record, without_region}
use Rattle.rma.specs.Kind.TheVariants as kind
use Rattle.rma.specs.Region.{Region}
use Rattle.rma.specs.Store.{AreRangesApart, IsClearOfRanges, is_image}
use Rattle.rma.specs.Ground.{IsRecorded, system_pages_range}
use Rattle.instances_table.specs.Changes.{without_first_passing}
use Rattle.instances.specs.module_state.Sound.{AreSolid, count_beside, image_ranges}

-- does a range start at an address?
abbrev pub starts_at : ℕ → Region → Bool
starts_at at r = r.at == at

-- each range of a list starts at another address than all after it
abbrev pub AreDifferent : List Region → Type 0
AreDifferent [] = Unit {0}
AreDifferent (r ∷ rs) = (list_any (starts_at r.at) rs ≡ false) × AreDifferent rs

pub count_all : (rs : List Region) → length rs ≡ length (image_ranges rs) + count_beside rs
count_all [] = refl
count_all (r ∷ rs) = elim (cases_Bool (is_image r.kind)) [
  | inl image ↦ rw image (omega (arith, count_all rs))
  | inr other ↦ rw other (omega (arith, count_all rs))
]

-- two images that are apart, and not empty, start at different addresses
starts_differ : (r q : Region) → 0 < r.len → 0 < q.len → ((a : ℕ) → in_range r.at r.len a ≡ true → in_range q.at q.len a ≡ false) → (q.at == r.at) ≡ false
starts_differ r q mine its clear = false_from_ne_true (q.at == r.at) (λ same.
    let at : q.at ≡ r.at = eqb-true q.at r.at same in
    both_ways (in_range q.at q.len r.at)
    (clear r.at (range_inside r.at r.len r.at (omega arith) (omega (arith, mine))))
    (range_inside q.at q.len r.at (omega (arith, at)) (omega (arith, at, its))))

no_later : (r : Region) (rs : List Region) → 0 < r.len → AreSolid rs → IsClearOfRanges r rs → list_any (starts_at r.at) (image_ranges rs) ≡ false
no_later r [] long solid clear = refl
no_later r (q ∷ rs) long solid clear = elim (cases_Bool (is_image q.kind)) [
  | inl image ↦ rw image (rw (starts_differ r q long (solid.0 image).some clear.0) (no_later r rs long solid.1 clear.1))
  | inr other ↦ rw other (no_later r rs long solid.1 clear.1)
]

pub ranges_differ : (rs : List Region) → AreSolid rs → AreRangesApart rs → AreDifferent (image_ranges rs)
ranges_differ [] solid apart = tt
ranges_differ (r ∷ rs) solid apart = elim (cases_Bool (is_image r.kind)) [
  | inl image ↦ rw image (no_later r rs (solid.0 image).some solid.1 apart.0, ranges_differ rs solid.1 apart.1)
  | inr other ↦ rw other (ranges_differ rs solid.1 apart.1)
]

-- one record less
pub ranges_less : (at : ℕ) (rs : List Region) → image_ranges (without_region rs kind.Image at) ≡ without_first_passing (starts_at at) (image_ranges rs)
ranges_less at [] = refl
ranges_less at (r ∷ rs) = elim (cases_Bool (is_image r.kind)) [
  | inl image ↦ elim (cases_Bool (r.at == at)) [
    | inl first ↦ rw (image, first) refl
    | inr later ↦ rw (image, later, image) (ap (λ (xs : List Region). r ∷ xs) (ranges_less at rs))
  ]
  | inr other ↦ rw (other, other) (ranges_less at rs)
]

pub beside_less : (at : ℕ) (rs : List Region) → count_beside (without_region rs kind.Image at) ≡ count_beside rs
beside_less at [] = refl
beside_less at (r ∷ rs) = elim (cases_Bool (is_image r.kind)) [
  | inl image ↦ elim (cases_Bool (r.at == at)) [
    | inl first ↦ rw (image, first) refl
    | inr later ↦ rw (image, later, image) (beside_less at rs)
  ]
  | inr other ↦ rw (other, other) (ap suc (beside_less at rs))
]

pub solid_less : (at : ℕ) (rs : List Region) → AreSolid rs → AreSolid (without_region rs kind.Image at)
solid_less at [] solid = tt
solid_less at (r ∷ rs) solid = elim (cases_Bool (is_record kind.Image at r)) [
  | inl first ↦ rw first solid.1
  | inr later ↦ rw later (solid.0, solid_less at rs solid.1)
]

pub system_less : (at : ℕ) (rs : List Region) → IsRecorded system_pages_range rs → IsRecorded system_pages_range (without_region rs kind.Image at)
system_less at [] there = absurd there
system_less at (r ∷ rs) there = elim there [
  | inl mine ↦ rw mine (inl refl)
  | inr its ↦ elim (cases_Bool (is_record kind.Image at r)) [
    | inl first ↦ rw first its
    | inr later ↦ rw later (inr (system_less at rs its))
  ]
]

-- one image more, at the end
pub ranges_more : (at len : ℕ) (rs : List Region)
    → image_ranges (rs ++ record { kind = kind.Image; at = at; len = len } ∷ []) ≡ image_ranges rs ++ record { kind = kind.Image; at = at; len = len } ∷ []
ranges_more at len [] = refl
ranges_more at len (r ∷ rs) = elim (cases_Bool (is_image r.kind)) [
  | inl image ↦ rw image (ap (λ (xs : List Region). r ∷ xs) (ranges_more at len rs))
  | inr other ↦ rw other (ranges_more at len rs)
]

pub beside_more : (at len : ℕ) (rs : List Region) → count_beside (rs ++ record { kind = kind.Image; at = at; len = len } ∷ []) ≡ count_beside rs
beside_more at len [] = refl
beside_more at len (r ∷ rs) = elim (cases_Bool (is_image r.kind)) [
  | inl image ↦ rw image (beside_more at len rs)
  | inr other ↦ rw other (ap suc (beside_more at len rs))
]

pub solid_more : (at len : ℕ) (rs : List Region) → 0 < len → at % 4 ≡ 0 → AreSolid rs → AreSolid (rs ++ record { kind = kind.Image; at = at; len = len } ∷ [])
solid_more at len [] long whole solid = ((λ image. record { some = long; whole = whole }), tt)
solid_more at len (r ∷ rs) long whole solid = (solid.0, solid_more at len rs long whole solid.1)

pub system_more : (r : Region) (rs : List Region) → IsRecorded system_pages_range rs → IsRecorded system_pages_range (rs ++ r ∷ [])
system_more r [] there = absurd there
system_more r (q ∷ rs) there = elim there [
  | inl mine ↦ inl mine
  | inr its ↦ inr (system_more r rs its)
]
