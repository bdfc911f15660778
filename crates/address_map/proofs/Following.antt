-- Records that follow their blocks stay ranges that can be recorded.
use Rattle.std.proofs.Common.{List, ℕ, [], ◌∷◌, ◌≡◌, ◌≤◌, ◌%◌, ◌==◌, inl, inr, arith, slice_index_or}
use Rattle.std.proofs.lemmas.Bool.{cases_Bool, eqb-true}
use Rattle.std.proofs.lemmas.List.Elements.{All-map}
use Rattle.std.specs.List.{All}
use Rattle.address_map.specs.Moves.{AreDown, moved_place, moved_region, moved_regions, moved_to}
use Rattle.address_map.specs.Records.{IsRegion}
use Rattle.address_map.specs.declared.follow.BlockMove.{BlockMove}
use Rattle.address_map.specs.declared.region.Kind.{Kind}
use Rattle.address_map.specs.declared.region.Kind.TheVariants as kind
use Rattle.address_map.specs.declared.region.Region.{Region}

to_below : (moves : List BlockMove) (a : ℕ) → AreDown moves → a % 4 ≡ 0 → (moved_to moves a ≤ a) × (moved_to moves a % 4 ≡ 0)
to_below [] a down aligned = (omega arith, aligned)
to_below (m ∷ ms) a down aligned = elim (cases_Bool (m.from == a)) [
  | inl here ↦ let e : m.from ≡ a = eqb-true m.from a here in rw here (omega (arith, down.0.0), down.0.1)
  | inr other ↦ rw other (to_below ms a down.1 aligned)
]

place_below : (moves : List BlockMove) (k : Kind) (a : ℕ) → AreDown moves → a % 4 ≡ 0 → (moved_place moves k a ≤ a) × (moved_place moves k a % 4 ≡ 0)
place_below moves kind.Image a down aligned = to_below moves a down aligned
place_below moves kind.Heap a down aligned = (omega arith, aligned)
place_below moves kind.Rma a down aligned = (omega arith, aligned)
place_below moves kind.FlexStore a down aligned = (omega arith, aligned)
place_below moves kind.FlexHeader a down aligned = (omega arith, aligned)
place_below moves kind.Anchor a down aligned = (omega arith, aligned)
place_below moves kind.HeadWord a down aligned = (omega arith, aligned)
place_below moves kind.SystemPage a down aligned = (omega arith, aligned)

region_after : (moves : List BlockMove) (r : Region) → AreDown moves → IsRegion r → IsRegion (moved_region moves r)
region_after moves r down is =
    let place = place_below moves r.kind r.at down is.aligned in
    record { aligned = place.1; end = omega (arith, place.0, is.end) }

pub recorded_after : (moves : List BlockMove) (rs : List Region) → AreDown moves → All IsRegion rs → All IsRegion (moved_regions moves rs)
recorded_after moves rs down all = All-map IsRegion (moved_region moves) rs (λ k d below. region_after moves (slice_index_or rs k d) down (all k d below))
