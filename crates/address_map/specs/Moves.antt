-- Blocks that were moved, and the records of module images that follow them (RISC OS 3 Programmer's
-- Reference Manual, "OS_Module", reason 8, tidying of the module area).
use Rattle.std.specs.Prelude.{ℕ, ◌≡◌, ◌≤◌, ◌==◌, ◌%◌, List, [], ◌∷◌, map, if◌then◌else◌}
use Rattle.address_map.specs.declared.follow.BlockMove.{BlockMove}
use Rattle.address_map.specs.declared.region.Kind.{Kind}
use Rattle.address_map.specs.declared.region.Kind.TheVariants as kind
use Rattle.address_map.specs.declared.region.Region.{Region}

-- where the block at an address is after some moves, or the address itself, where no block was
-- moved from there
abbrev pub moved_to : List BlockMove → ℕ → ℕ
moved_to [] a = a
moved_to (m ∷ ms) a = if m.from == a then m.to else moved_to ms a

-- a record of an image follows the block that it is of; all others stay
abbrev pub moved_place : List BlockMove → Kind → ℕ → ℕ
moved_place moves kind.Image at = moved_to moves at
moved_place moves other at = at

abbrev pub moved_region : List BlockMove → Region → Region
moved_region moves r = record { kind = r.kind; at = moved_place moves r.kind r.at; len = r.len }

abbrev pub moved_regions : List BlockMove → List Region → List Region
moved_regions moves rs = map (λ r. moved_region moves r) rs

-- a block that moves goes to a lower address of a whole word
abbrev pub AreDown : List BlockMove → Type 0
AreDown [] = Unit {0}
AreDown (m ∷ ms) = ((m.to ≤ m.from) × (m.to % 4 ≡ 0)) × AreDown ms
