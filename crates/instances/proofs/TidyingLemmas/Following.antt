-- The records of images after a slide: they are mapped, and follow the images of modules.
use Rattle.std.specs.Prelude.{if◌then◌else◌}
use Rattle.std.proofs.Common.{◌≡◌, ◌<◌, ℕ, Bool, true, ◌+◌, ◌-◌, ◌%◌, ◌∙◌, ◌⊎◌, List, [], ◌∷◌, ◌++◌, map, refl, sym, ap, subst, Some, inl, inr, arith}
use Rattle.std.proofs.lemmas.Bool.{cases_Bool, cases_eq, le-leb, lt-ltb}
use Rattle.rma.specs.Bytes.{AreMapped, Bytes, in_range}
use Rattle.rma.specs.Items.{size_of}
use Rattle.rma.specs.Moves.{moved_place, moved_region, moved_regions, moved_to}
use Rattle.rma.specs.BlockMove.{BlockMove}
use Rattle.rma.specs.Kind.TheVariants as kind
use Rattle.rma.specs.Region.{Region}
use Rattle.rma.proofs.LiveBlocks.{LiveBytes, law_live_bytes}
use Rattle.rma.specs.lists.Heap.{HeapList}
use Rattle.rma.specs.lists.Lists.{total_for}
use Rattle.rma.proofs.Stores.{placed_by}
use Rattle.rma.specs.Store.{AreClear, ArePlaced, find_heap, is_image, IsImageBlock}
use Rattle.rma.proofs.HeapSlideLemmas.Records as records
use Rattle.rma.proofs.HeapSlideLemmas.Records.{IsSlide, moves_in, out_still, slid_in, still_place}
use Rattle.rma.specs.Ground.{AreRangesMapped, IsRecorded, system_pages_range}
use Rattle.instances_table.specs.ModuleArea.{is_in_module_area}
use Rattle.instances_table.specs.Modules.{Module}
use Rattle.instances.specs.module_state.Sound.{AreSolid, IsSolid, count_beside, image_ranges, images_of, range_of}
use Rattle.instances.specs.tidying.Slid.{image_moved}

-- a record that is clear of the heap stays where it is
place_kept : (b c : Bytes) (h : HeapList) (movable : List ℕ) (r : Region) → IsSlide b c h movable → AreClear r.at r.len h.start h.end → 0 < r.len
    → moved_place (moves_in h movable) r.kind r.at ≡ r.at
place_kept b c h movable r s clear some =
    let inside : in_range r.at r.len r.at ≡ true = rw (le-leb r.at r.at (omega arith), lt-ltb r.at (r.at + r.len) (omega (arith, some))) refl in
    still_place (moves_in h movable) r.kind r.at (out_still b c h movable r.at s (clear r.at inside))

-- where a block of the heap lies after the slide
block_after : (b c : Bytes) (h : HeapList) (movable : List ℕ) (r : Region) → IsSlide b c h movable → IsImageBlock h r
    → LiveBytes (moved_place (moves_in h movable) r.kind r.at) (r.len + 4) (h.start + 16) (h.start + 16 + size_of (slid_in h movable))
block_after b c h movable r s image =
    law_live_bytes (moved_place (moves_in h movable) r.kind r.at) (r.len + 4) (h.start + 16) (slid_in h movable) s.new.totals
    (records.image_moved b c h movable r s image)

one_mapped : (b c : Bytes) (h : HeapList) (movable : List ℕ) (r : Region) → IsSlide b c h movable → c.mapped ≡ b.mapped
    → AreClear r.at r.len h.start h.end ⊎ IsImageBlock h r → AreMapped b.mapped r.at r.len
    → AreMapped b.mapped (moved_place (moves_in h movable) r.kind r.at) r.len
one_mapped b c h movable r s same (inl clear) mapped = elim (cases_eq r.len 0) [
  | inl none ↦ λ a low high. absurd (omega (arith, none, low, high))
  | inr some ↦ rw (place_kept b c h movable r s clear (omega (arith, some))) mapped
]
one_mapped b c h movable r s same (inr image) mapped =
    let place = block_after b c h movable r s image in
    subst (λ (f : ℕ → Bool). AreMapped f (moved_place (moves_in h movable) r.kind r.at) r.len) same
    (λ a low high. s.new.mapped a (omega (arith, low, place.low)) (omega (arith, high, place.high, s.new.inside)))

pub ranges_mapped : (b c : Bytes) (h : HeapList) (hs : List HeapList) (movable : List ℕ) (rs : List Region) → IsSlide b c h movable
    → find_heap h.start hs ≡ Some h → c.mapped ≡ b.mapped → ArePlaced hs rs → AreRangesMapped b.mapped rs
    → AreRangesMapped b.mapped (moved_regions (moves_in h movable) rs)
ranges_mapped b c h hs movable [] s found same placed mapped = tt
ranges_mapped b c h hs movable (r ∷ rs) s found same placed mapped = (
  one_mapped b c h movable r s same (placed_by h.start hs h r placed.0 found) mapped.0,
  ranges_mapped b c h hs movable rs s found same placed.1 mapped.1,
)

pub system_moved : (moves : List BlockMove) (rs : List Region) → IsRecorded system_pages_range rs → IsRecorded system_pages_range (moved_regions moves rs)
system_moved moves [] there = there
system_moved moves (r ∷ rs) (inl same) = inl (ap (moved_region moves) same)
system_moved moves (r ∷ rs) (inr later) = inr (system_moved moves rs later)

ranges_moved : (moves : List BlockMove) (rs : List Region) → image_ranges (moved_regions moves rs) ≡ moved_regions moves (image_ranges rs)
ranges_moved moves [] = refl
ranges_moved moves (r ∷ rs) = elim (cases_Bool (is_image r.kind)) [
  | inl image ↦ rw image (ap (λ (xs : List Region). moved_region moves r ∷ xs) (ranges_moved moves rs))
  | inr other ↦ rw other (ranges_moved moves rs)
]

-- each image stays on its side of the module area's edge, and so keeps the length that is recorded
-- for it
image_moved_is : (moves : List BlockMove) (m : Module) → is_in_module_area (moved_to moves m.image.at) ≡ is_in_module_area m.image.at
    → range_of (image_moved moves m).image ≡ moved_region moves (range_of m.image)
image_moved_is moves m side = λ i. record {
  kind = kind.Image;
  at = moved_to moves m.image.at;
  len = if side i then total_for m.image.len - 4 else m.image.len;
}

images_moved : (moves : List BlockMove) (modules : List Module) → ((a : ℕ) → is_in_module_area (moved_to moves a) ≡ is_in_module_area a)
    → map range_of (images_of (map (image_moved moves) modules) ++ []) ≡ moved_regions moves (map range_of (images_of modules ++ []))
images_moved moves [] sides = refl
images_moved moves (m ∷ ms) sides =
    let first = image_moved_is moves m (sides m.image.at) in
    let rest = images_moved moves ms sides in
    λ i. first i ∷ rest i

pub images_follow : (moves : List BlockMove) (rs : List Region) (modules : List Module) → ((a : ℕ) → is_in_module_area (moved_to moves a) ≡ is_in_module_area a)
    → image_ranges rs ≡ map range_of (images_of modules ++ [])
    → image_ranges (moved_regions moves rs) ≡ map range_of (images_of (map (image_moved moves) modules) ++ [])
images_follow moves rs modules sides images = ranges_moved moves rs ∙ ap (moved_regions moves) images ∙ sym (images_moved moves modules sides)

-- they still begin at multiples of 4
one_whole : (b c : Bytes) (h : HeapList) (movable : List ℕ) (r : Region) → IsSlide b c h movable → AreClear r.at r.len h.start h.end ⊎ IsImageBlock h r
    → IsSolid r → moved_place (moves_in h movable) r.kind r.at % 4 ≡ 0
one_whole b c h movable r s (inl clear) solid = rw (place_kept b c h movable r s clear solid.some) solid.whole
one_whole b c h movable r s (inr image) solid = (block_after b c h movable r s image).whole (omega (arith, s.new.aligned))

pub solid_moved : (b c : Bytes) (h : HeapList) (hs : List HeapList) (movable : List ℕ) (rs : List Region) → IsSlide b c h movable
    → find_heap h.start hs ≡ Some h → ArePlaced hs rs → AreSolid rs → AreSolid (moved_regions (moves_in h movable) rs)
solid_moved b c h hs movable [] s found placed solid = tt
solid_moved b c h hs movable (r ∷ rs) s found placed solid = (
  λ image. record {
    some = (solid.0 image).some;
    whole = one_whole b c h movable r s (placed_by h.start hs h r placed.0 found) (solid.0 image);
  },
  solid_moved b c h hs movable rs s found placed.1 solid.1,
)

pub beside_moved : (moves : List BlockMove) (rs : List Region) → count_beside (moved_regions moves rs) ≡ count_beside rs
beside_moved moves [] = refl
beside_moved moves (r ∷ rs) = elim (cases_Bool (is_image r.kind)) [
  | inl image ↦ rw image (beside_moved moves rs)
  | inr other ↦ rw (other, beside_moved moves rs) refl
]
