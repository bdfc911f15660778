-- The lines of images, by all recorded ranges.
use Rattle.std.proofs.Common.{◌≡◌, ℕ, Bool, true, false, ◌||◌, List, [], ◌∷◌, ◌++◌, refl, ap}
use Rattle.std.specs.Prelude.{codes}
use Rattle.std.specs.List.{flat_map, list_any}
use Rattle.address_map.specs.Memory.{regions}
use Rattle.address_map.specs.Records.{is_heap_kind}
use Rattle.address_map.specs.declared.map.AddressMap.{AddressMap}
use Rattle.address_map.specs.declared.region.Kind.{Kind}
use Rattle.address_map.specs.declared.region.Kind.TheVariants.{Heap, Rma, FlexStore, FlexHeader, Anchor, HeadWord, Image, SystemPage}
use Rattle.address_map.specs.declared.region.Region.{Region}
use Rattle.store_copies.specs.Store.{is_image, others_in, store_of}
use Rattle.trace_store_text.specs.ImageLines.{image_lines, is_same_image, lone_image_line}

no_image : (k : Kind) → is_heap_kind k ≡ true → is_image k ≡ false
no_image Heap is = refl
no_image Rma is = refl
no_image FlexStore is = cc
no_image FlexHeader is = cc
no_image Anchor is = cc
no_image HeadWord is = cc
no_image Image is = cc
no_image SystemPage is = cc

among_others : (r : Region) (rs : List Region) → list_any (is_same_image r) (others_in rs) ≡ list_any (is_same_image r) rs
among_others r [] = refl
among_others r (q ∷ rs) = by_kind (is_heap_kind q.kind) refl (among_others r rs) where
  by_kind : (is_heap : Bool) → is_heap_kind q.kind ≡ is_heap → list_any (is_same_image r) (others_in rs) ≡ list_any (is_same_image r) rs
      → list_any (is_same_image r) (others_in (q ∷ rs)) ≡ list_any (is_same_image r) (q ∷ rs)
  by_kind true is rest = rw (is, no_image q.kind is) rest
  by_kind false is rest = rw is (ap (λ more. is_same_image r q || more) rest)

line_by_all : (qs : List Region) (verb : List ℕ) (r : Region) → lone_image_line (others_in qs) verb r ≡ lone_image_line qs verb r
line_by_all qs verb r = rw (among_others r qs) refl

lines_by_all : (qs : List Region) (verb : List ℕ) (rs : List Region)
    → flat_map (lone_image_line (others_in qs) verb) (others_in rs) ≡ flat_map (lone_image_line qs verb) rs
lines_by_all qs verb [] = refl
lines_by_all qs verb (r ∷ rs) = by_kind (is_heap_kind r.kind) refl (lines_by_all qs verb rs) where
  by_kind : (is_heap : Bool) → is_heap_kind r.kind ≡ is_heap
      → flat_map (lone_image_line (others_in qs) verb) (others_in rs) ≡ flat_map (lone_image_line qs verb) rs
      → flat_map (lone_image_line (others_in qs) verb) (others_in (r ∷ rs)) ≡ flat_map (lone_image_line qs verb) (r ∷ rs)
  by_kind true is rest = rw (is, no_image r.kind is) rest
  by_kind false is rest = rw (is, line_by_all qs verb r) (ap (λ more. lone_image_line qs verb r ++ more) rest)

pub images_by_region : (m n : AddressMap) → image_lines (store_of m) (store_of n)
    ≡ flat_map (lone_image_line (regions n) (codes " gone\n")) (regions m) ++ flat_map (lone_image_line (regions m) (codes " new\n")) (regions n)
unfolding image_lines store_of
images_by_region m n = rw (lines_by_all (regions n) (codes " gone\n") (regions m), lines_by_all (regions m) (codes " new\n") (regions n)) refl
