-- The lines of heaps, by the recorded ranges.
use Rattle.std.proofs.Common.{◌≡◌, ℕ, Bool, true, false, List, [], ◌∷◌, ◌++◌, refl, ap}
use Rattle.std.specs.List.{flat_map}
use Rattle.address_map.specs.Bytes.{Bytes}
use Rattle.address_map.specs.Memory.{bytes_of, regions}
use Rattle.address_map.specs.Records.{is_heap_kind}
use Rattle.address_map.specs.declared.map.AddressMap.{AddressMap}
use Rattle.address_map.specs.declared.region.Region.{Region}
use Rattle.store_copies.specs.Store.{heaps_in, store_of}
use Rattle.trace_store_text.specs.HeapLines.{gone_heap_lines, heap_lines, kept_heap_lines, lines_of_heaps, lines_of_region}

lines_in : (lines : ℕ → List ℕ) (b : Bytes) (rs : List Region) → lines_of_heaps lines (heaps_in b rs) ≡ flat_map (lines_of_region lines) rs
lines_in lines b [] = refl
lines_in lines b (r ∷ rs) = by_kind (is_heap_kind r.kind) refl (lines_in lines b rs) where
  by_kind : (is_heap : Bool) → is_heap_kind r.kind ≡ is_heap → lines_of_heaps lines (heaps_in b rs) ≡ flat_map (lines_of_region lines) rs
      → lines_of_heaps lines (heaps_in b (r ∷ rs)) ≡ flat_map (lines_of_region lines) (r ∷ rs)
  by_kind true is rest = rw is (ap (λ more. lines r.at ++ more) rest)
  by_kind false is rest = rw is rest

pub lines_by_region : (m : AddressMap) (lines : ℕ → List ℕ) → lines_of_heaps lines (store_of m).heaps ≡ flat_map (lines_of_region lines) (regions m)
unfolding store_of
lines_by_region m lines = lines_in lines (bytes_of m) (regions m)

-- all lines of heaps
pub heaps_by_region : (m n : AddressMap) → heap_lines (store_of m) (store_of n)
    ≡ flat_map (lines_of_region (gone_heap_lines (store_of n))) (regions m)
    ++ flat_map (lines_of_region (kept_heap_lines (store_of m) (store_of n))) (regions n)
unfolding heap_lines
heaps_by_region m n = rw (lines_by_region m (gone_heap_lines (store_of n)), lines_by_region n (kept_heap_lines (store_of m) (store_of n))) refl
