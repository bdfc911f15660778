-- Where in the list an area is, and what the list is after a change there.
use Rattle.std.specs.Prelude.{ℕ, ◌≡◌, ◌<◌, Some, List, length, slice_index_or, slice_set}
use Rattle.std.specs.List.{remove}
use Rattle.dynamic_areas.specs.declared.area.Area.{Area}
use Rattle.dynamic_areas.specs.Areas.{find_area, without_area, with_pages, area_with_pages}

pub record IsPlaceOf (number : ℕ) (areas : List Area) (i : ℕ) : Type 0 where
  pub below : i < length areas
  pub found : (d : Area) → find_area number areas ≡ Some (slice_index_or areas i d)
  pub without : without_area number areas ≡ remove areas i
  pub pages : (d : Area) (pages : ℕ) → with_pages number pages areas
      ≡ slice_set areas i (area_with_pages pages (slice_index_or areas i d))
