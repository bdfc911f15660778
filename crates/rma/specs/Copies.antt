-- Which bytes a copy may be made of, as a module image (RISC OS 3 Programmer's Reference Manual,
-- "OS_Module", reason 11; that of the module area only what live blocks hold is copied is this
-- project's own).
use Rattle.dynamic_areas.specs.MemoryMap.{module_area_start}
use Rattle.std.specs.Prelude.{ℕ, ◌*◌, ◌&&◌, not, Bool}
use Rattle.std.specs.List.{list_any, range_with_len}
use Rattle.dynamic_areas.specs.Bytes.{in_range}
use Rattle.dynamic_areas.specs.Payloads.{area_payload, is_other}
use Rattle.dynamic_areas.specs.Ranges.{are_bytes_mapped}
use Rattle.dynamic_areas.specs.Ground.{AreaStore}
use Rattle.rma.specs.Calls.{area_pages}

-- Is a byte one of the module area's that no live block holds: of the heap's own words, of free
-- room, or past the base? What a block holds may be a heap's, with its words.
abbrev pub is_bare : AreaStore → ℕ → Bool
is_bare e a = in_range module_area_start (4096 * area_pages e) a && is_other (area_payload e.store a)

abbrev pub has_bare : AreaStore → ℕ → ℕ → Bool
has_bare e at len = list_any (is_bare e) (range_with_len at len)

-- All bytes of the range are mapped, and none is such a one. An empty range has none.
abbrev pub may_be_copied : AreaStore → ℕ → ℕ → Bool
may_be_copied e at len = are_bytes_mapped e.store.bytes.mapped at len && not (has_bare e at len)
