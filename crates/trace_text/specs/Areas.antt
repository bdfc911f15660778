-- What a step changes in dynamic areas, a line below the step for each area that is gone, new or of
-- another size. Sizes are in bytes.
use Rattle.std.specs.Prelude.{ℕ, Bool, ◌*◌, ◌==◌, List, [], ◌∷◌, ◌++◌, map, codes, Option, Some, None, if◌then◌else◌}
use Rattle.std.specs.Fmt.{decimal}
use Rattle.std.specs.List.{flat_map, list_any}
use Rattle.profile.specs.Digits.{hex_word}
use Rattle.trace_store_text.specs.Area.{Area}
use Rattle.trace_text.specs.declared.areas.AreaMark.{AreaMark}

-- what a trace keeps of an area
abbrev pub mark_of_area : Area → AreaMark
mark_of_area a = record { number = a.number; pages = a.pages }

abbrev pub area_marks : List Area → List AreaMark
area_marks areas = map mark_of_area areas

-- how many pages the area of a number had, if there was one
abbrev pub pages_marked : List AreaMark → ℕ → Option ℕ
pages_marked [] number = None
pages_marked (m ∷ ms) number = if m.number == number then Some m.pages else pages_marked ms number

abbrev pub has_area : List Area → ℕ → Bool
has_area areas number = list_any (λ (a : Area). a.number == number) areas

-- `area 256 gone`
abbrev pub gone_area_line : List Area → AreaMark → List ℕ
gone_area_line areas m = if has_area areas m.number then [] else
    codes "                  area " ++ (decimal m.number ++ codes " gone\n")

-- `area 256 new at 02000000 size 4096`
abbrev pub new_area_line : Area → List ℕ
new_area_line a = codes "                  area " ++ (decimal a.number ++ (codes " new at "
    ++ (hex_word a.base ++ (codes " size " ++ (decimal (4096 * a.pages) ++ codes "\n")))))

-- `area 1 size 69632 was 65536`
abbrev pub sized_area_line : Area → ℕ → List ℕ
sized_area_line a pages = codes "                  area " ++ (decimal a.number ++ (codes " size "
    ++ (decimal (4096 * a.pages) ++ (codes " was " ++ (decimal (4096 * pages) ++ codes "\n")))))

abbrev pub area_line_by : Area → Option ℕ → List ℕ
area_line_by a None = new_area_line a
area_line_by a (Some pages) = if pages == a.pages then [] else sized_area_line a pages

abbrev pub area_line : List AreaMark → Area → List ℕ
area_line marks a = area_line_by a (pages_marked marks a.number)

unfoldable pub area_lines : List AreaMark → List Area → List ℕ
area_lines marks areas = flat_map (gone_area_line areas) marks ++ flat_map (area_line marks) areas
