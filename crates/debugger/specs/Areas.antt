-- Areas as text: a line for each by number, with its base as eight hexadecimal digits, its size and
-- its maximum in bytes, and its name; then the pages of the pool (RISC OS 3 Programmer's Reference
-- Manual, supplement, "OS_DynamicArea"; the text is this project's own).
use Rattle.std.specs.Prelude.{ℕ, ◌*◌, ◌++◌, List, codes}
use Rattle.std.specs.Fmt.{decimal}
use Rattle.std.specs.List.{flat_map}
use Rattle.assembler_text.specs.Digits.{hex_word}
use Rattle.swi_dispatch_guest.specs.Area.{Area}

-- ` size 65536 max 4194304`
abbrev pub area_extent_text : Area → List ℕ
area_extent_text a = codes " size " ++ (decimal (4096 * a.pages) ++ (codes " max " ++ decimal a.maximum))

-- `area 1 base 01800000 size 65536 max 4194304 RMA`
abbrev pub area_text : Area → List ℕ
area_text a =
    codes "area " ++ (decimal a.number ++ (codes " base "
    ++ (hex_word a.base ++ (area_extent_text a ++ (codes " " ++ (a.name.items ++ codes "\n"))))))

-- `pool 173 pages`
abbrev pub pool_text : ℕ → List ℕ
pool_text pages = codes "pool " ++ (decimal pages ++ codes " pages\n")

abbrev pub areas_text : List Area → ℕ → List ℕ
areas_text areas pages = flat_map area_text areas ++ pool_text pages
