-- The words that differ, a line for each: its address, what stands there now, and what stood there.
-- Of more than 16 the others are counted.
use Rattle.std.specs.Prelude.{ℕ, ◌-◌, ◌==◌, List, [], ◌++◌, codes, length, take, if◌then◌else◌}
use Rattle.std.specs.Fmt.{decimal}
use Rattle.std.specs.List.{flat_map}
use Rattle.profile.specs.Digits.{hex_word}
use Rattle.store_copies.specs.declared.changes.WordChange.{WordChange}
use Rattle.store_copies.specs.declared.changes.WordChanges.{WordChanges}

-- `[01C02000]=01800064 was 00000000`
unfoldable pub word_line : WordChange → List ℕ
word_line c = codes "                  [" ++ (hex_word c.at ++ (codes "]="
    ++ (hex_word c.new ++ (codes " was " ++ (hex_word c.old ++ codes "\n")))))

-- `.. 9 words more`, and nothing where there are none
unfoldable pub count_line : List ℕ → ℕ → List ℕ
count_line what more = codes "                  .. " ++ (decimal more ++ what)

unfoldable pub more_line : List ℕ → ℕ → List ℕ
more_line what more = if more == 0 then [] else count_line what more

-- the lines of some words, of which the first are shown
unfoldable pub word_lines : List WordChange → List ℕ
word_lines changes = flat_map word_line (take 16 changes) ++ more_line (codes " words more\n")
    (length changes - 16)

-- the same by what is kept of them
abbrev pub summary_lines : WordChanges → List ℕ
summary_lines kept = flat_map word_line kept.first.items ++ more_line (codes " words more\n")
    (kept.count - 16)
