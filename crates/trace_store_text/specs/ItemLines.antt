-- The items of a heap that are gone or new, a line below the heap's own for each: its address, and all
-- its bytes. Of more than 64 the others are counted.
use Rattle.std.specs.Prelude.{ℕ, ◌-◌, Bool, true, false, List, ◌++◌, codes, length, take}
use Rattle.std.specs.Fmt.{decimal}
use Rattle.std.specs.List.{flat_map}
use Rattle.profile.specs.Digits.{hex_word}
use Rattle.address_map.specs.Items.{total_of}
use Rattle.address_map.specs.declared.item.Item.{Item}
use Rattle.address_map.specs.declared.item.Item.TheVariants.{Free, Live}
use Rattle.trace_store_text.specs.declared.items.changes.ItemChange.{ItemChange}
use Rattle.trace_store_text.specs.declared.items.changes.ItemChanges.{ItemChanges}
use Rattle.trace_store_text.specs.WordLines.{more_line}

abbrev pub verb_and_use : Bool → Item → List ℕ
verb_and_use false (Live total) = codes " gone live "
verb_and_use false (Free total) = codes " gone free "
verb_and_use true (Live total) = codes " new  live "
verb_and_use true (Free total) = codes " new  free "

-- `heap 00009000 new  live 00009010 24`
unfoldable pub item_line : ℕ → ItemChange → List ℕ
item_line heap c = codes "                  heap " ++ (hex_word heap ++ (verb_and_use c.is_new c.item
    ++ (hex_word c.at ++ (codes " " ++ (decimal (total_of c.item) ++ codes "\n")))))

-- the lines of some items, of which the first are shown
unfoldable pub item_lines : ℕ → List ItemChange → List ℕ
item_lines heap changes = flat_map (item_line heap) (take 64 changes)
    ++ more_line (codes " lines more\n") (length changes - 64)

-- the same by what is kept of them
abbrev pub item_summary_lines : ℕ → ItemChanges → List ℕ
item_summary_lines heap kept = flat_map (item_line heap) kept.first.items
    ++ more_line (codes " lines more\n") (kept.count - 64)
