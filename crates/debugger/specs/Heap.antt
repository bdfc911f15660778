-- A heap as text: a line with the address of its descriptor, and its base and its end in bytes from
-- there; then a line for each item by address, live or free, with the item's address and its total
-- (RISC OS 3 Programmer's Reference Manual, "OS_Heap", the internal format; the text is this
-- project's own).
use Rattle.std.specs.Prelude.{ℕ, ◌+◌, ◌++◌, List, [], ◌∷◌, codes, Option}
use Rattle.std.specs.Option.{option_map}
use Rattle.std.specs.Fmt.{decimal}
use Rattle.assembler_text.specs.Digits.{hex_word}
use Rattle.swi_dispatch_guest.specs.Item.{Item}
use Rattle.swi_dispatch_guest.specs.Item.TheVariants.{Live, Free}
use Rattle.swi_dispatch_guest.specs.Items.{total_of, size_of}
use Rattle.swi_dispatch_guest.specs.lists.Heap.{HeapList}
use Rattle.swi_dispatch_guest.specs.Store.{Store, find_heap}

-- `heap 00009000 base 40 end 256`
abbrev pub limits_text : ℕ → ℕ → ℕ → List ℕ
limits_text start base end =
    codes "heap " ++ (hex_word start ++ (codes " base "
    ++ (decimal base ++ (codes " end " ++ (decimal end ++ codes "\n")))))

-- `live` or `free`
abbrev pub use_text : Item → List ℕ
use_text (Live total) = codes "live "
use_text (Free total) = codes "free "

-- `live 00009010 24`
abbrev pub heap_item_text : ℕ → Item → List ℕ
heap_item_text address item = use_text item ++ (hex_word address
    ++ (codes " " ++ (decimal (total_of item) ++ codes "\n")))

-- items, the first of them at the address
unfoldable pub heap_items_text : ℕ → List Item → List ℕ
heap_items_text address [] = []
heap_items_text address (item ∷ items) = heap_item_text address item
    ++ heap_items_text (address + total_of item) items

unfoldable pub heap_text : HeapList → List ℕ
heap_text h = limits_text h.start (16 + size_of h.items) h.end ++ heap_items_text (h.start + 16) h.items

-- the heap that starts at an address, if one does
unfoldable pub heap_blocks_text : Store → ℕ → Option (List ℕ)
heap_blocks_text s heap = option_map heap_text (find_heap heap s.heaps)
