-- The flex store as text: a line with the addresses where its range starts and ends, and how many
-- bytes of it its blocks take up; then a line for each block by address, with the addresses of its
-- anchor and of its bytes, and its size; and of an anchor that lies in the bytes of a block, where
-- these are, and how far into them it is (Acorn C manual, "flex"; the text is this project's own).
use Rattle.std.specs.Prelude.{ℕ, ◌+◌, ◌-◌, ◌&&◌, nat_le, ◌++◌, List, [], ◌∷◌, codes, Option, Some, None, if◌then◌else◌}
use Rattle.std.specs.Fmt.{decimal}
use Rattle.std.specs.List.{flat_map}
use Rattle.std.specs.Option.{option_map}
use Rattle.assembler_text.specs.Digits.{hex_word}
use Rattle.swi_dispatch_guest.specs.Bytes.{Bytes}
use Rattle.swi_dispatch_guest.specs.Listed.{blocks_with_places}
use Rattle.swi_dispatch_guest.specs.Memory.{blocks_in}
use Rattle.swi_dispatch_guest.specs.FlexBlock.{FlexBlock}
use Rattle.swi_dispatch_guest.specs.Extent.{Extent}
use Rattle.swi_dispatch_guest.specs.Flex.{Flex}

-- `flex 0000A000 0000A400 used 48`
abbrev pub range_text : ℕ → ℕ → ℕ → List ℕ
range_text start end used =
    codes "flex " ++ (hex_word start ++ (codes " " ++ (hex_word end
    ++ (codes " used " ++ (decimal used ++ codes "\n")))))

-- the block whose bytes hold the word at an address, if one of these does
abbrev pub holder_in : ℕ → List FlexBlock → Option FlexBlock
holder_in a [] = None
holder_in a (b ∷ bs) = if nat_le b.at a && nat_le (a + 4) (b.at + b.size) then Some b else holder_in a bs

-- what is printed of the word then: ` in 0000A008 offset 8`
abbrev pub flex_holder_text : ℕ → Option FlexBlock → List ℕ
flex_holder_text a None = codes "\n"
flex_holder_text a (Some b) = codes " in " ++ (hex_word b.at
    ++ (codes " offset " ++ (decimal (a - b.at) ++ codes "\n")))

-- `block anchor 00009000 at 0000A008 size 10`
abbrev pub own_text : FlexBlock → List ℕ
own_text b = codes "block anchor " ++ (hex_word b.anchor
    ++ (codes " at " ++ (hex_word b.at ++ (codes " size " ++ decimal b.size))))

-- the line of one of these blocks
abbrev pub flex_block_text : List FlexBlock → FlexBlock → List ℕ
flex_block_text all b = own_text b ++ flex_holder_text b.anchor (holder_in b.anchor all)

abbrev pub flex_blocks_text : List FlexBlock → List ℕ
flex_blocks_text all = flat_map (flex_block_text all) all

-- the blocks that memory spells from the range's start on
abbrev pub blocks_shown : Bytes → Extent → List FlexBlock
blocks_shown b e = blocks_with_places e.start (blocks_in b.at e.start (e.start + e.used))

abbrev pub flex_extent_text : Bytes → Extent → List ℕ
flex_extent_text b e = range_text e.start e.end e.used ++ flex_blocks_text (blocks_shown b e)

-- the flex store, if there is one
abbrev pub flex_text : Bytes → Flex → Option (List ℕ)
flex_text b f = option_map (flex_extent_text b) f.extent
