-- What a store call changes in the flex store, a line below the call where the store is new, and for each
-- block that is gone, new, or not what it was.
use Rattle.std.specs.Prelude.{ℕ, List, [], ◌++◌, codes, Option, Some, None}
use Rattle.std.specs.Fmt.{decimal}
use Rattle.std.specs.List.{flat_map}
use Rattle.profile.specs.Digits.{hex_word}
use Rattle.address_map.specs.Bytes.{Bytes}
use Rattle.store_copies.specs.FlexBlock.{FlexBlock}
use Rattle.store_copies.specs.Extent.{Extent}
use Rattle.store_copies.specs.Flex.{Flex}
use Rattle.trace_store_text.specs.flex.Changes.{BlockChange, flex_blocks_in, gone_block, kept_block}

-- `flex 0000A000 0000A400 new`: from where to where it lies
unfoldable pub new_store_line : ℕ → ℕ → List ℕ
new_store_line start end = codes "                  flex " ++ (hex_word start ++ (codes " " ++ (hex_word end
    ++ codes " new\n")))

-- A machine gets a flex store once, and keeps it where it is.
abbrev pub store_line : Option Extent → Option Extent → List ℕ
store_line None (Some e) = new_store_line e.start e.end
store_line old new = []

-- `block anchor 00009004 gone`
unfoldable pub gone_block_line : FlexBlock → List ℕ
gone_block_line b = codes "                  block anchor " ++ (hex_word b.anchor ++ codes " gone\n")

-- `block anchor 00009004 at 0000A008 size 5 new`
unfoldable pub new_block_line : FlexBlock → List ℕ
new_block_line b = codes "                  block anchor " ++
    (hex_word b.anchor ++ (codes " at " ++ (hex_word b.at
    ++ (codes " size " ++ (decimal b.size ++ codes " new\n")))))

-- `block anchor 00009004 at 0000A008 size 5 was 0000A01C 5`
unfoldable pub other_block_line : FlexBlock → FlexBlock → List ℕ
other_block_line old b = codes "                  block anchor " ++
    (hex_word b.anchor ++ (codes " at " ++ (hex_word b.at
    ++ (codes " size " ++ (decimal b.size ++ (codes " was " ++ (hex_word old.at ++ (codes " "
    ++ (decimal old.size ++ codes "\n")))))))))

abbrev pub block_line_by : Option FlexBlock → Option FlexBlock → List ℕ
block_line_by None None = []
block_line_by (Some old) None = gone_block_line old
block_line_by None (Some b) = new_block_line b
block_line_by (Some old) (Some b) = other_block_line old b

abbrev pub block_change_line : BlockChange → List ℕ
block_change_line c = block_line_by c.was c.is

abbrev pub gone_block_lines : List FlexBlock → FlexBlock → List ℕ
gone_block_lines after b = flat_map block_change_line (gone_block after b)

abbrev pub kept_block_lines : List FlexBlock → FlexBlock → List ℕ
kept_block_lines before b = flat_map block_change_line (kept_block before b)

abbrev pub flex_change_lines : List FlexBlock → List FlexBlock → List ℕ
flex_change_lines before after = flat_map (gone_block_lines after) before ++ flat_map
    (kept_block_lines before) after

unfoldable pub flex_lines : Bytes → Flex → Bytes → Flex → List ℕ
flex_lines b f b' f' = store_line f.extent f'.extent
    ++ flex_change_lines (flex_blocks_in b f) (flex_blocks_in b' f')
