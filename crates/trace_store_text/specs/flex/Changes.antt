-- Which blocks of the flex store a store call made, moved, resized and took away. A block is known by its
-- anchor (Acorn C manual, "flex").
use Rattle.std.specs.Prelude.{ℕ, Bool, ◌+◌, ◌==◌, ◌&&◌, List, [], ◌∷◌, ◌++◌, Option, Some, None, if◌then◌else◌}
use Rattle.std.specs.List.{flat_map}
use Rattle.address_map.specs.Bytes.{Bytes}
use Rattle.store_copies.specs.Listed.{blocks_with_places}
use Rattle.store_copies.specs.Memory.{blocks_in}
use Rattle.store_copies.specs.FlexBlock.{FlexBlock}
use Rattle.store_copies.specs.Extent.{Extent}
use Rattle.store_copies.specs.Flex.{Flex}

-- the blocks that memory spells, by address
abbrev pub blocks_in_extent : Bytes → Option Extent → List FlexBlock
blocks_in_extent b None = []
blocks_in_extent b (Some e) = blocks_with_places e.start (blocks_in b.at e.start (e.start + e.used))

unfoldable pub flex_blocks_in : Bytes → Flex → List FlexBlock
flex_blocks_in b f = blocks_in_extent b f.extent

abbrev pub block_of_anchor : ℕ → List FlexBlock → Option FlexBlock
block_of_anchor a [] = None
block_of_anchor a (b ∷ bs) = if b.anchor == a then Some b else block_of_anchor a bs

abbrev pub is_same_block : FlexBlock → FlexBlock → Bool
is_same_block old new = old.at == new.at && old.size == new.size

-- A block that is shown: what it was, and what it is.
pub record BlockChange : Type 0 where
  pub was : Option FlexBlock
  pub is : Option FlexBlock

-- one whose anchor has no block any more
abbrev pub gone_block_by : FlexBlock → Option FlexBlock → List BlockChange
gone_block_by b None = record { was = Some b; is = None } ∷ []
gone_block_by b (Some new) = []

abbrev pub gone_block : List FlexBlock → FlexBlock → List BlockChange
gone_block after b = gone_block_by b (block_of_anchor b.anchor after)

-- one that is there: new, or not what it was
abbrev pub kept_block_by : FlexBlock → Option FlexBlock → List BlockChange
kept_block_by b None = record { was = None; is = Some b } ∷ []
kept_block_by b (Some old) = if is_same_block old b then [] else record { was = Some old; is = Some b } ∷ []

abbrev pub kept_block : List FlexBlock → FlexBlock → List BlockChange
kept_block before b = kept_block_by b (block_of_anchor b.anchor before)

-- all, by the blocks before and after
abbrev pub block_changes : List FlexBlock → List FlexBlock → List BlockChange
block_changes before after = flat_map (gone_block after) before ++ flat_map (kept_block before) after
