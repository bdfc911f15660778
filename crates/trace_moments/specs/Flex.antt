-- The blocks of the flex store that differ, by their anchors, and where the store is (Acorn C manual,
-- "flex").
use Rattle.std.specs.Prelude.{◌≡◌, ◌≢◌, ℕ, ◌==◌, List, [], ◌∷◌, All, Option, option_map, if◌then◌else◌}
use Rattle.address_map.specs.declared.map.AddressMap.{AddressMap}
use Rattle.flex_store.specs.Listed.{all_listed}
use Rattle.flex_store.specs.State.{flex_in}
use Rattle.flex_store.specs.declared.blocks.FlexBlock.{FlexBlock}
use Rattle.flex_store.specs.declared.flex.Extent.{Extent}
use Rattle.flex_store.specs.declared.flex.Flex.{Flex}
use Rattle.trace_store_text.specs.flex.Changes.{block_of_anchor}
use Rattle.trace_moments.specs.declared.flex.FlexChange.{FlexChange}
use Rattle.trace_moments.specs.declared.flex.FlexRange.{FlexRange}

abbrev pub range_of_extent : Extent → FlexRange
range_of_extent e = record { start = e.start; end = e.end; used = e.used }

abbrev pub flex_range_of : Flex → Option FlexRange
flex_range_of f = option_map range_of_extent f.extent

-- the block of each anchor, of those that memory spells
abbrev pub blocks_by_anchor : AddressMap → Flex → ℕ → Option FlexBlock
blocks_by_anchor m f anchor = block_of_anchor anchor (all_listed (flex_in m f.extent))

-- Replayed: each anchor that is listed has the block that it is said to have, or none, and each other
-- anchor that which it had.
abbrev pub flex_block_after : FlexChange → (ℕ → Option FlexBlock) → ℕ → Option FlexBlock
flex_block_after c blocks anchor = if c.anchor == anchor then c.is else blocks anchor

abbrev pub flex_blocks_after : List FlexChange → (ℕ → Option FlexBlock) → ℕ → Option FlexBlock
flex_blocks_after [] blocks = blocks
flex_blocks_after (c ∷ cs) blocks = flex_blocks_after cs (flex_block_after c blocks)

-- What is listed of an anchor is what was and what is, and these differ.
pub record IsFlexChange (old new : ℕ → Option FlexBlock) (c : FlexChange) : Type 0 where
  pub was : c.was ≡ old c.anchor
  pub is : c.is ≡ new c.anchor
  pub differs : c.was ≢ c.is

-- All that differ, and nothing else.
pub record AreFlexChanges (old new : ℕ → Option FlexBlock) (reported : List FlexChange) : Type 0 where
  pub replay : (anchor : ℕ) → flex_blocks_after reported old anchor ≡ new anchor
  pub differ : All (IsFlexChange old new) reported
