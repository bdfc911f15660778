-- What the list of the blocks that differ is good for.
use Rattle.std.specs.Prelude.{◌≡◌, ◌≢◌, ◌⊎◌, ℕ, List, Contains, Option, Some, None}
use Rattle.store_copies.specs.FlexBlock.{FlexBlock}
use Rattle.trace_store_text.specs.flex.Changes.{BlockChange, block_changes, block_of_anchor}

-- Complete: the anchor of a block that was there has a block still, or the block is shown as gone; and a
-- block that is there was there as it is, or is shown with what its anchor's block was.
pub record IsBlockExplained (before after : List FlexBlock) (b : FlexBlock) : Type 0 where
  pub was : Contains before b → (block_of_anchor b.anchor after ≢ None)
      ⊎ Contains (block_changes before after) (record { was = Some b; is = None })
  pub is : Contains after b → (block_of_anchor b.anchor before ≡ Some b)
      ⊎ Contains (block_changes before after) (record { was = block_of_anchor b.anchor before; is = Some b })

abbrev pub ExplainsFlex : Type 0
ExplainsFlex = (before after : List FlexBlock) (b : FlexBlock) → IsBlockExplained before after b

-- True: one that is shown as gone was there, and its anchor has no block now; any other is there now, and
-- isn't what its anchor's block was.
pub record IsGoneBlock (before after : List FlexBlock) (c : BlockChange) : Type 0 where
  pub block : FlexBlock
  pub was : c.was ≡ Some block
  pub there : Contains before block
  pub none : block_of_anchor block.anchor after ≡ None

pub record IsKeptBlock (before after : List FlexBlock) (c : BlockChange) (b : FlexBlock) : Type 0 where
  pub there : Contains after b
  pub was : c.was ≡ block_of_anchor b.anchor before
  pub differs : c.was ≢ Some b

abbrev pub IsBlockChange : List FlexBlock → List FlexBlock → BlockChange → Option FlexBlock → Type 0
IsBlockChange before after c None = IsGoneBlock before after c
IsBlockChange before after c (Some b) = IsKeptBlock before after c b

abbrev pub ListsBlocks : Type 0
ListsBlocks = (before after : List FlexBlock) (c : BlockChange) → Contains (block_changes before after) c
    → IsBlockChange before after c c.is
