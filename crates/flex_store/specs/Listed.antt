-- The blocks of the flex store as a caller sees them: each with its anchor's address, the address
-- of its bytes, and its size.
use Rattle.std.specs.Prelude.{ℕ, ◌+◌, List, [], ◌∷◌, Option, Some, None}
use Rattle.flex_store.specs.declared.blocks.FlexBlock.{FlexBlock}
use Rattle.flex_store.specs.Blocks.{Block, FlexStore, bytes_taken_by}

-- where the first one's header is at `at`
abbrev pub blocks_with_places : ℕ → List Block → List FlexBlock
blocks_with_places at [] = []
blocks_with_places at (b ∷ bs) = record { anchor = b.anchor; at = at + 8; size = b.size }
    ∷ blocks_with_places (at + bytes_taken_by b.size) bs

-- those of a store, if there is one
abbrev pub all_listed : Option FlexStore → List FlexBlock
all_listed None = []
all_listed (Some s) = blocks_with_places s.start s.blocks
