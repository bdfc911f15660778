-- What a flex store holds, and what keeps it.
use Rattle.std.specs.Prelude.{ℕ, ◌≡◌, false, List, [], ◌∷◌, Option, Some, None}
use Rattle.std.specs.Option.{option_map}
use Rattle.os_heap.specs.AddressMap.{AddressMap}
use Rattle.flex_store.specs.declared.flex.Flex.{Flex}
use Rattle.flex_store.specs.Blocks.{Block, contents, find_block, FlexStore, has_anchor}
use Rattle.flex_store.specs.State.{AreWhole, IsFlex}
use Rattle.flex_store.specs.Staying.{StaysFlex}

-- the contents of an anchor's block, if it has one
abbrev pub contents_in : Option FlexStore → ℕ → Option (List ℕ)
contents_in None a = None
contents_in (Some s) a = option_map contents (find_block a s.blocks)

-- no two blocks have the same anchor
abbrev pub HaveDistinctAnchors : List Block → Type 0
HaveDistinctAnchors [] = Unit {0}
HaveDistinctAnchors (b ∷ bs) = (has_anchor bs b.anchor ≡ false) × HaveDistinctAnchors bs

-- what holds of the blocks that memory spells
abbrev pub HasBlocks : Option FlexStore → Type 0
HasBlocks None = Unit {0}
HasBlocks (Some s) = AreWhole s.blocks × HaveDistinctAnchors s.blocks

-- Calls of other stores, and a guest's own stores, keep the flex store where they keep its words,
-- their marks, and the record of its range.
abbrev pub FlexStays : Type 0
FlexStays = (m n : AddressMap) (f : Flex) → IsFlex m f → StaysFlex m n f → IsFlex n f
