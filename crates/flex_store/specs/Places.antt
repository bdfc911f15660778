-- Where the block of an anchor lies.
use Rattle.std.specs.Prelude.{ℕ, ◌≡◌, ◌+◌, List, ◌∷◌, ◌++◌, Some}
use Rattle.flex_store.specs.Blocks.{Block, before, behind_of, find_block, bytes_taken_by_all, with_block, without_block}

-- a list is split at the block of an anchor
pub record IsSplit (wanted : ℕ) (bs front : List Block) (b : Block) (after : List Block) : Type 0 where
  pub list : bs ≡ front ++ b ∷ after
  pub anchor : b.anchor ≡ wanted
  pub found : find_block wanted bs ≡ Some b
  pub without : without_block wanted bs ≡ front ++ after
  pub put : (new : Block) → with_block wanted new bs ≡ front ++ new ∷ after
  pub front_is : before wanted bs ≡ front
  pub rest_is : behind_of wanted bs ≡ after

pub record Split (wanted : ℕ) (bs : List Block) : Type 0 where
  pub before : List Block
  pub block : Block
  pub after : List Block
  pub is : IsSplit wanted bs before block after

-- the header of an anchor's block is at an address, where the first block's is at `start`
pub record IsHeaderOf (start wanted : ℕ) (bs : List Block) (at : ℕ) : Type 0 where
  pub split : Split wanted bs
  pub place : at ≡ start + bytes_taken_by_all split.before
