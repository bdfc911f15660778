-- What is left of memory where the blocks after a place were laid out anew.
use Rattle.std.specs.Prelude.{ℕ, ◌≡◌, ◌+◌, List, ◌∷◌}
use Rattle.os_heap.specs.Bytes.{AreMapped}
use Rattle.os_heap.specs.Memory.{byte_at, class_of, is_mapped, layout}
use Rattle.os_heap.specs.Class.TheVariants as class
use Rattle.os_heap.specs.AddressMap.{AddressMap}
use Rattle.flex_store.specs.Blocks.{Block, contents, block_holding, bytes_after_splice, bytes_taken_by, bytes_taken_by_all}
use Rattle.flex_store.specs.Marks.{with_marks}
use Rattle.flex_store.specs.Memory.{block_at, blocks_in, laid_out}
use Rattle.flex_store.specs.Shifts.{following, removal_shifts, splice_shifts}
use Rattle.flex_store.specs.State.{AreAnchorWords}
use Rattle.flex_store.specs.declared.splice.Splice.{Splice}

-- the block whose header is at `at`, and those after it
abbrev pub first_at : AddressMap → ℕ → Block
first_at m at = block_at (byte_at m) at

abbrev pub blocks_behind_first : AddressMap → ℕ → ℕ → List Block
blocks_behind_first m at end = blocks_in (byte_at m) (at + bytes_taken_by (first_at m at).size) end

-- the blocks from `at` on, after the first was changed, and after it went
abbrev pub blocks_after_splice : AddressMap → ℕ → ℕ → Splice → List Block
blocks_after_splice m at end s =
    block_holding (first_at m at) (bytes_after_splice (contents (first_at m at)) s.at s.cut s.more)
    ∷ following (splice_shifts at end (first_at m at).size s.at s.cut s.more) (blocks_behind_first m at end)

abbrev pub blocks_after_removal : AddressMap → ℕ → ℕ → List Block
blocks_after_removal m at end = following (removal_shifts at end (first_at m at).size)
    (blocks_behind_first m at end)

-- These blocks are laid out from `at` on, and their headers and anchors are marked in place of
-- those of the blocks that stood there.
pub record Relaid (old new : AddressMap) (at : ℕ) (olds news : List Block) : Type 0 where
  pub bytes : (a : ℕ) → byte_at new a ≡ laid_out at news (byte_at old) a
  pub same : layout new ≡ layout old
  pub marks : (a : ℕ) → class_of new a ≡ with_marks class.FlexHeader class.Anchor at news
      (with_marks class.Plain class.Plain at olds (class_of old)) a

-- Blocks may be laid out from `at` on: the bytes up to their end are mapped, and the anchor of each
-- lies outside these from its header on.
pub record MayLie (m : AddressMap) (at : ℕ) (blocks : List Block) : Type 0 where
  pub words : AreAnchorWords (is_mapped m) at (at + bytes_taken_by_all blocks) blocks
  pub there : AreMapped (is_mapped m) at (bytes_taken_by_all blocks)
