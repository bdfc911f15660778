-- The bytes of memory that the blocks spell, and the blocks that memory spells.
use Rattle.std.specs.Prelude.{ℕ, ◌≡◌, ◌<◌, zero, suc, ◌+◌, ◌-◌, nat_le, List, [], ◌∷◌, ◌++◌, length, slice_index, if◌then◌else◌}
use Rattle.os_heap_words.specs.RawStoreRegion.{word_bytes}
use Rattle.os_heap.specs.Bytes.{word_at, with_word_at, with_bytes_at, bytes_between}
use Rattle.flex_store.specs.Blocks.{Block, bytes_taken_by, whole_words}

-- The blocks as one text: of each the address of its anchor, its size, and its bytes. An anchor may
-- lie among the bytes of a block before its own; what it is to hold then is written after the text
-- (`laid_out`).
abbrev pub blocks_text_of : List Block → List ℕ
blocks_text_of [] = []
blocks_text_of (b ∷ bs) = word_bytes b.anchor ++ (word_bytes b.size ++ (b.bytes ++ blocks_text_of bs))

-- memory holds these bytes, the first of them at `at`
abbrev pub Holds : (ℕ → ℕ) → ℕ → List ℕ → Type 0
Holds f at bytes = (k : ℕ) → k < length bytes → f (at + k) ≡ slice_index bytes k

-- the bytes after each anchor got the address of its block's bytes, where the first block's header
-- is at `at`
abbrev pub with_anchors : ℕ → List Block → (ℕ → ℕ) → ℕ → ℕ
with_anchors at [] f = f
with_anchors at (b ∷ bs) f = with_anchors (at + bytes_taken_by b.size) bs (with_word_at f b.anchor (at + 8))

-- the bytes after these blocks were laid out from `at` on: their text over what stood there, then
-- their anchors
unfoldable pub laid_out : ℕ → List Block → (ℕ → ℕ) → ℕ → ℕ
laid_out at blocks f = with_anchors at blocks (with_bytes_at f at (blocks_text_of blocks))

-- each anchor holds the address of its block's bytes
abbrev pub AreAnchored : (ℕ → ℕ) → ℕ → List Block → Type 0
AreAnchored f at [] = Unit {0}
AreAnchored f at (b ∷ bs) = Holds f b.anchor (word_bytes (at + 8)) ×
    AreAnchored f (at + bytes_taken_by b.size) bs

-- the block whose header is at `at`
abbrev pub block_at : (ℕ → ℕ) → ℕ → Block
block_at f at = record {
  anchor = word_at f at;
  size = word_at f (at + 4);
  bytes = bytes_between f (at + 8) (whole_words (word_at f (at + 4)));
}

-- The blocks that the bytes from `at` on spell, up to the address `end`. Each takes up at least 8
-- bytes, so the first number, which bounds how many are looked at, never ends them where it is as
-- great as the bytes up to the end.
abbrev pub blocks_from : ℕ → (ℕ → ℕ) → ℕ → ℕ → List Block
blocks_from zero f at end = []
blocks_from (suc most) f at end = if nat_le end at then []
    else (block_at f at ∷ blocks_from most f (at + bytes_taken_by (word_at f (at + 4))) end)

unfoldable pub blocks_in : (ℕ → ℕ) → ℕ → ℕ → List Block
blocks_in f at end = blocks_from (end - at) f at end

-- the blocks with the bytes that stand there, where the first one's header is at `at`
abbrev pub standing : (ℕ → ℕ) → ℕ → List Block → List Block
standing f at [] = []
standing f at (b ∷ bs) =
    record { anchor = b.anchor; size = b.size; bytes = bytes_between f (at + 8) (whole_words b.size) }
    ∷ standing f (at + bytes_taken_by b.size) bs
