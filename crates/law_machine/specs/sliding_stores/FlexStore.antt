-- The flex store of a machine, shown of its store alone: its words spell the blocks, the anchors
-- hold the addresses of the blocks' bytes, and just the words of headers and anchors are marked as
-- such; no anchor lies in a recorded range but the store's own (Acorn C manual, "flex"; the layout
-- is this project's own).
use Rattle.std.specs.Prelude.{ℕ, ◌≡◌, ◌≤◌, ◌+◌, true, false, List, Option, Some, None}
use Rattle.address_map.specs.Bytes.{word_start}
use Rattle.os_heap.specs.Store.{Store}
use Rattle.rma.specs.flex_frame.Keeping.{AreAnchorsFree}
use Rattle.flex_store.specs.Blocks.{Block, has_anchor, is_header, bytes_taken_by_all}
use Rattle.flex_store.specs.Memory.{AreAnchored, Holds, blocks_in, blocks_text_of}
use Rattle.flex_store.specs.State.{AreAnchorWords, AreInner, AreWhole, IsFlexRange, is_recorded}
use Rattle.flex_store.specs.declared.flex.Extent.{Extent}
use Rattle.flex_store.specs.declared.flex.Flex.{Flex}
use Rattle.swi_dispatch_guest.specs.Ground.{records_with}
use Rattle.swi_dispatch_guest.specs.Sound.{count_beside}

-- the blocks that the words from the store's start on spell
abbrev pub spelled_blocks : Store → Extent → List Block
spelled_blocks s e = blocks_in s.bytes.at e.start (e.start + e.used)

pub record IsFlexRangeSpelled (s : Store) (e : Extent) : Type 0 where
  pub range : IsFlexRange s.bytes.mapped e.start e.end
  pub fits : e.start + bytes_taken_by_all (spelled_blocks s e) ≤ e.end
  pub whole : AreWhole (spelled_blocks s e)
  pub words : AreAnchorWords s.bytes.mapped e.start e.end (spelled_blocks s e)
  pub inner : AreInner e.start e.end (spelled_blocks s e)
  pub text : Holds s.bytes.at e.start (blocks_text_of (spelled_blocks s e))
  pub anchored : AreAnchored s.bytes.at e.start (spelled_blocks s e)
  pub headers : (a : ℕ) → s.header a ≡ is_header e.start (spelled_blocks s e) (word_start a)
  pub anchors : (a : ℕ) → s.anchor a ≡ has_anchor (spelled_blocks s e) (word_start a)
  pub used_is : bytes_taken_by_all (spelled_blocks s e) ≡ e.used
  pub recorded : is_recorded s.others e.start e.end ≡ true

-- before the store has begun no word is marked so
pub record IsUnmade (s : Store) : Type 0 where
  pub headers : (a : ℕ) → s.header a ≡ false
  pub anchors : (a : ℕ) → s.anchor a ≡ false

abbrev pub IsSpelledAt : Store → Option Extent → Type 0
IsSpelledAt s None = IsUnmade s
IsSpelledAt s (Some e) = IsFlexRangeSpelled s e

-- beside module images there are recorded the system pages, and the range of the store, if there is
-- one
pub record HasFlexStore (s : Store) (f : Flex) : Type 0 where
  pub is : IsSpelledAt s f.extent
  pub free : AreAnchorsFree s
  pub beside : count_beside s.others ≡ records_with f.extent
