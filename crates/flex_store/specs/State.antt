-- What an address map and a `Flex` stand for, and what holds of them whatever is called.
use Rattle.std.specs.Prelude.{ℕ, ◌≡◌, ◌≤◌, ◌<◌, ◌⊎◌, ◌^◌, Bool, true, false, ◌+◌, ◌-◌, ◌%◌, ◌==◌, ◌&&◌, List, [], ◌∷◌, length, Option, Some, None}
use Rattle.std.specs.List.{list_any}
use Rattle.os_heap.specs.Region.{Region}
use Rattle.os_heap.specs.AddressMap.{AddressMap}
use Rattle.os_heap.specs.Bytes.{Bytes, AreMapped, word_start}
use Rattle.os_heap.specs.Classes.{is_anchor, is_flex_header, is_heap_class}
use Rattle.os_heap.specs.Memory.{byte_at, bytes_of, class_of, is_mapped, layout}
use Rattle.os_heap.specs.Store.{is_flex_store, store_of}
use Rattle.flex_store.specs.declared.flex.Extent.{Extent}
use Rattle.flex_store.specs.declared.flex.Flex.{Flex}
use Rattle.flex_store.specs.Blocks.{Block, FlexStore, has_anchor, is_header, is_in_contents, bytes_taken_by, bytes_taken_by_all, whole_words}
use Rattle.flex_store.specs.Memory.{Holds, AreAnchored, blocks_in, blocks_text_of}
use Rattle.flex_store.specs.Calls.{FlexState, is_anchor_place}

-- the flex store that the words of memory spell in a range
abbrev pub blocks_of : AddressMap → Extent → List Block
blocks_of m e = blocks_in (byte_at m) e.start (e.start + e.used)

abbrev pub flex_in : AddressMap → Option Extent → Option FlexStore
flex_in m None = None
flex_in m (Some e) = Some (record { start = e.start; end = e.end; blocks = blocks_of m e })

abbrev pub flex_store_in : AddressMap → Extent → FlexStore
flex_store_in m e = record { start = e.start; end = e.end; blocks = blocks_of m e }

-- memory with the store in a range
abbrev pub held_in : AddressMap → Extent → FlexState
held_in m e = record {
  bytes = bytes_of m;
  flex = Some (record
      { start = e.start; end = e.end; blocks = blocks_of m e });
}

unfoldable pub state_of_flex : AddressMap → Flex → FlexState
state_of_flex m f = record { bytes = bytes_of m; flex = flex_in m f.extent }

-- A block has as many bytes as its size says, filled up to whole words, and its size is a word.
abbrev pub AreWhole : List Block → Type 0
AreWhole [] = Unit {0}
AreWhole (b ∷ bs) = ((length b.bytes ≡ whole_words b.size) × (b.size < 2 ^ 32)) × AreWhole bs

-- An anchor is a word: at a multiple of 4, and mapped.
pub record IsMappedWord (mapped : ℕ → Bool) (a : ℕ) : Type 0 where
  pub aligned : a % 4 ≡ 0
  pub there : mapped a ≡ true
  pub low : a < 2 ^ 26

-- such a word outside the range from `start` to `end`
pub record IsAnchorWord (mapped : ℕ → Bool) (start end a : ℕ) : Type 0 where
  pub aligned : a % 4 ≡ 0
  pub there : mapped a ≡ true
  pub low : a < 2 ^ 26
  pub outside : (a + 4 ≤ start) ⊎ (end ≤ a)

-- The anchor of each block lies outside the text from its own header on, and no two blocks have the
-- same. The first block's header is at `at`.
abbrev pub AreAnchorWords : (ℕ → Bool) → ℕ → ℕ → List Block → Type 0
AreAnchorWords mapped at end [] = Unit {0}
AreAnchorWords mapped at end (b ∷ bs) =
    (IsAnchorWord mapped at end b.anchor × (has_anchor bs b.anchor ≡ false)) ×
    AreAnchorWords mapped (at + bytes_taken_by b.size) end bs

-- an anchor in the store lies in what a block has for its guest
abbrev pub AreInner : ℕ → ℕ → List Block → Type 0
AreInner start end bs = (a : ℕ) → has_anchor bs a ≡ true → start ≤ a → a < end →
    is_in_contents start bs a ≡ true

-- the anchors' addresses lie below 2^26
abbrev pub AreLow : List Block → Type 0
AreLow [] = Unit {0}
AreLow (b ∷ bs) = (b.anchor < 2 ^ 26) × AreLow bs

-- Memory spells these blocks from `at` up to `end`.
pub record IsText (b : Bytes) (at end : ℕ) (blocks : List Block) : Type 0 where
  pub whole : AreWhole blocks
  pub low : AreLow blocks
  pub text : Holds b.at at (blocks_text_of blocks)
  pub length : end ≡ at + bytes_taken_by_all blocks
  pub aligned : at % 4 ≡ 0
  pub mapped : AreMapped b.mapped at (bytes_taken_by_all blocks)

-- The range has whole words, all mapped.
pub record IsFlexRange (mapped : ℕ → Bool) (start end : ℕ) : Type 0 where
  pub start_aligned : start % 4 ≡ 0
  pub end_aligned : end % 4 ≡ 0
  pub there : AreMapped mapped start (end - start)

-- Memory spells these blocks from the store's start on; their anchors hold the addresses of their
-- bytes; and just the words of their headers and their anchors are marked as such.
pub record IsFlexStore (m : AddressMap) (start end : ℕ) (blocks : List Block) : Type 0 where
  pub range : IsFlexRange (is_mapped m) start end
  pub fits : start + bytes_taken_by_all blocks ≤ end
  pub whole : AreWhole blocks
  pub words : AreAnchorWords (is_mapped m) start end blocks
  pub inner : AreInner start end blocks
  pub text : Holds (byte_at m) start (blocks_text_of blocks)
  pub anchored : AreAnchored (byte_at m) start blocks
  pub headers : (a : ℕ) → is_flex_header (class_of m a) ≡ is_header start blocks (word_start a)
  pub anchors : (a : ℕ) → is_anchor (class_of m a) ≡ has_anchor blocks (word_start a)

-- before `init` no word is marked so
pub record IsNoFlex (m : AddressMap) : Type 0 where
  pub headers : (a : ℕ) → is_flex_header (class_of m a) ≡ false
  pub anchors : (a : ℕ) → is_anchor (class_of m a) ≡ false

-- is the range of the store among the recorded ones?
abbrev pub is_store_record : ℕ → ℕ → Region → Bool
is_store_record start end r = is_flex_store r.kind && (r.at == start && r.len == end - start)

abbrev pub is_recorded : List Region → ℕ → ℕ → Bool
is_recorded rs start end = list_any (is_store_record start end) rs

pub record IsStoreAt (m : AddressMap) (e : Extent) : Type 0 where
  pub store : IsFlexStore m e.start e.end (blocks_of m e)
  pub used_is : bytes_taken_by_all (blocks_of m e) ≡ e.used

-- and its range is recorded
pub record IsRecordedStore (m : AddressMap) (e : Extent) : Type 0 where
  pub held : IsStoreAt m e
  pub recorded : is_recorded (store_of m).others e.start e.end ≡ true

abbrev pub IsFlexAt : AddressMap → Option Extent → Type 0
IsFlexAt m None = IsNoFlex m
IsFlexAt m (Some e) = IsRecordedStore m e

-- What holds of memory and the flex store, whatever is called.
abbrev pub IsFlex : AddressMap → Flex → Type 0
IsFlex m f = IsFlexAt m f.extent

-- a word that may be a new block's anchor: it lies outside what is after the other blocks, and in
-- contents of one of them where it lies in the store
pub record IsNewAnchor (m : AddressMap) (e : Extent) (anchor : ℕ) : Type 0 where
  pub word : IsAnchorWord (is_mapped m) (e.start + bytes_taken_by_all (blocks_of m e)) e.end anchor
  pub inside : e.start ≤ anchor → anchor < e.end → is_in_contents e.start (blocks_of m e) anchor ≡ true

-- no head of a heap lies in the store
abbrev pub HasNoHead : AddressMap → Option Extent → Type 0
HasNoHead m None = Unit {0}
HasNoHead m (Some e) = (a : ℕ) → e.start ≤ a → a < e.end → is_heap_class (class_of m a) ≡ false

-- The words of heaps are what they were, and just they are marked as such.
pub record KeepsHeads (m n : AddressMap) : Type 0 where
  pub bytes : (a : ℕ) → is_heap_class (class_of m a) ≡ true → byte_at n a ≡ byte_at m a
  pub classes : (a : ℕ) → is_heap_class (class_of n a) ≡ is_heap_class (class_of m a)

-- an anchor after a call: it was one, or its word may be one, or it lies in the store
abbrev pub IsAnchorAllowed : AddressMap → Extent → ℕ → Type 0
IsAnchorAllowed m e a = (has_anchor (blocks_of m e) a ≡ true) ⊎
    ((is_anchor_place (store_of m) a ≡ true) ⊎ ((e.start ≤ a) × (a < e.end)))

-- What each call on a store keeps. An anchor that comes is a word that may be one, or lies in the
-- store.
pub record KeepsBesidesFlex (m : AddressMap) (e : Extent) (n : AddressMap) (f : Extent) : Type 0 where
  pub store : IsStoreAt n f
  pub same : layout n ≡ layout m
  pub heads : HasNoHead m (Some e) → KeepsHeads m n
  pub anchors : (a : ℕ) → has_anchor (blocks_of n f) a ≡ true → IsAnchorAllowed m e a
  pub start : f.start ≡ e.start
  pub end : f.end ≡ e.end
