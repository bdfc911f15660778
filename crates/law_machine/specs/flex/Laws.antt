-- What a guest sees of blocks after a call that changed one.
use Rattle.std.specs.Prelude.{ℕ, ◌%◌, not, ◌&&◌, ◌||◌, ◌⊎◌, if◌then◌else◌, ◌≡◌, ◌≤◌, ◌<◌, ◌+◌, ◌^◌, Bool, true, false, ◌==◌, Some, List, Ok}
use Rattle.std.specs.Option.{option_map}
use Rattle.address_map.specs.Bytes.{in_range, word_start}
use Rattle.os_heap.specs.Store.{Store}
use Rattle.flex_store.specs.Blocks.{Block, find_block, FlexStore, has_anchor, bytes_taken_by_all}
use Rattle.flex_store.specs.Calls.{flex_after_alloc, end_in, flex_after_extend, FlexState, header_place_in, is_anchor_place, mid_extended, flex_after_release, spliced_at}
use Rattle.flex_store.specs.Memory.{AreAnchored, Holds, blocks_text_of}
use Rattle.flex_store.specs.Runs.{Alloc, Extend, FlexCall, MidExtend, Release}
use Rattle.flex_store.specs.Shifts.{gone_to, splice_shifts}
use Rattle.flex_store.specs.State.{AreAnchorWords, AreInner, AreWhole, IsFlexRange}
use Rattle.law_machine.specs.flex.Numbered.{AreNumbered, blocks_seen, IsAddedSeen, IsCalledSeen, IsRemovedSeen, IsSplicedSeen, anchor_place_of, SeenBlock}
use Rattle.law_machine.specs.flex.Seen.{seen_in, seen_spliced}

-- memory spells a store's blocks, and their anchors lie where anchors may
pub record IsSpelledState (t : FlexState) (s : FlexStore) : Type 0 where
  pub range : IsFlexRange t.bytes.mapped s.start s.end
  pub low : s.start < s.end → s.end ≤ 2 ^ 26
  pub fits : s.start + bytes_taken_by_all s.blocks ≤ s.end
  pub whole : AreWhole s.blocks
  pub words : AreAnchorWords t.bytes.mapped s.start s.end s.blocks
  pub inner : AreInner s.start s.end s.blocks
  pub text : Holds t.bytes.at s.start (blocks_text_of s.blocks)
  pub anchored : AreAnchored t.bytes.at s.start s.blocks

-- All blocks but the one that changes show what they did, where their anchors are then.
abbrev pub SpliceShowsOthers : Type 0
SpliceShowsOthers = (t u : FlexState) (s : FlexStore) (anchor : ℕ) (b : Block) (place cut more a : ℕ) →
    IsSpelledState t s → find_block anchor s.blocks ≡ Some b
    → cut ≤ place → place ≤ b.size → 0 < cut + more → spliced_at t s anchor b place cut more ≡ Ok (u, true)
    → has_anchor s.blocks a ≡ true → (anchor == a) ≡ false
    → seen_in u.flex (gone_to (splice_shifts (header_place_in s anchor) (end_in s) b.size place cut more) a)
    ≡ seen_in (Some s) a

-- And the block that changes shows the splice of what it showed.
abbrev pub SpliceShowsItsOwn : Type 0
SpliceShowsItsOwn = (t u : FlexState) (s : FlexStore) (anchor : ℕ) (b : Block) (place cut more : ℕ) →
    IsSpelledState t s → find_block anchor s.blocks ≡ Some b
    → cut ≤ place → place ≤ b.size → 0 < cut + more → spliced_at t s anchor b place cut more ≡ Ok (u, true)
    → seen_in u.flex anchor ≡ option_map (λ l. seen_spliced l place cut more) (seen_in (Some s) anchor)

-- What a call on an anchor does to words and bytes outside the range of the store: had the anchor a
-- block, is a word an anchor then, if it was, and what a byte is then that is of none.
pub record Outside : Type 0 where
  pub anchor : ℕ
  pub had : Bool
  pub mark : ℕ → Bool → Bool
  pub byte : ℕ → ℕ → ℕ

abbrev pub all_stay : ℕ → Outside
all_stay anchor = record { anchor = anchor; had = true; mark = λ w was. was; byte = λ a was. was }

abbrev pub with_anchor : ℕ → Outside
with_anchor anchor = record {
  anchor = anchor;
  had = false;
  mark = λ w was. w == anchor || was;
  byte = λ a was. was;
}

abbrev pub outside_without_anchor : ℕ → Outside
outside_without_anchor anchor = record {
  anchor = anchor;
  had = true;
  mark = λ w was. not (w == anchor) && was;
  byte = λ a was. if in_range anchor 4 a then 0 else was;
}

-- memory holds bytes
abbrev pub AreBytes : (ℕ → ℕ) → Type 0
AreBytes f = (a : ℕ) → f a < 256

-- What a call that found room leaves: blocks in the same range, which memory spells, and which are
-- seen by the call's rule.
pub record IsLeftBy (places : Store) (t u : FlexState) (s : FlexStore) (outside : Outside)
    (rule : List SeenBlock → Type 0) : Type 0 where
  pub blocks : List Block
  pub flex : u.flex ≡ Some (record { start = s.start; end = s.end; blocks = blocks })
  pub spelled : IsSpelledState u (record { start = s.start; end = s.end; blocks = blocks })
  pub seen : rule (blocks_seen u.flex)
  pub aligned : outside.anchor % 4 ≡ 0
  pub had : has_anchor s.blocks outside.anchor ≡ outside.had
  pub mapped : u.bytes.mapped ≡ t.bytes.mapped
  pub anchors : (w : ℕ) → (w + 4 ≤ s.start) ⊎ (s.end ≤ w) →
      has_anchor blocks w ≡ outside.mark w (has_anchor s.blocks w)
  pub bytes : (a : ℕ) → (a < s.start) ⊎ (s.end ≤ a) → has_anchor blocks (word_start a) ≡ false →
      u.bytes.at a ≡ outside.byte a (t.bytes.at a)
  pub kept : (a : ℕ) → (a < s.start) ⊎ (s.end ≤ a) → has_anchor s.blocks (word_start a) ≡ false →
      has_anchor blocks (word_start a) ≡ false
      → u.bytes.at a ≡ t.bytes.at a
  pub came : (w : ℕ) → has_anchor blocks w ≡ true
      → (has_anchor s.blocks w ≡ true) ⊎ ((is_anchor_place places w ≡ true) ⊎
      ((s.start ≤ w) × (w + 4 ≤ s.end)))
  pub small : AreBytes t.bytes.at → AreBytes u.bytes.at

-- A splice of a block, by the numbers of blocks.
abbrev pub SpliceGoesByNumbers : Type 0
SpliceGoesByNumbers = (places : Store) (t u : FlexState) (s : FlexStore) (anchor : ℕ) (b : Block)
    (place cut more : ℕ) → IsSpelledState t s → find_block anchor s.blocks ≡ Some b
    → cut ≤ place → place ≤ b.size → 0 < cut + more → spliced_at t s anchor b place cut more ≡ Ok (u, true)
    → IsLeftBy places t u s (all_stay anchor) (IsSplicedSeen (anchor_place_of s anchor) b.size place cut more
    (blocks_seen (Some s)))

-- A block that goes.
abbrev pub ReleaseGoesByNumbers : Type 0
ReleaseGoesByNumbers = (places : Store) (t u : FlexState) (s : FlexStore) (anchor : ℕ) → t.flex ≡ Some s →
    IsSpelledState t s → flex_after_release t anchor ≡ Ok (u, tt)
    → IsLeftBy places t u s (outside_without_anchor anchor)
    (IsRemovedSeen (anchor_place_of s anchor) (blocks_seen (Some s)))

-- A block that comes.
abbrev pub AllocGoesByNumbers : Type 0
AllocGoesByNumbers = (places : Store) (t u : FlexState) (s : FlexStore) (anchor size : ℕ) → t.flex ≡ Some s →
    IsSpelledState t s → places.bytes ≡ t.bytes
    → ((a : ℕ) → t.bytes.mapped a ≡ true → a < 2 ^ 26) → flex_after_alloc places t anchor size ≡ Ok (u, true)
    → IsLeftBy places t u s (with_anchor anchor) (IsAddedSeen (anchor_place_of s anchor) size
    (blocks_seen (Some s)))

-- A call was done and found room. Where an alloc finds its anchor, the heaps and the ranges are
-- those of a store.
abbrev pub IsDoneIn : Store → FlexState → FlexCall → FlexState → Type 0
IsDoneIn places t (Alloc anchor size) u = flex_after_alloc places t anchor size ≡ Ok (u, true)
IsDoneIn places t (Release anchor) u = flex_after_release t anchor ≡ Ok (u, tt)
IsDoneIn places t (Extend anchor size) u = flex_after_extend t anchor size ≡ Ok (u, true)
IsDoneIn places t (MidExtend anchor at by) u = mid_extended t anchor at by ≡ Ok (u, true)

abbrev pub anchor_of_call : FlexCall → ℕ
anchor_of_call (Alloc anchor size) = anchor
anchor_of_call (Release anchor) = anchor
anchor_of_call (Extend anchor size) = anchor
anchor_of_call (MidExtend anchor at by) = anchor

abbrev pub outside_of : FlexCall → Outside
outside_of (Alloc anchor size) = with_anchor anchor
outside_of (Release anchor) = outside_without_anchor anchor
outside_of (Extend anchor size) = all_stay anchor
outside_of (MidExtend anchor at by) = all_stay anchor

-- what a middle extend is given is a word
abbrev pub IsOfWords : FlexCall → Type 0
IsOfWords (Alloc anchor size) = Unit {0}
IsOfWords (Release anchor) = Unit {0}
IsOfWords (Extend anchor size) = Unit {0}
IsOfWords (MidExtend anchor at by) = by < 2 ^ 32

-- Each call, so that lists of calls go by these rules too: what is left is spelled again.
abbrev pub CallsGoByNumbers : Type 0
CallsGoByNumbers = (places : Store) (t u : FlexState) (s : FlexStore) (call : FlexCall) → IsOfWords call →
    t.flex ≡ Some s → IsSpelledState t s → places.bytes ≡ t.bytes
    → ((a : ℕ) → t.bytes.mapped a ≡ true → a < 2 ^ 26) → IsDoneIn places t call u
    → IsLeftBy places t u s (outside_of call) (IsCalledSeen call (anchor_place_of s (anchor_of_call call))
    (blocks_seen (Some s)))

-- A call that answers that there is no room changes nothing.
pub record IsNoChange (t u : FlexState) : Type 0 where
  pub alloc : (places : Store) (anchor size : ℕ) → flex_after_alloc places t anchor size ≡ Ok (u, false) →
      u ≡ t
  pub extend : (anchor size : ℕ) → flex_after_extend t anchor size ≡ Ok (u, false) → u ≡ t
  pub mid_extend : (anchor at by : ℕ) → mid_extended t anchor at by ≡ Ok (u, false) → u ≡ t

abbrev pub NoRoomChangesNothing : Type 0
NoRoomChangesNothing = (t u : FlexState) → IsNoChange t u

-- Blocks that memory spells are told apart by their anchors' places, and each place is shown by the
-- blocks before.
abbrev pub AnchorsAreApart : Type 0
AnchorsAreApart = (t : FlexState) (s : FlexStore) → IsSpelledState t s → AreNumbered 0 (blocks_seen (Some s))
