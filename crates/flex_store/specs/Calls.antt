-- The flex calls, over memory and the flex store, if there is one. Refusals come in the order of
-- their numbers (Acorn C manual, "flex"; the numbers, this order, and one store in a range that the
-- guest names are this project's own).
use Rattle.std.specs.Prelude.{ℕ, Bool, true, false, not, ◌+◌, ◌-◌, ◌%◌, ◌==◌, ◌&&◌, ◌||◌, nat_le, nat_lt, Option, Some, None, ok_or, Result, Ok, Err, List, [], ◌∷◌, ◌++◌, if◌then◌else◌}
use Rattle.std.specs.List.{list_any}
use Rattle.profile.specs.Outcome.{bind}
use Rattle.profile.specs.ErrorNumber.{ErrorNumber}
use Rattle.profile.specs.ErrorNumber.TheVariants.{FlexNotReady, FlexAlready, FlexBadRange, FlexBadAnchor, FlexAnchorInUse, FlexHoldsAnchor}
use Rattle.os_heap.specs.Kind.TheVariants as kind
use Rattle.os_heap.specs.Region.{Region}
use Rattle.os_heap.specs.Bytes.{Bytes, shares_address, with_word, word_start}
use Rattle.os_heap.specs.Records.{anchor_among}
use Rattle.os_heap.specs.Payloads.{is_other, payload_of}
use Rattle.os_heap.specs.Store.{is_flex_store, Store}
use Rattle.os_heap.specs.Ranges.{are_bytes_mapped}
use Rattle.flex_store.specs.Blocks.{before, behind_of, Block, contents, cut_of, find_block, FlexStore, has_anchor, block_holding, is_in_contents, more_of, new_block, bytes_after_splice, bytes_taken_by_all}
use Rattle.flex_store.specs.Memory.{laid_out, standing}
use Rattle.flex_store.specs.Shifts.{following, removal_shifts, splice_shifts}

-- memory, and the flex store after `init`
pub record FlexState : Type 0 where
  pub bytes : Bytes
  pub flex : Option FlexStore

-- May the word at an address become an anchor? It is mapped, and lies in no recorded range but a
-- heap and the flex store; in a heap it lies among the bytes that a live block holds. The record of
-- a module image in the module area covers all bytes that its block holds, so none of these may be
-- an anchor.
unfoldable pub is_anchor_place : Store → ℕ → Bool
is_anchor_place s a = (a % 4 == 0 && s.bytes.mapped a)
    && (not (list_any (λ r. not (is_flex_store r.kind) && shares_address a 4 r.at r.len) s.others)
    && not (is_other (payload_of s.heaps a)))

-- does a word lie in the flex store?
abbrev pub is_in_store : FlexStore → ℕ → Bool
is_in_store s a = shares_address a 4 s.start (s.end - s.start)

-- A word that does may be an anchor where it lies among the bytes that a block has for its guest.
abbrev pub may_stand : FlexStore → ℕ → Bool
may_stand s a = not (is_in_store s a) || is_in_contents s.start s.blocks a

-- does a range share a byte with a heap, or with another recorded range?
abbrev pub meets_ranges : Store → ℕ → ℕ → Bool
meets_ranges s at len = list_any (λ h. shares_address at len h.start h.end) s.heaps
    || list_any (λ r. shares_address at len r.at r.len) s.others

-- May a range become the flex store? It has whole words, which are mapped, and it meets no heap and
-- no other recorded range.
unfoldable pub is_flex_range : Store → ℕ → ℕ → Bool
is_flex_range s start end =
    (start % 4 == 0 && end % 4 == 0) && (nat_lt start end
    && (are_bytes_mapped s.bytes.mapped start (end - start) && not (meets_ranges s start (end - start))))

-- the store and the block of a call
abbrev pub ready : FlexState → Result FlexStore ErrorNumber
ready t = ok_or t.flex FlexNotReady

abbrev pub live : FlexStore → ℕ → Result Block ErrorNumber
live s anchor = ok_or (find_block anchor s.blocks) FlexBadAnchor

-- The state once the blocks after some of the store's were laid out anew. The anchors' words lie in
-- what stood there too, in blocks of these, so the blocks have the bytes that stand in memory then.
abbrev pub with_blocks : FlexState → FlexStore → List Block → List Block → FlexState
with_blocks t s olds news =
    let bytes : ℕ → ℕ = laid_out (s.start + bytes_taken_by_all olds) news t.bytes.at in
    record {
      bytes = record { mapped = t.bytes.mapped; at = bytes };
      flex = Some (record { start = s.start; end = s.end; blocks = standing bytes s.start (olds ++ news) });
    }

-- what is so where the store has room for these blocks; where it has none, nothing is changed, and
-- the answer is false
abbrev pub flex_if_room : FlexState → FlexStore → List Block → List Block → FlexState × Bool
flex_if_room t s olds news = if nat_le (s.start + bytes_taken_by_all (olds ++ news)) s.end then
    (with_blocks t s olds news, true) else (t, false)

-- Init: an empty store in a range, which the heaps and the recorded ranges leave free.
abbrev pub flex_record : ℕ → ℕ → Region
flex_record start end = record { kind = kind.FlexStore; at = start; len = end - start }

abbrev pub with_flex_range : FlexState → ℕ → ℕ → FlexState
with_flex_range t start end = record {
  bytes = t.bytes;
  flex = Some (record { start = start; end = end; blocks = [] });
}

abbrev pub flex_after_init_over : Store → FlexState → ℕ → ℕ → Option FlexStore →
    Result (FlexState × Unit {0}) ErrorNumber
flex_after_init_over places t start end (Some s) = Err FlexAlready
flex_after_init_over places t start end None = if is_flex_range places start end then
    Ok (with_flex_range t start end, tt) else Err FlexBadRange

unfoldable pub flex_after_init : Store → FlexState → ℕ → ℕ → Result (FlexState × Unit {0}) ErrorNumber
flex_after_init places t start end = flex_after_init_over places t start end t.flex

-- Alloc: a block more, after all others. The heaps and the recorded ranges say where an anchor may
-- stand.
unfoldable pub flex_after_alloc : Store → FlexState → ℕ → ℕ → Result (FlexState × Bool) ErrorNumber
flex_after_alloc places t anchor size =
    bind (ready t) (λ s.
    if not (is_anchor_place places anchor && may_stand s anchor) then Err FlexBadAnchor else (
    if has_anchor s.blocks anchor then Err FlexAnchorInUse else
    Ok (flex_if_room t s s.blocks (new_block anchor size ∷ []))))

-- is a byte one of an anchor's?
abbrev pub is_anchor_byte : FlexStore → ℕ → Bool
is_anchor_byte s a = has_anchor s.blocks (word_start a)

-- where the header of an anchor's block is, and where the last block ends
abbrev pub header_place_in : FlexStore → ℕ → ℕ
header_place_in s anchor = s.start + bytes_taken_by_all (before anchor s.blocks)

abbrev pub end_in : FlexStore → ℕ
end_in s = s.start + bytes_taken_by_all s.blocks

-- Free: the block goes, and its anchor is 0. Those after it slide down, and the anchors in them
-- with them.
abbrev pub state_without_anchor : FlexState → ℕ → FlexState
state_without_anchor t anchor = record { bytes = with_word t.bytes anchor 0; flex = t.flex }

unfoldable pub flex_after_release : FlexState → ℕ → Result (FlexState × Unit {0}) ErrorNumber
flex_after_release t anchor =
    bind (ready t) (λ s.
    bind (live s anchor) (λ b.
    if anchor_among (is_anchor_byte s) (header_place_in s anchor + 8) b.size then Err FlexHoldsAnchor else
    Ok (
      with_blocks (state_without_anchor t anchor) s (before anchor s.blocks)
          (following (removal_shifts (header_place_in s anchor) (end_in s) b.size)
          (behind_of anchor s.blocks)),
      tt,
    )))

-- Size: the bytes of a block that are its guest's own.
abbrev pub flex_block_size : FlexState → ℕ → Result ℕ ErrorNumber
flex_block_size t anchor =
    bind (ready t) (λ s.
    bind (live s anchor) (λ b.
    Ok b.size))

-- Would a change of the contents at `c` take a byte of an anchor away, put bytes inside one, or
-- move one by other than whole words? `anchor` says of each byte whether it is one of an anchor's.
abbrev pub breaks_anchor : (ℕ → Bool) → ℕ → ℕ → ℕ → ℕ → ℕ → Bool
breaks_anchor anchor c size place cut more =
    anchor_among anchor (c + place - cut) cut
    || ((not (more == 0) && (not (place % 4 == 0) && anchor_among anchor (c + place) 1))
    || (not (more % 4 == cut % 4) && anchor_among anchor (c + place) (size - place)))

-- The `cut` bytes before the byte `place` of a block go, and `more` zeros come there. The anchors
-- in what moves go with it.
abbrev pub spliced_at : FlexState → FlexStore → ℕ → Block → ℕ → ℕ → ℕ → Result (FlexState × Bool) ErrorNumber
spliced_at t s anchor b place cut more =
    if breaks_anchor (is_anchor_byte s) (header_place_in s anchor + 8) b.size place cut more then
    Err FlexHoldsAnchor else
    Ok (flex_if_room t s (before anchor s.blocks)
    (block_holding b (bytes_after_splice (contents b) place cut more)
    ∷ following (splice_shifts (header_place_in s anchor) (end_in s) b.size place cut more)
    (behind_of anchor s.blocks)))

-- Extend: a block is cut, or zeros are appended. Where its size stays, it is as it was, with the
-- bytes that fill it up.
unfoldable pub flex_after_extend : FlexState → ℕ → ℕ → Result (FlexState × Bool) ErrorNumber
flex_after_extend t anchor size =
    bind (ready t) (λ s.
    bind (live s anchor) (λ b.
    if size == b.size then Ok (t, true) else spliced_at t s anchor b b.size (b.size - size) (size - b.size)))

-- Midextend: where `by`, a signed word, is above 0, zeros are put in before the byte `at`; where it
-- is below, as many bytes before that one go.
unfoldable pub mid_extended : FlexState → ℕ → ℕ → ℕ → Result (FlexState × Bool) ErrorNumber
mid_extended t anchor at by =
    bind (ready t) (λ s.
    if nat_lt at (cut_of by) then Err FlexBadRange else
    bind (live s anchor) (λ b.
    if nat_lt b.size at then Err FlexBadRange else (
    if by == 0 then Ok (t, true) else spliced_at t s anchor b at (cut_of by) (more_of by))))
