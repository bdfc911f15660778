-- The calls on the flex store that change blocks, and how many bytes the blocks take up after each.
use Rattle.std.specs.Prelude.{ℕ, ◌≡◌, ◌≤◌, ◌+◌, nat_le, Bool, true, List, [], ◌∷◌, ◌++◌, Option, Some, None, Ok}
use Rattle.os_heap.specs.Store.{Store}
use Rattle.flex_store.specs.Blocks.{Block, FlexStore, contents, cut_of, find_block, block_holding, more_of, new_block, bytes_with_size, bytes_after_splice, bytes_taken_by_all, with_block, without_block}
use Rattle.flex_store.specs.Calls.{FlexState, flex_after_alloc, flex_after_extend, mid_extended, flex_after_release}
use Rattle.flex_store.specs.Laws.{HasBlocks}

-- the calls that change blocks, with what they are given: an anchor, and then a size, or a place
-- and a signed word
pub data FlexCall : Type 0 where
  Alloc : ℕ → ℕ → FlexCall
  Release : ℕ → FlexCall
  Extend : ℕ → ℕ → FlexCall
  MidExtend : ℕ → ℕ → ℕ → FlexCall

-- A call was not refused, gave this answer, and left this state. Where an alloc finds its anchor,
-- the heaps and the ranges are what they are then.
abbrev pub IsFlexCallDone : FlexState → FlexCall → Bool → FlexState → Type 0
IsFlexCallDone t (Alloc anchor size) answer u = (places : Store) ×
    (flex_after_alloc places t anchor size ≡ Ok (u, answer))
IsFlexCallDone t (Release anchor) answer u = (answer ≡ true) × (flex_after_release t anchor ≡ Ok (u, tt))
IsFlexCallDone t (Extend anchor size) answer u = flex_after_extend t anchor size ≡ Ok (u, answer)
IsFlexCallDone t (MidExtend anchor at by) answer u = mid_extended t anchor at by ≡ Ok (u, answer)

-- the blocks after a call that found room, but for what anchors are where then
abbrev pub blocks_changed : ℕ → (List ℕ → List ℕ) → Option Block → List Block → List Block
blocks_changed anchor change None bs = bs
blocks_changed anchor change (Some b) bs = with_block anchor (block_holding b (change (contents b))) bs

abbrev pub blocks_after : FlexCall → List Block → List Block
blocks_after (Alloc anchor size) bs = bs ++ new_block anchor size ∷ []
blocks_after (Release anchor) bs = without_block anchor bs
blocks_after (Extend anchor size) bs = blocks_changed anchor (λ c. bytes_with_size c size)
    (find_block anchor bs) bs
blocks_after (MidExtend anchor at by) bs = blocks_changed anchor
    (λ c. bytes_after_splice c at (cut_of by) (more_of by)) (find_block anchor bs) bs

-- A call answers that there was room just where the blocks that it is to leave fit into the store's
-- range.
abbrev pub AnswersAreRoom : Type 0
AnswersAreRoom = (t u : FlexState) (s : FlexStore) (call : FlexCall) (answer : Bool) → HasBlocks t.flex →
    t.flex ≡ Some s → s.start + bytes_taken_by_all s.blocks ≤ s.end
    → IsFlexCallDone t call answer u → answer ≡ nat_le (s.start + bytes_taken_by_all
    (blocks_after call s.blocks)) s.end
