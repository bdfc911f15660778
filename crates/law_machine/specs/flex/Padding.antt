-- The bytes that fill the last word of each flex block: they are zeros where a block is new or
-- changes its size, and stay as they are in each other block, also where it moves (this project's
-- own).
use Rattle.std.specs.Prelude.{ℕ, ◌≡◌, ◌+◌, ◌-◌, ◌==◌, true, List, [], ◌∷◌, ◌++◌, drop, length, Option, None, Some, replicate, if◌then◌else◌, ◌<◌, ◌^◌}
use Rattle.os_heap.specs.Store.{Store}
use Rattle.flex_store.specs.Blocks.{Block, cut_of, FlexStore, more_of, whole_words}
use Rattle.flex_store.specs.Calls.{FlexState}
use Rattle.flex_store.specs.Runs.{Alloc, Extend, FlexCall, MidExtend, Release}
use Rattle.law_machine.specs.flex.Laws.{anchor_of_call, IsDoneIn, IsOfWords, IsSpelledState}
use Rattle.law_machine.specs.flex.Numbered.{Anchor, blocks_seen, anchor_place_of, SeenBlock}

-- the bytes of a block after its guest's own; those of each block, in the order of the blocks;
-- and those of a store, if there is one
abbrev pub padding : Block → List ℕ
padding b = drop b.size b.bytes

abbrev pub paddings : List Block → List (List ℕ)
paddings [] = []
paddings (b ∷ bs) = padding b ∷ paddings bs

abbrev pub all_paddings : Option FlexStore → List (List ℕ)
all_paddings None = []
all_paddings (Some s) = paddings s.blocks

-- zeros after so many bytes, up to a whole number of words
abbrev pub zero_padding : ℕ → List ℕ
zero_padding size = replicate (whole_words size - size) 0

-- what is left of a block's padding where the block gets a size
abbrev pub padding_left : ℕ → ℕ → List ℕ → List ℕ
padding_left old new own = if new == old then own else zero_padding new

-- the block whose anchor is at a place, among blocks as they are seen
pub record BlockAt (x : Anchor) (seen : List SeenBlock) : Type 0 where
  pub front : List SeenBlock
  pub own : List (Option ℕ)
  pub rest : List SeenBlock
  pub is : seen ≡ front ++ record { anchor = x; bytes = own } ∷ rest

-- All blocks but the one whose anchor is at a place have the padding that they had. Of that one
-- `left` shows, by its size and the padding that it had: it has another, or it is gone.
pub record IsOwnPadding (x : Anchor) (seen : List SeenBlock) (left : ℕ → List ℕ → List (List ℕ))
    (p q : List (List ℕ)) : Type 0 where
  pub block : BlockAt x seen
  pub front : List (List ℕ)
  pub own : List ℕ
  pub rest : List (List ℕ)
  pub number : length front ≡ length block.front
  pub was : p ≡ front ++ own ∷ rest
  pub now : q ≡ front ++ (left (length block.own) own ++ rest)

-- what a call that found room leaves of the padding of blocks that are seen so before it, where its
-- anchor is at a place
abbrev pub IsCalledPadding : FlexCall → Anchor → List SeenBlock → List (List ℕ) → List (List ℕ) → Type 0
IsCalledPadding (Alloc anchor size) x seen p q = q ≡ p ++ zero_padding size ∷ []
IsCalledPadding (Release anchor) x seen p q = IsOwnPadding x seen (λ old own. []) p q
IsCalledPadding (Extend anchor size) x seen p q = IsOwnPadding x seen
    (λ old own. padding_left old size own ∷ []) p q
IsCalledPadding (MidExtend anchor at by) x seen p q =
    IsOwnPadding x seen (λ old own. padding_left old (old - cut_of by + more_of by) own ∷ []) p q

-- Each call that finds room. No anchor lies in a padding, so all its bytes are the guest's.
abbrev pub PaddingGoesByNumbers : Type 0
PaddingGoesByNumbers = (places : Store) (t u : FlexState) (s : FlexStore) (call : FlexCall) → IsOfWords call →
    t.flex ≡ Some s → IsSpelledState t s → places.bytes ≡ t.bytes
    → ((a : ℕ) → t.bytes.mapped a ≡ true → a < 2 ^ 26) → IsDoneIn places t call u
    → IsCalledPadding call (anchor_place_of s (anchor_of_call call)) (blocks_seen (Some s))
    (paddings s.blocks) (all_paddings u.flex)
