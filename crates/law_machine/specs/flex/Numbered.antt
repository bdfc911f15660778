-- The blocks of the flex store without an address that lies in it: a block goes by its number in
-- the list, and an anchor that lies in a block by the number of that one, and how far into its
-- contents it is.
use Rattle.std.specs.Prelude.{ℕ, zero, suc, Bool, ◌≡◌, ◌<◌, ◌+◌, ◌-◌, ◌==◌, ◌&&◌, nat_le, nat_lt, List, [], ◌∷◌, ◌++◌, length, map, Option, None, Some, replicate, if◌then◌else◌}
use Rattle.address_map.specs.Bytes.{in_range}
use Rattle.flex_store.specs.Blocks.{Block, contents, cut_of, FlexStore, is_held_word, more_of, bytes_taken_by}
use Rattle.flex_store.specs.Calls.{is_anchor_byte}
use Rattle.flex_store.specs.Runs.{Alloc, Extend, FlexCall, MidExtend, Release}
use Rattle.law_machine.specs.flex.Seen.{seen_bytes, seen_spliced}

-- where an anchor is: a word elsewhere, or a place in the contents of a block
pub data Anchor : Type 0 where
  Fixed : ℕ → Anchor
  Inside : ℕ → ℕ → Anchor

-- where the word at `a` is, by blocks of which the first has this number, and its header at `at`
abbrev pub anchor_from : ℕ → ℕ → List Block → ℕ → Anchor
anchor_from number at [] a = Fixed a
anchor_from number at (b ∷ bs) a = if is_held_word at b a then Inside number (a - (at + 8))
    else anchor_from (suc number) (at + bytes_taken_by b.size) bs a

abbrev pub anchor_place_of : FlexStore → ℕ → Anchor
anchor_place_of s a = anchor_from 0 s.start s.blocks a

-- a block, as it is seen: where its anchor is, and its contents with the bytes of anchors left out
pub record SeenBlock : Type 0 where
  pub anchor : Anchor
  pub bytes : List (Option ℕ)

abbrev pub list_seen : (ℕ → Bool) → (ℕ → Anchor) → ℕ → List Block → List SeenBlock
list_seen anchor place at [] = []
list_seen anchor place at (b ∷ bs) =
    record { anchor = place b.anchor; bytes = seen_bytes anchor (at + 8) (contents b) }
    ∷ list_seen anchor place (at + bytes_taken_by b.size) bs

abbrev pub blocks_seen : Option FlexStore → List SeenBlock
blocks_seen None = []
blocks_seen (Some s) = list_seen (is_anchor_byte s) (anchor_place_of s) s.start s.blocks

-- where an anchor is after a splice of the block of a number, and after its removal
abbrev pub after_splice : ℕ → ℕ → ℕ → ℕ → Anchor → Anchor
after_splice number place cut more (Fixed a) = Fixed a
after_splice number place cut more (Inside n o) = if n == number && nat_le place o then
    Inside n (place - cut + more + (o - place)) else Inside n o

abbrev pub after_removal : ℕ → Anchor → Anchor
after_removal number (Fixed a) = Fixed a
after_removal number (Inside n o) = if nat_lt number n then Inside (n - 1) o else Inside n o

abbrev pub with_places : (Anchor → Anchor) → List SeenBlock → List SeenBlock
with_places go bs = map (λ b. record { anchor = go b.anchor; bytes = b.bytes }) bs

-- The bytes of a block, of which the first is its byte `at`, with each of the four from `offset` on
-- seen as described; and blocks with those of a place.
abbrev pub word_shown : Option ℕ → ℕ → ℕ → List (Option ℕ) → List (Option ℕ)
word_shown byte offset at [] = []
word_shown byte offset at (x ∷ xs) = (if in_range offset 4 at then byte else x)
    ∷ word_shown byte offset (at + 1) xs

abbrev pub blocks_after_store : Option ℕ → ℕ → ℕ → List SeenBlock → List SeenBlock
blocks_after_store byte number offset [] = []
blocks_after_store byte zero offset (b ∷ bs) = record {
  anchor = b.anchor;
  bytes = word_shown byte offset 0 b.bytes;
} ∷ bs
blocks_after_store byte (suc number) offset (b ∷ bs) = b ∷ blocks_after_store byte number offset bs

abbrev pub place_shown : Option ℕ → Anchor → List SeenBlock → List SeenBlock
place_shown byte (Fixed a) bs = bs
place_shown byte (Inside number offset) bs = blocks_after_store byte number offset bs

-- A splice of the block of some size whose anchor is at a place: it alone shows other bytes, and
-- the anchors in it that lie after the place move with these.
pub record IsSplicedSeen (x : Anchor) (size place cut more : ℕ) (p q : List SeenBlock) : Type 0 where
  pub front : List SeenBlock
  pub own : List (Option ℕ)
  pub rest : List SeenBlock
  pub was : p ≡ front ++ record { anchor = x; bytes = own } ∷ rest
  pub own_size : length own ≡ size
  pub now : q ≡ front ++ record { anchor = x; bytes = seen_spliced own place cut more }
      ∷ with_places (after_splice (length front) place cut more) rest

-- The block goes: its anchor is seen as zeros where it lies in a block, and the blocks after it
-- have the numbers before theirs.
pub record IsRemovedSeen (x : Anchor) (p q : List SeenBlock) : Type 0 where
  pub front : List SeenBlock
  pub own : List (Option ℕ)
  pub rest : List SeenBlock
  pub was : p ≡ front ++ record { anchor = x; bytes = own } ∷ rest
  pub now : q ≡ place_shown (Some 0) x front ++ with_places (after_removal (length front)) rest

-- A block of zeros comes after all others: its anchor is not seen where it lies in a block.
abbrev pub IsAddedSeen : Anchor → ℕ → List SeenBlock → List SeenBlock → Type 0
IsAddedSeen x size p q = q ≡ place_shown None x p ++ record { anchor = x; bytes = replicate size (Some 0) }
    ∷ []

-- What a call that found room does to the blocks, where its anchor is at a place. A new size cuts
-- bytes off at the end, or appends zeros.
abbrev pub IsCalledSeen : FlexCall → Anchor → List SeenBlock → List SeenBlock → Type 0
IsCalledSeen (Alloc anchor size) x p q = IsAddedSeen x size p q
IsCalledSeen (Release anchor) x p q = IsRemovedSeen x p q
IsCalledSeen (Extend anchor size) x p q = (old : ℕ) × IsSplicedSeen x old old (old - size) (size - old) p q
IsCalledSeen (MidExtend anchor at by) x p q = (old : ℕ) × IsSplicedSeen x old at (cut_of by) (more_of by) p q

-- The anchor of each block is a word elsewhere or lies in a block before its own, and no two are at
-- the same place. So each block has a name: the word of its anchor, or the name of the block that
-- holds it with the place in that one. The first of the blocks has this number.
abbrev pub IsBeforeBlock : ℕ → Anchor → Type 0
IsBeforeBlock number (Fixed a) = Unit {0}
IsBeforeBlock number (Inside n o) = n < number

abbrev pub AreElsewhere : Anchor → List SeenBlock → Type 0
AreElsewhere x [] = Unit {0}
AreElsewhere x (b ∷ bs) = (b.anchor ≡ x → ⊥) × AreElsewhere x bs

abbrev pub AreNumbered : ℕ → List SeenBlock → Type 0
AreNumbered number [] = Unit {0}
AreNumbered number (b ∷ bs) = IsBeforeBlock number b.anchor ×
    (AreElsewhere b.anchor bs × AreNumbered (suc number) bs)
