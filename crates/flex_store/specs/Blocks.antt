-- The blocks of the flex store, as one list. They lie one after another from the store's start,
-- without gaps. A block is a header of two words, the address of its anchor and its size, then its
-- bytes, filled up to a whole number of words. The anchor is a word that holds the address of the
-- block's bytes; it lies outside the store, or among the bytes of a block before its own (Acorn C
-- manual, "flex"; the layout is this project's own).
use Rattle.std.specs.Prelude.{ℕ, ◌^◌, Bool, false, ◌+◌, ◌-◌, ◌*◌, ◌/◌, ◌==◌, ◌&&◌, ◌||◌, nat_le, List, [], ◌∷◌, ◌++◌, length, take, drop, replicate, Option, Some, None, if◌then◌else◌}

pub record Block : Type 0 where
  pub anchor : ℕ
  pub size : ℕ
  pub bytes : List ℕ

-- the store's range, and the blocks in it
pub record FlexStore : Type 0 where
  pub start : ℕ
  pub end : ℕ
  pub blocks : List Block

-- a number of bytes filled up to whole words
abbrev pub whole_words : ℕ → ℕ
whole_words n = 4 * ((n + 3) / 4)

-- the bytes that a block of some size takes up, those of its header too
abbrev pub bytes_taken_by : ℕ → ℕ
bytes_taken_by size = 8 + whole_words size

abbrev pub bytes_taken_by_all : List Block → ℕ
bytes_taken_by_all [] = 0
bytes_taken_by_all (b ∷ bs) = bytes_taken_by b.size + bytes_taken_by_all bs

-- the guest's own bytes of a block
abbrev pub contents : Block → List ℕ
contents b = take b.size b.bytes

-- bytes, and zeros up to whole words
abbrev pub whole_words_of_bytes : List ℕ → List ℕ
whole_words_of_bytes bytes = bytes ++ replicate (whole_words (length bytes) - length bytes) 0

-- a block of zeros, and a block that got other contents
abbrev pub new_block : ℕ → ℕ → Block
new_block anchor size = record { anchor = anchor; size = size; bytes = replicate (whole_words size) 0 }

abbrev pub block_holding : Block → List ℕ → Block
block_holding b bytes = record { anchor = b.anchor; size = length bytes; bytes = whole_words_of_bytes bytes }

-- the block of an anchor
abbrev pub find_block : ℕ → List Block → Option Block
find_block anchor [] = None
find_block anchor (b ∷ bs) = if b.anchor == anchor then Some b else find_block anchor bs

-- does a block have the word at `a` as its anchor?
abbrev pub has_anchor : List Block → ℕ → Bool
has_anchor [] a = false
has_anchor (b ∷ bs) a = a == b.anchor || has_anchor bs a

-- the list with another block in place of that of an anchor, and without it
abbrev pub with_block : ℕ → Block → List Block → List Block
with_block anchor new [] = []
with_block anchor new (b ∷ bs) = if b.anchor == anchor then new ∷ bs else b ∷ with_block anchor new bs

abbrev pub without_block : ℕ → List Block → List Block
without_block anchor [] = []
without_block anchor (b ∷ bs) = if b.anchor == anchor then bs else b ∷ without_block anchor bs

-- the blocks before that of an anchor, and those after it
abbrev pub before : ℕ → List Block → List Block
before anchor [] = []
before anchor (b ∷ bs) = if b.anchor == anchor then [] else b ∷ before anchor bs

abbrev pub behind_of : ℕ → List Block → List Block
behind_of anchor [] = []
behind_of anchor (b ∷ bs) = if b.anchor == anchor then bs else behind_of anchor bs

-- A new size cuts bytes off, or appends zeros.
abbrev pub bytes_with_size : List ℕ → ℕ → List ℕ
bytes_with_size bytes size = take size bytes ++ replicate (size - length bytes) 0

-- The bytes before `at` without the last `cut` of them, then `more` zeros, then the bytes from `at`
-- on.
abbrev pub bytes_after_splice : List ℕ → ℕ → ℕ → ℕ → List ℕ
bytes_after_splice bytes at cut more = take (at - cut) bytes ++ (replicate more 0 ++ drop at bytes)

-- a signed word in two's complement: how many bytes a change of it takes away, and how many it adds
abbrev pub cut_of : ℕ → ℕ
cut_of by = if nat_le (2 ^ 31) by then 2 ^ 32 - by else 0

abbrev pub more_of : ℕ → ℕ
more_of by = if nat_le (2 ^ 31) by then 0 else by

-- the words of a header, where the first block's is at `at`: is the word at `a` one of these?
abbrev pub is_header : ℕ → List Block → ℕ → Bool
is_header at [] a = false
is_header at (b ∷ bs) a = (a == at || a == at + 4) || is_header (at + bytes_taken_by b.size) bs a

-- Do the four bytes from `a` on lie among those that a block has for its guest, where its header is
-- at `at`?
abbrev pub is_held_word : ℕ → Block → ℕ → Bool
is_held_word at b a = nat_le (at + 8) a && nat_le (a + 4) (at + 8 + b.size)

-- among those of one of these blocks, where the first one's header is at `at`?
abbrev pub is_in_contents : ℕ → List Block → ℕ → Bool
is_in_contents at [] a = false
is_in_contents at (b ∷ bs) a = is_held_word at b a || is_in_contents (at + bytes_taken_by b.size) bs a
