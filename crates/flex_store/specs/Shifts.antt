-- Words that move with the bytes around them, and blocks whose anchors do.
use Rattle.std.specs.Prelude.{ℕ, ◌≤◌, ◌+◌, ◌-◌, ◌^◌, ◌&&◌, nat_le, nat_lt, List, [], ◌∷◌, map, if◌then◌else◌}
use Rattle.flex_store.specs.declared.shift.Shift.{Shift}
use Rattle.flex_store.specs.Blocks.{Block, bytes_taken_by}

-- moves of bytes, as crates above name them
abbrev pub Shifts : Type 0
Shifts = List Shift

-- where the word at `a` is, after the bytes of each shift went to their place
abbrev pub gone_to : List Shift → ℕ → ℕ
gone_to [] a = a
gone_to (s ∷ ss) a = if nat_le s.from a && nat_lt a s.end then s.to + (a - s.from) else gone_to ss a

-- the blocks with the anchors where they are then
abbrev pub following : List Shift → List Block → List Block
following shifts bs = map (λ b. record {
  anchor = gone_to shifts b.anchor;
  size = b.size;
  bytes = b.bytes;
}) bs

-- what goes to its place ends below 2^26
abbrev pub AreShort : List Shift → Type 0
AreShort [] = Unit {0}
AreShort (s ∷ ss) = (s.to + (s.end - s.from) ≤ 2 ^ 26) × AreShort ss

-- What moves where the `cut` bytes before the byte `place` of a block go, and `more` come there:
-- its bytes from that one on, and the blocks after it, which end at `end`. The block's header is at
-- `at`, and `size` is how many bytes it had.
abbrev pub splice_shifts : ℕ → ℕ → ℕ → ℕ → ℕ → ℕ → List Shift
splice_shifts at end size place cut more =
    record { from = at + 8 + place; end = at + 8 + size; to = at + 8 + (place - cut + more) }
    ∷ (record {
      from = at + bytes_taken_by size;
      end = end;
      to = at + bytes_taken_by (place - cut + more + (size - place));
    } ∷ [])

-- what moves where the block goes
abbrev pub removal_shifts : ℕ → ℕ → ℕ → List Shift
removal_shifts at end size = record { from = at + bytes_taken_by size; end = end; to = at } ∷ []
