-- Where a slide stands: the heap's words spell the items that have their new places, as a list by
-- itself, and those that come next lie after them as they were.
use Rattle.std.specs.Prelude.{ℕ, ◌≡◌, ◌≤◌, true, ◌+◌, ◌-◌, ◌%◌, ◌^◌, List, [], ◌∷◌, ◌++◌, length}
use Rattle.dynamic_areas.specs.Bytes.{word_at, with_moved_at, word_start}
use Rattle.dynamic_areas.specs.Items.{is_head, is_head_of, is_total, link_target, size_of}
use Rattle.dynamic_areas.specs.Memory.{byte_at, bytes_of, class_of, layout}
use Rattle.dynamic_areas.specs.BlockMove.{BlockMove}
use Rattle.dynamic_areas.specs.Item.{Item}
use Rattle.dynamic_areas.specs.Item.TheVariants.{Free, Live}
use Rattle.dynamic_areas.specs.AddressMap.{AddressMap}
use Rattle.dynamic_areas.specs.Heap.{IsHeapIn, last_free, next_free}
use Rattle.dynamic_areas.specs.OsHeapWordsLists.{left_free}
use Rattle.dynamic_areas.specs.Marks.{class_after_marking, Remarks}
use Rattle.dynamic_areas.specs.Words.{AreApart, IsOutside}
use Rattle.dynamic_areas.specs.Outcomes.{CanStand, end_at, HasHeapAt, items_at}
use Rattle.rma.specs.heap_slide.Slide.{AreBlocks, is_listed, moves_of, slid, slid_bytes}

-- what is laid at the end of a list: a block, and the gap before it, if there is one
abbrev pub items_laid_last : ℕ → ℕ → List Item
items_laid_last gap total = left_free gap ++ Live total ∷ []

-- A block of `total` bytes can be laid at `to`: the items that have their new places end at `top`,
-- the last free one of them is at `from`, and there is room up to `end`.
pub record IsRoomForBlock (m : AddressMap) (start from top to total end : ℕ) : Type 0 where
  pub heap : HasHeapAt m start
  pub last : from ≡ last_free start (start + 16) (items_at m start)
  pub place : top ≡ start + 16 + size_of (items_at m start)
  pub whole : is_total total ≡ true
  pub low : top ≤ to
  pub eighths : (to - top) % 8 ≡ 0
  pub high : to + total ≤ end
  pub inside : end ≤ start + end_at m start

-- The heap has them as its last items now. No byte but those of its words changed.
pub record IsSetDown (m n : AddressMap) (start top to total : ℕ) : Type 0 where
  pub heap : IsHeapIn (bytes_of n) start (end_at m start)
      (items_at m start ++ items_laid_last (to - top) total)
  pub same : layout n ≡ layout m
  pub others : (a : ℕ) → AreApart a 1 start 16 → IsOutside (start + 16)
      (items_at m start ++ items_laid_last (to - top) total) a → byte_at n a ≡ byte_at m a
  pub marks : Remarks (class_of m) (class_of n) top [] (items_laid_last (to - top) total)

-- The same, with the block's bytes copied from `at` first, and its old mark gone.
pub record IsLaid (m n : AddressMap) (start top at to total : ℕ) : Type 0 where
  pub heap : IsHeapIn (bytes_of n) start (end_at m start)
      (items_at m start ++ items_laid_last (to - top) total)
  pub same : layout n ≡ layout m
  pub others : (a : ℕ) → AreApart a 1 start 16 → IsOutside (start + 16)
      (items_at m start ++ items_laid_last (to - top) total) a
      → byte_at n a ≡ with_moved_at (byte_at m) at to total a
  pub marks : (a : ℕ) → class_of n a ≡ class_after_marking
      (is_head top (items_laid_last (to - top) total) (word_start a))
      (is_head_of at (Live total) (word_start a)) (class_of m a)

-- no byte is another one, and the words of memory and its records are as they were, but for marks
pub record KeepsBytesAndLayout (m n : AddressMap) : Type 0 where
  pub bytes : byte_at n ≡ byte_at m
  pub layout : layout n ≡ layout m

-- a free item can be passed
pub record IsFreeHere (m : AddressMap) (start at : ℕ) : Type 0 where
  pub low : start + 16 ≤ at
  pub stands : CanStand m at (Free (word_at (byte_at m) (at + 4)) ∷ [])
  pub high : at + word_at (byte_at m) (at + 4) ≤ 2 ^ 26
  pub next : link_target at (word_at (byte_at m) at) ≤ 2 ^ 26

-- A slide has passed some items of the heap, as it was in `m`, and comes to that at `at`; the next
-- free one from there on is at `free`. The items passed have their new places in `n`, up to `top`,
-- the last free one of them at `from`; `moves` are those that moved, and `left` the addresses of
-- `movable` that come next.
pub record IsSliding (m n : AddressMap) (start : ℕ) (movable left : List ℕ) (moves : List BlockMove)
    (from top at free : ℕ) : Type 0 where
  pub passed : List Item
  pub rest : List Item
  pub bytes : ℕ → ℕ
  pub split : items_at m start ≡ passed ++ rest
  pub place : at ≡ start + 16 + size_of passed
  pub next : free ≡ next_free at rest 0
  pub heap : IsHeapIn (bytes_of n) start (end_at m start) (items_at n start)
  pub end : top ≡ start + 16 + size_of (items_at n start)
  pub low : top ≤ at
  pub last : from ≡ last_free start (start + 16) (items_at n start)
  pub same : layout n ≡ layout m
  pub list : slid (is_listed movable) (start + 16) (start + 16) (items_at m start) ≡ items_at n start
      ++ slid (is_listed movable) top at rest
  pub copied : slid_bytes (is_listed movable) (start + 16) (start + 16) (items_at m start) (byte_at m)
      ≡ slid_bytes (is_listed movable) top at rest bytes
  pub others : (a : ℕ) → AreApart a 1 start 16 → IsOutside (start + 16) (items_at n start) a →
      byte_at n a ≡ bytes a
  pub behind : (a : ℕ) → at ≤ a → byte_at n a ≡ byte_at m a
  pub marks : Remarks (class_of m) (class_of n) (start + 16) passed (items_at n start)
  pub moved : moves_of (is_listed movable) (start + 16) (start + 16) (items_at m start) ≡ moves
      ++ moves_of (is_listed movable) top at rest
  pub blocks : AreBlocks at rest left
  pub listed : (b : ℕ) → at + 4 ≤ b → is_listed movable b ≡ is_listed left b
  pub few : length moves + length left ≤ 128

-- All items of the heap, as it was in `m`, have their new places. The records are the same.
pub record IsAllSlid (m n : AddressMap) (start : ℕ) (movable : List ℕ) (moves : List BlockMove) : Type 0 where
  pub heap : IsHeapIn (bytes_of n) start (end_at m start)
      (slid (is_listed movable) (start + 16) (start + 16) (items_at m start))
  pub same : layout n ≡ layout m
  pub others : (a : ℕ) → AreApart a 1 start 16 → IsOutside (start + 16)
      (slid (is_listed movable) (start + 16) (start + 16) (items_at m start)) a
      → byte_at n a ≡ slid_bytes (is_listed movable) (start + 16) (start + 16) (items_at m start)
      (byte_at m) a
  pub marks : Remarks (class_of m) (class_of n) (start + 16) (items_at m start)
      (slid (is_listed movable) (start + 16) (start + 16) (items_at m start))
  pub moved : moves ≡ moves_of (is_listed movable) (start + 16) (start + 16) (items_at m start)
