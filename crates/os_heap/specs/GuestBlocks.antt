-- The blocks of one heap that are a guest's: no module image is recorded there. What a walk finds
-- of them, and what is done to one among all heaps.
use Rattle.std.specs.Prelude.{ℕ, ◌≡◌, ◌+◌, ◌-◌, Bool, true, false, None, Option, Some, List, MatchOption, is_some}
use Rattle.os_heap_words.specs.Memory.{anchor_of, regions}
use Rattle.os_heap_words.specs.Item.{Item}
use Rattle.os_heap_words.specs.AddressMap.{AddressMap}
use Rattle.os_heap_words.specs.Region.{Region}
use Rattle.os_heap_words.specs.lists.Lists.{live_total, items_after_release, resized_in_place}
use Rattle.os_heap_words.specs.lists.Walks.{IsBlock}
use Rattle.os_heap_words.specs.Cursors.{RefitsBlock}
use Rattle.os_heap_words.specs.Outcomes.{HasHeapAt, end_at, items_at}
use Rattle.os_heap_words.specs.declared.walk.Cursor.{Cursor}
use Rattle.os_heap.specs.Calls.{holds_anchor, unless_image}
use Rattle.os_heap.specs.Sound.{Forgets}
use Rattle.os_heap.specs.Store.{find_heap, has_image, store_of}

-- the block at `block` holds an anchor
abbrev pub has_anchor_in : AddressMap → ℕ → ℕ → Bool
has_anchor_in m start block = holds_anchor (anchor_of m) block
    (live_total block (start + 16) (items_at m start))

-- the block that a walk has come to is no module image
pub record IsGuestBlock (rs : List Region) (start : ℕ) (items : List Item)
    (block from at free gap : ℕ) : Type 0 where
  pub here : IsBlock start items block from at free gap
  pub own : has_image block rs ≡ false

-- what a walk to a guest's block finds: a cursor at it, or that there is none
abbrev pub FindsGuestBlock : AddressMap → ℕ → ℕ → Option Cursor → Type 0
FindsGuestBlock m start block hit = MatchOption hit
    (unless_image (has_image block (regions m)) (items_after_release block (start + 16) (items_at m start))
    ≡ None)
    (λ c. IsGuestBlock (regions m) start (items_at m start) block c.from c.at c.free c.gap)

-- The block got another total where it stands, after the heaps that go with what is cut off were
-- forgotten.
pub record IsResizedInPlace (old new : AddressMap) (start block total : ℕ) : Type 0 where
  pub between : AddressMap
  pub own : ℕ
  pub live : live_total block (start + 16) (items_at old start) ≡ Some own
  pub forgets : Forgets old between block own (block - 4 + total)
  pub refits : RefitsBlock between new start block total true

-- That was done, as `done` shows, or nothing is changed.
abbrev pub ResizesInPlace : AddressMap → AddressMap → ℕ → ℕ → ℕ → Bool → Type 0
ResizesInPlace old new start block total true = IsResizedInPlace old new start block total
ResizesInPlace old new start block total false =
    (resized_in_place block (start + end_at old start) total (start + 16) (items_at old start) ≡ None) ×
    (new ≡ old)

-- a guest's block that has a total, and holds no anchor
pub record MayMove (m : AddressMap) (start block total : ℕ) : Type 0 where
  pub heap : HasHeapAt m start
  pub found : is_some (find_heap start (store_of m).heaps) ≡ true
  pub own : has_image block (regions m) ≡ false
  pub live : live_total block (start + 16) (items_at m start) ≡ Some total
  pub unheld : holds_anchor (store_of m).anchor block (Some total) ≡ false
