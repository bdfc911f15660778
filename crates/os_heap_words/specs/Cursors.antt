-- A cursor of a walk through a heap: what it has passed, the block that it stands at, and what is done to that block.
use Rattle.std.specs.Prelude.{ℕ, ◌≡◌, ◌+◌, ◌<◌, ◌^◌, Bool, true, None, Option, MatchOption}
use Rattle.address_map.specs.Items.{is_total}
use Rattle.address_map.specs.declared.map.AddressMap.{AddressMap}
use Rattle.os_heap_words.specs.lists.Lists.{items_after_release, resized_in_place}
use Rattle.os_heap_words.specs.lists.Walks.{IsBlock, IsLinked, IsWalked}
use Rattle.os_heap_words.specs.Outcomes.{HasHeapAt, Refits, end_at, items_at}
use Rattle.os_heap_words.specs.declared.walk.Cursor.{Cursor}

-- a walk from item to item, and one along the links
abbrev pub HasWalked : AddressMap → ℕ → ℕ → Cursor → Type 0
HasWalked m start block c = IsWalked start (items_at m start) block c.from c.at c.free c.gap c.probes

abbrev pub HasFollowed : AddressMap → ℕ → ℕ → Cursor → Type 0
HasFollowed m start block c = IsLinked start (items_at m start) block c.from c.at c.free c.gap c.probes

-- memory spells a heap at `start`, and the cursor stands at the block whose bytes begin at `here`
pub record IsAtBlock (m : AddressMap) (start here : ℕ) (c : Cursor) : Type 0 where
  pub heap : HasHeapAt m start
  pub block : IsBlock start (items_at m start) here c.from c.at c.free c.gap

-- what a walk to a block finds: a cursor at it, or that there is none
abbrev pub FindsBlock : AddressMap → ℕ → ℕ → Option Cursor → Type 0
FindsBlock m start block hit = MatchOption hit (items_after_release block (start + 16) (items_at m start)
    ≡ None)
    (λ c. IsBlock start (items_at m start) block c.from c.at c.free c.gap)

-- a total that is asked for a block: a sum of two words at most, rounded up
pub record IsNewTotal (n : ℕ) : Type 0 where
  pub total : is_total n ≡ true
  pub small : n < 2 ^ 34

-- The block got another total where it stands, as `done` shows; else nothing is changed.
abbrev pub RefitsBlock : AddressMap → AddressMap → ℕ → ℕ → ℕ → Bool → Type 0
RefitsBlock old new start block total done = Refits old new start (end_at old start) done
    (resized_in_place block (start + end_at old start) total (start + 16) (items_at old start))
