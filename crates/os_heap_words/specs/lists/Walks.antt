-- Walks over a heap's list: along the links of its free items, and from item to item.
use Rattle.std.specs.Prelude.{◌+◌, ◌≡◌, ◌≤◌, List, ℕ, ◌%◌, [], ◌∷◌, None, ◌++◌, Some, ◌-◌, ◌==◌, if◌then◌else◌, true, is_some, ◌<◌}
use Rattle.address_map.specs.Bytes.{Bytes, word_at, AreMapped}
use Rattle.address_map.specs.Items.{size_of, items_from}
use Rattle.address_map.specs.declared.item.Item.{Item}
use Rattle.address_map.specs.declared.item.Item.TheVariants.{Free, Live}
use Rattle.os_heap_words.specs.lists.Counts.{larger, largest_free, free_total, free_count, looked_at, begun_below, free_below}
use Rattle.os_heap_words.specs.lists.Heap.{next_free, Spells, AreTotals, last_free, AreSpaced}
use Rattle.os_heap_words.specs.lists.Lists.{Claim, first_fit, left_free, items_after_release, items_with_gap, live_total, items_after_free}

-- The walk stands at the free item at `at`, or at the end, where that is 0. It has passed `count`
-- free items of `total` bytes, the largest of them of `largest`; the others are in the items from
-- `place` on. The heap has `items` and ends at `end`; `w` shows the word at each address.
pub record IsTallied (w : ℕ → ℕ) (start end : ℕ) (items : List Item)
    (at count total largest : ℕ) : Type 0 where
  pub place : ℕ
  pub rest : List Item
  pub next : at ≡ next_free place rest 0
  pub spelled : Spells w place rest 0
  pub totals : AreTotals rest
  pub aligned : place % 4 ≡ 0
  pub low : start + 16 ≤ place
  pub high : place + size_of rest ≤ end
  pub counted : count + free_count rest ≡ free_count items
  pub summed : total + free_total rest ≡ free_total items
  pub most : larger largest (largest_free rest) ≡ largest_free items

-- a list that begins with the free item at `free`, where its first item is at `at`; or an empty
-- one, and no free item
abbrev pub BeginsFree : ℕ → List Item → ℕ → Type 0
BeginsFree at [] free = free ≡ 0
BeginsFree at (Live t ∷ xs) free = ⊥
BeginsFree at (Free t ∷ xs) free = free ≡ at

-- A search for `n` bytes has passed a part of the items, the last free one of these at `from`, and
-- comes to that at `at`.
pub record IsSearched (start : ℕ) (items : List Item) (n from at probes : ℕ) : Type 0 where
  pub before : List Item
  pub rest : List Item
  pub split : items ≡ before ++ rest
  pub begins : BeginsFree (start + 16 + size_of before) rest at
  pub last : from ≡ last_free start (start + 16) before
  pub absent : first_fit n rest ≡ None → first_fit n items ≡ None
  pub found : (c : Claim) → first_fit n rest ≡ Some c
      → first_fit n items ≡ Some (record { offset = size_of before + c.offset; items = before ++ c.items })
  pub count : probes + looked_at n rest ≡ looked_at n items

-- the first free item with `n` bytes
pub record IsFit (start : ℕ) (items : List Item) (n from at total : ℕ) : Type 0 where
  pub before : List Item
  pub rest : List Item
  pub split : items ≡ before ++ Free total ∷ rest
  pub place : at ≡ start + 16 + size_of before
  pub last : from ≡ last_free start (start + 16) before
  pub fits : n ≤ total
  pub first : first_fit n items ≡ Some (record {
    offset = size_of before;
    items = before ++ Live n ∷ (left_free (total - n) ++ rest);
  })

-- the last free item, where one of `gap` bytes ends at `at`
abbrev pub last_link : ℕ → ℕ → ℕ → ℕ
last_link from at gap = if gap == 0 then from else at - gap

-- A walk to the block at `block` has passed some items and comes to `at`. Just before that is a
-- free item of `gap` bytes, if `gap` isn't 0; the last free one before is at `from`, and the next
-- at `free`.
pub record IsWalkedTo (start : ℕ) (items : List Item) (block : ℕ) (before rest : List Item)
    (from at free gap probes : ℕ) : Type 0 where
  pub split : items ≡ (before ++ left_free gap) ++ rest
  pub place : at ≡ start + 16 + size_of (before ++ left_free gap)
  pub last : from ≡ last_free start (start + 16) before
  pub next : free ≡ next_free at rest 0
  pub closed : AreSpaced before
  pub absent : items_after_release block at rest ≡ None → items_after_release block (start + 16) items ≡ None
  pub found : (ys : List Item) → items_after_release block at rest ≡ Some ys →
      items_after_release block (start + 16) items ≡ Some (before ++ items_with_gap gap ys)
  pub count : probes + begun_below block at rest ≡ begun_below block (start + 16) items

pub record IsWalked (start : ℕ) (items : List Item) (block from at free gap probes : ℕ) : Type 0 where
  pub before : List Item
  pub rest : List Item
  pub walk : IsWalkedTo start items block before rest from at free gap probes

-- A walk along the links to a block that is there: it has passed `probes` free items, and the items
-- between them unseen.
pub record IsLinked (start : ℕ) (items : List Item) (block from at free gap probes : ℕ) : Type 0 where
  pub passed : ℕ
  pub before : List Item
  pub rest : List Item
  pub walk : IsWalkedTo start items block before rest from at free gap passed
  pub live : is_some (live_total block at rest) ≡ true
  pub count : probes + free_below block at rest ≡ free_below block (start + 16) items

-- the walk's end is the block
pub record IsBlock (start : ℕ) (items : List Item) (block from at free gap : ℕ) : Type 0 where
  pub before : List Item
  pub total : ℕ
  pub rest : List Item
  pub split : items ≡ (before ++ left_free gap) ++ Live total ∷ rest
  pub place : at ≡ start + 16 + size_of (before ++ left_free gap)
  pub here : at + 4 ≡ block
  pub last : from ≡ last_free start (start + 16) before
  pub next : free ≡ next_free (at + total) rest 0
  pub closed : AreSpaced before
  pub given : items_after_release block (start + 16) items
      ≡ Some (before ++ items_with_gap gap (items_after_free total rest))

-- the items that the words from `at` on spell, up to the base, where the next free one is at `free`
abbrev pub rest_from : Bytes → ℕ → ℕ → ℕ → List Item
rest_from b at free base = items_from (base - at) (word_at b.at) at free base

-- memory spells them
pub record IsRestOfHeap (b : Bytes) (at free base : ℕ) : Type 0 where
  pub items : List Item
  pub next : free ≡ next_free at items 0
  pub spelled : Spells (word_at b.at) at items 0
  pub totals : AreTotals items
  pub end : at + size_of items ≡ base
  pub aligned : at % 4 ≡ 0
  pub above : 0 < at
  pub mapped : AreMapped b.mapped at (base - at)
