-- What a change of one block leaves.
use Rattle.std.specs.Prelude.{ℕ, ◌≡◌, ◌≤◌, ◌<◌, ◌+◌, Bool, true, false, List, ◌++◌, Some}
use Rattle.os_heap.specs.Memory.{byte_at, layout}
use Rattle.os_heap.specs.AddressMap.{AddressMap}
use Rattle.flex_store.specs.declared.flex.Extent.{Extent}
use Rattle.flex_store.specs.Blocks.{Block, bytes_taken_by_all}
use Rattle.flex_store.specs.Memory.{laid_out, standing}
use Rattle.flex_store.specs.State.{blocks_of, IsStoreAt, KeepsHeads, HasNoHead}

-- the store has other blocks after some that it had
pub record GotBlocks (m : AddressMap) (e : Extent) (olds news : List Block) (n : AddressMap)
    (f : Extent) : Type 0 where
  pub bytes : (a : ℕ) → byte_at n a ≡ laid_out (e.start + bytes_taken_by_all olds) news (byte_at m) a
  pub blocks_are : blocks_of n f ≡ standing (byte_at n) e.start (olds ++ news)
  pub start : f.start ≡ e.start
  pub end : f.end ≡ e.end
  pub store : IsStoreAt n f
  pub same : layout n ≡ layout m
  pub heads : HasNoHead m (Some e) → KeepsHeads m n

-- it got them where they fit, and else nothing was changed
abbrev pub Fits : AddressMap → Extent → List Block → List Block → Bool → AddressMap → Extent → Type 0
Fits m e olds news true n f = (e.start + bytes_taken_by_all (olds ++ news) ≤ e.end) ×
    GotBlocks m e olds news n f
Fits m e olds news false n f = (e.end < e.start + bytes_taken_by_all (olds ++ news)) × ((n ≡ m) × (f ≡ e))
