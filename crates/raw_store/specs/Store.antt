-- What holds of the fields of a store.
use Rattle.std.specs.Prelude.{◌≡◌, ℕ, ◌+◌, length}
use Rattle.raw_store.specs.declared.block.Base.{Base}
use Rattle.raw_store.specs.declared.block.Bytes.{Bytes}
use Rattle.raw_store.specs.declared.block.Deed.{Deed}

-- the owner and the deed are those of the block of `room` bytes at `base`, of which the first `len`
-- were written
abbrev pub IsStore : Base → ℕ → Bytes → Deed → ℕ → Type 0
IsStore base len bytes deed room =
    (base.ptr ≡ bytes.at) × (length bytes.items ≡ len) × (length bytes.items + bytes.spare ≡ room) ×
    (deed.right.at ≡ base.ptr) × (deed.right.len ≡ room)
