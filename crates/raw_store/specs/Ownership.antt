-- What the owner of a block of bytes owns and lends. b and o are the block's object and the offset
-- in it.
use Rattle.std.specs.Prelude.{ℕ, ◌+◌, ◌^◌, List, [], ◌∷◌, length}
use base.Fraction.{full_share}
use base.Fml.{Lft, Fml, ftrue, ffalse, fsep, flt, froom}
use mir.Syntax.{Ty, ty_int, ty_array, w8}
use denote.Builtin.{u8}
use denote.Memory.{part_at}
use denote.RawPtr.{Ptr, block_ptr, null_ptr}
use denote.Sharing.{said, beside}
use denote.Slice.{elements_shared}

-- n bytes, as the type that a block of them is allocated for
abbrev pub bytes_type : ℕ → Ty
bytes_type n = ty_array (ty_int w8) n

-- the bytes `items`, side by side
abbrev pub owns_bytes_at : ℕ → ℕ → List ℕ → Fml
owns_bytes_at b o [] = ftrue
owns_bytes_at b o (x ∷ xs) = fsep (part_at u8 full_share x b o) (owns_bytes_at b (o + 1) xs)

-- they take fewer than 2 ^ 63 bytes, with the `spare` bytes after them
abbrev pub fit : List ℕ → ℕ → Fml
fit items spare = flt (length items + spare) (2 ^ 63)

-- the bytes `items` from the pointer on, and after them room for `spare` more, which nothing was
-- written to
abbrev pub block_owns : Ptr → List ℕ → ℕ → Fml
block_owns (block_ptr b o) items spare = fsep (fit items spare)
    (fsep (owns_bytes_at b o items) (froom (bytes_type spare) b (length items + o)))
block_owns null_ptr items spare = ffalse

-- what the holder of a `&` to the owner may read
abbrev pub block_lent : Ptr → List ℕ → ℕ → Lft → Fml
block_lent (block_ptr b o) items spare = beside (said (fit items spare)) (elements_shared u8 items b o)
block_lent null_ptr items spare = said ffalse

-- the right to give a block of n bytes back
abbrev pub right_owns : (Ty → Ptr → Fml) → Ptr → ℕ → Fml
right_owns token p n = token (bytes_type n) p
