-- A `&` to the bytes of a block is made where one to the owner is. Assumes `Logic`.
use Rattle.std.proofs.Common.{ℕ, ◌+◌, List, [], ◌∷◌, length}
use seplogic.Ra.Ura.{Ura}
use mir.Syntax.{w8}
use base.Fraction.{full_share}
use base.Fml.{Lft, ftrue, ffalse, fsep, froom}
use contract.BorrowLft.{⊑_static}
use types.Logic.{Logic}
use denote.Builtin.{u8}
use denote.Copied.{uint_Copied}
use denote.Memory.{part_at, shared_of}
use denote.Plain.{uint_row_laws}
use denote.RawPtr.{Ptr, block_ptr, null_ptr}
use denote.Sharing.{ShrLaws, said}
use denote.SharingLaws.{beside_shr_laws, said_shr_laws}
use denote.Slice.{elements_shared, elements_shr_laws}
use denote.Struct.Lending.{Lends, Lends-both, Lends-first, Lends-nothing, Lends-said, Lends-false}
use Rattle.raw_store.specs.Ownership.{bytes_type, owns_bytes_at, fit, block_owns, block_lent}

pub block_lent_laws : (p : Ptr) (items : List ℕ) (spare : ℕ) → ShrLaws (block_lent p items spare)
block_lent_laws (block_ptr b o) items spare = beside_shr_laws _ _ (said_shr_laws (fit items spare) tt) (elements_shr_laws u8 (uint_row_laws w8) items b o)
block_lent_laws null_ptr items spare = said_shr_laws ffalse tt

module _ {M : Type 1} {𝓤 : Ura M} (𝓛 : Logic 𝓤) (l : Lft) where
  Lends-byte : (b o x : ℕ) → Lends 𝓛 (part_at u8 full_share x b o) (shared_of u8 x b o) l
  Lends-byte b o x = λ κ ts inc sp. (uint_Copied 𝓛 w8).shares full_share [] x κ ts b o (⊑_static _) sp

  Lends-bytes : (b o : ℕ) (items : List ℕ) → Lends 𝓛 (owns_bytes_at b o items) (elements_shared u8 items b o) l
  Lends-bytes b o [] = Lends-nothing 𝓛 ftrue l
  Lends-bytes b o (x ∷ xs) =
      Lends-both 𝓛 (part_at u8 full_share x b o) (owns_bytes_at b (o + 1) xs) (shared_of u8 x b o) (elements_shared u8 xs b (o + 1)) l (Lends-byte b o x) (Lends-bytes b (o + 1) xs)

  pub Lends-block : (p : Ptr) (items : List ℕ) (spare : ℕ) → Lends 𝓛 (block_owns p items spare) (block_lent p items spare) l
  Lends-block (block_ptr b o) items spare =
      let room = froom (bytes_type spare) b (length items + o) in let lent = elements_shared u8 items b o in
      Lends-both 𝓛 (fit items spare) (fsep (owns_bytes_at b o items) room) (said (fit items spare)) lent l (Lends-said 𝓛 (fit items spare) tt l)
      (Lends-first 𝓛 (owns_bytes_at b o items) room lent l (Lends-bytes b o items))
  Lends-block null_ptr items spare = Lends-false 𝓛 (said ffalse) l
