-- The registers of a list, as LDM and STM have one: 16 bits, of which bit n stands for Rn (ARM2 data sheet, "Block data transfer").
use Rattle.std.specs.Prelude.{ℕ, zero, suc, ◌++◌, if◌then◌else◌, List, [], ◌∷◌}
use Rattle.arm_decode.specs.Word.{bit_of}

-- The registers of a list below a number, lowest first; all of them.
unfoldable pub listed_below : ℕ → ℕ → List ℕ
listed_below zero list = []
listed_below (suc n) list = listed_below n list ++ (if bit_of list n then n ∷ [] else [])

unfoldable pub registers_of_list : ℕ → List ℕ
registers_of_list list = listed_below 16 list
