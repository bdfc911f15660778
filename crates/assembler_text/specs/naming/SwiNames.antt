-- The names of store calls, for SWI (RISC OS 3 Programmer's Reference Manual, "SWI calls by
-- number"). With X before it a name means the call that answers an error with V set: bit 17 of its
-- number. Capitals and small letters differ.
use Rattle.std.specs.Prelude.{ℕ, Bool, false, ◌==◌, bit_or, List, [], ◌∷◌, Option, Some, None, find, option_map, bytes_eq, if◌then◌else◌}
use Rattle.arm_decode.specs.SwiNames.{swi_of, swi_name}
use Rattle.arm_decode.specs.SwiName.{SwiName}
use Rattle.assembler_text.specs.naming.Words.{◌or◌}

-- the number of each call; OS_WriteI's is the first of its 256
abbrev pub call_numbers : List ℕ
call_numbers =
    0x0 ∷ 0x1 ∷ 0x2 ∷ 0x3 ∷ 0x11 ∷ 0x16 ∷ 0x1D ∷ 0x1E ∷ 0x2A ∷ 0x2B ∷ 0x5C ∷ 0x66 ∷ 0x100
    ∷ 0xC0000 ∷ 0xC0001 ∷ 0xC0002 ∷ 0xC0003 ∷ 0xC0004 ∷ 0xC0005 ∷ []

abbrev pub is_called : List ℕ → Option SwiName → Bool
is_called name None = false
is_called name (Some call) = bytes_eq name (swi_name call)

abbrev pub names_call : List ℕ → ℕ → Bool
names_call name number = is_called name (swi_of number)

unfoldable pub call_named : List ℕ → Option ℕ
call_named name = find (names_call name) call_numbers

-- 88 is `X`
abbrev pub x_call_named : List ℕ → Option ℕ
x_call_named [] = None
x_call_named (c ∷ name) = if c == 88 then option_map (λ n. bit_or n 0x20000) (call_named name) else None

-- the number of a call by its name, with X before it or without
abbrev pub swi_named : List ℕ → Option ℕ
swi_named name = call_named name or x_call_named name
