-- Numbers in an instruction: in hexadecimal after `&`, but shift amounts and rotations in decimal;
-- and the immediate operands of data processing (ARM2 data sheet, "Immediate operand rotates").
use Rattle.std.specs.Prelude.{ℕ, Bool, false, ◌-◌, ◌*◌, ◌==◌, nat_le, List, ◌++◌, codes, decimal, Option, Some, None, find, if◌then◌else◌}
use Rattle.std.specs.List.{range_with_len}
use Rattle.arm_decode.specs.Digits.{hex_number}
use Rattle.arm_decode.specs.Shifted.{rotated_right}

abbrev pub number_text : ℕ → List ℕ
number_text n = codes "&" ++ hex_number n

-- the word that a byte stands for under a rotation field: rotated right by twice the field
abbrev pub immediate_value : ℕ → ℕ → ℕ
immediate_value rotation byte = rotated_right byte (2 * rotation)

-- the byte that gives a value under a rotation field, if it is one: the value rotated back to the
-- left
abbrev pub rotated_back : ℕ → ℕ → ℕ
rotated_back value rotation = rotated_right value (32 - 2 * rotation)

abbrev pub gives : ℕ → ℕ → Bool
gives value rotation = nat_le (rotated_back value rotation) 255

-- the least rotation field that gives a value, if one does
unfoldable pub least_rotation : ℕ → Option ℕ
least_rotation value = find (gives value) (range_with_len 0 16)

abbrev pub is_field : Option ℕ → ℕ → Bool
is_field None rotation = false
is_field (Some least) rotation = least == rotation

-- `#v` where the field is the least that gives the value, else `#b,r` with r twice the field
abbrev pub immediate_text : ℕ → ℕ → List ℕ
immediate_text rotation byte =
    if is_field (least_rotation (immediate_value rotation byte)) rotation
    then codes "#" ++ number_text (immediate_value rotation byte)
    else codes "#" ++ (number_text byte ++ (codes "," ++ decimal (2 * rotation)))
