-- The word of the fields that were cut from a word is that word.
use Rattle.std.proofs.Common.{◌≡◌, ℕ, ◌^◌, ◌<◌, arith, ap, ◌∙◌}
use Rattle.std.specs.Int.{from_bool}
use Rattle.profile.specs.Word.{field, bit_of}
use Rattle.arm_decode.proofs.Codes.{condition_code-of, operation_code-of, shift_code-of, block_mode_code-of, is_up-direction_of, is_pre_indexed-indexing_of, has_w-indexing_of}
use Rattle.arm_decode.proofs.Flags.{field-lt, from_bool-bit_of}
use Rattle.arm_decode.proofs.Rows.{HasBits}
use Rattle.arm_decode.specs.Diagrams.{word_of_instruction}
use Rattle.arm_decode.specs.Fields.{condition_in, action_in}
use Rattle.arm_decode.specs.Names.{condition_code, operation_code, operation_of, shift_code, shift_of, block_mode_code, block_mode_of, direction_of, is_up, indexing_of, is_pre_indexed, has_w}
use Rattle.arm_decode.specs.declared.form.Form.{Form}
use Rattle.arm_decode.specs.declared.form.Form.TheVariants as form

-- what was cut out as a name or a flag is, as a number, the field that it was cut from
record ReadsBack (w : ℕ) : Type 0 where
  condition : condition_code (condition_in w) ≡ field w 28 4
  operation : operation_code (operation_of (field w 21 4)) ≡ field w 21 4
  shift : shift_code (shift_of (field w 5 2)) ≡ field w 5 2
  mode : block_mode_code (block_mode_of (field w 23 2)) ≡ field w 23 2
  pre : from_bool (is_pre_indexed (indexing_of (bit_of w 24) (bit_of w 21))) ≡ field w 24 1
  up : from_bool (is_up (direction_of (bit_of w 23))) ≡ field w 23 1
  writes_back : from_bool (has_w (indexing_of (bit_of w 24) (bit_of w 21))) ≡ field w 21 1
  bit_24 : from_bool (bit_of w 24) ≡ field w 24 1
  bit_22 : from_bool (bit_of w 22) ≡ field w 22 1
  bit_21 : from_bool (bit_of w 21) ≡ field w 21 1
  bit_20 : from_bool (bit_of w 20) ≡ field w 20 1

reads_back : (w : ℕ) → ReadsBack w
reads_back w = record {
  condition = condition_code-of (field w 28 4) (field-lt w 28 4);
  operation = operation_code-of (field w 21 4) (field-lt w 21 4);
  shift = shift_code-of (field w 5 2) (field-lt w 5 2);
  mode = block_mode_code-of (field w 23 2) (field-lt w 23 2);
  pre = ap from_bool (is_pre_indexed-indexing_of (bit_of w 24) (bit_of w 21)) ∙ from_bool-bit_of w 24;
  up = ap from_bool (is_up-direction_of (bit_of w 23)) ∙ from_bool-bit_of w 23;
  writes_back = ap from_bool (has_w-indexing_of (bit_of w 24) (bit_of w 21)) ∙ from_bool-bit_of w 21;
  bit_24 = from_bool-bit_of w 24;
  bit_22 = from_bool-bit_of w 22;
  bit_21 = from_bool-bit_of w 21;
  bit_20 = from_bool-bit_of w 20;
}

pub respelled : (f : Form) (w : ℕ) → w < 2 ^ 32 → HasBits f w → word_of_instruction (condition_in w, action_in f w) ≡ w
respelled form.Multiply w h b = let r = reads_back w in omega arith
respelled form.ShiftByNumber w h b = let r = reads_back w in omega arith
respelled form.ShiftByRegister w h b = let r = reads_back w in omega arith
respelled form.Immediate w h b = let r = reads_back w in omega arith
respelled form.OffsetByNumber w h b = let r = reads_back w in omega arith
respelled form.OffsetByRegister w h b = let r = reads_back w in omega arith
respelled form.BlockTransfer w h b = let r = reads_back w in omega arith
respelled form.Branch w h b = let r = reads_back w in omega arith
respelled form.SoftwareInterrupt w h b = let r = reads_back w in omega arith
