-- Which bits a word of each form has, and that it has that form where it has those bits.
use Rattle.std.proofs.Common.{◌≡◌, ℕ, Ok, arith}
use Rattle.std.proofs.lemmas.Bool.Decides.{nat_tests}
use Rattle.profile.specs.Word.{field}
use Rattle.arm_decode.proofs.Masks.{masks}
use Rattle.arm_decode.specs.Table.{form_of, rows_met}
use Rattle.arm_decode.specs.declared.form.Form.{Form}
use Rattle.arm_decode.specs.declared.form.Form.TheVariants as form

abbrev pub HasBits : Form → ℕ → Type 0
HasBits form.Multiply w = (field w 22 6 ≡ 0) × (field w 4 4 ≡ 9)
HasBits form.ShiftByNumber w = (field w 25 3 ≡ 0) × (field w 4 1 ≡ 0)
HasBits form.ShiftByRegister w = (field w 25 3 ≡ 0) × (field w 7 1 ≡ 0) × (field w 4 1 ≡ 1)
HasBits form.Immediate w = field w 25 3 ≡ 1
HasBits form.OffsetByNumber w = field w 25 3 ≡ 2
HasBits form.OffsetByRegister w = (field w 25 3 ≡ 3) × (field w 4 1 ≡ 0)
HasBits form.BlockTransfer w = field w 25 3 ≡ 4
HasBits form.Branch w = field w 25 3 ≡ 5
HasBits form.SoftwareInterrupt w = field w 24 4 ≡ 15

pub form-has_bits : (f : Form) (w : ℕ) → form_of w ≡ Ok f → HasBits f w
form-has_bits form.Multiply w h = grind (arith, masks, nat_tests)
form-has_bits form.ShiftByNumber w h = grind (arith, masks, nat_tests)
form-has_bits form.ShiftByRegister w h = grind (arith, masks, nat_tests)
form-has_bits form.Immediate w h = grind (arith, masks, nat_tests)
form-has_bits form.OffsetByNumber w h = grind (arith, masks, nat_tests)
form-has_bits form.OffsetByRegister w h = grind (arith, masks, nat_tests)
form-has_bits form.BlockTransfer w h = grind (arith, masks, nat_tests)
form-has_bits form.Branch w h = grind (arith, masks, nat_tests)
form-has_bits form.SoftwareInterrupt w h = grind (arith, masks, nat_tests)

pub one_row : (w : ℕ) → rows_met w ≡ 1
one_row w = grind (arith, masks, nat_tests)

pub form-from_bits : (f : Form) (w : ℕ) → HasBits f w → form_of w ≡ Ok f
form-from_bits form.Multiply w h = grind (arith, masks, nat_tests)
form-from_bits form.ShiftByNumber w h = grind (arith, masks, nat_tests)
form-from_bits form.ShiftByRegister w h = grind (arith, masks, nat_tests)
form-from_bits form.Immediate w h = grind (arith, masks, nat_tests)
form-from_bits form.OffsetByNumber w h = grind (arith, masks, nat_tests)
form-from_bits form.OffsetByRegister w h = grind (arith, masks, nat_tests)
form-from_bits form.BlockTransfer w h = grind (arith, masks, nat_tests)
form-from_bits form.Branch w h = grind (arith, masks, nat_tests)
form-from_bits form.SoftwareInterrupt w h = grind (arith, masks, nat_tests)
