-- Fields and single bits as numbers.
use Rattle.std.proofs.Common.{◌≡◌, ℕ, ◌/◌, ◌^◌, ◌<◌, arith, true, false, Bool}
use Rattle.std.specs.Int.{from_bool}
use Rattle.std.proofs.lemmas.Bool.Decides.{nat_tests}
use Rattle.std.proofs.lemmas.Nat.{mod_below, pow_pos}
use Rattle.profile.specs.Word.{field, bit_of}

pub field-lt : (w low size : ℕ) → field w low size < 2 ^ size
field-lt w low size = mod_below (w / 2 ^ low) (2 ^ size) (pow_pos size)

pub from_bool-bit_of : (w place : ℕ) → from_bool (bit_of w place) ≡ field w place 1
from_bool-bit_of w place = grind (arith, nat_tests)

pub from_bool-lt : (b : Bool) → from_bool b < 2
from_bool-lt true = omega arith
from_bool-lt false = omega arith

pub bit_of-from_bool : (w place : ℕ) (b : Bool) → field w place 1 ≡ from_bool b → bit_of w place ≡ b
bit_of-from_bool w place true h = grind (arith, nat_tests)
bit_of-from_bool w place false h = grind (arith, nat_tests)
