-- What the test of a range says of a number within it, before it, and behind it.
use Rattle.std.proofs.Common.{◌≡◌, ℕ, ◌+◌, ◌<◌, ◌≤◌, true, false, arith}
use Rattle.std.proofs.lemmas.Bool.Decides.{nat_tests}
use Rattle.address_map.specs.Bytes.{in_range}

pub range_inside : (at len a : ℕ) → at ≤ a → a < at + len → in_range at len a ≡ true
range_inside at len a low high = grind (arith, nat_tests)

pub range_before : (at len a : ℕ) → a < at → in_range at len a ≡ false
range_before at len a low = grind (arith, nat_tests)

pub range_past : (at len a : ℕ) → at + len ≤ a → in_range at len a ≡ false
range_past at len a high = grind (arith, nat_tests)
