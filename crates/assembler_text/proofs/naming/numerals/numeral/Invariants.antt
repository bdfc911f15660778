use Rattle.std.proofs.Common.{◌≡◌, ◌<◌, ◌^◌, drop}
use Rattle.assembler_text.specs.naming.Expressions.{numeral}
use Rattle.assembler_text.proofs.NamingLemmas.Digits.{digits_onto}
use Rattle.assembler_text.proofs.naming.numerals.numeral.Given as goal

-- the number so far and the digits that are left make the number
abbrev pub invariant-loop-digit : goal.invariant-loop-digit
invariant-loop-digit l = record {
  number : numeral l.radix l.digits ≡ digits_onto l.radix l.value (drop l.digit-index l.digits);
  low : l.value < 2 ^ 32;
}
