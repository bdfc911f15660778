use Rattle.std.proofs.Common.{◌≡◌, ◌<◌, ◌^◌, drop}
use Rattle.command_shell_lines.specs.Numbers.{digits_number}
use Rattle.command_shell_lines.proofs.NumberLemmas.{digits_onto}
use Rattle.command_shell_lines.proofs.numbers.number_in.Given as goal

-- the number so far and the digits that are left make the number
abbrev pub invariant-loop-digit : goal.invariant-loop-digit
invariant-loop-digit l = record {
  number : digits_number l.radix l.digits ≡ digits_onto l.radix l.value (drop l.digit-index l.digits);
  low : l.value < 2 ^ 32;
}
