use Rattle.std.proofs.Common.{◌≡◌, drop}
use Rattle.gdb_packets.specs.Numbers.{number_onto}
use Rattle.gdb_packets.proofs.numbers.number_of.Given as goal

-- the number so far and the digits that are left make the number
abbrev pub invariant-loop-digit : goal.invariant-loop-digit
invariant-loop-digit l = number_onto 0 l.text ≡ number_onto l.value (drop l.digit-index l.text)
