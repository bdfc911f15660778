use Rattle.std.proofs.Common.{◌≡◌, ◌≤◌, drop}
use Rattle.assembler.specs.Directives.{spare_size_of}
use Rattle.assembler.proofs.SizeLemmas.{digits_onto}
use Rattle.assembler.proofs.directives.size_of.Given as goal

-- the size so far and the digits that are left make the size
abbrev pub invariant-loop-digit : goal.invariant-loop-digit
invariant-loop-digit l = record {
  size : spare_size_of l.radix l.digits ≡ digits_onto l.radix l.size (drop l.digit-index l.digits);
  low : l.size ≤ 1048577;
}
