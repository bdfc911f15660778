use Rattle.std.proofs.Common.{◌≡◌, length, take}
use Rattle.instances_table.proofs.copies.copied_names.Given as goal

abbrev pub invariant-loop-slot : goal.invariant-loop-slot
invariant-loop-slot l = record {
  copied : take l.slot l.copies ≡ take l.slot l.names;
  count : length l.copies ≡ 64;
}
