use Rattle.std.proofs.Common.{◌≡◌, length, take}
use Rattle.debug_tables.proofs.stubs.Stubs.copied.Given as goal

-- the stubs that were passed
abbrev pub invariant-loop-stub : goal.invariant-loop-stub
invariant-loop-stub l = record {
  stubs : l.table.items ≡ take l.stub-index l.self;
  few : length l.table.items ≡ l.stub-index;
}
