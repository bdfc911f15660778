use Rattle.std.proofs.Common.{◌≡◌, ◌++◌, length, drop}
use Rattle.instances_table.proofs.copies.copied_modules.Given as goal

abbrev pub invariant-loop-loaded : goal.invariant-loop-loaded
invariant-loop-loaded l = record {
  copied : l.copies.items ++ drop l.loaded-index l.modules ≡ l.modules;
  count : length l.copies.items ≡ l.loaded-index;
}
