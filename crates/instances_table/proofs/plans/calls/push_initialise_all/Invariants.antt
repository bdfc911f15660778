use Rattle.std.proofs.Common.{◌≡◌, ◌+◌, ◌++◌, length, drop}
use Rattle.instances_table.specs.plans.Calls.{initialise_all}
use Rattle.instances_table.proofs.plans.calls.push_initialise_all.Given as goal

abbrev pub invariant-loop-slot : goal.invariant-loop-slot
invariant-loop-slot l = record {
  pushed : l.actions.items ++ initialise_all (drop l.slot-index l.slots) ≡ l.fn.actions.items ++ initialise_all l.slots;
  count : length l.actions.items ≡ length l.fn.actions.items + l.slot-index;
}
