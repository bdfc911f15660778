use Rattle.std.proofs.Common.{◌≡◌, ◌+◌, ◌++◌, length, drop}
use Rattle.instances_table.specs.plans.Calls.{finalise_all}
use Rattle.instances_table.proofs.plans.calls.push_finalise_all.Given as goal

abbrev pub invariant-loop-slot : goal.invariant-loop-slot
invariant-loop-slot l = record {
  pushed : l.actions.items ++ finalise_all (drop l.slot-index l.slots) ≡ l.fn.actions.items ++ finalise_all l.slots;
  count : length l.actions.items ≡ length l.fn.actions.items + l.slot-index;
}
