use Rattle.std.proofs.Common.{◌≡◌, ◌+◌, ◌*◌, ◌++◌, length, drop}
use Rattle.instances_table.specs.plans.Calls.{clear_actions}
use Rattle.instances_table.proofs.plans.calls.push_clear.Given as goal

abbrev pub invariant-loop-slot : goal.invariant-loop-slot
invariant-loop-slot l = record {
  pushed : l.actions.items ++ clear_actions (drop l.slot-index l.slots) ≡ l.fn.actions.items ++ clear_actions l.slots;
  count : length l.actions.items ≡ length l.fn.actions.items + 2 * l.slot-index;
}
