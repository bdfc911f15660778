use Rattle.std.proofs.Common.{◌≡◌, ◌++◌, take}
use Rattle.std.specs.Prelude.{map}
use Rattle.gdb_machine.specs.BackEnds.{byte_goal}
use Rattle.gdb_machine.specs.declared.back_ends.BackGoal.TheVariants as goal
use Rattle.gdb_machine.proofs.back_ends.all_goals.Given as given

abbrev pub invariant-loop-byte : given.invariant-loop-byte
invariant-loop-byte l = l.goals.items ≡ map byte_goal (take l.byte-index l.seen)

abbrev pub invariant-loop-address : given.invariant-loop-address
invariant-loop-address l = l.goals.items ≡ map byte_goal l.seen ++ map goal.Break (take l.address-index l.breaks)
