use Rattle.std.proofs.Common.{◌≡◌, drop}
use Rattle.instances_table.specs.Table.{titled_slots}
use Rattle.instances_table.proofs.loaded.slots_of_title.Given as goal

-- no module so far is of the title
abbrev pub invariant-loop-loaded : goal.invariant-loop-loaded
invariant-loop-loaded l = titled_slots l.title (drop l.loaded-index l.modules) ≡ titled_slots l.title l.modules
